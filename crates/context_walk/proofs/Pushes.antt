-- What is pushed, one after the other.
use Rattle.std.proofs.Common.{◌≡◌, ℕ, ◌+◌, ◌<◌, ◌≤◌, List, [], ◌∷◌, ◌++◌, length, get_or, drop, refl, sym, ◌∙◌, ap, append_assoc, append-nil}
use Rattle.std.proofs.lemmas.List.{drop_more, drop_all, map-append}
use Rattle.c_tree.specs.declared.stmt.Stmt as declared
use Rattle.c_tree.specs.Lined.{Stmt, Stmts, Nil, Cons, Declare, Call, If, While, For, Lock, TryLock, Unlock, Wait, Take, Give, stmt_of, stmts_of}
use Rattle.context_items.specs.Items.{Item, Opens, Closes, items, items_all, Locks}
use Rattle.context_walk.specs.declared.items.Item as declared_item
use Rattle.context_walk.specs.Shown.{shown_item, shown_items, list_items, block_items}

mutual
  pub item_append : (s : Stmt) (more rest : List Item) → items s (more ++ rest) ≡ items s more ++ rest
  item_append (Declare line name value) more rest = refl
  item_append (Call line target name args) more rest = refl
  item_append (If line test a b) more rest =
      ap (λ is. Opens ∷ is) (ap (λ is. items_all a (Closes ∷ Opens ∷ is)) (items_append b (Closes ∷ more) rest) ∙ items_append a (Closes ∷ Opens ∷ items_all b (Closes ∷ more)) rest)
  item_append (While line test body) more rest = ap (λ is. Opens ∷ is) (items_append body (Closes ∷ more) rest)
  item_append (For line first_part test step body) more rest =
      ap (λ is. Opens ∷ is) (ap (λ is. items_all first_part (items_all body is)) (items_append step (Closes ∷ more) rest)
      ∙ ap (items_all first_part) (items_append body (items_all step (Closes ∷ more)) rest) ∙ items_append first_part (items_all body (items_all step (Closes ∷ more))) rest)
  item_append (Lock line place) more rest = refl
  item_append (TryLock line place a b) more rest =
      ap (λ is. Locks line place ∷ Opens ∷ is) (ap (λ is. items_all a (Closes ∷ Opens ∷ is)) (items_append b (Closes ∷ more) rest) ∙ items_append a (Closes ∷ Opens ∷ items_all b (Closes ∷ more)) rest)
  item_append (Unlock line place) more rest = refl
  item_append (Wait line cond mutex takes) more rest = refl
  item_append (Take line monitor) more rest = refl
  item_append (Give line monitor) more rest = refl
  item_append s more rest = refl

  pub items_append : (ss : Stmts) (more rest : List Item) → items_all ss (more ++ rest) ≡ items_all ss more ++ rest
  items_append Nil more rest = refl
  items_append (Cons s ss) more rest = ap (items s) (items_append ss more rest) ∙ item_append s (items_all ss more) rest

-- one item
pub pushed : (old new : List declared_item.Item) (i : declared_item.Item) → new ≡ old ++ i ∷ [] → shown_items new ≡ shown_items old ++ shown_item i ∷ []
pushed old new i e = ap shown_items e ∙ map-append shown_item old (i ∷ [])

pub two : (o x y a b : List Item) → x ≡ o ++ a → y ≡ x ++ b → y ≡ o ++ (a ++ b)
two o x y a b first second = second ∙ ap (λ w. w ++ b) first ∙ append_assoc o a b

pub block_pushed : (o x y z : List Item) (ss : Stmts) → x ≡ o ++ Opens ∷ [] → y ≡ x ++ list_items ss → z ≡ y ++ Closes ∷ [] → z ≡ o ++ block_items ss
block_pushed o x y z ss first second third =
    two o y z (Opens ∷ list_items ss) (Closes ∷ []) (two o x y (Opens ∷ []) (list_items ss) first second) third
    ∙ ap (λ is. o ++ Opens ∷ is) (sym (items_append ss [] (Closes ∷ [])))

pub arms_pushed : (o x y : List Item) (a b : Stmts) → x ≡ o ++ block_items a → y ≡ x ++ block_items b
    → y ≡ o ++ Opens ∷ items_all a (Closes ∷ Opens ∷ items_all b (Closes ∷ []))
arms_pushed o x y a b first second =
    two o x y (block_items a) (block_items b) first second ∙ ap (λ is. o ++ Opens ∷ is) (sym (items_append a (Closes ∷ []) (block_items b)))

pub tried_pushed : (o w x y : List Item) (i : Item) (a b : Stmts) → w ≡ o ++ i ∷ [] → x ≡ w ++ block_items a → y ≡ x ++ block_items b
    → y ≡ o ++ i ∷ Opens ∷ items_all a (Closes ∷ Opens ∷ items_all b (Closes ∷ []))
tried_pushed o w x y i a b first second third =
    arms_pushed w x y a b second third ∙ ap (λ is. is ++ Opens ∷ items_all a (Closes ∷ Opens ∷ items_all b (Closes ∷ []))) first
    ∙ append_assoc o (i ∷ []) (Opens ∷ items_all a (Closes ∷ Opens ∷ items_all b (Closes ∷ [])))

pub loop_pushed : (o v w x y z : List Item) (f b s : Stmts) → v ≡ o ++ Opens ∷ [] → w ≡ v ++ list_items f → x ≡ w ++ list_items b → y ≡ x ++ list_items s → z ≡ y ++ Closes ∷ []
    → z ≡ o ++ Opens ∷ items_all f (items_all b (items_all s (Closes ∷ [])))
loop_pushed o v w x y z f b s e1 e2 e3 e4 e5 =
    two o y z (Opens ∷ ((list_items f ++ list_items b) ++ list_items s)) (Closes ∷ [])
    (two o x y (Opens ∷ (list_items f ++ list_items b)) (list_items s) (two o w x (Opens ∷ list_items f) (list_items b) (two o v w (Opens ∷ []) (list_items f) e1 e2) e3) e4) e5
    ∙ ap (λ is. o ++ Opens ∷ is) (
    append_assoc (list_items f ++ list_items b) (list_items s) (Closes ∷ [])
    ∙ ap (λ is. (list_items f ++ list_items b) ++ is) (sym (items_append s [] (Closes ∷ [])))
    ∙ append_assoc (list_items f) (list_items b) (items_all s (Closes ∷ []))
    ∙ ap (λ is. list_items f ++ is) (sym (items_append b [] (items_all s (Closes ∷ []))))
    ∙ sym (items_append f [] (items_all b (items_all s (Closes ∷ [])))))

-- ---- a list of statements

abbrev pub left_items : List declared.Stmt → List Item
left_items ss = list_items (stmts_of ss)

left_more : (s : declared.Stmt) (ss : List declared.Stmt) → left_items (s ∷ ss) ≡ items (stmt_of s) [] ++ left_items ss
left_more s ss = item_append (stmt_of s) [] (left_items ss)

pub turn : (ss : List declared.Stmt) (i : ℕ) (s : declared.Stmt) (old now next : List Item) → i < length ss → s ≡ get_or ss i s → next ≡ now ++ items (stmt_of s) []
    → now ++ left_items (drop i ss) ≡ old → next ++ left_items (drop (i + 1) ss) ≡ old
turn ss i s old now next within is e h =
    let here : drop i ss ≡ s ∷ drop (i + 1) ss = drop_more ss i s within ∙ ap (λ y. y ∷ drop (i + 1) ss) (sym is) in
    ap (λ y. y ++ left_items (drop (i + 1) ss)) e ∙ append_assoc now (items (stmt_of s) []) (left_items (drop (i + 1) ss))
    ∙ ap (λ y. now ++ y) (sym (ap left_items here ∙ left_more s (drop (i + 1) ss))) ∙ h

pub ended : (ss : List declared.Stmt) (i : ℕ) (old now : List Item) → length ss ≤ i → now ++ left_items (drop i ss) ≡ old → now ≡ old
ended ss i old now all h = sym (ap (λ y. now ++ y) (ap left_items (drop_all i ss all)) ∙ append-nil now) ∙ h
