-- What is pushed, one after the other.
use Rattle.std.proofs.Common.{◌≡◌, ℕ, ◌+◌, ◌<◌, ◌≤◌, List, [], ◌∷◌, ◌++◌, length, get_or, drop, refl, sym, ◌∙◌, ap, append_assoc, append-nil}
use Rattle.std.proofs.lemmas.List.{drop_more, drop_all, map-append}
use Rattle.c_tree.specs.declared.stmt.Stmt as declared
use Rattle.c_tree.specs.Lined as tree
use Rattle.c_tree.specs.Lined.{Stmt, Stmts, stmt_of, stmts_of}
use Rattle.flow_graph.specs.Shapes.{Shape, shapes, shapes_all, first_shape, other_shapes}
use Rattle.flow_graph.specs.declared.shapes.Shape as declared_shape
use Rattle.flow_graph.specs.Shown.{shown_shape, shown_shapes, list_shapes}

mutual
  shape_append : (s : Stmt) (more rest : List Shape) → shapes s (more ++ rest) ≡ shapes s more ++ rest
  shape_append (tree.Call line target name args) more rest = refl
  shape_append (tree.If line test a b) more rest =
      ap (λ xs. Shape.Branch line ∷ xs) (ap (λ xs. shapes_all a (Shape.Else ∷ xs)) (shapes_append b (Shape.ArmsEnd ∷ more) rest) ∙ shapes_append a (Shape.Else ∷ shapes_all b (Shape.ArmsEnd ∷ more)) rest)
  shape_append (tree.While line test body) more rest = ap (λ xs. Shape.Loop line ∷ xs) (shapes_append body (Shape.LoopEnd ∷ more) rest)
  shape_append (tree.For line first_part test step body) more rest =
      ap (λ xs. Shape.Step line ∷ Shape.Loop line ∷ xs) (ap (shapes_all body) (shapes_append step (Shape.LoopEnd ∷ more) rest) ∙ shapes_append body (shapes_all step (Shape.LoopEnd ∷ more)) rest)
  shape_append (tree.Return line value) more rest = refl
  shape_append (tree.Join line slot) more rest = refl
  shape_append (tree.Lock line place) more rest = refl
  shape_append (tree.TryLock line place a b) more rest =
      ap (λ xs. Shape.Try line ∷ xs) (ap (λ xs. shapes_all a (Shape.Else ∷ xs)) (shapes_append b (Shape.ArmsEnd ∷ more) rest) ∙ shapes_append a (Shape.Else ∷ shapes_all b (Shape.ArmsEnd ∷ more)) rest)
  shape_append (tree.Unlock line place) more rest = refl
  shape_append (tree.Wait line cond mutex takes) more rest = refl
  shape_append (tree.Take line monitor) more rest = refl
  shape_append (tree.Give line monitor) more rest = refl
  shape_append s more rest = refl

  pub shapes_append : (ss : Stmts) (more rest : List Shape) → shapes_all ss (more ++ rest) ≡ shapes_all ss more ++ rest
  shapes_append tree.Nil more rest = refl
  shapes_append (tree.Cons s ss) more rest = ap (shapes s) (shapes_append ss more rest) ∙ shape_append s (shapes_all ss more) rest

-- one shape
pub pushed : (old new : List declared_shape.Shape) (x : declared_shape.Shape) → new ≡ old ++ x ∷ [] → shown_shapes new ≡ shown_shapes old ++ shown_shape x ∷ []
pushed old new x e = ap shown_shapes e ∙ map-append shown_shape old (x ∷ [])

two : (o x y a b : List Shape) → x ≡ o ++ a → y ≡ x ++ b → y ≡ o ++ (a ++ b)
two o x y a b first second = second ∙ ap (λ w. w ++ b) first ∙ append_assoc o a b

-- a list and one shape behind it
closed : (o x y : List Shape) (ss : Stmts) (end : Shape) → x ≡ o ++ list_shapes ss → y ≡ x ++ end ∷ [] → y ≡ o ++ shapes_all ss (end ∷ [])
closed o x y ss end first second = two o x y (list_shapes ss) (end ∷ []) first second ∙ ap (λ xs. o ++ xs) (sym (shapes_append ss [] (end ∷ [])))

-- what two arms push
pub arms_pushed : (o w x y z : List Shape) (a b : Stmts) → w ≡ o ++ list_shapes a → x ≡ w ++ Shape.Else ∷ [] → y ≡ x ++ list_shapes b → z ≡ y ++ Shape.ArmsEnd ∷ []
    → z ≡ o ++ shapes_all a (Shape.Else ∷ shapes_all b (Shape.ArmsEnd ∷ []))
arms_pushed o w x y z a b e1 e2 e3 e4 =
    two o x z (shapes_all a (Shape.Else ∷ [])) (shapes_all b (Shape.ArmsEnd ∷ [])) (closed o w x a Shape.Else e1 e2) (closed x y z b Shape.ArmsEnd e3 e4)
    ∙ ap (λ xs. o ++ xs) (sym (shapes_append a (Shape.Else ∷ []) (shapes_all b (Shape.ArmsEnd ∷ []))))

-- what a body pushes
pub body_pushed : (o w x : List Shape) (body : Stmts) → w ≡ o ++ list_shapes body → x ≡ w ++ Shape.LoopEnd ∷ [] → x ≡ o ++ shapes_all body (Shape.LoopEnd ∷ [])
body_pushed o w x body e1 e2 = closed o w x body Shape.LoopEnd e1 e2

pub for_pushed : (o v w x y : List Shape) (next : Shape) (body step : Stmts) → v ≡ o ++ next ∷ [] → w ≡ v ++ list_shapes body → x ≡ w ++ list_shapes step → y ≡ x ++ Shape.LoopEnd ∷ []
    → y ≡ o ++ next ∷ shapes_all body (shapes_all step (Shape.LoopEnd ∷ []))
for_pushed o v w x y next body step e1 e2 e3 e4 =
    two o v y (next ∷ []) (list_shapes body ++ shapes_all step (Shape.LoopEnd ∷ [])) e1
    (two v w y (list_shapes body) (shapes_all step (Shape.LoopEnd ∷ [])) e2 (closed w x y step Shape.LoopEnd e3 e4))
    ∙ ap (λ xs. o ++ next ∷ xs) (sym (shapes_append body [] (shapes_all step (Shape.LoopEnd ∷ []))))

-- a statement
in_two : (s : Stmt) → shapes s [] ≡ first_shape s ∷ other_shapes s
in_two (tree.Call line target name args) = refl
in_two (tree.If line test a b) = refl
in_two (tree.While line test body) = refl
in_two (tree.For line first_part test step body) = refl
in_two (tree.Return line value) = refl
in_two (tree.Join line slot) = refl
in_two (tree.Lock line place) = refl
in_two (tree.TryLock line place a b) = refl
in_two (tree.Unlock line place) = refl
in_two (tree.Wait line cond mutex takes) = refl
in_two (tree.Take line monitor) = refl
in_two (tree.Give line monitor) = refl
in_two s = refl

pub all_pushed : (o v w : List Shape) (x : Shape) (s : Stmt) → v ≡ o ++ x ∷ [] → x ≡ first_shape s → w ≡ v ++ other_shapes s → w ≡ o ++ shapes s []
all_pushed o v w x s e1 is e2 =
    two o v w (x ∷ []) (other_shapes s) e1 e2 ∙ ap (λ y. o ++ y ∷ other_shapes s) is ∙ ap (λ xs. o ++ xs) (sym (in_two s))

-- ---- a list of statements

abbrev pub left_shapes : List declared.Stmt → List Shape
left_shapes ss = list_shapes (stmts_of ss)

left_more : (s : declared.Stmt) (ss : List declared.Stmt) → left_shapes (s ∷ ss) ≡ shapes (stmt_of s) [] ++ left_shapes ss
left_more s ss = shape_append (stmt_of s) [] (left_shapes ss)

pub turn : (ss : List declared.Stmt) (i : ℕ) (s : declared.Stmt) (old now next : List Shape) → i < length ss → s ≡ get_or ss i s → next ≡ now ++ shapes (stmt_of s) []
    → now ++ left_shapes (drop i ss) ≡ old → next ++ left_shapes (drop (i + 1) ss) ≡ old
turn ss i s old now next within is e h =
    let here : drop i ss ≡ s ∷ drop (i + 1) ss = drop_more ss i s within ∙ ap (λ y. y ∷ drop (i + 1) ss) (sym is) in
    ap (λ y. y ++ left_shapes (drop (i + 1) ss)) e ∙ append_assoc now (shapes (stmt_of s) []) (left_shapes (drop (i + 1) ss))
    ∙ ap (λ y. now ++ y) (sym (ap left_shapes here ∙ left_more s (drop (i + 1) ss))) ∙ h

pub ended : (ss : List declared.Stmt) (i : ℕ) (old now : List Shape) → length ss ≤ i → now ++ left_shapes (drop i ss) ≡ old → now ≡ old
ended ss i old now all h = sym (ap (λ y. now ++ y) (ap left_shapes (drop_all i ss all)) ∙ append-nil now) ∙ h
