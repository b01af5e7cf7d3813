-- The marks of a program, along items and through statements.
use Rattle.std.specs.Prelude.{◌≡◌, ℕ, ℤ, nat_lt, Bool, true, false, ◌||◌, if◌then◌else◌, List, [], ◌∷◌, ◌++◌, length, bytes_eq, None}
use Rattle.std.specs.declared.option.Option.{Option}
use Rattle.std.specs.List.{enumerate_from}
use Rattle.std.proofs.Common.{refl, ap, sym, ◌∙◌, inl, inr}
use Rattle.c_tree.specs.Bare as bare
use Rattle.c_tree.specs.Lined.{Stmt, Stmts, Nil, Cons, Function, Program, Call, If, While, For, Lock, TryLock, Unlock, Wait, Take, Give, bare_program}
use Rattle.c_rules.proofs.Members.{In, contains_of}
use Rattle.outlines.specs.Outline as outline
use Rattle.outlines.specs.Outline.{Parts, Thread, joined}
use Rattle.rule_facts.specs.FromLast.{from_last}
use Rattle.contexts.specs.Constants.{Constants, among, declared_all}
use Rattle.contexts.specs.Resolved.{passed, writes_of}
use Rattle.contexts.specs.Bears.{bears, bears_all}
use Rattle.contexts.specs.Walk.{Walked, Found, Unresolved, TooMany, then_walk, walk_all, Above, part}
use Rattle.contexts.specs.Outlines.{scene, entered, entered_as, above_of, outlines, walk_starts, starts}
use Rattle.context_laws.proofs.Steady.{from_reversed}
use Rattle.context_items.specs.Marks.{Enters, marks_all, marks_of}
use Rattle.context_items.specs.Items.{Item, items, items_all}
use Rattle.context_items.specs.Flat.{FlatAbove, flat, items_bear, flat_entered, flat_above, flat_starts, flat_marks}
use Rattle.context_items.specs.Unshadowed.{Disjoint, UnshadowedAll, IsUnshadowed}
use Rattle.context_items.proofs.Fresh.{Fresh}
use Rattle.context_items.proofs.FlatWalk.{IsFlat, flat_scene, flat_list, marks_joined, parts_append}

-- ---- which bear locks

or_again : (a b c : Bool) → (a || (b || c)) ≡ ((a || b) || c)
or_again true b c = refl
or_again false b c = refl

mutual
  bear_one : (above : List ℕ → Bool) (s : Stmt) (more : List Item) → items_bear above (items s more) ≡ (bears above s || items_bear above more)
  bear_one above (Call line target name args) more = refl
  bear_one above (If line test a b) more = bear_list above a _ ∙ ap (λ r. bears_all above a || r) (bear_list above b _) ∙ or_again (bears_all above a) (bears_all above b) (items_bear above more)
  bear_one above (While line test body) more = bear_list above body _
  bear_one above (For line first_part test step body) more =
      bear_list above first_part _ ∙ ap (λ r. bears_all above first_part || r) (bear_list above body _ ∙ ap (λ r. bears_all above body || r) (bear_list above step _))
      ∙ turned (bears_all above first_part) (bears_all above body) (bears_all above step) (items_bear above more)
    where
      turned : (a b c d : Bool) → (a || (b || (c || d))) ≡ (((a || c) || b) || d)
      turned true b c d = refl
      turned false true true d = refl
      turned false true false d = refl
      turned false false true d = refl
      turned false false false d = refl
  bear_one above (Lock line place) more = refl
  bear_one above (TryLock line place taken busy) more = refl
  bear_one above (Unlock line place) more = refl
  bear_one above (Wait line cond mutex takes) more = refl
  bear_one above (Take line monitor) more = refl
  bear_one above (Give line monitor) more = refl
  bear_one above s more = refl

  bear_list : (above : List ℕ → Bool) (ss : Stmts) (more : List Item) → items_bear above (items_all ss more) ≡ (bears_all above ss || items_bear above more)
  bear_list above Nil more = refl
  bear_list above (Cons s rest) more =
      bear_one above s (items_all rest more) ∙ ap (λ r. bears above s || r) (bear_list above rest more) ∙ or_again (bears above s) (bears_all above rest) (items_bear above more)

or_false : (b : Bool) → (b || false) ≡ b
or_false true = refl
or_false false = refl

pub bear_same : (above other : List ℕ → Bool) → ((name : List ℕ) → above name ≡ other name) → (ss : Stmts) → items_bear above (items_all ss []) ≡ bears_all other ss
bear_same above other same ss =
    ap (λ (f : List ℕ → Bool). items_bear f (items_all ss [])) (equal above other same) ∙ bear_list other ss [] ∙ or_false (bears_all other ss)
  where
    equal : (f g : List ℕ → Bool) → ((name : List ℕ) → f name ≡ g name) → f ≡ g
    equal f g same = λ i name. same name i

-- ---- functions that are entered

-- what isn't a parameter isn't known where a function begins
passed_fresh : (writes params : List (List ℕ)) (args : List (Option ℤ)) (names : List (List ℕ)) → Disjoint params names → Fresh (passed writes params args) names
passed_fresh writes [] args names apart q is = refl
passed_fresh writes (name ∷ params) [] names apart q is = refl
passed_fresh writes (name ∷ params) (z ∷ args) names apart q is =
    go (bytes_eq q name) refl (passed_fresh writes params args names (λ r there. apart r (behind r (bytes_eq r name) there)) q is)
  where
    behind : (r : List ℕ) (b : Bool) → among params r ≡ true → (b || among params r) ≡ true
    behind r true there = refl
    behind r false there = there

    go : (b : Bool) → bytes_eq q name ≡ b → passed writes params args q ≡ None → (if b then (if among writes name then None else z) else passed writes params args q) ≡ None
    go true same later =
        absurd (let here : among (name ∷ params) q ≡ true = ap (λ b. b || among params q) same in let bad : true ≡ false = sym is ∙ apart q here in cc bad)
    go false other later = later

enter_flat : (p : bare.Program) (above : Above) (f : FlatAbove) → IsFlat above f → (g : ℕ × Function) → Disjoint g.1.params (declared_all g.1.body) → UnshadowedAll g.1.body → (args : List (Option ℤ)) (n : List ℕ)
    → flat_entered p f g args n ≡ then_walk (entered p above g args n) (λ e m. Found (Enters e.context ∷ marks_all e.body []) m)
enter_flat p above f sound g apart ok args n = go (nat_lt (length n) 256)
  where
    start : Constants
    start = passed (writes_of p g.1) g.1.params args

    last : (w : Walked Parts) → then_walk (then_walk w (λ xs m. Found (marks_all xs []) m)) (λ ms m. Found (Enters (length n) ∷ ms) m)
        ≡ then_walk (then_walk w (entered_as g.1 n)) (λ e m. Found (Enters e.context ∷ marks_all e.body []) m)
    last (Found xs m) = ap (λ ms. Found (Enters (length n) ∷ ms) m) (sym (marks_joined xs (part (outline.Leave g.1.end_line)) []))
    last (Unresolved line) = refl
    last TooMany = refl

    go : (b : Bool) → (if b then then_walk (flat (flat_scene (scene p above g.1) f) (passed (writes_of p g.1) g.1.params args) [] (items_all g.1.body []) (g.0 ∷ n)) (λ ms m. Found (Enters (length n) ∷ ms) m) else TooMany)
        ≡ then_walk (if b then then_walk (walk_all (scene p above g.1) (passed (writes_of p g.1) g.1.params args) g.1.body (g.0 ∷ n)) (entered_as g.1 n) else TooMany) (λ e m. Found (Enters e.context ∷ marks_all e.body []) m)
    go true =
        ap (λ w. then_walk w (λ ms m. Found (Enters (length n) ∷ ms) m))
        (flat_list (scene p above g.1) f sound g.1.body ok (passed (writes_of p g.1) g.1.params args) (passed_fresh (writes_of p g.1) g.1.params args (declared_all g.1.body) apart) [] [] (g.0 ∷ n))
        ∙ last (walk_all (scene p above g.1) (passed (writes_of p g.1) g.1.params args) g.1.body (g.0 ∷ n))
    go false = refl

above_flat : (p : bare.Program) (fs : List (ℕ × Function)) → ((g : ℕ × Function) → In g fs → Disjoint g.1.params (declared_all g.1.body) × UnshadowedAll g.1.body) → IsFlat (above_of p fs) (flat_above p fs)
above_flat p [] ok = record { bears = λ name. refl; enter = λ name args n. refl }
above_flat p (g ∷ fs) ok =
    let there : IsFlat (above_of p fs) (flat_above p fs) = above_flat p fs (λ h at. ok h (inr at)) in
    let here = ok g (inl refl) in
    record {
      bears = λ name. both name (bytes_eq g.1.name name) (bear_same (flat_above p fs).bears (above_of p fs).bears there.bears g.1.body) (there.bears name);
      enter = λ name args n. entering name args n (bytes_eq g.1.name name) (enter_flat p (above_of p fs) (flat_above p fs) there g here.0 here.1 args n) (there.enter name args n);
    }
  where
    both : (name : List ℕ) (b : Bool) → items_bear (flat_above p fs).bears (items_all g.1.body []) ≡ bears_all (above_of p fs).bears g.1.body → (flat_above p fs).bears name ≡ (above_of p fs).bears name
        → (if b then items_bear (flat_above p fs).bears (items_all g.1.body []) else (flat_above p fs).bears name) ≡ (if b then bears_all (above_of p fs).bears g.1.body else (above_of p fs).bears name)
    both name true first second = first
    both name false first second = second

    entering : (name : List ℕ) (args : List (Option ℤ)) (n : List ℕ) (b : Bool)
        → flat_entered p (flat_above p fs) g args n ≡ then_walk (entered p (above_of p fs) g args n) (λ e m. Found (Enters e.context ∷ marks_all e.body []) m)
        → (flat_above p fs).enter name args n ≡ then_walk ((above_of p fs).enter name args n) (λ e m. Found (Enters e.context ∷ marks_all e.body []) m)
        → (if b then flat_entered p (flat_above p fs) g args n else (flat_above p fs).enter name args n)
        ≡ then_walk (if b then entered p (above_of p fs) g args n else (above_of p fs).enter name args n) (λ e m. Found (Enters e.context ∷ marks_all e.body []) m)
    entering name args n true first second = first
    entering name args n false first second = second

-- ---- threads

starts_flat : (above : Above) (f : FlatAbove) → IsFlat above f → (ss : List (List ℕ × List (Option ℤ))) (n : List ℕ) → flat_starts f ss n ≡ then_walk (walk_starts above ss n) (λ es m. Found (marks_of es) m)
starts_flat above f sound [] n = refl
starts_flat above f sound (s ∷ ss) n =
    ap (λ w. then_walk w (λ ms m. then_walk (flat_starts f ss m) (λ more k. Found (ms ++ more) k))) (sound.enter s.0 s.1 n)
    ∙ first (above.enter s.0 s.1 n) (λ m. starts_flat above f sound ss m)
  where
    second : (e : Thread) (w : Walked (List Thread)) → then_walk (then_walk w (λ es m. Found (marks_of es) m)) (λ more k. Found (Enters e.context ∷ (marks_all e.body [] ++ more)) k)
        ≡ then_walk (then_walk w (λ es k. Found (e ∷ es) k)) (λ es m. Found (marks_of es) m)
    second e (Found es k) = ap (λ ms. Found (Enters e.context ∷ ms) k) (sym (parts_append e.body [] (marks_of es)))
    second e (Unresolved line) = refl
    second e TooMany = refl

    first : (w : Walked Thread) → ((m : List ℕ) → flat_starts f ss m ≡ then_walk (walk_starts above ss m) (λ es k. Found (marks_of es) k))
        → then_walk (then_walk w (λ e m. Found (Enters e.context ∷ marks_all e.body []) m)) (λ ms m. then_walk (flat_starts f ss m) (λ more k. Found (ms ++ more) k))
        ≡ then_walk (then_walk w (λ e m. then_walk (walk_starts above ss m) (λ es k. Found (e ∷ es) k))) (λ es m. Found (marks_of es) m)
    first (Found e m) later = ap (λ w. then_walk w (λ more k. Found (Enters e.context ∷ (marks_all e.body [] ++ more)) k)) (later m) ∙ second e (walk_starts above ss m)
    first (Unresolved line) later = refl
    first TooMany later = refl

pub marks_flat : (p : Program) → IsUnshadowed p → flat_marks p ≡ then_walk (outlines p) (λ es n. Found (marks_of es) n)
marks_flat p ok =
    starts_flat (above_of (bare_program p) (from_last p)) (flat_above (bare_program p) (from_last p))
    (above_flat (bare_program p) (from_last p) (λ g at. ok g (contains_of (enumerate_from 0 p.functions) g (from_reversed (enumerate_from 0 p.functions) g at)))) (starts p) []
