-- The walk along items is the walk through statements.
use Rattle.std.specs.Prelude.{◌≡◌, ℕ, ℤ, Bool, true, false, if◌then◌else◌, List, [], ◌∷◌, ◌++◌, map, Some, None}
use Rattle.std.specs.declared.option.Option.{Option}
use Rattle.std.proofs.Common.{refl, ap, sym, ◌∙◌}
use Rattle.c_tree.specs.Numbering.{monitor_resource}
use Rattle.c_tree.specs.Lined.{Stmt, Stmts, Nil, Cons, Declare, Assign, Call, If, While, For, Return, Read, Print, Create, Join, InitMutex, InitCond, Lock, TryLock, Unlock, Wait, Signal, Broadcast, Take, Give}
use Rattle.outlines.specs.Outline as outline
use Rattle.outlines.specs.Outline.{Part, Parts, Thread, joined}
use Rattle.contexts.specs.Constants.{Constants, among, before, known_after, known_end, declared, declared_all}
use Rattle.contexts.specs.Resolved.{resolved, constants_of}
use Rattle.contexts.specs.Walk.{Walked, Found, Unresolved, TooMany, then_walk, walk, walk_all, Above, Scene, part, one, with_resource}
use Rattle.contexts.proofs.Names.{none_before}
use Rattle.context_laws.proofs.Found.{then_again, then_same, then_found}
use Rattle.context_items.specs.Marks.{Mark, Resource, Enters, marks, marks_all}
use Rattle.context_items.specs.Items.{Item, Opens, Closes, items, items_all}
use Rattle.context_items.specs.Flat.{FlatAbove, FlatScene, marked, flat}
use Rattle.context_items.specs.Unshadowed.{Disjoint, FirstShape, StepShape, Unshadowed, UnshadowedAll}
use Rattle.context_items.proofs.Fresh.{Fresh, without_fresh, fresh_first, fresh_second, fresh_after}

-- ---- marks

mutual
  pub part_append : (x : Part) (more rest : List Mark) → marks x (more ++ rest) ≡ marks x more ++ rest
  part_append (outline.Acquire line r) more rest = refl
  part_append (outline.Release line r) more rest = refl
  part_append (outline.Wait line r takes) more rest = refl
  part_append (outline.Try line r a b) more rest =
      ap (λ ms. Resource r ∷ ms) (ap (marks_all a) (parts_append b more rest) ∙ parts_append a (marks_all b more) rest)
  part_append (outline.Branch line a b) more rest = ap (marks_all a) (parts_append b more rest) ∙ parts_append a (marks_all b more) rest
  part_append (outline.Loop line body) more rest = parts_append body more rest
  part_append (outline.Inner line k body) more rest = ap (λ ms. Enters k ∷ ms) (parts_append body more rest)
  part_append (outline.Step line) more rest = refl
  part_append (outline.Join line) more rest = refl
  part_append (outline.Leave line) more rest = refl

  pub parts_append : (xs : Parts) (more rest : List Mark) → marks_all xs (more ++ rest) ≡ marks_all xs more ++ rest
  parts_append outline.Nil more rest = refl
  parts_append (outline.Cons x xs) more rest = ap (marks x) (parts_append xs more rest) ∙ part_append x (marks_all xs more) rest

pub marks_joined : (xs ys : Parts) (more : List Mark) → marks_all (joined xs ys) more ≡ marks_all xs (marks_all ys more)
marks_joined outline.Nil ys more = refl
marks_joined (outline.Cons x xs) ys more = ap (marks x) (marks_joined xs ys more)

-- the marks of parts before those of a walk
abbrev pub before_marks : Parts → Walked (List Mark) → Walked (List Mark)
before_marks xs r = then_walk r (λ ms k. Found (marks_all xs ms) k)

before_joined : (xs ys : Parts) (r : Walked (List Mark)) → before_marks xs (before_marks ys r) ≡ before_marks (joined xs ys) r
before_joined xs ys (Found ms k) = ap (λ ns. Found ns k) (sym (marks_joined xs ys ms))
before_joined xs ys (Unresolved line) = refl
before_joined xs ys TooMany = refl

-- what is found along items of functions above is what is found through their statements
pub record IsFlat (above : Above) (f : FlatAbove) : Type 0 where
  pub bears : (name : List ℕ) → f.bears name ≡ above.bears name
  pub enter : (name : List ℕ) (args : List (Option ℤ)) (n : List ℕ) → f.enter name args n ≡ then_walk (above.enter name args n) (λ e m. Found (Enters e.context ∷ marks_all e.body []) m)

-- ---- statements

-- two walks, whose parts are put together
two_walks : (make : Parts → Parts → Parts) → ((xs ys : Parts) (ms : List Mark) → marks_all (make xs ys) ms ≡ marks_all xs (marks_all ys ms)) → (a : Walked Parts) (b : List ℕ → Walked Parts) (go : List ℕ → Walked (List Mark))
    → then_walk a (λ xs m. before_marks xs (then_walk (b m) (λ ys k. before_marks ys (go k)))) ≡ then_walk (then_walk a (λ xs m. then_walk (b m) (λ ys k. Found (make xs ys) k))) (λ zs k. before_marks zs (go k))
two_walks make same a b go =
    then_same a (λ xs m. before_marks xs (then_walk (b m) (λ ys k. before_marks ys (go k)))) (λ xs m. then_walk (then_walk (b m) (λ ys k. Found (make xs ys) k)) (λ zs k. before_marks zs (go k)))
    (λ xs m. second xs (b m))
    ∙ sym (then_again a (λ xs m. then_walk (b m) (λ ys k. Found (make xs ys) k)) (λ zs k. before_marks zs (go k)))
  where
    last : (xs ys : Parts) (r : Walked (List Mark)) → before_marks xs (before_marks ys r) ≡ before_marks (make xs ys) r
    last xs ys (Found ms k) = ap (λ ns. Found ns k) (sym (same xs ys ms))
    last xs ys (Unresolved line) = refl
    last xs ys TooMany = refl

    second : (xs : Parts) (r : Walked Parts) → before_marks xs (then_walk r (λ ys k. before_marks ys (go k))) ≡ then_walk (then_walk r (λ ys k. Found (make xs ys) k)) (λ zs k. before_marks zs (go k))
    second xs (Found ys k) = last xs ys (go k)
    second xs (Unresolved line) = refl
    second xs TooMany = refl

-- a mutex
at_mutex : (line : ℕ) (o : Option ℕ) (make : ℕ → Part) (n : List ℕ) (go : List ℕ → Walked (List Mark)) → ((r : ℕ) (ms : List Mark) → marks (make r) ms ≡ Resource r ∷ ms)
    → marked line o (go n) ≡ then_walk (with_resource line o (λ r. one (make r) n)) (λ xs m. before_marks xs (go m))
at_mutex line None make n go same = refl
at_mutex line (Some r) make n go same = then_same (go n) (λ ms k. Found (Resource r ∷ ms) k) (λ ms k. Found (marks (make r) ms) k) (λ ms k. ap (λ ns. Found ns k) (sym (same r ms)))

-- a trylock, with its arms
tried : (line : ℕ) (o : Option ℕ) (a : Walked Parts) (b : List ℕ → Walked Parts) (go : List ℕ → Walked (List Mark))
    → marked line o (then_walk a (λ xs m. before_marks xs (then_walk (b m) (λ ys k. before_marks ys (go k)))))
    ≡ then_walk (with_resource line o (λ r. then_walk a (λ xs m. then_walk (b m) (λ ys k. one (outline.Try line r xs ys) k)))) (λ zs k. before_marks zs (go k))
tried line None a b go = refl
tried line (Some r) a b go = first a
  where
    third : (xs ys : Parts) (w : Walked (List Mark)) → then_walk (before_marks xs (before_marks ys w)) (λ ms k. Found (Resource r ∷ ms) k) ≡ before_marks (part (outline.Try line r xs ys)) w
    third xs ys (Found ms k) = refl
    third xs ys (Unresolved l) = refl
    third xs ys TooMany = refl

    second : (xs : Parts) (w : Walked Parts) → then_walk (before_marks xs (then_walk w (λ ys k. before_marks ys (go k)))) (λ ms k. Found (Resource r ∷ ms) k)
        ≡ then_walk (then_walk w (λ ys k. one (outline.Try line r xs ys) k)) (λ zs k. before_marks zs (go k))
    second xs (Found ys k) = third xs ys (go k)
    second xs (Unresolved l) = refl
    second xs TooMany = refl

    first : (w : Walked Parts) → then_walk (then_walk w (λ xs m. before_marks xs (then_walk (b m) (λ ys k. before_marks ys (go k))))) (λ ms k. Found (Resource r ∷ ms) k)
        ≡ then_walk (then_walk w (λ xs m. then_walk (b m) (λ ys k. one (outline.Try line r xs ys) k))) (λ zs k. before_marks zs (go k))
    first (Found xs m) = second xs (b m)
    first (Unresolved l) = refl
    first TooMany = refl

-- a call that enters a function
entered_call : (line : ℕ) (w : Walked Thread) (go : List ℕ → Walked (List Mark))
    → then_walk (then_walk w (λ e m. Found (Enters e.context ∷ marks_all e.body []) m)) (λ ms m. then_walk (go m) (λ more k. Found (ms ++ more) k))
    ≡ then_walk (then_walk w (λ f m. one (outline.Inner line f.context f.body) m)) (λ xs m. before_marks xs (go m))
entered_call line (Found e m) go =
    then_same (go m) (λ more k. Found (Enters e.context ∷ (marks_all e.body [] ++ more)) k) (λ ms k. Found (Enters e.context ∷ marks_all e.body ms) k)
    (λ ms k. ap (λ ns. Found (Enters e.context ∷ ns) k) (sym (parts_append e.body [] ms)))
entered_call line (Unresolved l) go = refl
entered_call line TooMany go = refl

abbrev pub flat_scene : Scene → FlatAbove → FlatScene
flat_scene c f = record { program = c.program; above = f; writes = c.writes }

-- the names that a step declares
step_none : (step : Stmts) → StepShape step → UnshadowedAll step × ((q : List ℕ) → among (declared_all step) q ≡ false)
step_none Nil shape = (tt, λ q. refl)
step_none (Cons (Assign line target value) Nil) shape = ((tt, (λ q is. refl), tt), λ q. refl)
step_none ss shape = absurd shape

clash : (q : List ℕ) {b : Bool} → b ≡ true → b ≡ false → ⊥
clash q is not = let bad : true ≡ false = sym is ∙ not in cc bad

-- what is declared in a body and in a step that declares nothing is so in the body
in_body_alone : (body step : Stmts) (q : List ℕ) → among (declared_all step) q ≡ false → among (declared_all (before body step)) q ≡ true → among (declared_all body) q ≡ true
in_body_alone body step q none is = go (among (declared_all body) q) refl
  where
    go : (b : Bool) → among (declared_all body) q ≡ b → among (declared_all body) q ≡ true
    go true there = there
    go false there = absurd (let bad : true ≡ false = sym is ∙ none_before q body step there none in cc bad)

module _ (c : Scene) (f : FlatAbove) (sound : IsFlat c.above f) where
  -- a statement without items
  no_items : (known : Constants) (outer : List Constants) (more : List Item) (n : List ℕ) (x : Part) → ((ms : List Mark) → marks x ms ≡ ms)
      → flat (flat_scene c f) known outer more n ≡ before_marks (part x) (flat (flat_scene c f) known outer more n)
  no_items known outer more n x same =
      sym (then_same (flat (flat_scene c f) known outer more n) (λ ms k. Found (marks x ms) k) (λ ms k. Found ms k) (λ ms k. ap (λ ns. Found ns k) (same ms))
      ∙ then_found (flat (flat_scene c f) known outer more n))

  -- a call
  call_flat : (line : ℕ) (name : List ℕ) (args : List (Option ℤ)) (n : List ℕ) (go : List ℕ → Walked (List Mark)) → (b : Bool)
      → (if b then then_walk (f.enter name args n) (λ ms m. then_walk (go m) (λ more k. Found (ms ++ more) k)) else go n)
      ≡ then_walk (if b then then_walk (c.above.enter name args n) (λ e m. one (outline.Inner line e.context e.body) m) else one (outline.Step line) n) (λ xs m. before_marks xs (go m))
  call_flat line name args n go true =
      ap (λ w. then_walk w (λ ms m. then_walk (go m) (λ more k. Found (ms ++ more) k))) (sound.enter name args n) ∙ entered_call line (c.above.enter name args n) go
  call_flat line name args n go false = sym (then_found (go n))

  -- the first part of a `for`
  first_flat : (known : Constants) (outer : List Constants) (first_part : Stmts) (more : List Item) (n : List ℕ) → FirstShape first_part
      → flat (flat_scene c f) known outer (items_all first_part more) n ≡ flat (flat_scene c f) (known_end c.writes known first_part) outer more n
  first_flat known outer Nil more n shape = refl
  first_flat known outer (Cons (Declare line name value) Nil) more n shape = refl
  first_flat known outer (Cons (Assign line target value) Nil) more n shape = refl
  first_flat known outer ss more n shape = absurd shape

  -- what is known behind the first part of a `for` doesn't clash with its body
  first_fresh : (known : Constants) (first_part body : Stmts) → FirstShape first_part → Disjoint (declared_all first_part) (declared_all body) → Fresh known (declared_all body)
      → Fresh (known_end c.writes known first_part) (declared_all body)
  first_fresh known Nil body shape apart fresh = fresh
  first_fresh known (Cons (Declare line name value) Nil) body shape apart fresh = fresh_after c.writes known (Declare line name value) (declared_all body) apart fresh
  first_fresh known (Cons (Assign line target value) Nil) body shape apart fresh = fresh
  first_fresh known ss body shape apart fresh = absurd shape

  -- two arms
  arms_flat : (known : Constants) (outer : List Constants) (a b : Stmts) (more : List Item) (n : List ℕ)
      → ((rest : List Item) (i : List ℕ) → flat (flat_scene c f) known (known ∷ outer) (items_all a rest) i
      ≡ then_walk (walk_all c known a i) (λ xs m. before_marks xs (flat (flat_scene c f) (known_end c.writes known a) (known ∷ outer) rest m)))
      → ((rest : List Item) (i : List ℕ) → flat (flat_scene c f) known (known ∷ outer) (items_all b rest) i
      ≡ then_walk (walk_all c known b i) (λ xs m. before_marks xs (flat (flat_scene c f) (known_end c.writes known b) (known ∷ outer) rest m)))
      → flat (flat_scene c f) known outer (Opens ∷ items_all a (Closes ∷ Opens ∷ items_all b (Closes ∷ more))) n
      ≡ then_walk (walk_all c known a n) (λ xs m. before_marks xs (then_walk (walk_all c known b m) (λ ys k. before_marks ys (flat (flat_scene c f) known outer more k))))
  arms_flat known outer a b more n first second =
      first (Closes ∷ Opens ∷ items_all b (Closes ∷ more)) n
      ∙ then_same (walk_all c known a n) (λ xs m. before_marks xs (flat (flat_scene c f) known (known ∷ outer) (items_all b (Closes ∷ more)) m))
      (λ xs m. before_marks xs (then_walk (walk_all c known b m) (λ ys k. before_marks ys (flat (flat_scene c f) known outer more k))))
      (λ xs m. ap (before_marks xs) (second (Closes ∷ more) m))

  mutual
    pub flat_one : (s : Stmt) → Unshadowed s → (known : Constants) → Fresh known (declared s) → (outer : List Constants) (more : List Item) (n : List ℕ)
        → flat (flat_scene c f) known outer (items s more) n ≡ then_walk (walk c known s n) (λ xs m. before_marks xs (flat (flat_scene c f) (known_after c.writes known s) outer more m))
    flat_one (Declare line name value) ok known fresh outer more n = no_items (known_after c.writes known (Declare line name value)) outer more n (outline.Step line) (λ ms. refl)
    flat_one (Call line target name args) ok known fresh outer more n =
        ap (λ b. if b then then_walk (f.enter name (constants_of known args) n) (λ ms m. then_walk (flat (flat_scene c f) known outer more m) (λ rest k. Found (ms ++ rest) k)) else flat (flat_scene c f) known outer more n) (sound.bears name)
        ∙ call_flat line name (constants_of known args) n (flat (flat_scene c f) known outer more) (c.above.bears name)
    flat_one (If line test a b) ok known fresh outer more n =
        arms_flat known outer a b more n
        (λ rest i. flat_list a ok.0 known (fresh_first known (declared_all a) (declared_all b) fresh) (known ∷ outer) rest i)
        (λ rest i. flat_list b ok.1 known (fresh_second known (declared_all a) (declared_all b) fresh) (known ∷ outer) rest i)
        ∙ two_walks (λ xs ys. part (outline.Branch line xs ys)) (λ xs ys ms. refl) (walk_all c known a n) (walk_all c known b) (flat (flat_scene c f) known outer more)
        ∙ ap (λ after. then_walk (walk c known (If line test a b) n) (λ zs k. before_marks zs (flat (flat_scene c f) after outer more k))) (sym (without_fresh known (declared (If line test a b)) fresh))
    flat_one (While line test body) ok known fresh outer more n =
        flat_list body ok known fresh (known ∷ outer) (Closes ∷ more) n
        ∙ sym (then_again (walk_all c known body n) (λ xs m. one (outline.Loop line xs) m) (λ zs k. before_marks zs (flat (flat_scene c f) known outer more k)))
        ∙ ap (λ after. then_walk (then_walk (walk_all c after body n) (λ xs m. one (outline.Loop line xs) m)) (λ zs k. before_marks zs (flat (flat_scene c f) after outer more k))) (sym (without_fresh known (declared_all body) fresh))
    flat_one (For line first_part test step body) ok known fresh outer more n =
        let start : Constants = known_end c.writes known first_part in
        let in_body : Fresh known (declared_all body) = fresh_second known (declared_all first_part ++ declared_all step) (declared_all body) fresh in
        let at_start : Fresh start (declared_all body) = first_fresh known first_part body ok.0 ok.2 in_body in
        let none = step_none step ok.1 in
        first_flat known (known ∷ outer) first_part (items_all body (items_all step (Closes ∷ more))) n ok.0
        ∙ flat_list body ok.3 start at_start (known ∷ outer) (items_all step (Closes ∷ more)) n
        ∙ then_same (walk_all c start body n) (λ xs m. before_marks xs (flat (flat_scene c f) (known_end c.writes start body) (known ∷ outer) (items_all step (Closes ∷ more)) m))
        (λ xs m. before_marks xs (then_walk (walk_all c (known_end c.writes start body) step m) (λ ys k. before_marks ys (flat (flat_scene c f) known outer more k))))
        (λ xs m. ap (before_marks xs) (flat_list step none.0 (known_end c.writes start body) (λ q is. absurd (clash q is (none.1 q))) (known ∷ outer) (Closes ∷ more) m))
        ∙ two_walks (λ xs ys. outline.Cons (outline.Step line) (part (outline.Loop line (joined xs ys)))) (λ xs ys ms. marks_joined xs ys ms) (walk_all c start body n) (walk_all c (known_end c.writes start body) step) (flat (flat_scene c f) known outer more)
        ∙ ap (λ turn. then_walk (then_walk (walk_all c turn body n) (λ xs m. then_walk (walk_all c (known_end c.writes turn body) step m) (λ ys k. Found (outline.Cons (outline.Step line) (part (outline.Loop line (joined xs ys)))) k)))
        (λ zs k. before_marks zs (flat (flat_scene c f) known outer more k)))
        (sym (without_fresh start (declared_all (before body step)) (λ q is. at_start q (in_body_alone body step q (none.1 q) is))))
        ∙ ap (λ after. then_walk (walk c known (For line first_part test step body) n) (λ zs k. before_marks zs (flat (flat_scene c f) after outer more k))) (sym (without_fresh known (declared (For line first_part test step body)) fresh))
    flat_one (Lock line place) ok known fresh outer more n = at_mutex line (resolved c.program known place) (outline.Acquire line) n (flat (flat_scene c f) known outer more) (λ r ms. refl)
    flat_one (Unlock line place) ok known fresh outer more n = at_mutex line (resolved c.program known place) (outline.Release line) n (flat (flat_scene c f) known outer more) (λ r ms. refl)
    flat_one (Wait line cond place takes) ok known fresh outer more n =
        at_mutex line (resolved c.program known place) (λ r. outline.Wait line r (map (monitor_resource c.program) takes)) n (flat (flat_scene c f) known outer more) (λ r ms. refl)
    flat_one (TryLock line place a b) ok known fresh outer more n =
        ap (marked line (resolved c.program known place)) (arms_flat known outer a b more n
        (λ rest i. flat_list a ok.0 known (fresh_first known (declared_all a) (declared_all b) fresh) (known ∷ outer) rest i)
        (λ rest i. flat_list b ok.1 known (fresh_second known (declared_all a) (declared_all b) fresh) (known ∷ outer) rest i))
        ∙ tried line (resolved c.program known place) (walk_all c known a n) (walk_all c known b) (flat (flat_scene c f) known outer more)
        ∙ ap (λ after. then_walk (walk c known (TryLock line place a b) n) (λ zs k. before_marks zs (flat (flat_scene c f) after outer more k))) (sym (without_fresh known (declared (TryLock line place a b)) fresh))
    flat_one (Take line monitor) ok known fresh outer more n = refl
    flat_one (Give line monitor) ok known fresh outer more n = refl
    flat_one (Assign line target value) ok known fresh outer more n = no_items known outer more n (outline.Step line) (λ ms. refl)
    flat_one (Return line value) ok known fresh outer more n = no_items known outer more n (outline.Leave line) (λ ms. refl)
    flat_one (Read line target) ok known fresh outer more n = no_items known outer more n (outline.Step line) (λ ms. refl)
    flat_one (Print line format args) ok known fresh outer more n = no_items known outer more n (outline.Step line) (λ ms. refl)
    flat_one (Create line slot name arg) ok known fresh outer more n = no_items known outer more n (outline.Step line) (λ ms. refl)
    flat_one (Join line slot) ok known fresh outer more n = no_items known outer more n (outline.Join line) (λ ms. refl)
    flat_one (InitMutex line place) ok known fresh outer more n = no_items known outer more n (outline.Step line) (λ ms. refl)
    flat_one (InitCond line place) ok known fresh outer more n = no_items known outer more n (outline.Step line) (λ ms. refl)
    flat_one (Signal line cond) ok known fresh outer more n = no_items known outer more n (outline.Step line) (λ ms. refl)
    flat_one (Broadcast line cond) ok known fresh outer more n = no_items known outer more n (outline.Step line) (λ ms. refl)

    pub flat_list : (ss : Stmts) → UnshadowedAll ss → (known : Constants) → Fresh known (declared_all ss) → (outer : List Constants) (more : List Item) (n : List ℕ)
        → flat (flat_scene c f) known outer (items_all ss more) n ≡ then_walk (walk_all c known ss n) (λ xs m. before_marks xs (flat (flat_scene c f) (known_end c.writes known ss) outer more m))
    flat_list Nil ok known fresh outer more n = sym (then_found (flat (flat_scene c f) known outer more n))
    flat_list (Cons s rest) ok known fresh outer more n =
        let behind : Constants = known_after c.writes known s in
        flat_one s ok.0 known (fresh_first known (declared s) (declared_all rest) fresh) outer (items_all rest more) n
        ∙ then_same (walk c known s n) (λ xs m. before_marks xs (flat (flat_scene c f) behind outer (items_all rest more) m))
        (λ xs m. before_marks xs (then_walk (walk_all c behind rest m) (λ ys k. before_marks ys (flat (flat_scene c f) (known_end c.writes behind rest) outer more k))))
        (λ xs m. ap (before_marks xs) (flat_list rest ok.2 behind (fresh_after c.writes known s (declared_all rest) ok.1 (fresh_second known (declared s) (declared_all rest) fresh)) outer more m))
        ∙ two_walks (λ xs ys. joined xs ys) (λ xs ys ms. marks_joined xs ys ms) (walk c known s n) (walk_all c behind rest) (flat (flat_scene c f) (known_end c.writes behind rest) outer more)
