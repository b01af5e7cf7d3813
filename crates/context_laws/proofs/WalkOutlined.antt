-- What the walk finds stands in the relation.
use Rattle.std.specs.Prelude.{◌≡◌, ℕ, Bool, true, false, if◌then◌else◌, List, length, map, Some, None}
use Rattle.std.specs.declared.option.Option.{Option}
use Rattle.std.proofs.Common.{refl, subst, sym, ◌∙◌}
use Rattle.c_tree.specs.Bare as bare
use Rattle.c_tree.specs.Everywhere.{EverywhereInside}
use Rattle.c_tree.specs.Expressions.{Expr, Exprs, Place}
use Rattle.c_tree.specs.Numbering.{monitor_resource}
use Rattle.c_tree.specs.Lined.{Stmt, Stmts, Nil, Cons, Declare, Assign, Call, If, While, For, Return, Read, Print, Create, Join, InitMutex, InitCond, Lock, TryLock, Unlock, Wait, Signal, Broadcast, Take, Give, bare_stmt, bare_stmts}
use Rattle.outlines.specs.Outline as outline
use Rattle.outlines.specs.Outline.{Part, Parts, Thread, joined}
use Rattle.contexts.specs.Constants.{Constants, known_after, known_in, known_end, known_turn}
use Rattle.contexts.specs.Resolved.{resolved, constants_of}
use Rattle.contexts.specs.Walk.{Found, then_walk, walk, walk_all, Above, part, one}
use Rattle.contexts.specs.Outlined.{Code, HasPart, Outlined, IsTarget, IsFirst, end_parts, steps, joins, leaves, locks, unlocks, waits, takes, gives, tries, branches, loops, enters, over, next, counts}
use Rattle.contexts.specs.Numbered.{Numbered, NumberedAll, after, after_all}
use Rattle.contexts.specs.Firsts.{FirstFits}
use Rattle.contexts.proofs.Befores.{outlined_before}
use Rattle.context_laws.proofs.Found.{found_behind, found_at, carry, joined_nil, joined_again}
use Rattle.context_laws.proofs.Numbers.{Knows, Goes, goes_nowhere, goes_flat, goes_on, goes_inside, numbered_behind, ends_behind}
use Rattle.context_laws.proofs.Steady.{IsSteady, Steady}
use Rattle.context_laws.proofs.Stands.{scene_of, StandsOne, Stands, IsEntered, IsSound}

-- the first part of a `for`
first_is : (p : bare.Program) (named : List ℕ → Bool) (writes : List (List ℕ)) (ss : Stmts) → FirstFits (bare_stmts ss) → Steady p named writes ss → IsFirst writes ss
first_is p named writes Nil fits all = tt
first_is p named writes (Cons (Declare line name e) Nil) fits all = tt
first_is p named writes (Cons (Assign line target e) Nil) fits all = all.0
first_is p named writes ss fits all = absurd fits

module _ (code : Code) (above : Above) (writes : List (List ℕ)) where
  -- ---- one part

  one_part : (known : Constants) (s : Stmt) (x : Part) (n k : List ℕ) (xs : Parts) (m : List ℕ) → Goes code n (part x) k → (Knows code k → HasPart code writes known s x)
      → Found (part x) k ≡ Found xs m → StandsOne code writes known s n xs m
  one_part known s x n k xs m goes has e =
      carry (λ ys l. StandsOne code writes known s n ys l) (part x) xs k m e (record { goes = goes; outlined = λ h ends rest ys there. next s x (has h) there })

  -- a part without contexts
  flat_part : (known : Constants) (s : Stmt) (x : Part) (n : List ℕ) (xs : Parts) (m : List ℕ) → Numbered x (length n) → length n ≡ after x (length n) → HasPart code writes known s x
      → Found (part x) n ≡ Found xs m → StandsOne code writes known s n xs m
  flat_part known s x n xs m numbered same has e = one_part known s x n n xs m (goes_flat code n x numbered same) (λ h. has) e

  -- an arm or a body
  arm : (known : Constants) (a : Stmts) (n : List ℕ) (xs : Parts) (m : List ℕ) → Stands code writes known a n xs m → Knows code m → Outlined code writes known None a xs
  arm known a n xs m there h = subst (λ zs. Outlined code writes known None a zs) (joined_nil xs) (there.outlined h None)

  -- two arms
  two_arms : (known : Constants) (s : Stmt) (a b : Stmts) (make : Parts → Parts → Part) (n : List ℕ) (xs : Parts) (m : List ℕ)
      → ((ya yb : Parts) (i : ℕ) → NumberedAll ya i × NumberedAll yb (after_all ya i) → Numbered (make ya yb) i)
      → ((ya yb : Parts) (i : ℕ) → after_all yb (after_all ya i) ≡ after (make ya yb) i)
      → ((ya yb : Parts) → Outlined code writes known None a ya → Outlined code writes known None b yb → HasPart code writes known s (make ya yb))
      → ((i : List ℕ) (ys : Parts) (l : List ℕ) → walk_all (scene_of code above writes) known a i ≡ Found ys l → Stands code writes known a i ys l)
      → ((i : List ℕ) (ys : Parts) (l : List ℕ) → walk_all (scene_of code above writes) known b i ≡ Found ys l → Stands code writes known b i ys l)
      → then_walk (walk_all (scene_of code above writes) known a n) (λ ya i. then_walk (walk_all (scene_of code above writes) known b i) (λ yb j. one (make ya yb) j)) ≡ Found xs m
      → StandsOne code writes known s n xs m
  two_arms known s a b make n xs m numbered same has go_a go_b e =
      found_behind (walk_all (scene_of code above writes) known a n) (λ ya i. then_walk (walk_all (scene_of code above writes) known b i) (λ yb j. one (make ya yb) j)) xs m e
      (λ ya i ea e1. found_behind (walk_all (scene_of code above writes) known b i) (λ yb j. one (make ya yb) j) xs m e1
      (λ yb j eb e2. made ya i yb j (go_a n ya i ea) (go_b i yb j eb) e2))
    where
      made : (ya : Parts) (i : List ℕ) (yb : Parts) (j : List ℕ) → Stands code writes known a n ya i → Stands code writes known b i yb j → Found (part (make ya yb)) j ≡ Found xs m → StandsOne code writes known s n xs m
      made ya i yb j first second e = one_part known s (make ya yb) n j xs m
          (record {
            numbered = (numbered ya yb (length n) (first.goes.numbered, numbered_behind code n i ya yb j first.goes second.goes), tt);
            behind = ends_behind code n i ya yb j first.goes second.goes ∙ same ya yb (length n);
            knows = λ h. first.goes.knows (second.goes.knows h);
            few = λ h. second.goes.few (first.goes.few h);
          })
          (λ h. has ya yb (arm known a n ya i first (second.goes.knows h)) (arm known b i yb j second h)) e

  -- a call of a function that bears locks
  entered_call : (named : List ℕ → Bool) → IsSound code above named → (known : Constants) (line : ℕ) (target : Option Place) (name : List ℕ) (args : Exprs) (n : List ℕ) (xs : Parts) (m : List ℕ)
      → named name ≡ true → IsTarget writes target → above.bears name ≡ true
      → then_walk (above.enter name (constants_of known args) n) (λ f j. one (outline.Inner line f.context f.body) j) ≡ Found xs m
      → StandsOne code writes known (Call line target name args) n xs m
  entered_call named sound known line target name args n xs m ok target_in bears e =
      found_behind (above.enter name (constants_of known args) n) (λ f j. one (outline.Inner line f.context f.body) j) xs m e
      (λ f j ef e1. made f j (sound.enters name ok (constants_of known args) n f j ef) e1)
    where
      made : (f : Thread) (j : List ℕ) → IsEntered code name (constants_of known args) n f j → Found (part (outline.Inner line f.context f.body)) j ≡ Found xs m
          → StandsOne code writes known (Call line target name args) n xs m
      made f j r e = one_part known (Call line target name args) (outline.Inner line f.context f.body) n j xs m
          (record { numbered = ((r.context, r.numbered), tt); behind = r.behind; knows = r.knows; few = r.few })
          (λ h. let th = r.thread h in enters line f.context th.place target name args th.f (sym (sound.bears name ok) ∙ bears) target_in th.is
          (subst (λ k. code.context k ≡ Some th.place) (sym th.context) th.known) th.outlined) e

  call_stands : (named : List ℕ → Bool) → IsSound code above named → (known : Constants) (line : ℕ) (target : Option Place) (name : List ℕ) (args : Exprs) (n : List ℕ) (xs : Parts) (m : List ℕ)
      → named name ≡ true → IsTarget writes target → (b : Bool) → above.bears name ≡ b
      → (if b then then_walk (above.enter name (constants_of known args) n) (λ f j. one (outline.Inner line f.context f.body) j) else one (outline.Step line) n) ≡ Found xs m
      → StandsOne code writes known (Call line target name args) n xs m
  call_stands named sound known line target name args n xs m ok target_in true is e = entered_call named sound known line target name args n xs m ok target_in is e
  call_stands named sound known line target name args n xs m ok target_in false is e =
      flat_part known (Call line target name args) (outline.Step line) n xs m tt refl (steps (Call line target name args) (sym (sound.bears name ok) ∙ is, target_in)) e

  -- a loop
  while_stands : (known : Constants) (line : ℕ) (test : Expr) (body : Stmts) (n : List ℕ) (xs : Parts) (m : List ℕ)
      → ((ys : Parts) (l : List ℕ) → walk_all (scene_of code above writes) (known_in known body) body n ≡ Found ys l → Stands code writes (known_in known body) body n ys l)
      → then_walk (walk_all (scene_of code above writes) (known_in known body) body n) (λ ys l. one (outline.Loop line ys) l) ≡ Found xs m
      → StandsOne code writes known (While line test body) n xs m
  while_stands known line test body n xs m go e =
      found_behind (walk_all (scene_of code above writes) (known_in known body) body n) (λ ys l. one (outline.Loop line ys) l) xs m e
      (λ ys l eb e1. made ys l (go ys l eb) e1)
    where
      made : (ys : Parts) (l : List ℕ) → Stands code writes (known_in known body) body n ys l → Found (part (outline.Loop line ys)) l ≡ Found xs m → StandsOne code writes known (While line test body) n xs m
      made ys l r e = one_part known (While line test body) (outline.Loop line ys) n l xs m (goes_inside code n ys l (outline.Loop line ys) r.goes (λ h. h) refl)
          (λ h. loops line test (arm (known_in known body) body n ys l r h)) e

  abbrev for_parts : ℕ → Parts → Parts
  for_parts line ys = outline.Cons (outline.Step line) (part (outline.Loop line ys))

  for_stands : (known : Constants) (line : ℕ) (first_part : Stmts) (test : Expr) (step body : Stmts) (n : List ℕ) (xs : Parts) (m : List ℕ) → IsFirst writes first_part
      → ((ys : Parts) (l : List ℕ) → walk_all (scene_of code above writes) (known_turn writes known first_part step body) body n ≡ Found ys l
      → Stands code writes (known_turn writes known first_part step body) body n ys l)
      → ((i : List ℕ) (ys : Parts) (l : List ℕ) → walk_all (scene_of code above writes) (known_end writes (known_turn writes known first_part step body) body) step i ≡ Found ys l
      → Stands code writes (known_end writes (known_turn writes known first_part step body) body) step i ys l)
      → walk (scene_of code above writes) known (For line first_part test step body) n ≡ Found xs m
      → StandsOne code writes known (For line first_part test step body) n xs m
  for_stands known line first_part test step body n xs m first_ok go_body go_step e =
      let turn : Constants = known_turn writes known first_part step body in
      found_behind (walk_all (scene_of code above writes) turn body n)
      (λ ya i. then_walk (walk_all (scene_of code above writes) (known_end writes turn body) step i) (λ yb j. Found (for_parts line (joined ya yb)) j)) xs m e
      (λ ya i ea e1. found_behind (walk_all (scene_of code above writes) (known_end writes turn body) step i) (λ yb j. Found (for_parts line (joined ya yb)) j) xs m e1
      (λ yb j eb e2. carry (λ ys l. StandsOne code writes known (For line first_part test step body) n ys l) (for_parts line (joined ya yb)) xs j m e2
      (made ya i yb j (go_body ya i ea) (go_step i yb j eb))))
    where
      made : (ya : Parts) (i : List ℕ) (yb : Parts) (j : List ℕ) → Stands code writes (known_turn writes known first_part step body) body n ya i
          → Stands code writes (known_end writes (known_turn writes known first_part step body) body) step i yb j
          → StandsOne code writes known (For line first_part test step body) n (for_parts line (joined ya yb)) j
      made ya i yb j first second =
          let both : Goes code n (joined ya yb) j = goes_on code n i ya yb j first.goes second.goes in
          record {
            goes = record { numbered = (tt, (both.numbered, tt)); behind = both.behind; knows = both.knows; few = both.few };
            outlined = λ h ends rest ys there. counts line test first_ok
                (outlined_before code writes (known_turn writes known first_part step body) (known_turn writes known first_part step body)
                (known_end writes (known_turn writes known first_part step body) body) None body step ya yb
                (arm (known_turn writes known first_part step body) body n ya i first (second.goes.knows h)) (λ name z e. e)
                (arm (known_end writes (known_turn writes known first_part step body) body) step i yb j second h) (λ name z e. e)) there;
          }

  -- ---- lists

  stands_nil : (known : Constants) (n : List ℕ) → Stands code writes known Nil n outline.Nil n
  stands_nil known n = record { goes = goes_nowhere code n; outlined = λ h ends. over ends }

  stands_cons : (known : Constants) (s : Stmt) (rest : Stmts) (n : List ℕ) (xs : Parts) (k : List ℕ) (ys : Parts) (m : List ℕ) → StandsOne code writes known s n xs k
      → Stands code writes (known_after writes known s) rest k ys m → Stands code writes known (Cons s rest) n (joined xs ys) m
  stands_cons known s rest n xs k ys m first second = record {
    goes = goes_on code n k xs ys m first.goes second.goes;
    outlined = λ h ends. subst (λ zs. Outlined code writes known ends (Cons s rest) zs) (sym (joined_again xs ys (end_parts ends)))
        (first.outlined (second.goes.knows h) ends rest (joined ys (end_parts ends)) (second.outlined h ends));
  }

  mutual
    -- a statement
    pub walk_one : (named : List ℕ → Bool) → IsSound code above named → (s : Stmt) (known : Constants) (n : List ℕ) (xs : Parts) (m : List ℕ)
        → IsSteady code.program named writes (bare_stmt s) → EverywhereInside (IsSteady code.program named writes) (bare_stmt s)
        → walk (scene_of code above writes) known s n ≡ Found xs m → StandsOne code writes known s n xs m
    walk_one named sound (Declare line name v) known n xs m own inside e = flat_part known (Declare line name v) (outline.Step line) n xs m tt refl (steps (Declare line name v) tt) e
    walk_one named sound (Assign line target v) known n xs m own inside e = flat_part known (Assign line target v) (outline.Step line) n xs m tt refl (steps (Assign line target v) own) e
    walk_one named sound (Call line target name args) known n xs m own inside e = call_stands named sound known line target name args n xs m own.0 own.1 (above.bears name) refl e
    walk_one named sound (If line test a b) known n xs m own inside e =
        two_arms known (If line test a b) a b (λ ya yb. outline.Branch line ya yb) n xs m (λ ya yb i h. h) (λ ya yb i. refl) (λ ya yb oa ob. branches line test oa ob)
        (λ i ys l. walk_list named sound a known i ys l inside.0) (λ i ys l. walk_list named sound b known i ys l inside.1) e
    walk_one named sound (While line test body) known n xs m own inside e = while_stands known line test body n xs m (λ ys l. walk_list named sound body (known_in known body) n ys l inside) e
    walk_one named sound (For line first_part test step body) known n xs m own inside e =
        for_stands known line first_part test step body n xs m (first_is code.program named writes first_part own inside.0)
        (λ ys l. walk_list named sound body (known_turn writes known first_part step body) n ys l inside.2)
        (λ i ys l. walk_list named sound step (known_end writes (known_turn writes known first_part step body) body) i ys l inside.1) e
    walk_one named sound (Return line v) known n xs m own inside e = flat_part known (Return line v) (outline.Leave line) n xs m tt refl (leaves line v) e
    walk_one named sound (Read line target) known n xs m own inside e = flat_part known (Read line target) (outline.Step line) n xs m tt refl (steps (Read line target) own) e
    walk_one named sound (Print line format args) known n xs m own inside e = flat_part known (Print line format args) (outline.Step line) n xs m tt refl (steps (Print line format args) tt) e
    walk_one named sound (Create line slot name arg) known n xs m own inside e = flat_part known (Create line slot name arg) (outline.Step line) n xs m tt refl (steps (Create line slot name arg) own) e
    walk_one named sound (Join line slot) known n xs m own inside e = flat_part known (Join line slot) (outline.Join line) n xs m tt refl (joins line slot) e
    walk_one named sound (InitMutex line place) known n xs m own inside e = flat_part known (InitMutex line place) (outline.Step line) n xs m tt refl (steps (InitMutex line place) tt) e
    walk_one named sound (InitCond line place) known n xs m own inside e = flat_part known (InitCond line place) (outline.Step line) n xs m tt refl (steps (InitCond line place) tt) e
    walk_one named sound (Lock line place) known n xs m own inside e =
        found_at line (resolved code.program known place) (λ r. one (outline.Acquire line r) n) xs m e
        (λ r is there. flat_part known (Lock line place) (outline.Acquire line r) n xs m tt refl (locks line r place is) there)
    walk_one named sound (TryLock line place a b) known n xs m own inside e =
        found_at line (resolved code.program known place)
        (λ r. then_walk (walk_all (scene_of code above writes) known a n) (λ ya i. then_walk (walk_all (scene_of code above writes) known b i) (λ yb j. one (outline.Try line r ya yb) j))) xs m e
        (λ r is there. two_arms known (TryLock line place a b) a b (λ ya yb. outline.Try line r ya yb) n xs m (λ ya yb i h. h) (λ ya yb i. refl) (λ ya yb oa ob. tries line r place is oa ob)
        (λ i ys l. walk_list named sound a known i ys l inside.0) (λ i ys l. walk_list named sound b known i ys l inside.1) there)
    walk_one named sound (Unlock line place) known n xs m own inside e =
        found_at line (resolved code.program known place) (λ r. one (outline.Release line r) n) xs m e
        (λ r is there. flat_part known (Unlock line place) (outline.Release line r) n xs m tt refl (unlocks line r place is) there)
    walk_one named sound (Wait line cond place cs) known n xs m own inside e =
        found_at line (resolved code.program known place) (λ r. one (outline.Wait line r (map (monitor_resource code.program) cs)) n) xs m e
        (λ r is there. flat_part known (Wait line cond place cs) (outline.Wait line r (map (monitor_resource code.program) cs)) n xs m tt refl (waits line r cond place cs is) there)
    walk_one named sound (Signal line cond) known n xs m own inside e = flat_part known (Signal line cond) (outline.Step line) n xs m tt refl (steps (Signal line cond) tt) e
    walk_one named sound (Broadcast line cond) known n xs m own inside e = flat_part known (Broadcast line cond) (outline.Step line) n xs m tt refl (steps (Broadcast line cond) tt) e
    walk_one named sound (Take line k) known n xs m own inside e = flat_part known (Take line k) (outline.Acquire line (monitor_resource code.program k)) n xs m tt refl (takes line k) e
    walk_one named sound (Give line k) known n xs m own inside e = flat_part known (Give line k) (outline.Release line (monitor_resource code.program k)) n xs m tt refl (gives line k) e

    -- a list of statements
    pub walk_list : (named : List ℕ → Bool) → IsSound code above named → (ss : Stmts) (known : Constants) (n : List ℕ) (xs : Parts) (m : List ℕ) → Steady code.program named writes ss
        → walk_all (scene_of code above writes) known ss n ≡ Found xs m → Stands code writes known ss n xs m
    walk_list named sound Nil known n xs m all e = carry (λ ys l. Stands code writes known Nil n ys l) outline.Nil xs n m e (stands_nil known n)
    walk_list named sound (Cons s rest) known n xs m all e =
        found_behind (walk (scene_of code above writes) known s n) (λ ys k. then_walk (walk_all (scene_of code above writes) (known_after writes known s) rest k) (λ zs l. Found (joined ys zs) l)) xs m e
        (λ ys k e1 e2. found_behind (walk_all (scene_of code above writes) (known_after writes known s) rest k) (λ zs l. Found (joined ys zs) l) xs m e2
        (λ zs l e3 e4. carry (λ ws i. Stands code writes known (Cons s rest) n ws i) (joined ys zs) xs l m e4
        (stands_cons known s rest n ys k zs l (walk_one named sound s known n ys k all.0 all.1 e1) (walk_list named sound rest (known_after writes known s) k zs l all.2 e3))))
