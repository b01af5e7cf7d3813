-- Each thread is created once.
use Rattle.std.proofs.Common.{◌≡◌, ◌≢◌, ℕ, zero, suc, ◌+◌, ◌<◌, ◌≤◌, List, [], ◌∷◌, ◌++◌, length, Option, Some, refl, sym, ap, ◌∙◌, subst, ⊎_elim, append_assoc, arith}
use Rattle.std.specs.Prelude.{ℤ, IsTrue, get_or, slice_get, slice_set}
use Rattle.std.specs.FinMap as finite
use Rattle.std.proofs.lemmas.List.{length-append}
use Rattle.std.proofs.lemmas.Option.{same_Some, slice_get_within, slice_get-get_or}
use Rattle.c_tree.specs.Expressions.{Expr, Exprs, Place}
use Rattle.c_tree.specs.Bare as bare
use Rattle.c_tree.specs.Bare.{Stmt, Stmts, Nil, Cons, Function, Program, before}
use Rattle.c_tree.specs.Everywhere.{Everywhere}
use Rattle.c_tree.specs.Numbering.{Creation, creations_of, creations, main_name, main_body, thread_in}
use Rattle.c_meaning.specs.State.{Locals, Frame, Status, NotBegun, Running, Waiting, Reacquiring, Ended, State, frame, start}
use Rattle.c_meaning.specs.Branching.{loop_of}
use Rattle.c_meaning.specs.Calls.{passed}
use Rattle.c_meaning.proofs.Reading.{read_after}
use Rattle.step_effects.specs.Turns.{is_simple, Onward, Goes, TurnsAlone, EachTurns}
use Rattle.step_effects.specs.Effects.{Is, Effect}
use Rattle.step_effects.specs.Todos.{HoldsInBodies, HoldsInFrames, HoldsInStatus, HoldsInTodos}
use Rattle.step_effects.proofs.Turning.{Begins, turns_of}
use Rattle.step_effects.proofs.Reaching.{keeps_in_reached, keeps_one}
use Rattle.step_effects.proofs.Todos.{onward_holds, alone_holds, keeps_todos, start_holds, not_begun}
use Rattle.reached_states.specs.Creating.{CreatesNone, CreatesItself, NamesOthers, CreatesInMain, CreatesAreFresh}
use Rattle.reached_states.proofs.Lengths.{reached_have_lengths}

-- ---- main's own list, and what is put before it

-- what a list of its own creates, behind statements that create nothing
creates_behind : (a rest : Stmts) → Everywhere CreatesNone a → creations_of (before a rest) ≡ creations_of rest
creates_behind Nil rest none = refl
creates_behind (Cons (bare.Create slot name arg) a) rest none = absurd none.0
creates_behind (Cons s a) rest none = creates_behind a rest none.2

itself_behind : (a rest : Stmts) → Everywhere CreatesNone a → CreatesItself rest → CreatesItself (before a rest)
itself_behind Nil rest none own = own
itself_behind (Cons s a) rest none own = (none.1, itself_behind a rest none.2 own)

none_before : (a b : Stmts) → Everywhere CreatesNone a → Everywhere CreatesNone b → Everywhere CreatesNone (before a b)
none_before Nil b first more = more
none_before (Cons s a) b first more = (first.0, first.1, none_before a b first.2 more)

simple_creates : (s : Stmt) (rest : Stmts) → IsTrue (is_simple s) → creations_of (Cons s rest) ≡ creations_of rest
simple_creates (bare.Create slot name arg) rest simple = absurd (cc simple)
simple_creates s rest simple = refl

-- what is still to create of main's own list, and what of it stays so
abbrev LeavesTo : Stmts → Stmts → Type 0
LeavesTo todo next = CreatesItself todo → CreatesItself next × (creations_of next ≡ creations_of todo)

onward_leaves : (s : Stmt) (rest next : Stmts) → Onward s rest next → LeavesTo (Cons s rest) next
onward_leaves s rest next (Onward.past a left simple) own = (own.1, sym (simple_creates a left simple))
onward_leaves s rest next (Onward.then_arm test a b left) own = (itself_behind a left own.0.0 own.1, creates_behind a left own.0.0)
onward_leaves s rest next (Onward.else_arm test a b left) own = (itself_behind b left own.0.1 own.1, creates_behind b left own.0.1)
onward_leaves s rest next (Onward.around test body left) own =
    (itself_behind body (Cons (bare.While test body) left) own.0 own, creates_behind body (Cons (bare.While test body) left) own.0)
onward_leaves s rest next (Onward.out test body left) own = (own.1, refl)
onward_leaves s rest next (Onward.loop first_part test step body left) own = ((none_before body step own.0.2 own.0.1, own.1), refl)
onward_leaves s rest next (Onward.taken_arm place a b left) own = (itself_behind a left own.0.0 own.1, creates_behind a left own.0.0)
onward_leaves s rest next (Onward.busy_arm place a b left) own = (itself_behind b left own.0.1 own.1, creates_behind b left own.0.1)

-- ---- the frames of main

-- the oldest one has main's own list, which has these threads still to create; the others create none
abbrev InMain : List Creation → List Frame → Type 0
InMain left [] = ⊥
InMain left (f ∷ []) = CreatesItself f.todo × (creations_of f.todo ≡ left)
InMain left (f ∷ g ∷ more) = Everywhere CreatesNone f.todo × InMain left (g ∷ more)

abbrev MainStands : List Creation → Status → Type 0
MainStands left NotBegun = ⊥
MainStands left (Running frames) = InMain left frames
MainStands left (Waiting c m frames) = InMain left frames
MainStands left (Reacquiring m takes frames) = InMain left frames
MainStands left Ended = Unit {0}

no_loops : (first_part step body : Stmts) (test : Expr) → CreatesNone (bare.For first_part test step body) → CreatesNone (loop_of test step body)
no_loops first_part step body test none = none

module _ (p : Program) (law : CreatesInMain p) (left : List Creation) where
  goes_onward : (l m : Locals) (s : Stmt) (rest next : Stmts) (more : List Frame) → Onward s rest next → InMain left (frame l (Cons s rest) ∷ more) → InMain left (frame m next ∷ more)
  goes_onward l m s rest next [] on h = let leaves = onward_leaves s rest next on h.0 in (leaves.0, leaves.1 ∙ h.1)
  goes_onward l m s rest next (g ∷ more) on h = (onward_holds CreatesNone no_loops s rest next on h.0, h.1)

  drops : (l m : Locals) (target : Option Place) (name : List ℕ) (args : Exprs) (rest : Stmts) (more : List Frame)
      → InMain left (frame l (Cons (bare.Call target name args) rest) ∷ more) → InMain left (frame m rest ∷ more)
  drops l m target name args rest [] h = (h.0.1, h.1)
  drops l m target name args rest (g ∷ more) h = (h.0.2, h.1)

  drops_wait : (l m : Locals) (cond place : Place) (takes : List ℕ) (rest : Stmts) (more : List Frame)
      → InMain left (frame l (Cons (bare.Wait cond place takes) rest) ∷ more) → InMain left (frame m rest ∷ more)
  drops_wait l m cond place takes rest [] h = (h.0.1, h.1)
  drops_wait l m cond place takes rest (g ∷ more) h = (h.0.2, h.1)

  main_goes : (frames next : List Frame) → Goes p frames next → HoldsInFrames NamesOthers frames → InMain left frames → InMain left next
  main_goes frames next (Goes.onward l m s rest todo more on) names h = goes_onward l m s rest todo more on h
  main_goes frames next (Goes.enters l target name args rest more f values named) names h = (law.others name f named names.0.0, h)
  main_goes frames next (Goes.leaves newest l m target name args rest more) names h = drops l m target name args rest more h.1

  main_stands : (x y : Status) → TurnsAlone p x y → HoldsInStatus NamesOthers x → MainStands left x → MainStands left y
  main_stands x y (TurnsAlone.stays z) names h = h
  main_stands x y (TurnsAlone.goes frames next g) names h = main_goes frames next g names h
  main_stands x y (TurnsAlone.ends newest) names h = tt
  main_stands x y (TurnsAlone.waits l cond place takes rest more c m below) names h = h
  main_stands x y (TurnsAlone.wakes c m frames) names h = h
  main_stands x y (TurnsAlone.takes_again m k takes frames) names h = h
  main_stands x y (TurnsAlone.retakes m l cond place takes rest more) names h = drops_wait l l cond place takes rest more h

-- ---- the frames of other threads

module _ (p : Program) (law : CreatesInMain p) where
  other_goes : (frames next : List Frame) → Goes p frames next → HoldsInFrames NamesOthers frames → HoldsInFrames CreatesNone frames → HoldsInFrames CreatesNone next
  other_goes frames next (Goes.onward l m s rest todo more on) names h = (onward_holds CreatesNone no_loops s rest todo on h.0, h.1)
  other_goes frames next (Goes.enters l target name args rest more f values named) names h = (law.others name f named names.0.0, h)
  other_goes frames next (Goes.leaves newest l m target name args rest more) names h = (h.1.0.2, h.1.1)

  other_stands : (x y : Status) → TurnsAlone p x y → HoldsInStatus NamesOthers x → HoldsInStatus CreatesNone x → HoldsInStatus CreatesNone y
  other_stands x y (TurnsAlone.stays z) names h = h
  other_stands x y (TurnsAlone.goes frames next g) names h = other_goes frames next g names h
  other_stands x y (TurnsAlone.ends newest) names h = tt
  other_stands x y (TurnsAlone.waits l cond place takes rest more c m below) names h = h
  other_stands x y (TurnsAlone.wakes c m frames) names h = h
  other_stands x y (TurnsAlone.takes_again m k takes frames) names h = h
  other_stands x y (TurnsAlone.retakes m l cond place takes rest more) names h = (h.0.2, h.1)

stays_fresh : (p : Program) (x y : Status) → TurnsAlone p x y → x ≡ NotBegun → y ≡ NotBegun
stays_fresh p x y (TurnsAlone.stays z) e = e
stays_fresh p x y (TurnsAlone.goes frames next g) e = absurd (cc e)
stays_fresh p x y (TurnsAlone.ends newest) e = absurd (cc e)
stays_fresh p x y (TurnsAlone.waits l cond place takes rest more c m below) e = absurd (cc e)
stays_fresh p x y (TurnsAlone.wakes c m frames) e = absurd (cc e)
stays_fresh p x y (TurnsAlone.takes_again m k takes frames) e = absurd (cc e)
stays_fresh p x y (TurnsAlone.retakes m l cond place takes rest more) e = absurd (cc e)

-- ---- what is read of threads behind two writes

data Read (threads : List Status) (t u : ℕ) (y w : Status) (v : ℕ) (x : Status) : Type 0 where
  new : v ≡ u → x ≡ w → Read threads t u y w v x
  here : v ≡ t → x ≡ y → Read threads t u y w v x
  old : v ≢ u → v ≢ t → slice_get threads v ≡ Some x → Read threads t u y w v x

reads : (threads : List Status) (t u : ℕ) (y w : Status) (v : ℕ) (x : Status) → slice_get (slice_set (slice_set threads t y) u w) v ≡ Some x → Read threads t u y w v x
reads threads t u y w v x e = ⊎_elim
    (λ first. Read.new first.0 first.1)
    (λ other. ⊎_elim (λ second. Read.here second.0 second.1) (λ more. Read.old other.0 more.0 more.1) (read_after threads t y v x other.1))
    (read_after (slice_set threads t y) u w v x e)

-- ---- what was created, and what is left

record Creating (p : Program) (s : State) : Type 0 where
  made : List Creation
  left : List Creation
  whole : made ++ left ≡ creations p
  names : HoldsInTodos NamesOthers s
  main : (x : Status) → slice_get s.threads 0 ≡ Some x → MainStands left x
  others : (u : ℕ) (x : Status) → slice_get s.threads (suc u) ≡ Some x → HoldsInStatus CreatesNone x
  fresh : (k : ℕ) (x : Status) → length made ≤ k → slice_get s.threads (suc k) ≡ Some x → x ≡ NotBegun

in_middle : {X : Type 0} (xs : List X) (y : X) (ys : List X) → slice_get (xs ++ y ∷ ys) (length xs) ≡ Some y
in_middle [] y ys = refl
in_middle (x ∷ xs) y ys = in_middle xs y ys

-- the names that statements use are those of functions but main
abbrev names_law : (p : Program) → CreatesInMain p → HoldsInBodies p NamesOthers
names_law p law = record { bodies = law.named; loops = λ first_part step body test h. h }

-- a thread that stands at a create statement is main, in its own list, and creates the next thread
record Next (p : Program) (s : State) (h : Creating p s) (t : ℕ) (slot : Place) (name : List ℕ) (arg : Expr) (rest : Stmts) (more : List Frame) : Type 0 where
  main : t ≡ 0
  alone : more ≡ []
  own : CreatesItself rest
  first : record { slot = slot; function = name; arg = arg } ∷ creations_of rest ≡ h.left
  at : slice_get (creations p) (length h.made) ≡ Some (record { slot = slot; function = name; arg = arg })
  thread : thread_in p slot ≡ Some (suc (length h.made))

module _ (p : Program) (law : CreatesInMain p) (s : State) (h : Creating p s) where
  next_of : (t : ℕ) (l : Locals) (slot : Place) (name : List ℕ) (arg : Expr) (rest : Stmts) (more : List Frame) → Is s t (Running (frame l (Cons (bare.Create slot name arg) rest) ∷ more))
      → Next p s h t slot name arg rest more
  next_of (suc t) l slot name arg rest more is = absurd ((h.others t (Running (frame l (Cons (bare.Create slot name arg) rest) ∷ more)) is).0.0)
  next_of zero l slot name arg rest (g ∷ more) is = absurd ((h.main (Running (frame l (Cons (bare.Create slot name arg) rest) ∷ g ∷ more)) is).0.0)
  next_of zero l slot name arg rest [] is =
      let c : Creation = record { slot = slot; function = name; arg = arg } in
      let m = h.main (Running (frame l (Cons (bare.Create slot name arg) rest) ∷ [])) is in
      let all : h.made ++ (c ∷ creations_of rest) ≡ creations p = ap (λ cs. h.made ++ cs) m.1 ∙ h.whole in
      let there : slice_get (creations p) (length h.made) ≡ Some c = subst (λ cs. slice_get cs (length h.made) ≡ Some c) all (in_middle h.made c (creations_of rest)) in
      let one_more : length h.made + 1 ≡ suc (length h.made) = omega arith in
      record { main = refl; alone = refl; own = m.0.1; first = m.1; at = there; thread = law.slots (length h.made) c there ∙ ap Some one_more }

  -- where each thread turns by itself
  alone_keeps : (t : ℕ) (next : State) → Effect p s t next → EachTurns (TurnsAlone p) s next → Creating p next
  alone_keeps t next effect turns =
      let names = keeps_todos p NamesOthers (names_law p law) s t next effect h.names in
      record {
        made = h.made;
        left = h.left;
        whole = h.whole;
        names = names;
        main = λ y there. (keeps_one (TurnsAlone p) (λ x. HoldsInStatus NamesOthers x × MainStands h.left x)
            (λ x z turn both. (alone_holds NamesOthers (λ first_part step body test none. none) p law.named x z turn both.0, main_stands p law h.left x z turn both.0 both.1))
            s next turns 0 (λ x e. (h.names 0 x e, h.main x e)) y there).1;
        others = λ u y there. (keeps_one (TurnsAlone p) (λ x. HoldsInStatus NamesOthers x × HoldsInStatus CreatesNone x)
            (λ x z turn both. (alone_holds NamesOthers (λ first_part step body test none. none) p law.named x z turn both.0, other_stands p law x z turn both.0 both.1))
            s next turns (suc u) (λ x e. (h.names (suc u) x e, h.others u x e)) y there).1;
        fresh = λ k y low there. keeps_one (TurnsAlone p) (λ x. x ≡ NotBegun) (stays_fresh p) s next turns (suc k) (λ x e. h.fresh k x low e) y there;
      }

  -- where one begins another
  begins_keeps : (t : ℕ) (next : State) → Effect p s t next → Begins p s t next → Creating p next
  begins_keeps t next effect b =
      let c : Creation = record { slot = b.slot; function = b.name; arg = b.arg } in
      let here : Status = Running (frame b.locals b.rest ∷ b.more) in
      let new : Status = Running (frame (passed b.function.params b.values) b.function.body ∷ []) in
      let n = next_of t b.locals b.slot b.name b.arg b.rest b.more b.runs in
      let other_is : b.other ≡ suc (length h.made) = same_Some b.other (suc (length h.made)) (sym b.thread ∙ n.thread) in
      let named_other : b.name ≢ main_name = (h.names t (Running (frame b.locals (Cons (bare.Create b.slot b.name b.arg) b.rest) ∷ b.more)) b.runs).0.0 in
      let longer : length (h.made ++ c ∷ []) ≡ length h.made + 1 = length-append h.made (c ∷ []) in
      let read : (v : ℕ) (x : Status) → slice_get next.threads v ≡ Some x → Read s.threads t b.other here new v x
      = λ v x e. reads s.threads t b.other here new v x (ap (λ (ts : List Status). slice_get ts v) (sym b.threads) ∙ e) in
      record {
        made = h.made ++ c ∷ [];
        left = creations_of b.rest;
        whole = append_assoc h.made (c ∷ []) (creations_of b.rest) ∙ ap (λ cs. h.made ++ cs) n.first ∙ h.whole;
        names = keeps_todos p NamesOthers (names_law p law) s t next effect h.names;
        main = λ x e. main_of c n other_is x (read 0 x e);
        others = λ v x e. others_of named_other n v x (read (suc v) x e);
        fresh = λ k x low e. fresh_of other_is n k x (omega (arith, longer, low)) (read (suc k) x e);
      }
    where
      main_of : (c : Creation) → Next p s h t b.slot b.name b.arg b.rest b.more → b.other ≡ suc (length h.made) → (x : Status)
          → Read s.threads t b.other (Running (frame b.locals b.rest ∷ b.more)) (Running (frame (passed b.function.params b.values) b.function.body ∷ [])) 0 x → MainStands (creations_of b.rest) x
      main_of c n is x (Read.new at e) = absurd (omega (arith, at, is))
      main_of c n is x (Read.here at e) = subst (MainStands (creations_of b.rest)) (sym e) (subst (λ more. InMain (creations_of b.rest) (frame b.locals b.rest ∷ more)) (sym n.alone) (n.own, refl))
      main_of c n is x (Read.old differs apart e) = absurd (apart (sym n.main))

      others_of : b.name ≢ main_name → Next p s h t b.slot b.name b.arg b.rest b.more → (v : ℕ) (x : Status)
          → Read s.threads t b.other (Running (frame b.locals b.rest ∷ b.more)) (Running (frame (passed b.function.params b.values) b.function.body ∷ [])) (suc v) x → HoldsInStatus CreatesNone x
      others_of other n v x (Read.new at e) = subst (HoldsInStatus CreatesNone) (sym e) (law.others b.name b.function b.named other, tt)
      others_of other n v x (Read.here at e) = let first = n.main in absurd (omega (arith, at, first))
      others_of other n v x (Read.old apart differs e) = h.others v x e

      fresh_of : b.other ≡ suc (length h.made) → Next p s h t b.slot b.name b.arg b.rest b.more → (k : ℕ) (x : Status) → length h.made + 1 ≤ k
          → Read s.threads t b.other (Running (frame b.locals b.rest ∷ b.more)) (Running (frame (passed b.function.params b.values) b.function.body ∷ [])) (suc k) x → x ≡ NotBegun
      fresh_of is n k x low (Read.new at e) = absurd (omega (arith, at, is, low))
      fresh_of is n k x low (Read.here at e) = let first = n.main in absurd (omega (arith, at, first))
      fresh_of is n k x low (Read.old apart differs e) = h.fresh k x (omega (arith, low)) e

  creating_keeps : (t : ℕ) (next : State) → Effect p s t next → Creating p next
  creating_keeps t next effect = ⊎_elim (alone_keeps t next effect) (begins_keeps t next effect) (turns_of p s t next effect)

start_creating : (p : Program) → CreatesInMain p → (input : List ℤ) → Creating p (start p input)
start_creating p law input = record {
  made = [];
  left = creations p;
  whole = refl;
  names = start_holds p NamesOthers (names_law p law) input;
  main = λ x e. subst (MainStands (creations p)) (same_Some (Running (frame finite.empty (main_body p) ∷ [])) x e) (law.own, refl);
  others = λ u x e. subst (HoldsInStatus CreatesNone) (sym (not_begun (length (creations p)) u x e)) tt;
  fresh = λ k x low e. not_begun (length (creations p)) k x e;
}

pub creates_are_fresh : CreatesAreFresh
creates_are_fresh p input s t l slot name arg rest more law r is =
    let h : Creating p s = keeps_in_reached p (Creating p) (λ old u next effect so_far. creating_keeps p law old so_far u next effect) input s (start_creating p law input) r in
    let n = next_of p law s h t l slot name arg rest more is in
    let u = suc (length h.made) in
    let lengths = (reached_have_lengths p input s r).threads in
    let within = slice_get_within (creations p) (length h.made) (record { slot = slot; function = name; arg = arg }) n.at in
    let few : u < length s.threads = omega (arith, lengths, within) in
    let there = slice_get-get_or s.threads u NotBegun few in
    (u, n.thread, there ∙ ap Some (h.fresh (length h.made) (get_or s.threads u NotBegun) (omega arith) there))
