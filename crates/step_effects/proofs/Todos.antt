-- What holds of each statement of each function holds of each that is still to do.
use Rattle.std.proofs.Common.{◌≡◌, ℕ, zero, suc, List, [], ◌∷◌, replicate, Option, Some, None, refl, sym, subst}
use Rattle.std.specs.Prelude.{ℤ, slice_get, length, unwrap_or, option_map}
use Rattle.std.proofs.lemmas.Option.{same_Some}
use Rattle.std.specs.FinMap as finite
use Rattle.c_tree.specs.Expressions.{Expr}
use Rattle.c_tree.specs.Bare as bare
use Rattle.c_tree.specs.Bare.{Stmt, Stmts, Nil, Cons, Function, Program, before}
use Rattle.c_tree.specs.Everywhere.{Everywhere}
use Rattle.c_tree.specs.Numbering.{function_named, main_name, main_body, creations}
use Rattle.c_meaning.specs.State.{Frame, Status, NotBegun, Running, State, frame, start}
use Rattle.c_meaning.specs.Branching.{loop_of}
use Rattle.c_meaning.specs.Run.{Reached}
use Rattle.step_effects.specs.Turns.{Onward, Goes, TurnsAlone, Turns}
use Rattle.step_effects.specs.Effects.{Effect}
use Rattle.step_effects.specs.Todos.{HoldsInBodies, HoldsInFrames, HoldsInStatus, HoldsInTodos, TodosAreOfBodies}
use Rattle.step_effects.proofs.Turning.{all_turn}
use Rattle.step_effects.proofs.Reaching.{keeps_in_reached, keeps_each}

pub everywhere_before : (P : Stmt → Type 0) (a rest : Stmts) → Everywhere P a → Everywhere P rest → Everywhere P (before a rest)
everywhere_before P Nil rest first more = more
everywhere_before P (Cons s a) rest first more = (first.0, first.1, everywhere_before P a rest first.2 more)

-- all threads but the first have not begun
pub not_begun : (n u : ℕ) (x : Status) → slice_get (replicate n NotBegun) u ≡ Some x → x ≡ NotBegun
not_begun zero u x e = absurd (cc e)
not_begun (suc n) zero x e = sym (same_Some NotBegun x e)
not_begun (suc n) (suc u) x e = not_begun n u x e

module _ (P : Stmt → Type 0) (loops : (first_part step body : Stmts) (test : Expr) → P (bare.For first_part test step body) → P (loop_of test step body)) where
  pub onward_holds : (s : Stmt) (rest next : Stmts) → Onward s rest next → Everywhere P (Cons s rest) → Everywhere P next
  onward_holds s rest next (Onward.past a left simple) h = h.2
  onward_holds s rest next (Onward.then_arm test a b left) h = everywhere_before P a left h.1.0 h.2
  onward_holds s rest next (Onward.else_arm test a b left) h = everywhere_before P b left h.1.1 h.2
  onward_holds s rest next (Onward.around test body left) h = everywhere_before P body (Cons (bare.While test body) left) h.1 h
  onward_holds s rest next (Onward.out test body left) h = h.2
  onward_holds s rest next (Onward.loop first_part test step body left) h =
      (loops first_part step body test h.0, everywhere_before P body step h.1.2 h.1.1, h.2)
  onward_holds s rest next (Onward.taken_arm place a b left) h = everywhere_before P a left h.1.0 h.2
  onward_holds s rest next (Onward.busy_arm place a b left) h = everywhere_before P b left h.1.1 h.2

  module _ (p : Program) where
    -- where the functions that are called hold it too
    pub goes_hold : ((name : List ℕ) (f : Function) → function_named p name ≡ Some f → Everywhere P f.body) → (frames next : List Frame) → Goes p frames next → HoldsInFrames P frames → HoldsInFrames P next
    goes_hold bodies frames next (Goes.onward l m s rest left more on) h = (onward_holds s rest left on h.0, h.1)
    goes_hold bodies frames next (Goes.enters l target name args rest more f values named) h = (bodies name f named, h)
    goes_hold bodies frames next (Goes.leaves newest l m target name args rest more) h = (h.1.0.2, h.1.1)

    pub alone_holds : ((name : List ℕ) (f : Function) → function_named p name ≡ Some f → Everywhere P f.body) → (x y : Status) → TurnsAlone p x y → HoldsInStatus P x → HoldsInStatus P y
    alone_holds bodies x y (TurnsAlone.stays z) h = h
    alone_holds bodies x y (TurnsAlone.goes frames next g) h = goes_hold bodies frames next g h
    alone_holds bodies x y (TurnsAlone.ends newest) h = tt
    alone_holds bodies x y (TurnsAlone.waits l cond place takes rest more c m below) h = h
    alone_holds bodies x y (TurnsAlone.wakes c m frames) h = h
    alone_holds bodies x y (TurnsAlone.takes_again m k takes frames) h = h
    alone_holds bodies x y (TurnsAlone.retakes m l cond place takes rest more) h = (h.0.2, h.1)

module _ (p : Program) (P : Stmt → Type 0) (law : HoldsInBodies p P) where
  turns_hold : (x y : Status) → Turns p x y → HoldsInStatus P x → HoldsInStatus P y
  turns_hold x y (Turns.alone a b turn) h = alone_holds P law.loops p law.bodies a b turn h
  turns_hold x y (Turns.creates l slot name arg rest more) h = (h.0.2, h.1)
  turns_hold x y (Turns.begins name f values named) h = (law.bodies name f named, tt)

  main_holds : (o : Option Function) → function_named p main_name ≡ o → Everywhere P (unwrap_or (option_map (λ f. f.body) o) Nil)
  main_holds None e = tt
  main_holds (Some f) e = law.bodies main_name f e

  pub start_holds : (input : List ℤ) → HoldsInTodos P (start p input)
  start_holds input zero x e =
      subst (HoldsInStatus P) (same_Some (Running (frame finite.empty (main_body p) ∷ [])) x e) (main_holds (function_named p main_name) refl, tt)
  start_holds input (suc u) x e = subst (HoldsInStatus P) (sym (not_begun (length (creations p)) u x e)) tt

  pub keeps_todos : (s : State) (t : ℕ) (next : State) → Effect p s t next → HoldsInTodos P s → HoldsInTodos P next
  keeps_todos s t next effect h = keeps_each (Turns p) (HoldsInStatus P) turns_hold s next (all_turn p s t next effect) h

  pub holds_in_todos : (input : List ℤ) (s : State) → Reached p input s → HoldsInTodos P s
  holds_in_todos input s r = keeps_in_reached p (HoldsInTodos P) keeps_todos input s (start_holds input) r

pub todos_are_of_bodies : (P : Stmt → Type 0) → TodosAreOfBodies P
todos_are_of_bodies P p input s law r = holds_in_todos p P law input s r
