-- Frames stand at calls and waits.
use Rattle.std.proofs.Common.{zero, suc, List, [], ◌∷◌, ◌++◌, refl, sym, ◌∙◌, subst, append_assoc}
use Rattle.std.specs.Prelude.{ℤ, length}
use Rattle.std.specs.FinMap as finite
use Rattle.std.proofs.lemmas.Option.{same_Some}
use Rattle.c_tree.specs.Bare.{Program}
use Rattle.c_tree.specs.Numbering.{creations, main_body}
use Rattle.c_meaning.specs.State.{Frame, Status, Running, frame, start}
use Rattle.step_effects.specs.Turns.{Goes, TurnsAlone, Turns}
use Rattle.step_effects.proofs.Turning.{all_turn}
use Rattle.step_effects.proofs.Reaching.{EachIs, keeps_in_reached, keeps_each}
use Rattle.step_effects.proofs.Todos.{not_begun}
use Rattle.reached_states.specs.Standing.{IsStack, Stands, ReachedStand}

module _ (p : Program) where
  goes_stack : (frames next : List Frame) → Goes p frames next → IsStack frames → IsStack next
  goes_stack frames next (Goes.onward l m s rest left more on) h = h
  goes_stack frames next (Goes.enters l target name args rest more f values named) h = (tt, h)
  goes_stack frames next (Goes.leaves newest l m target name args rest more) h = h.1

  alone_stands : (x y : Status) → TurnsAlone p x y → Stands p x → Stands p y
  alone_stands x y (TurnsAlone.stays z) h = h
  alone_stands x y (TurnsAlone.goes frames next g) h = goes_stack frames next g h
  alone_stands x y (TurnsAlone.ends newest) h = tt
  alone_stands x y (TurnsAlone.waits l cond place takes rest more c m below) h = (below, tt, h)
  alone_stands x y (TurnsAlone.wakes c m frames) h = (h.0, h.1, h.2, ([], refl))
  alone_stands x y (TurnsAlone.takes_again m k takes frames) h = let left = h.3 in (h.0, h.1, h.2, (left.0 ++ k ∷ [], append_assoc left.0 (k ∷ []) takes ∙ left.1))
  alone_stands x y (TurnsAlone.retakes m l cond place takes rest more) h = h.2

  stands : (x y : Status) → Turns p x y → Stands p x → Stands p y
  stands x y (Turns.alone a b turn) h = alone_stands a b turn h
  stands x y (Turns.creates l slot name arg rest more) h = h
  stands x y (Turns.begins name f values named) h = tt

  start_stands : (input : List ℤ) → EachIs (Stands p) (start p input)
  start_stands input zero x e = subst (Stands p) (same_Some (Running (frame finite.empty (main_body p) ∷ [])) x e) tt
  start_stands input (suc u) x e = subst (Stands p) (sym (not_begun (length (creations p)) u x e)) tt

pub reached_stand : ReachedStand
reached_stand p input s r =
    keeps_in_reached p (EachIs (Stands p)) (λ old t next effect h. keeps_each (Turns p) (Stands p) (stands p) old next (all_turn p old t next effect) h) input s (start_stands p input) r
