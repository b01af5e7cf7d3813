-- One turn of the loop over what stands outside functions.
use Rattle.std.proofs.Common.{◌≡◌, ℕ, ◌<◌, Bool, true, false, List, [], ◌∷◌, length, refl}
use Rattle.parse_laws.specs.Parser.{Got, Stop, and_then, refuse, commit, and_go, when, loop, pure}
use Rattle.parse_laws.proofs.Loops.{loop_next, loop_stops, loop_ends, choice_shorter}
use Rattle.c_expressions.specs.Parsers.{seen}
use Rattle.c_programs.specs.declared.token.Opening.{Opening}
use Rattle.c_programs.specs.declared.token.Opening.TheVariants as o
use Rattle.c_programs.specs.Words.{outer_opening, goes}
use Rattle.c_programs.specs.Parsers.{Views, Reading, read, turn_by, turn, outer_comes, static_added}
use Rattle.c_programs.proofs.Shorter.{turn_shrinks}

module _ {Token Definitions : Type 0} (views : Views Token Definitions) (room : ℕ) where
  static_goes : (r : Reading Definitions) (b : Bool) → b ≡ true → and_go (when b (static_added (views.sight r.defined) views.holds room r.program)) (λ p. pure (read r.defined p)) ≡ Stop → ⊥
  static_goes r true e d = cc
  static_goes r false e d = cc

  static_stops : (r : Reading Definitions) (b : Bool) → b ≡ false → and_go (when b (static_added (views.sight r.defined) views.holds room r.program)) (λ p. pure (read r.defined p)) ≡ Stop
  static_stops r false e = refl
  static_stops r true e = absurd cc

  turn_goes : (r : Reading Definitions) (u : Token) (x : Opening) → goes (views.sight r.defined).declarations x ≡ true → turn_by views room r u x ≡ Stop → ⊥
  turn_goes r u o.Static e d = static_goes r (views.sight r.defined).declarations e d
  turn_goes r u o.Other e d = cc
  turn_goes r u _ e d = cc

  turn_stops : (r : Reading Definitions) (u : Token) (x : Opening) → goes (views.sight r.defined).declarations x ≡ false → turn_by views room r u x ≡ Stop
  turn_stops r u o.Static e = static_stops r (views.sight r.defined).declarations e
  turn_stops r u o.Other e = refl
  turn_stops r u _ e = absurd cc

  pub outer_next : (r : Reading Definitions) (ts : List Token) → outer_comes (views.sight r.defined) ts ≡ true → loop (turn views room) r ts ≡ and_then (commit (turn views room r) refuse ts) (loop (turn views room))
  outer_next r [] b = absurd cc
  outer_next r (u ∷ rest) b = loop_next (turn views room) (turn_shrinks views room) r u rest (turn_goes r u (outer_opening (seen (views.sight r.defined) u)) b)

  pub outer_stops : (r : Reading Definitions) (ts : List Token) → outer_comes (views.sight r.defined) ts ≡ false → loop (turn views room) r ts ≡ Got r ts
  outer_stops r [] b = loop_ends (turn views room) r
  outer_stops r (u ∷ rest) b = loop_stops (turn views room) r u rest (turn_stops r u (outer_opening (seen (views.sight r.defined) u)) b)

  pub outer_shorter : (r more : Reading Definitions) (ts rest : List Token) → commit (turn views room r) refuse ts ≡ Got more rest → length rest < length ts
  outer_shorter r more ts rest e = choice_shorter (turn views room r) (turn_shrinks views room r) ts more rest e
