-- What a parser of a program leaves is an end of what it was given.
use Rattle.std.proofs.Common.{◌≡◌, ℕ, ◌<◌, ◌≤◌, Bool, true, List, [], ◌++◌, refl, sym, ap, subst, append_assoc, ◌∙◌, arith}
use Rattle.c_tree.specs.Lined.{Program}
use Rattle.c_grammar.specs.Levels.{Tall}
use Rattle.c_grammar.specs.Programs.{SpellsProgram}
use Rattle.parse_laws.specs.Parser.{Outcome, Got, Failed, Parser, and_then, pure, Move, Stop, Deep, Go}
use Rattle.parse_laws.proofs.Viable.{ViableMove, stops, sinks, goes, reads_of}
use Rattle.c_expressions.specs.Parsers.{Sight, seen}
use Rattle.c_declarations.specs.declared.tree.Begun.{Begun}
use Rattle.c_declarations.specs.declared.tree.Begun.TheVariants as begun
use Rattle.c_declarations.specs.Parsers.{line, behind_int, wait_declared}
use Rattle.c_declarations.proofs.Viable.{any, CapacityWords, behind_int_viable}
use Rattle.c_declarations.proofs.Waits.{wait_fronts}
use Rattle.c_fronts.specs.Fronts.{is_plain}
use Rattle.c_programs.specs.Words.{outer_opening}
use Rattle.c_programs.specs.Parsers.{Views, with_capacities, finished, ints_added, program}
use Rattle.c_programs.proofs.Sounds.{running, Fronts, FirstFronts, program_spelled}
use Rattle.c_programs.proofs.Viable.{Offers, added_local, outer_move}

move_fronts : {Token A : Type 0} {ends : Token → Bool} {r : ℕ} {k : ℕ → Move Token A} → ViableMove ends r k → (q : Parser Token A) → k r ≡ Go q → (mid rest : List Token) (x : A) → q mid ≡ Got x rest → (front : List Token) × (mid ≡ front ++ rest)
move_fronts {r = r} (stops f) q e mid rest x h = absurd (differs (sym (f r (omega arith)) ∙ e))
  where
    differs : Stop ≡ Go q → ⊥
    differs e = cc
move_fronts (sinks d s le p f live) q e mid rest x h = absurd (differs (sym d ∙ e))
  where
    differs : Deep ≡ Go q → ⊥
    differs e = cc
move_fronts {Token} {A} {r = r} (goes p f v) q e mid rest x h =
    let same : p r ≡ q = inside (p r) q (sym (f r (omega arith)) ∙ e) in
    let y = reads_of v.local mid x rest (subst (λ (z : Parser Token A). z mid ≡ Got x rest) (sym same) h) in
    (y.front, y.parts)
  where
    inside : (a b : Parser Token A) → Go a ≡ Go b → a ≡ b
    inside a b e = cc

module _ {Token Definitions : Type 0} (views : Views Token Definitions) (still : (d : Definitions) (u : Token) → is_plain ((views.sight d).item u) ≡ true → views.then d u ≡ d) (offers : (d : Definitions) → Offers (views.sight d) views.holds)
    (here : CapacityWords (views.sight views.none) (offers views.none).words) (r : ℕ) (some : 0 < r) where
  abbrev v0 : Sight Token
  v0 = views.sight views.none

  pub fronts : Fronts views still r
  fronts d p u q e mid rest x h =
      move_fronts (outer_move (views.sight d) views.holds (offers d) r some {ends = any (views.sight d)} p (line (views.sight d) u) u (outer_opening (seen (views.sight d) u)) refl) q e mid rest x h

  pub first_fronts : FirstFronts views still r
  unfolding ints_added
  first_fronts l p mid rest x h = go (behind_int v0 views.holds true l mid) refl h
    where
      finished_fronts : (y : Begun) (z : List Token) → finished v0 r p y z ≡ Got x rest → (front : List Token) × (z ≡ front ++ rest)
      finished_fronts (begun.Cells all) z e = ([], cc)
      finished_fronts (begun.Head h) z e = let y = reads_of (added_local v0 views.holds (offers views.none) r some {ends = any v0} p h) z x rest e in (y.front, y.parts)
      finished_fronts (begun.Capacities c) z e = declared (wait_declared v0 z) refl e
        where
          declared : (out : Outcome Token (Unit {0})) → wait_declared v0 z ≡ out → and_then out (λ _. pure (with_capacities p c)) ≡ Got x rest → (front : List Token) × (z ≡ front ++ rest)
          declared (Got y z2) d e = let same : z2 ≡ rest = cc in wait_fronts v0 (offers views.none).words here z rest y (d ∙ ap (λ (w : List Token). Got y w) same)
          declared (Failed f z2) d e = absurd cc

      go : (out : Outcome Token Begun) → behind_int v0 views.holds true l mid ≡ out → and_then out (finished v0 r p) ≡ Got x rest → (front : List Token) × (mid ≡ front ++ rest)
      go (Got y z) d e =
          let a = reads_of (behind_int_viable v0 (offers views.none).words views.holds (offers views.none).value_holds {ends = any v0} {r = r} true (λ e. here) l).local mid y z d in
          let b = finished_fronts y z e in
          (a.front ++ b.0, a.parts ∙ ap (λ (w : List Token). a.front ++ w) b.1 ∙ sym (append_assoc a.front b.0 rest))
      go (Failed f z) d e = absurd cc

  -- a program that is read to the end of the text is spelled, within its levels
  pub program_is_spelled : (end : ℕ) (ts : List Token) (p : Tall Program) → program views r end ts ≡ Got p [] → SpellsProgram end (running views views.none ts) p × (p.levels ≤ r)
  program_is_spelled end ts p e = program_spelled views still r end fronts first_fronts ts p e
