-- One turn of the loops of the code.
use Rattle.std.proofs.Common.{◌≡◌, ℕ, ◌<◌, true, false, List, [], ◌∷◌, length, Option, Some, None, refl}
use Rattle.std.specs.Option.{is_some}
use Rattle.parse_laws.specs.declared.token.Token.{Token}
use Rattle.parse_laws.specs.declared.tree.Operator.{Operator}
use Rattle.parse_laws.specs.declared.tree.Sum.{Sum}
use Rattle.parse_laws.specs.declared.tree.Tall.{Tall}
use Rattle.parse_laws.specs.Parser.{Got, and_then, ◌>>=◌, pure, refuse, Stop, commit, loop, one_more}
use Rattle.parse_laws.specs.Operators.{operate, operate_by, below}
use Rattle.parse_laws.specs.Sums.{operator, followed}
use Rattle.parse_laws.specs.SumParser.{sums, behind_comma, more_sums, comma_comes, comes}
use Rattle.parse_laws.proofs.Loops.{loop_next, loop_stops, loop_ends, many_next, many_stops, choice_shorter}
use Rattle.parse_laws.proofs.Operators as ops
use Rattle.parse_laws.proofs.Sums.{shrinks, comma_shrinks}

pub turn_next : (r k : ℕ) (a : Tall Sum) (ts : List Token) → comes k ts ≡ true
    → loop (operate sums r k (below sums r k)) a ts ≡ and_then (commit (operate sums r k (below sums r k) a) refuse ts) (loop (operate sums r k (below sums r k)))
turn_next r k a [] b = absurd cc
turn_next r k a (u ∷ rest) b = loop_next (operate sums r k (below sums r k)) (shrinks r k) a u rest (λ e. ops.operator_goes sums r k (below sums r k) a u (λ n. absurd (differ (operator k u) b n)) e)
  where
    differ : (o : Option Operator) → is_some o ≡ true → o ≡ None → ⊥
    differ None b n = cc
    differ (Some o) b n = cc

pub turns_stop : (r k : ℕ) (a : Tall Sum) (ts : List Token) → comes k ts ≡ false → loop (operate sums r k (below sums r k)) a ts ≡ Got a ts
turns_stop r k a [] b = loop_ends (operate sums r k (below sums r k)) a
turns_stop r k a (u ∷ rest) b = loop_stops (operate sums r k (below sums r k)) a u rest (go (operator k u) b)
  where
    go : (o : Option Operator) → is_some o ≡ false → operate_by r a.height (λ o. below sums r k >>= λ b. pure (sums.joined o a b)) o ≡ Stop
    go None b = refl
    go (Some o) b = absurd cc

pub turn_shorter : (r k : ℕ) (a b : Tall Sum) (ts rest : List Token) → commit (operate sums r k (below sums r k) a) refuse ts ≡ Got b rest → length rest < length ts
turn_shorter r k a b ts rest e = choice_shorter (operate sums r k (below sums r k) a) (shrinks r k a) ts b rest e

pub comma_next : (r : ℕ) (all : Tall (List Sum)) (ts : List Token) → comma_comes ts ≡ true → more_sums r all ts ≡ and_then (commit (behind_comma r) refuse ts) (λ x. more_sums r (followed all x))
comma_next r all [] b = absurd cc
comma_next r all (u ∷ rest) b = many_next (behind_comma r) followed (comma_shrinks r) all u rest (rw b (λ e. cc))

pub commas_stop : (r : ℕ) (all : Tall (List Sum)) (ts : List Token) → comma_comes ts ≡ false → more_sums r all ts ≡ Got all ts
commas_stop r all [] b = loop_ends (one_more (behind_comma r) followed) all
commas_stop r all (u ∷ rest) b = many_stops (behind_comma r) followed all u rest (rw b refl)

pub comma_shorter : (r : ℕ) (ts : List Token) (a : Tall Sum) (rest : List Token) → commit (behind_comma r) refuse ts ≡ Got a rest → length rest < length ts
comma_shorter r ts a rest e = choice_shorter (behind_comma r) (comma_shrinks r) ts a rest e
