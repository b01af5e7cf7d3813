-- One turn of the loops of the code.
use Rattle.std.proofs.Common.{◌≡◌, ℕ, zero, suc, ◌-◌, ◌<◌, true, false, List, [], ◌∷◌, length, Option, Some, None, refl, arith}
use Rattle.std.specs.Option.{is_some}
use Rattle.c_tree.specs.declared.expr.Op.{Op}
use Rattle.c_grammar.specs.Levels.{Tall}
use Rattle.c_tree.specs.Expressions.{Expr}
use Rattle.c_grammar.specs.Expressions.{joined}
use Rattle.parse_laws.specs.Parser.{Got, and_then, ◌>>=◌, pure, refuse, Stop, commit, loop}
use Rattle.parse_laws.specs.Operators.{operate, operate_by, chain}
use Rattle.parse_laws.proofs.Loops.{loop_next, loop_stops, loop_ends, choice_shorter}
use Rattle.parse_laws.proofs.Operators as ops
use Rattle.c_expressions.specs.Parsers.{Sight, expressions_of, operator_at, lower_in, operator_comes}
use Rattle.c_expressions.proofs.Shorter.{shrinks}

module _ {Token : Type 0} (v : Sight Token) where
  -- a level below a room that has one
  pub lower_is : (r k : ℕ) (ts : List Token) → 0 < r → lower_in v r k ts ≡ chain (expressions_of v) (r - 1) k ts
  lower_is zero k ts lt = absurd (omega arith)
  lower_is (suc r) k ts lt = let e : suc r - 1 ≡ r = omega arith in rw e refl

  pub turn_next : (r k : ℕ) (a : Tall Expr) (ts : List Token) → operator_comes v k ts ≡ true
      → loop (operate (expressions_of v) r k (lower_in v r k)) a ts ≡ and_then (commit (operate (expressions_of v) r k (lower_in v r k) a) refuse ts) (loop (operate (expressions_of v) r k (lower_in v r k)))
  turn_next r k a [] b = absurd cc
  turn_next r k a (u ∷ rest) b = loop_next (operate (expressions_of v) r k (lower_in v r k)) (shrinks v r k) a u rest (λ e. ops.operator_goes (expressions_of v) r k (lower_in v r k) a u (λ n. absurd (differ (operator_at v k u) b n)) e)
    where
      differ : (o : Option Op) → is_some o ≡ true → o ≡ None → ⊥
      differ None b n = cc
      differ (Some o) b n = cc

  pub turns_stop : (r k : ℕ) (a : Tall Expr) (ts : List Token) → operator_comes v k ts ≡ false → loop (operate (expressions_of v) r k (lower_in v r k)) a ts ≡ Got a ts
  turns_stop r k a [] b = loop_ends (operate (expressions_of v) r k (lower_in v r k)) a
  turns_stop r k a (u ∷ rest) b = loop_stops (operate (expressions_of v) r k (lower_in v r k)) a u rest (go (operator_at v k u) b)
    where
      go : (o : Option Op) → is_some o ≡ false → operate_by r (a.levels - 1) (λ o. lower_in v r k >>= λ b. pure (joined o a b)) o ≡ Stop
      go None b = refl
      go (Some o) b = absurd cc

  pub turn_shorter : (r k : ℕ) (a b : Tall Expr) (ts rest : List Token) → commit (operate (expressions_of v) r k (lower_in v r k) a) refuse ts ≡ Got b rest → length rest < length ts
  turn_shorter r k a b ts rest e = choice_shorter (operate (expressions_of v) r k (lower_in v r k) a) (shrinks v r k a) ts b rest e
