-- One turn of the loop over a list of expressions.
use Rattle.std.proofs.Common.{◌≡◌, ℕ, ◌<◌, Bool, true, false, cond, List, [], ◌∷◌, ◌++◌, length, refl}
use Rattle.std.proofs.lemmas.List.{map-append}
use Rattle.c_lexer.specs.declared.token.Sign.TheVariants as s
use Rattle.c_tree.specs.declared.expr.Expr as declared
use Rattle.c_tree.specs.Expressions.{Expr, expr_of}
use Rattle.c_grammar.specs.Levels.{Tall}
use Rattle.parse_laws.specs.Parser.{Got, and_then, refuse, Stop, commit, loop}
use Rattle.parse_laws.proofs.Loops.{Shrinks, loop_next, loop_stops, loop_ends, choice_shorter}
use Rattle.c_expressions.specs.Gives.{list_of}
use Rattle.c_expressions.specs.Parsers.{Sight, is, fits, fitting, added, comma_by, comes}
use Rattle.c_expressions.proofs.Shorter.{less_shrinks, less_bind, less_pure, less_close_by, fewer_less, fewer_expression_of}

-- one more at the end
pub list_grows : (es : List declared.Expr) (e : declared.Expr) → list_of (es ++ e ∷ []) ≡ list_of es ++ expr_of e ∷ []
list_grows es e = map-append expr_of es (e ∷ [])

module _ {Token : Type 0} (v : Sight Token) where
  pub comma_shrinks : (r : ℕ) (all : Tall (List Expr)) (u : Token) → Shrinks (comma_by v r all u)
  comma_shrinks r all u = less_shrinks (less_close_by v s.Comma (fits r all.levels) (less_bind (fewer_less (fewer_expression_of v r)) (λ e. less_pure)) u)

  goes : (r : ℕ) (all : Tall (List Expr)) (b : Bool) (f : Bool) → b ≡ true → cond b (fitting f (added v r all)) Stop ≡ Stop → ⊥
  goes r all false f e d = cc
  goes r all true true e d = cc
  goes r all true false e d = cc

  pub comma_next : (r : ℕ) (all : Tall (List Expr)) (ts : List Token) → comes v s.Comma ts ≡ true → loop (comma_by v r) all ts ≡ and_then (commit (comma_by v r all) refuse ts) (loop (comma_by v r))
  comma_next r all [] b = absurd cc
  comma_next r all (u ∷ rest) b = loop_next (comma_by v r) (comma_shrinks r) all u rest (goes r all (is v s.Comma u) (fits r all.levels) b)

  pub commas_stop : (r : ℕ) (all : Tall (List Expr)) (ts : List Token) → comes v s.Comma ts ≡ false → loop (comma_by v r) all ts ≡ Got all ts
  commas_stop r all [] b = loop_ends (comma_by v r) all
  commas_stop r all (u ∷ rest) b = loop_stops (comma_by v r) all u rest (rw b refl)

  pub comma_shorter : (r : ℕ) (all more : Tall (List Expr)) (ts rest : List Token) → commit (comma_by v r all) refuse ts ≡ Got more rest → length rest < length ts
  comma_shorter r all more ts rest e = choice_shorter (comma_by v r all) (comma_shrinks r all) ts more rest e
