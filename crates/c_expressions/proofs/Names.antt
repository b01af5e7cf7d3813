-- An expression behind the name that it begins with can be completed, and in the room 0 what doesn't fit is told.
use Rattle.std.proofs.Common.{◌≡◌, ℕ, zero, suc, ◌<◌, ◌||◌, Bool, true, false, cond, List, [], ◌∷◌, Option, Some, None, is_some, refl, subst, ◌∙◌, inl, inr, arith}
use Rattle.c_lexer.specs.declared.token.Sign.TheVariants as signs
use Rattle.c_tree.specs.declared.expr.Op.{Op}
use Rattle.c_tree.specs.Expressions as tree
use Rattle.c_tree.specs.Expressions.{Expr}
use Rattle.c_grammar.specs.Levels.{over}
use Rattle.c_grammar.specs.Expressions.{joined, loosest}
use Rattle.parse_laws.specs.declared.fault.Fault.TheVariants.{TooDeep}
use Rattle.parse_laws.specs.Parser.{Got, Failed, pure, Stop, Deep, moved}
use Rattle.parse_laws.proofs.Says.{first, Quiet, Stopped, Live}
use Rattle.parse_laws.proofs.Operators as ops
use Rattle.parse_laws.proofs.After.{Fine, Tells, Steady, Completes, alike_completes}
use Rattle.parse_laws.proofs.Completes.{deep_tells}
use Rattle.c_expressions.specs.Words.{Head, head}
use Rattle.c_expressions.specs.Parsers.{Sight, seen, is, goes_on, operator_of, element, expression, expressions_of, lower_in}
use Rattle.c_expressions.specs.Named.{named_expression}
use Rattle.c_expressions.proofs.Spelled.{head_word}
use Rattle.c_expressions.proofs.Words.{Words}
use Rattle.c_expressions.proofs.Closers.{closes, closer_no_operator, closer_no_bracket, fit}
use Rattle.c_expressions.proofs.Readings.{number, operand_at, name_indexed, name_joined, quiet_calm}
use Rattle.c_expressions.proofs.Operands.{name_first, name_then}
use Rattle.c_expressions.proofs.Parts.{expression_after}

module _ {Token : Type 0} (v : Sight Token) (words : Words v) (u : Token) (n : List ℕ) (e : head (seen v u) ≡ Head.Word n) where
  pub named_completes : (r : ℕ) → 0 < r → Completes fit (closes v) r (λ s. named_expression v s u n)
  named_completes r lt = alike_completes (λ s le z. same s (omega (arith, lt, le)) z) (expression_after v words u n e r lt)
    where
      same : (s : ℕ) → 0 < s → (z : List Token) → expression v s (u ∷ z) ≡ named_expression v s u n z
      same zero lt z = absurd (omega arith)
      same (suc s) lt z = refl

  -- where nothing goes on, it is the name
  alone : (s : ℕ) (t : Token) (rest : List Token) → goes_on v t ≡ false → named_expression v s u n (t ∷ rest) ≡ Got (over (tree.Name n) 0) (t ∷ rest)
  alone zero t rest b = rw b refl
  alone (suc s) t rest b = name_then v words u n e s t rest b

  at_closer : (s : ℕ) (z : List Token) → Quiet (closes v) z → named_expression v s u n z ≡ Got (over (tree.Name n) 0) z
  at_closer zero [] q = refl
  at_closer (suc s) [] q = name_first v words u n e s [] tt
  at_closer s (t ∷ z) q = alone s t z (rw (closer_no_bracket v t q, closer_no_operator v t q) refl)

  goes_live : (t : Token) → goes_on v t ≡ true → Live (closes v) (λ z o. Fine (fit 2) (named_expression v 2 u n) (t ∷ z) o)
  goes_live t b = go (is v signs.LeftBracket t) refl (operator_of (seen v t)) refl b
    where
      go : (c : Bool) → is v signs.LeftBracket t ≡ c → (o : Option Op) → operator_of (seen v t) ≡ o → c || is_some o ≡ true → Live (closes v) (λ z o. Fine (fit 2) (named_expression v 2 u n) (t ∷ z) o)
      go true d o f b = record {
        word = words.number ∷ words.sign signs.RightBracket ∷ [];
        value = element n (number v words);
        reads = λ z q. (
          ops.operand_reads (expressions_of v) 1 loosest (u ∷ t ∷ words.number ∷ words.sign signs.RightBracket ∷ z) z (element n (number v words))
              (operand_at v 1 (lower_in v 1) u (t ∷ words.number ∷ words.sign signs.RightBracket ∷ z) (Head.Word n) e ∙ name_indexed v words 0 n t z d) (quiet_calm v loosest z q),
          refl,
        );
      }
      go false d (Some o) f b = record {
        word = words.number ∷ [];
        value = joined o (over (tree.Name n) 0) (number v words);
        reads = λ z q. (name_joined v words n u t o z (head_word (seen v u) n e) e d f q, refl);
      }
      go false d None f b = absurd cc

  pub named_steady : (r : ℕ) → Steady fit (closes v) r (λ s. named_expression v s u n)
  named_steady (suc m) = (named_completes (suc m) (omega arith)).steady
  named_steady zero = record { tells = tells }
    where
      tells : (ts : List Token) → Tells fit (closes v) 0 (λ s. named_expression v s u n) ts (named_expression v 0 u n ts)
      tells [] = record { front = []; parts = refl; again = λ s le z h. ended s z h; begun = λ d. inl refl }
        where
          ended : (s : ℕ) (z : List Token) → Stopped (closes v) [] z → named_expression v s u n z ≡ Got (over (tree.Name n) 0) z
          ended s z (inr q) = at_closer s z q
          ended s [] (inl d) = at_closer s [] tt
          ended s (t ∷ z) (inl d) = absurd cc
      tells (t ∷ rest) = go (goes_on v t) refl
        where
          deep : goes_on v t ≡ true → (z : List Token) → first z ≡ Some t → named_expression v 0 u n z ≡ Failed TooDeep z
          deep b [] d = absurd cc
          deep b (x ∷ z) d = let same : x ≡ t = cc in rw (same, b) refl

          stays : goes_on v t ≡ false → (s : ℕ) (z : List Token) → Stopped (closes v) (t ∷ rest) z → named_expression v s u n z ≡ Got (over (tree.Name n) 0) z
          stays b s z (inr q) = at_closer s z q
          stays b s [] (inl d) = absurd cc
          stays b s (x ∷ z) (inl d) = let same : x ≡ t = cc in rw same (alone s t z b)

          go : (b : Bool) → goes_on v t ≡ b → Tells fit (closes v) 0 (λ s. named_expression v s u n) (t ∷ rest) (moved (cond b Deep Stop) (pure (over (tree.Name n) 0)) t rest)
          go true b = subst (λ (c : Bool). Tells fit (closes v) 0 (λ s. named_expression v s u n) (t ∷ rest) (moved (cond c Deep Stop) (pure (over (tree.Name n) 0)) t rest)) b
              (deep_tells fit (closes v) 0 (λ s. named_expression v s u n) t rest (deep b) 2 (omega arith) (goes_live t b))
          go false b = record { front = []; parts = refl; again = λ s le z h. stays b s z h; begun = λ d. inl refl }
