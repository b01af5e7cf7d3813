-- Words that are read: of each kind of operand one, in the rooms that it fits.
use Rattle.std.proofs.Common.{◌≡◌, ℕ, zero, suc, ◌+◌, ◌-◌, ◌<◌, Bool, true, false, eqb, List, [], ◌∷◌, ◌++◌, Option, Some, None, refl, subst, ◌∙◌, arith}
use Rattle.std.proofs.lemmas.Bool.{eq-eqb, ne_eqb}
use Rattle.c_lexer.specs.declared.token.Sign.TheVariants as signs
use Rattle.c_tree.specs.declared.expr.Op.{Op}
use Rattle.c_tree.specs.declared.expr.Op.TheVariants as op
use Rattle.c_tree.specs.Expressions as tree
use Rattle.c_tree.specs.Expressions.{Expr}
use Rattle.c_grammar.specs.Items.{name_of}
use Rattle.c_grammar.specs.Levels.{Tall, over}
use Rattle.c_grammar.specs.Expressions.{joined, looseness, loosest}
use Rattle.parse_laws.specs.declared.fault.Fault.TheVariants.{Syntax}
use Rattle.parse_laws.specs.Parser.{Got, Failed, Parser, pure, refuse, moved}
use Rattle.parse_laws.specs.Operators.{chain}
use Rattle.parse_laws.proofs.Says.{Quiet, Live}
use Rattle.parse_laws.proofs.After.{Fine}
use Rattle.parse_laws.proofs.Operators as ops
use Rattle.c_expressions.specs.declared.token.Inner.{Inner}
use Rattle.c_expressions.specs.declared.token.Inner.TheVariants as i
use Rattle.c_expressions.specs.Words.{Head, head, inner}
use Rattle.c_expressions.specs.Parsers.{Sight, seen, is, fits, begins, begins_head, operator_of, if_loose, is_cast_inner, wrapped, pointer, opened, may_open, element, name_operand, negation, opposite, operand_by, operand, operator_at, expressions_of, lower_in}
use Rattle.c_expressions.proofs.Shorter.{shrinks}
use Rattle.c_expressions.proofs.Words.{Words}
use Rattle.c_expressions.proofs.Closers.{closes, closer_no_operator, closer_no_bracket, low, fits_of, is_itself, close_takes}

module _ {Token : Type 0} (v : Sight Token) where
  pub operand_at : (r : ℕ) (lower : ℕ → Parser Token (Tall Expr)) (u : Token) (z : List Token) (h : Head) → head (seen v u) ≡ h → operand v r lower (u ∷ z) ≡ moved (operand_by v r lower h) refuse u z
  unfolding operand
  operand_at r lower u z h e = rw e refl

  pub quiet_calm : (k : ℕ) (z : List Token) → Quiet (closes v) z → ops.Calm (expressions_of v) k z
  quiet_calm k [] q = tt
  quiet_calm k (u ∷ z) q = λ j lt. rw (closer_no_operator v u q) refl

  -- an operand is an expression, before a closer
  pub operand_fine : (s k : ℕ) (g : List Token → List Token) → Live (closes v) (λ z o. Fine (low s) (operand v s (lower_in v s)) (g z) o) → Live (closes v) (λ z o. Fine (low s) (chain (expressions_of v) s k) (g z) o)
  operand_fine s k g x = record { word = x.word; value = x.value; reads = λ z q. let d = x.reads z q in (ops.operand_reads (expressions_of v) s k (g (x.word ++ z)) z x.value d.0 (quiet_calm k z q), d.1) }

  -- a name alone
  pub name_alone : (s : ℕ) (lower : ℕ → Parser Token (Tall Expr)) (n : List ℕ) (z : List Token) → Quiet (closes v) z → name_operand v s lower n z ≡ Got (over (tree.Name n) 0) z
  unfolding name_operand
  name_alone s lower n [] q = refl
  name_alone s lower n (u ∷ z) q = rw (closer_no_bracket v u q) refl

  -- what begins no expression
  pub chain_ends : (s k : ℕ) → chain (expressions_of v) s k [] ≡ Failed Syntax []
  unfolding operand
  chain_ends s k = ops.operand_fails (expressions_of v) s k [] [] Syntax refl

  pub chain_refuses : (s k : ℕ) (u : Token) (rest : List Token) → begins v u ≡ false → chain (expressions_of v) s k (u ∷ rest) ≡ Failed Syntax (u ∷ rest)
  chain_refuses s k u rest b = ops.operand_fails (expressions_of v) s k (u ∷ rest) (u ∷ rest) Syntax (at (head (seen v u)) refl b)
    where
      at : (x : Head) → head (seen v u) ≡ x → begins_head x ≡ false → operand v s (lower_in v s) (u ∷ rest) ≡ Failed Syntax (u ∷ rest)
      at Head.Other e b = operand_at s (lower_in v s) u rest Head.Other e
      at _ e b = absurd cc

module _ {Token : Type 0} (v : Sight Token) (words : Words v) where
  abbrev pub number : Tall Expr
  number = over (tree.Number words.value) 0

  pub right_closes : closes v (words.sign signs.RightParenthesis) ≡ true
  right_closes = rw (words.sign_is signs.RightParenthesis) refl

  pub bracket_closes : closes v (words.sign signs.RightBracket) ≡ true
  bracket_closes = rw (words.sign_is signs.RightBracket) refl

  pub comma_closes : closes v (words.sign signs.Comma) ≡ true
  comma_closes = rw (words.sign_is signs.Comma) refl

  pub semicolon_closes : closes v (words.sign signs.Semicolon) ≡ true
  semicolon_closes = rw (words.sign_is signs.Semicolon) refl

  -- ---- a number

  pub number_operand : (s : ℕ) (lower : ℕ → Parser Token (Tall Expr)) (z : List Token) → operand v s lower (words.number ∷ z) ≡ Got number z
  number_operand s lower z = operand_at v s lower words.number z (Head.Value words.value) (rw words.number_is refl)

  pub number_read : (s k : ℕ) (z : List Token) → Quiet (closes v) z → chain (expressions_of v) s k (words.number ∷ z) ≡ Got number z
  number_read s k z q = ops.operand_reads (expressions_of v) s k (words.number ∷ z) z number (number_operand s (lower_in v s) z) (quiet_calm v k z q)

  pub operand_live : (s : ℕ) → Live (closes v) (λ z o. Fine (low s) (operand v s (lower_in v s)) z o)
  operand_live s = record { word = words.number ∷ []; value = number; reads = λ z q. (number_operand s (lower_in v s) z, fits_of (suc s) 1 (omega arith)) }

  pub chain_live : (s k : ℕ) → Live (closes v) (λ z o. Fine (low s) (chain (expressions_of v) s k) z o)
  chain_live s k = operand_fine v s k (λ z. z) (operand_live s)

  -- ---- parentheses

  number_closed : (s : ℕ) (long_cast pointer_cast : Parser Token (Tall Expr)) (z : List Token) → opened v (suc s) (lower_in v (suc s)) long_cast pointer_cast (words.number ∷ words.sign signs.RightParenthesis ∷ z) ≡ Got (wrapped number) z
  unfolding opened
  number_closed s long_cast pointer_cast z =
      let one : fits (suc s) 1 ≡ true = fits_of (suc s) 1 (omega arith) in
      rw (words.number_is, number_read s loosest (words.sign signs.RightParenthesis ∷ z) right_closes)
      (close_takes v signs.RightParenthesis (fits (suc s) 1) (pure (wrapped number)) z (words.sign signs.RightParenthesis) (is_itself v words signs.RightParenthesis) one)

  module _ {ends : Token → Bool} (s : ℕ) (long_cast pointer_cast : Parser Token (Tall Expr)) (long : Live ends (λ z o. Fine (low s) long_cast z o)) (pointer : Live ends (λ z o. Fine (low s) pointer_cast z o)) where
    cast_live : (u : Token) (x : Inner) → inner (seen v u) ≡ x → is_cast_inner x ≡ true → Live ends (λ z o. Fine (low s) (opened v s (lower_in v s) long_cast pointer_cast) z o)
    unfolding opened pointer
    cast_live u i.Long e c = record { word = u ∷ words.sign signs.RightParenthesis ∷ long.word; value = long.value; reads = λ z q. rw (e, is_itself v words signs.RightParenthesis) (long.reads z q) }
    cast_live u i.Pointer e c = record { word = u ∷ words.sign signs.RightParenthesis ∷ pointer.word; value = pointer.value; reads = λ z q. rw (e, is_itself v words signs.RightParenthesis) (pointer.reads z q) }
    cast_live u _ e c = absurd cc

  -- what `(` opens is read, where something may follow it
  pub opened_live : {ends : Token → Bool} (s : ℕ) (long_cast pointer_cast : Parser Token (Tall Expr)) → Live ends (λ z o. Fine (low s) long_cast z o) → Live ends (λ z o. Fine (low s) pointer_cast z o) → may_open v s ≡ true
      → Live ends (λ z o. Fine (low s) (opened v s (lower_in v s) long_cast pointer_cast) z o)
  opened_live zero long_cast pointer_cast long pointer e = let x = words.cast e in cast_live zero long_cast pointer_cast long pointer x.0 (inner (seen v x.0)) refl x.1
  opened_live (suc s) long_cast pointer_cast long pointer e = record { word = words.number ∷ words.sign signs.RightParenthesis ∷ []; value = wrapped number; reads = λ z q. (number_closed s long_cast pointer_cast z, fits_of (suc (suc s)) 2 (omega arith)) }

  -- ---- each token that begins an expression does so in some room

  begun_by : (u : Token) (h : Head) → head (seen v u) ≡ h → begins_head h ≡ true → (s : ℕ) × Live (closes v) (λ z o. Fine (low s) (operand v s (lower_in v s)) (u ∷ z) o)
  begun_by u (Head.Value n) e b = (0, record { word = []; value = over (tree.Number n) 0; reads = λ z q. (operand_at v 0 (lower_in v 0) u z (Head.Value n) e, refl) })
  begun_by u (Head.Word n) e b = (0, record { word = []; value = over (tree.Name n) 0; reads = λ z q. (operand_at v 0 (lower_in v 0) u z (Head.Word n) e ∙ name_alone v 0 (lower_in v 0) n z q, refl) })
  begun_by u Head.Open e b = (
    1,
    record {
      word = words.number ∷ words.sign signs.RightParenthesis ∷ [];
      value = wrapped number;
      reads = λ z q. (operand_at v 1 (lower_in v 1) u (words.number ∷ words.sign signs.RightParenthesis ∷ z) Head.Open e ∙ number_closed 0 _ _ z, refl);
    },
  )
  begun_by u Head.Not e b = (1, record { word = words.number ∷ []; value = negation number; reads = λ z q. (operand_at v 1 (lower_in v 1) u (words.number ∷ z) Head.Not e ∙ rw (number_read 0 0 z q) refl, refl) })
  begun_by u Head.Minus e b = (1, record { word = words.number ∷ []; value = opposite number; reads = λ z q. (operand_at v 1 (lower_in v 1) u (words.number ∷ z) Head.Minus e ∙ rw (number_read 0 0 z q) refl, refl) })
  begun_by u Head.Other e b = absurd cc

  pub begun : (u : Token) → begins v u ≡ true → (s : ℕ) × Live (closes v) (λ z o. Fine (low s) (chain (expressions_of v) s loosest) (u ∷ z) o)
  begun u b = let x = begun_by u (head (seen v u)) refl b in (x.0, operand_fine v x.0 loosest (λ z. u ∷ z) x.1)

  -- ---- behind a name

  -- an index
  pub name_indexed : (r : ℕ) (n : List ℕ) (t : Token) (z : List Token) → is v signs.LeftBracket t ≡ true
      → name_operand v (suc r) (lower_in v (suc r)) n (t ∷ words.number ∷ words.sign signs.RightBracket ∷ z) ≡ Got (element n number) z
  unfolding name_operand
  name_indexed r n t z e =
      let one : fits (suc r) 1 ≡ true = fits_of (suc r) 1 (omega arith) in
      rw (e, number_read r loosest (words.sign signs.RightBracket ∷ z) bracket_closes, is_itself v words signs.RightBracket, one) refl

  -- a token that is no `[`
  pub name_before : (s : ℕ) (n : List ℕ) (t : Token) (z : List Token) → is v signs.LeftBracket t ≡ false → name_operand v s (lower_in v s) n (t ∷ z) ≡ Got (over (tree.Name n) 0) (t ∷ z)
  unfolding name_operand
  name_before s n t z e = rw e refl

  looseness_of : (o : Op) → (k : ℕ) × (looseness o ≡ suc k) × (k < 6)
  looseness_of op.Or = (5, refl, omega arith)
  looseness_of op.And = (4, refl, omega arith)
  looseness_of op.Eq = (3, refl, omega arith)
  looseness_of op.Ne = (3, refl, omega arith)
  looseness_of op.Lt = (2, refl, omega arith)
  looseness_of op.Le = (2, refl, omega arith)
  looseness_of op.Gt = (2, refl, omega arith)
  looseness_of op.Ge = (2, refl, omega arith)
  looseness_of op.Add = (1, refl, omega arith)
  looseness_of op.Sub = (1, refl, omega arith)
  looseness_of op.Mul = (0, refl, omega arith)
  looseness_of op.Div = (0, refl, omega arith)
  looseness_of op.Rem = (0, refl, omega arith)

  found_up : (r : ℕ) (ts rest : List Token) (a : Tall Expr) (d k j : ℕ) → d + k ≡ j → ops.Found (expressions_of v) r k ts rest a → ops.Found (expressions_of v) r j ts rest a
  found_up r ts rest a zero k j e f = let same : k ≡ j = omega arith in subst (λ (i : ℕ). ops.Found (expressions_of v) r i ts rest a) same f
  found_up r ts rest a (suc d) k j e f = found_up r ts rest a d (suc k) j (omega (arith, e)) (ops.found_tighter (expressions_of v) r k ts rest a f)

  -- an operator, and a number behind it
  pub name_joined : (n : List ℕ) (u t : Token) (o : Op) (z : List Token) → name_of (seen v u) ≡ Some n → head (seen v u) ≡ Head.Word n → is v signs.LeftBracket t ≡ false → operator_of (seen v t) ≡ Some o → Quiet (closes v) z
      → chain (expressions_of v) 1 loosest (u ∷ t ∷ words.number ∷ z) ≡ Got (joined o (over (tree.Name n) 0) number) z
  name_joined n u t o z e h b d q =
      let x = looseness_of o in
      let name : Tall Expr = over (tree.Name n) 0 in
      let ts : List Token = u ∷ t ∷ words.number ∷ z in
      let mid : List Token = words.number ∷ z in
      let found : ops.Found (expressions_of v) 1 0 ts (t ∷ mid) name = ops.operand_reads (expressions_of v) 1 0 ts (t ∷ mid) name (operand_at v 1 (lower_in v 1) u (t ∷ mid) (Head.Word n) h ∙ name_before 1 n t mid b) (λ j lt. absurd (omega (arith, lt))) in
      let here : operator_at v x.0 t ≡ Some o = at o x.0 (operator_of (seen v t)) d x.1 in
      let one : (j : ℕ) → j < x.0 → operator_at v j t ≡ None = λ j lt. other o j (operator_of (seen v t)) d (omega (arith, lt, x.1)) in
      let both : ops.Found (expressions_of v) 1 (suc x.0) ts z (joined o name number) =
      ops.found_binary (expressions_of v) 0 x.0 ts mid z name number o t (shrinks v 1 x.0) one (omega arith) (found_up 1 ts (t ∷ mid) name (suc x.0) 0 (suc x.0) (omega arith) found) here
      (found_up 0 mid z number x.0 0 x.0 (omega arith) (ops.operand_reads (expressions_of v) 0 0 mid z number (number_operand 0 (lower_in v 0) z) (quiet_calm v 0 z q))) in
      ops.found_ends (expressions_of v) 1 loosest ts z (joined o name number) (found_up 1 ts z (joined o name number) (5 - x.0) (suc x.0) 6 (omega (arith, x.2)) both) (quiet_calm v loosest z q)
    where
      at : (o : Op) (k : ℕ) (m : Option Op) → m ≡ Some o → looseness o ≡ suc k → if_loose k m ≡ Some o
      at o k m e l = let same : eqb (looseness o) (suc k) ≡ true = eq-eqb (looseness o) (suc k) l in rw (e, same) refl

      other : (o : Op) (j : ℕ) (m : Option Op) → m ≡ Some o → (looseness o ≡ suc j → ⊥) → if_loose j m ≡ None
      other o j m e l = let same : eqb (looseness o) (suc j) ≡ false = ne_eqb (looseness o) (suc j) l in rw (e, same) refl
