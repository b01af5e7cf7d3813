-- Every place, address, list of expressions, call and argument that is spelled is read, within its levels.
use Rattle.std.proofs.Common.{◌≡◌, ℕ, zero, suc, ◌≤◌, Bool, true, false, List, [], ◌∷◌, ◌++◌, map, Some, refl, sym, ap, subst, ◌∙◌, arith}
use Rattle.c_lexer.specs.declared.token.Sign.{Sign}
use Rattle.c_lexer.specs.declared.token.Sign.TheVariants as s
use Rattle.c_tree.specs.Expressions as tree
use Rattle.c_tree.specs.Expressions.{Expr, Exprs, Place, listed}
use Rattle.c_grammar.specs.declared.words.FixedWord.TheVariants as w
use Rattle.c_grammar.specs.Items.{What, Item, at, sign, fixed, name_of, callee}
use Rattle.c_grammar.specs.Levels.{Tall, tall, gathered}
use Rattle.c_grammar.specs.Commas.{one, more}
use Rattle.c_grammar.specs.Expressions as g
use Rattle.c_grammar.specs.Expressions.{loosest, SpellsCast, SpellsPrimary, SpellsUnary, SpellsWhole, SpellsExpressions, SpellsPlace, SpellsAddress, Called, SpellsCall, NoCast, SpellsArgument, levels_of}
use Rattle.parse_laws.specs.Parser.{Got, Parser, ◌>>=◌, pure, refuse, Move, Go, when, must, loop}
use Rattle.parse_laws.specs.Operators.{chain}
use Rattle.parse_laws.proofs.Finds.{Reaches, Halts, parted, pure_finds, commit_finds, other_finds, none_finds, must_finds, bind_finds, bind_reaches, turn_reaches, loop_finds}
use Rattle.c_expressions.specs.Words.{same_sign, is_sign, inner}
use Rattle.c_expressions.specs.Parsers.{Sight, what_at, seen, is, named, fits, close, bracket_by, indexed, lower_in, expression, member, scalar, place_behind, place, address, one_expression, with_expression, added, comma_by, expressions, as_arguments, no_arguments, some_arguments, arguments, call_of, call_behind, is_void, unary, cast_by, cast_unary, void_cast, argument_by, argument, may_open, opened, wrapped, expressions_of}
use Rattle.c_grammar.specs.Heads.{begins_expression}
use Rattle.c_grammar.proofs.Beginnings.{expression_begins}
use Rattle.c_expressions.specs.declared.token.Inner.TheVariants as i
use Rattle.c_expressions.proofs.Spelled.{is_sign_only}
use Rattle.c_expressions.specs.Honest.{Honest}
use Rattle.c_expressions.specs.Ends.{Ends}
use Rattle.c_expressions.proofs.Lists.{comma_shrinks}
use Rattle.c_expressions.proofs.ListSounds.{gathered_one, gathered_more}
use Rattle.c_expressions.proofs.Found.{F, Apart, ends_apart, is_at, close_finds, sign_finds, no_bracket, index_finds, fits_true, open_goes, expression_tall, unary_tall, chain_finds, expression_found, expression_finds, unary_found, primary_found, opened_read, long_opened, pointer_opened, cast_free, int_free, int_opened}

-- an expression doesn't begin with `)`
no_parenthesis : (t : Item) (later : List Item) → begins_expression (t ∷ later) ≡ true → is_sign s.RightParenthesis (what_at t) ≡ false
unfolding same_sign
no_parenthesis (at l (What.Sign s.RightParenthesis)) later b = absurd cc
no_parenthesis (at l _) later b = refl

abbrev apart_open : Sign → Bool
apart_open s.LeftParenthesis = false
apart_open _ = true

inner_is : (a : What) → inner a ≡ i.Pointer → a ≡ What.Fixed w.IntPointer
inner_is (What.Fixed w.IntPointer) e = refl
inner_is _ e = absurd cc

not_open : (x : Sign) → apart_open x ≡ true → is_sign s.LeftParenthesis (What.Sign x) ≡ false
unfolding same_sign
not_open s.LeftParenthesis e = absurd cc
not_open _ e = refl

module _ {Token : Type 0} (v : Sight Token) (honest : Honest v) where
  -- ---- places

  -- behind the name of a place
  pub place_behind_finds : {l : ℕ} {a : What} {before after : List Item} {p : Tall Place} {n : List ℕ} → SpellsPlace (at l a ∷ before) after p → name_of a ≡ Some n → Apart after → (r : ℕ) → p.levels ≤ r → F v (place_behind v r n) before after p
  place_behind_finds {after = after} {n = n} (g.scalar {n = m} e) d c r le =
      let same : m ≡ n = cc in
      subst (λ (x : List ℕ). F v (place_behind v r n) after after (scalar x)) (sym same) (none_finds v.item (bracket_by v r (indexed v r (lower_in v r) (member n))) after (scalar n) (no_bracket v r (indexed v r (lower_in v r) (member n)) after c))
  place_behind_finds (g.member e x) d c zero le = absurd (omega (arith, le, expression_tall x))
  place_behind_finds {after = after} {n = n} (g.member {m = lb} {k = k} {n = m} {ts = ts} {e = e} q x) d c (suc r) le =
      let same : m ≡ n = cc in
      subst (λ (y : List ℕ). F v (place_behind v (suc r) n) (sign lb s.LeftBracket ∷ ts) after (member y e)) (sym same)
      (index_finds v r (member n) (scalar n) lb k ts after e (chain_finds v r loosest ts (sign k s.RightBracket ∷ after) e (expression_found v honest x refl r (omega (arith, le))) refl) (omega (arith, le)))

  named_goes : {A : Type 0} (p : List ℕ → Parser Token A) (l : ℕ) (a : What) (n : List ℕ) (u : Token) → v.item u ≡ at l a → name_of a ≡ Some n → named v p u ≡ Go (p n)
  named_goes p l a n u e d = rw (e, d) refl

  pub place_finds : {before after : List Item} {p : Tall Place} → SpellsPlace before after p → Apart after → (r : ℕ) → p.levels ≤ r → F v (place v r) before after p
  unfolding place
  place_finds {after = after} {p = p} (g.scalar {l = l} {a = a} {n = n} d) c r le =
      commit_finds v.item (named v (place_behind v r)) refuse (at l a) after after p (λ u e. (place_behind v r n, named_goes (place_behind v r) l a n u e d, place_behind_finds {l = l} (g.scalar d) d c r le))
  place_finds {after = after} {p = p} (g.member {l = l} {m = m} {a = a} {n = n} {ts = ts} d x) c r le =
      commit_finds v.item (named v (place_behind v r)) refuse (at l a) (sign m s.LeftBracket ∷ ts) after p
      (λ u e. (place_behind v r n, named_goes (place_behind v r) l a n u e d, place_behind_finds {l = l} (g.member {m = m} d x) d c r le))

  pub address_finds : {before after : List Item} {p : Tall Place} → SpellsAddress before after p → Apart after → (r : ℕ) → p.levels ≤ r → F v (address v r) before after p
  unfolding address
  address_finds {after = after} (g.address {l = l} {ts = ts} {p = p} d) c r le = sign_finds v s.Ampersand (place v r) l ts after p (place_finds d c r le)

  -- ---- lists of expressions

  -- no comma goes on
  abbrev pub NoComma : List Item → Type 0
  NoComma [] = Unit {0}
  NoComma (t ∷ after) = is_sign s.Comma (what_at t) ≡ false

  commas_halt : (r : ℕ) (all : Tall (List Expr)) (after : List Item) → NoComma after → Halts v.item (comma_by v r all) after
  commas_halt r all [] c = tt
  commas_halt r all (t ∷ after) c = λ u e. rw (e, c) refl

  below_all : (all : List (Tall Expr)) (e : Tall Expr) → (gathered all).levels ≤ (gathered (all ++ e ∷ [])).levels × (e.levels ≤ (gathered (all ++ e ∷ [])).levels)
  below_all [] e = (omega arith, omega arith)
  below_all (x ∷ all) e = let h = below_all all e in (omega (arith, h.0), omega (arith, h.1))

  list_reaches : {before after : List Item} {all : List (Tall Expr)} → SpellsExpressions before after all → Ends after → (r : ℕ) → (gathered all).levels ≤ r → Reaches v.item (expressions v r) (loop (comma_by v r) (gathered all)) before after
  unfolding expressions
  list_reaches {before} {after} (one {a = e} x) c r le =
      subst (λ (w : Tall (List Expr)). Reaches v.item (expressions v r) (loop (comma_by v r) w) before after) (sym (gathered_one e))
      (bind_reaches v.item (expression v r) (λ e. loop (comma_by v r) (one_expression e)) before after e (expression_finds v honest x c r (omega (arith, le))))
  list_reaches {before} {after} (more {l = l} {mid = mid} {all = all} {a = e} d x) c r le =
      let h = below_all all e in
      subst (λ (w : Tall (List Expr)). Reaches v.item (expressions v r) (loop (comma_by v r) w) before after) (sym (gathered_more all e))
      (turn_reaches v.item (expressions v r) (comma_by v r) before mid after (sign l s.Comma) (gathered all) (with_expression (gathered all) e) (λ a u. comma_shrinks v r a u) (list_reaches d refl r (omega (arith, h.0, le)))
      (λ u q. (
        added v r (gathered all),
        comma_goes u q (fits_true r (gathered all).levels (omega (arith, h.0, le))),
        bind_finds v.item (expression v r) (λ e. pure (with_expression (gathered all) e)) mid after after e (with_expression (gathered all) e) (expression_finds v honest x c r (omega (arith, h.1, le))) (pure_finds v.item after (with_expression (gathered all) e)),
      )))
    where
      comma_goes : (u : Token) → v.item u ≡ sign l s.Comma → fits r (gathered all).levels ≡ true → comma_by v r (gathered all) u ≡ Go (added v r (gathered all))
      comma_goes u q f = rw (is_at v s.Comma l u q, f) refl

  pub expressions_finds : {before after : List Item} {all : List (Tall Expr)} → SpellsExpressions before after all → Ends after → NoComma after → (r : ℕ) → (gathered all).levels ≤ r → F v (expressions v r) before after (gathered all)
  expressions_finds {before} {after} {all} d c n r le = loop_finds v.item (expressions v r) (comma_by v r) before after (gathered all) (list_reaches d c r le) (commas_halt r (gathered all) after n)

  -- ---- calls

  list_begins : {before after : List Item} {all : List (Tall Expr)} → SpellsExpressions before after all → begins_expression before ≡ true
  list_begins (one x) = expression_begins x
  list_begins (more d x) = list_begins d

  abbrev ends_arguments : Token → Move Token (Tall Exprs)
  ends_arguments u = when (is v s.RightParenthesis u) (pure no_arguments)

  begun_halts : (before : List Item) → begins_expression before ≡ true → Halts v.item ends_arguments before
  begun_halts [] b = tt
  begun_halts (t ∷ before) b = λ u e. rw (e, no_parenthesis t before b) refl

  -- the arguments of a call, with the parenthesis that ends them
  pub arguments_finds : {before after : List Item} {all : List (Tall Expr)} (k : ℕ) → SpellsExpressions before (sign k s.RightParenthesis ∷ after) all → (r : ℕ) → levels_of all ≤ r → F v (arguments v r) before after (tall (g.arguments all) (levels_of all))
  unfolding arguments same_sign
  arguments_finds {before} {after} {all} k d r le =
      other_finds v.item ends_arguments (some_arguments v r) before after (as_arguments (gathered all)) (begun_halts before (list_begins d))
      (bind_finds v.item (expressions v r) (λ all. close v s.RightParenthesis (fits r all.levels) (pure (as_arguments all))) before (sign k s.RightParenthesis ∷ after) after (gathered all) (as_arguments (gathered all))
      (expressions_finds d refl refl r le) (close_finds v s.RightParenthesis (fits r (levels_of all)) (pure (as_arguments (gathered all))) k after after (as_arguments (gathered all)) (fits_true r (levels_of all) le) (pure_finds v.item after (as_arguments (gathered all)))))

  pub no_arguments_finds : (k r : ℕ) (after : List Item) → F v (arguments v r) (sign k s.RightParenthesis ∷ after) after (tall (g.arguments []) 0)
  unfolding arguments
  no_arguments_finds k r after = commit_finds v.item ends_arguments (some_arguments v r) (sign k s.RightParenthesis) after after no_arguments (λ u e. (pure no_arguments, rw (is_at v s.RightParenthesis k u e) refl, pure_finds v.item after no_arguments))

  -- a call, behind the name of its function
  pub call_behind_finds : {l : ℕ} {a : What} {before after : List Item} {c : Tall Called} {f : List ℕ} → SpellsCall (at l a ∷ before) after c → callee a ≡ Some f → (r : ℕ) → c.levels ≤ r → F v (call_behind v r f) before after c
  unfolding call_behind
  call_behind_finds {after = after} {f = f} (g.no_arguments {m = m} {n = n} {f = h} e) d r le =
      let same : f ≡ h = cc in
      subst (λ (x : List ℕ). F v (call_behind v r f) (sign m s.LeftParenthesis ∷ sign n s.RightParenthesis ∷ after) after (call_of x no_arguments)) same
      (sign_finds v s.LeftParenthesis (arguments v r >>= λ args. pure (call_of f args)) m (sign n s.RightParenthesis ∷ after) after (call_of f no_arguments)
      (bind_finds v.item (arguments v r) (λ args. pure (call_of f args)) (sign n s.RightParenthesis ∷ after) after after no_arguments (call_of f no_arguments) (no_arguments_finds n r after) (pure_finds v.item after (call_of f no_arguments))))
  call_behind_finds {after = after} {f = f} (g.with_arguments {m = m} {n = n} {f = h} {ts = ts} {all = all} e x) d r le =
      let same : f ≡ h = cc in
      subst (λ (y : List ℕ). F v (call_behind v r f) (sign m s.LeftParenthesis ∷ ts) after (call_of y (as_arguments (gathered all)))) same
      (sign_finds v s.LeftParenthesis (arguments v r >>= λ args. pure (call_of f args)) m ts after (call_of f (as_arguments (gathered all)))
      (bind_finds v.item (arguments v r) (λ args. pure (call_of f args)) ts after after (as_arguments (gathered all)) (call_of f (as_arguments (gathered all))) (arguments_finds n x r le) (pure_finds v.item after (call_of f (as_arguments (gathered all))))))

  -- ---- the argument of a new thread

  -- an operand that is spelled, where the next one of the code stands
  abbrev operand_in : ℕ → Parser Token (Tall Expr)
  operand_in r = unary v r

  no_open : (r : ℕ) (t : Item) (later : List Item) → is_sign s.LeftParenthesis (what_at t) ≡ false → Halts v.item (cast_by v r) (t ∷ later)
  no_open r t later b = λ u e. rw (e, b) refl

  open_cast : (r l : ℕ) (before after : List Item) (e : Tall Expr) → may_open v r ≡ true → F v (opened v r (lower_in v r) (unary v r) (unary v r)) before after e → F v (cast_unary v r) (sign l s.LeftParenthesis ∷ before) after e
  unfolding cast_unary
  open_cast r l before after e o x = commit_finds v.item (cast_by v r) (unary v r) (sign l s.LeftParenthesis) before after e (λ u q. (opened v r (lower_in v r) (unary v r) (unary v r), rw (is_at v s.LeftParenthesis l u q, o) refl, x))

  plain_cast : (r : ℕ) (t : Item) (later after : List Item) (e : Tall Expr) → is_sign s.LeftParenthesis (what_at t) ≡ false → F v (unary v r) (t ∷ later) after e → F v (cast_unary v r) (t ∷ later) after e
  unfolding cast_unary
  plain_cast r t later after e b x = other_finds v.item (cast_by v r) (unary v r) (t ∷ later) after e (no_open r t later b) x

  name_opens_none : (a : What) (n : List ℕ) → name_of a ≡ Some n → is_sign s.LeftParenthesis a ≡ false
  unfolding same_sign
  name_opens_none (What.Sign x) n e = absurd cc
  name_opens_none _ n e = refl

  -- in parentheses, where no cast stands
  wrapped_cast : (m l k : ℕ) (ts after : List Item) (e : Tall Expr) → NoCast (sign l s.LeftParenthesis ∷ ts) → F v (chain (expressions_of v) m loosest) ts (sign k s.RightParenthesis ∷ after) e → e.levels ≤ suc m
      → F v (cast_unary v (suc m)) (sign l s.LeftParenthesis ∷ ts) after (wrapped e)
  wrapped_cast m l k ts after e none x le = open_cast (suc m) l ts after (wrapped e) refl inside
    where
      no : (u y : Item) (later : List Item) → ts ≡ u ∷ y ∷ later → inner (what_at u) ≡ i.Pointer → is_sign s.RightParenthesis (what_at y) ≡ true → ⊥
      no (at j a) (at h b) later p d q = none later (subst (λ (w : List Item). SpellsCast (sign l s.LeftParenthesis ∷ w) later) (sym p) (rw (inner_is a d, is_sign_only s.RightParenthesis b q) g.int_pointer))

      at_tokens : (zs rest mid : List Token) (t : Token) → map v.item zs ≡ ts → rest ≡ t ∷ mid → chain (expressions_of v) m loosest zs ≡ Got e rest → v.item t ≡ sign k s.RightParenthesis
          → opened v (suc m) (lower_in v (suc m)) (unary v (suc m)) (unary v (suc m)) zs ≡ Got (wrapped e) mid
      at_tokens zs rest mid t n p h q =
          let here = h ∙ ap (λ (w : List Token). Got e w) p in
          opened_read v m (unary v (suc m)) (unary v (suc m)) mid t e zs here (is_at v s.RightParenthesis k t q) le
          (λ u y z b d c. absurd (no (v.item u) (v.item y) (map v.item z) (sym n ∙ ap (map v.item) b) d c))

      inside : F v (opened v (suc m) (lower_in v (suc m)) (unary v (suc m)) (unary v (suc m))) ts after (wrapped e)
      inside zs d = let y = x zs d in let p = parted v.item y.0 (sign k s.RightParenthesis) after y.1 in (p.1, p.4, at_tokens zs y.0 p.1 p.0 d p.2 y.2 p.3)

  -- behind `( void * )`, with no cast
  plain_finds : {before after : List Item} {e : Tall Expr} → NoCast before → SpellsUnary before after e → Apart after → (r : ℕ) → e.levels ≤ suc r → F v (cast_unary v r) before after e
  plain_finds {after = after} {e = e} none (g.not {l = l} {ts = ts} d) c r le = plain_cast r (sign l s.Not) ts after e sign_differs (unary_found v honest (g.not d) c r le)
    where
      sign_differs : is_sign s.LeftParenthesis (What.Sign s.Not) ≡ false
      sign_differs = not_open s.Not refl
  plain_finds {after = after} {e = e} none (g.minus {l = l} {ts = ts} d) c r le = plain_cast r (sign l s.Minus) ts after e (not_open s.Minus refl) (unary_found v honest (g.minus d) c r le)
  plain_finds {after = after} {e = e} none (g.primary (g.number {l = l} {value = n})) c r le = plain_cast r (at l (What.Number n)) after after e refl (primary_found v honest g.number c r le)
  plain_finds {after = after} {e = e} none (g.primary (g.name {l = l} {a = a} {n = n} d)) c r le = plain_cast r (at l a) after after e (name_opens_none a n d) (primary_found v honest (g.name d) c r le)
  plain_finds {after = after} {e = e} none (g.primary (g.element {l = l} {m = m} {a = a} {n = n} {ts = ts} d x)) c r le =
      plain_cast r (at l a) (sign m s.LeftBracket ∷ ts) after e (name_opens_none a n d) (primary_found v honest (g.element d x) c r le)
  plain_finds none (g.primary (g.parentheses x)) c zero le = absurd (omega (arith, le, expression_tall x))
  plain_finds {after = after} none (g.primary (g.parentheses {l = l} {m = k} {ts = ts} {e = e} x)) c (suc r) le =
      wrapped_cast r l k ts after e none (chain_finds v r loosest ts (sign k s.RightParenthesis ∷ after) e (expression_found v honest x refl r (omega (arith, le))) refl) (omega (arith, le))
  plain_finds none (g.primary (g.argument x d)) c r le = absurd (none _ x)
  plain_finds none (g.primary (g.int_argument {l = l} {m = m} {k = k} {ts = ts} x d)) c r le = λ zs q.
      let f = int_free v honest l m k x zs q in open_cast r l (fixed m w.Int ∷ sign k s.RightParenthesis ∷ ts) _ _ (open_goes v r f) (int_opened v honest r m k (unary v r) (unary v r) f x d) zs q

  -- behind a cast of its own
  cast_finds : {before mid after : List Item} {e : Tall Expr} → SpellsCast before mid → SpellsUnary mid after e → Apart after → (r : ℕ) → e.levels ≤ suc r → F v (cast_unary v r) before after e
  cast_finds {mid = mid} {after = after} {e = e} (g.long {l = l1} {m = l2} {n = l3}) x c r le = λ zs q.
      open_cast r l1 (fixed l2 w.Long ∷ sign l3 s.RightParenthesis ∷ mid) after e (open_goes v r (cast_free v honest (sign l1 s.LeftParenthesis) (fixed l2 w.Long) (sign l3 s.RightParenthesis ∷ mid) zs refl q))
      (long_opened v r l2 l3 (unary v r) (unary v r) mid after e (unary_found v honest x c r le)) zs q
  cast_finds {mid = mid} {after = after} {e = e} (g.int_pointer {l = l1} {m = l2} {n = l3}) x c r le = λ zs q.
      open_cast r l1 (fixed l2 w.IntPointer ∷ sign l3 s.RightParenthesis ∷ mid) after e (open_goes v r (cast_free v honest (sign l1 s.LeftParenthesis) (fixed l2 w.IntPointer) (sign l3 s.RightParenthesis ∷ mid) zs refl q))
      (pointer_opened v r l2 l3 (unary v r) (unary v r) mid after e (unary_found v honest x c r le)) zs q

  -- `( void * )` and what is behind it
  void_goes : (m l1 l2 l3 l4 : ℕ) (before after : List Item) (e : Tall Expr) → F v (cast_unary v m) before after e → F v (argument v (suc m)) (sign l1 s.LeftParenthesis ∷ fixed l2 w.Void ∷ sign l3 s.Star ∷ sign l4 s.RightParenthesis ∷ before) after e
  unfolding argument void_cast
  void_goes m l1 l2 l3 l4 before after e x = λ zs q.
      let f = void_free zs q in
      commit_finds v.item (λ u. argument_by v (suc m) (seen v u)) refuse (sign l1 s.LeftParenthesis) (fixed l2 w.Void ∷ sign l3 s.Star ∷ sign l4 s.RightParenthesis ∷ before) after e
      (λ u d. (void_cast v m, rw (d, f) refl, behind)) zs q
    where
      behind : F v (void_cast v m) (fixed l2 w.Void ∷ sign l3 s.Star ∷ sign l4 s.RightParenthesis ∷ before) after e
      behind =
          must_finds v.item (λ u. is_void (seen v u)) (must (is v s.Star) (must (is v s.RightParenthesis) (cast_unary v m))) (fixed l2 w.Void) (sign l3 s.Star ∷ sign l4 s.RightParenthesis ∷ before) after e (λ u d. rw d refl)
          (sign_finds v s.Star (must (is v s.RightParenthesis) (cast_unary v m)) l3 (sign l4 s.RightParenthesis ∷ before) after e (sign_finds v s.RightParenthesis (cast_unary v m) l4 before after e x))

      void_free : (zs : List Token) → map v.item zs ≡ sign l1 s.LeftParenthesis ∷ fixed l2 w.Void ∷ sign l3 s.Star ∷ sign l4 s.RightParenthesis ∷ before → v.void ≡ true
      void_free [] q = absurd cc
      void_free (u ∷ []) q = absurd cc
      void_free (u ∷ y ∷ zs) q = honest.void y (word (v.item y) cc)
        where
          word : (t : Item) → t ≡ fixed l2 w.Void → what_at t ≡ What.Fixed w.Void
          word t e = rw e refl

  -- the argument of a new thread
  pub argument_finds : {before after : List Item} {e : Tall Expr} → SpellsArgument before after e → Ends after → (r : ℕ) → e.levels ≤ r → F v (argument v r) before after e
  unfolding argument
  argument_finds {after = after} (g.null {l = l}) c r le =
      commit_finds v.item (λ u. argument_by v r (seen v u)) refuse (fixed l w.Null) after after (tall (tree.Number 0) 0) (λ u d. (pure (tall (tree.Number 0) 0), rw d refl, pure_finds v.item after (tall (tree.Number 0) 0)))
  argument_finds (g.plain none x) c zero le = absurd (omega (arith, le, unary_tall x))
  argument_finds {after = after} {e = e} (g.plain {l = l1} {m = l2} {n = l3} {k = l4} {ts = ts} none x) c (suc r) le = void_goes r l1 l2 l3 l4 ts after e (plain_finds none x (ends_apart after c) r le)
  argument_finds (g.cast y x) c zero le = absurd (omega (arith, le, unary_tall x))
  argument_finds {after = after} {e = e} (g.cast {l = l1} {m = l2} {n = l3} {k = l4} {ts = ts} y x) c (suc r) le = void_goes r l1 l2 l3 l4 ts after e (cast_finds y x (ends_apart after c) r le)
