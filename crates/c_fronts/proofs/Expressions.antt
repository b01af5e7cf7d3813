-- Expressions, places, calls and arguments.
use Rattle.std.proofs.Common.{◌≡◌, ℕ, Bool, true, false, List, [], ◌∷◌, ◌++◌, Some, refl, ap, sym, subst, ◌∙◌, inl, inr, ◌⊎◌}
use Rattle.std.proofs.lemmas.List.{append_cancel_right}
use Rattle.c_lexer.specs.declared.token.Sign.{Sign}
use Rattle.c_lexer.specs.declared.token.Sign.TheVariants as s
use Rattle.c_tree.specs.declared.expr.Op.{Op}
use Rattle.c_tree.specs.Expressions.{Expr, Place}
use Rattle.c_grammar.specs.declared.words.FixedWord.TheVariants as w
use Rattle.c_grammar.specs.Items.{What, Item, at, sign, fixed, line_at, name_of, spelling}
use Rattle.c_grammar.specs.Levels.{Tall}
use Rattle.c_grammar.specs.Expressions as g
use Rattle.c_grammar.specs.Expressions.{operator, SpellsCast, SpellsPrimary, SpellsUnary, SpellsExpression, SpellsWhole, SpellsExpressions, SpellsPlace, SpellsAddress, Called, SpellsCall, NoCast, SpellsArgument}
use Rattle.c_fronts.proofs.Put.{nothing, token, both, Taken, taken, named, called, commas_taken}

abbrev pub T : {A : Type 0} → (List Item → List Item → A → Type 0) → List Item → List Item → A → Type 0
T R before after x = Taken (λ b c. R b c x) before after

-- it has the line of its first token, whatever stands behind it
abbrev pub Lined : {A : Type 0} → (List Item → List Item → A → Type 0) → List Item → List Item → A → Type 0
Lined R before after x = (y : T R before after x) × ((z : List Item) → line_at (y.p.put z) ≡ line_at before)

cast_taken : {before after : List Item} → SpellsCast before after → Taken SpellsCast before after
cast_taken (g.long {l = l} {m = m} {n = n}) = taken (token (sign l s.LeftParenthesis) refl (token (fixed m w.Long) refl (token (sign n s.RightParenthesis) refl nothing))) refl (λ z. g.long)
cast_taken (g.int_pointer {l = l} {m = m} {n = n}) = taken (token (sign l s.LeftParenthesis) refl (token (fixed m w.IntPointer) refl (token (sign n s.RightParenthesis) refl nothing))) refl (λ z. g.int_pointer)

mutual
  primary_taken : {before after : List Item} {e : Tall Expr} → SpellsPrimary before after e → T SpellsPrimary before after e
  primary_taken (g.number {l = l} {value = k}) = taken (token (at l (What.Number k)) refl nothing) refl (λ z. g.number)
  primary_taken (g.name {l = l} {a = a} {n = n} d) = taken (token (at l a) (named l a n d) nothing) refl (λ z. g.name d)
  primary_taken (g.element {l = l} {m = m} {k = k} {a = a} {n = n} d x) =
      let y = expression_taken x in
      taken (token (at l a) (named l a n d) (token (sign m s.LeftBracket) refl (both y.p (token (sign k s.RightBracket) refl nothing)))) (ap (λ (w : List Item). at l a ∷ sign m s.LeftBracket ∷ w) y.parts) (λ z. g.element d (y.again (sign k s.RightBracket ∷ z)))
  primary_taken (g.parentheses {l = l} {m = m} x) =
      let y = expression_taken x in
      taken (token (sign l s.LeftParenthesis) refl (both y.p (token (sign m s.RightParenthesis) refl nothing))) (ap (λ (w : List Item). sign l s.LeftParenthesis ∷ w) y.parts) (λ z. g.parentheses (y.again (sign m s.RightParenthesis ∷ z)))
  primary_taken (g.argument {l = l} {a = a} {n = n} x d) =
      let y = cast_taken x in
      taken (both y.p (token (at l a) (named l a n d) nothing)) y.parts (λ z. g.argument (y.again (at l a ∷ z)) d)
  primary_taken (g.int_argument {l = l} {m = m} {k = k} {j = j} {a = a} {n = n} x d) =
      let y = cast_taken x in
      taken (token (sign l s.LeftParenthesis) refl (token (fixed m w.Int) refl (token (sign k s.RightParenthesis) refl (both y.p (token (at j a) (named j a n d) nothing)))))
      (ap (λ (t : List Item). sign l s.LeftParenthesis ∷ fixed m w.Int ∷ sign k s.RightParenthesis ∷ t) y.parts) (λ z. g.int_argument (y.again (at j a ∷ z)) d)

  unary_taken : {before after : List Item} {e : Tall Expr} → SpellsUnary before after e → T SpellsUnary before after e
  unary_taken (g.not {l = l} x) = let y = unary_taken x in taken (token (sign l s.Not) refl y.p) (ap (λ (w : List Item). sign l s.Not ∷ w) y.parts) (λ z. g.not (y.again z))
  unary_taken (g.minus {l = l} x) = let y = unary_taken x in taken (token (sign l s.Minus) refl y.p) (ap (λ (w : List Item). sign l s.Minus ∷ w) y.parts) (λ z. g.minus (y.again z))
  unary_taken (g.primary x) = let y = primary_taken x in taken y.p y.parts (λ z. g.primary (y.again z))

  expression_taken : {k : ℕ} {before after : List Item} {e : Tall Expr} → SpellsExpression k before after e → T (SpellsExpression k) before after e
  expression_taken (g.unary x) = let y = unary_taken x in taken y.p y.parts (λ z. g.unary (y.again z))
  expression_taken (g.tighter x) = let y = expression_taken x in taken y.p y.parts (λ z. g.tighter (y.again z))
  expression_taken (g.binary {l = l} {t = t} x o d f) =
      let y = expression_taken x in
      let r = expression_taken f in
      taken (both y.p (token (sign l t) refl r.p)) (y.parts ∙ ap (λ (w : List Item). y.p.put (sign l t ∷ w)) r.parts) (λ z. g.binary (y.again (sign l t ∷ r.p.put z)) o d (r.again z))

pub whole_taken : {before after : List Item} {e : Tall Expr} → SpellsWhole before after e → T SpellsWhole before after e
whole_taken x = expression_taken x

pub expressions_taken : {before after : List Item} {all : List (Tall Expr)} → SpellsExpressions before after all → T SpellsExpressions before after all
expressions_taken x = commas_taken SpellsWhole (λ b c e d. whole_taken d) x

pub place_taken : {before after : List Item} {p : Tall Place} → SpellsPlace before after p → Lined SpellsPlace before after p
place_taken (g.scalar {l = l} {a = a} {n = n} d) = (taken (token (at l a) (named l a n d) nothing) refl (λ z. g.scalar d), λ z. refl)
place_taken (g.member {l = l} {m = m} {k = k} {a = a} {n = n} d x) =
    let y = whole_taken x in
    (taken (token (at l a) (named l a n d) (token (sign m s.LeftBracket) refl (both y.p (token (sign k s.RightBracket) refl nothing)))) (ap (λ (w : List Item). at l a ∷ sign m s.LeftBracket ∷ w) y.parts) (λ z. g.member d (y.again (sign k s.RightBracket ∷ z))), λ z. refl)

pub address_taken : {before after : List Item} {p : Tall Place} → SpellsAddress before after p → T SpellsAddress before after p
address_taken (g.address {l = l} x) = let y = (place_taken x).0 in taken (token (sign l s.Ampersand) refl y.p) (ap (λ (w : List Item). sign l s.Ampersand ∷ w) y.parts) (λ z. g.address (y.again z))

pub call_taken : {before after : List Item} {c : Tall Called} → SpellsCall before after c → Lined SpellsCall before after c
call_taken (g.no_arguments {l = l} {m = m} {n = n} {a = a} {f = f} d) =
    (taken (token (at l a) (called l a f d) (token (sign m s.LeftParenthesis) refl (token (sign n s.RightParenthesis) refl nothing))) refl (λ z. g.no_arguments d), λ z. refl)
call_taken (g.with_arguments {l = l} {m = m} {n = n} {a = a} {f = f} d x) =
    let y = expressions_taken x in
    (taken (token (at l a) (called l a f d) (token (sign m s.LeftParenthesis) refl (both y.p (token (sign n s.RightParenthesis) refl nothing)))) (ap (λ (w : List Item). at l a ∷ sign m s.LeftParenthesis ∷ w) y.parts) (λ z. g.with_arguments d (y.again (sign n s.RightParenthesis ∷ z))), λ z. refl)

-- ---- the argument of a new thread

-- An expression that begins with a name is that name, or goes on with `[` or an operator.
abbrev GoesOn : List Item → List Item → Type 0
GoesOn ts after = (ts ≡ after) ⊎ ((l : ℕ) × (x : Sign) × (mid : List Item) × (ts ≡ sign l x ∷ mid) × (x ≡ s.RightParenthesis → ⊥))

closes_none : (x : Sign) (o : Op) → operator x ≡ Some o → x ≡ s.RightParenthesis → ⊥
closes_none s.RightParenthesis o e d = cc
closes_none _ o e d = cc

on_goes : (ts after : List Item) (l : ℕ) (t : Sign) (mid : List Item) (o : Op) → operator t ≡ Some o → GoesOn ts (sign l t ∷ mid) → GoesOn ts after
on_goes ts after l t mid o p (inl e) = inr (l, t, mid, e, closes_none t o p)
on_goes ts after l t mid o p (inr y) = inr y

mutual
  primary_goes : {l : ℕ} {a : What} {ts after : List Item} {e : Tall Expr} (n : List ℕ) → name_of a ≡ Some n → SpellsPrimary (at l a ∷ ts) after e → GoesOn ts after
  primary_goes n q g.number = absurd cc
  primary_goes n q (g.name d) = inl refl
  primary_goes n q (g.element {m = m} {ts = ts} d x) = inr (m, s.LeftBracket, ts, refl, λ e. cc)
  primary_goes n q (g.parentheses x) = absurd cc
  primary_goes n q (g.argument x d) = absurd (cast_first n q x)
    where
      cast_first : {l : ℕ} {a : What} {ts after : List Item} (n : List ℕ) → name_of a ≡ Some n → SpellsCast (at l a ∷ ts) after → ⊥
      cast_first n q g.long = cc
      cast_first n q g.int_pointer = cc
  primary_goes n q (g.int_argument x d) = absurd cc

  unary_goes : {l : ℕ} {a : What} {ts after : List Item} {e : Tall Expr} (n : List ℕ) → name_of a ≡ Some n → SpellsUnary (at l a ∷ ts) after e → GoesOn ts after
  unary_goes n q (g.not x) = absurd cc
  unary_goes n q (g.minus x) = absurd cc
  unary_goes n q (g.primary x) = primary_goes n q x

  expression_goes : {k l : ℕ} {a : What} {ts after : List Item} {e : Tall Expr} (n : List ℕ) → name_of a ≡ Some n → SpellsExpression k (at l a ∷ ts) after e → GoesOn ts after
  expression_goes n q (g.unary x) = unary_goes n q x
  expression_goes n q (g.tighter x) = expression_goes n q x
  expression_goes {ts = ts} {after = after} n q (g.binary {l = l} {mid = mid} {t = t} {o = o} x p d f) = on_goes ts after l t mid o p (expression_goes n q x)

-- no cast begins with such a token
abbrev opens : What → Bool
opens (What.Sign s.LeftParenthesis) = true
opens other = false

no_cast_here : (l : ℕ) (a : What) (ts : List Item) → opens a ≡ false → NoCast (at l a ∷ ts)
no_cast_here l a ts e rest g.long = absurd cc
no_cast_here l a ts e rest g.int_pointer = absurd cc

name_opens : (a : What) (n : List ℕ) → name_of a ≡ Some n → opens a ≡ false
name_opens (What.Sign x) n e = absurd cc
name_opens _ n e = refl

-- `long` begins no expression
mutual
  primary_long : {j : ℕ} {ts after : List Item} {e : Tall Expr} → SpellsPrimary (fixed j w.Long ∷ ts) after e → ⊥
  primary_long (g.name d) = cc
  primary_long (g.element d x) = cc
  primary_long (g.argument x d) = elim x [ ]

  unary_long : {j : ℕ} {ts after : List Item} {e : Tall Expr} → SpellsUnary (fixed j w.Long ∷ ts) after e → ⊥
  unary_long (g.primary x) = primary_long x

  expression_long : {k j : ℕ} {ts after : List Item} {e : Tall Expr} → SpellsExpression k (fixed j w.Long ∷ ts) after e → ⊥
  expression_long (g.unary x) = unary_long x
  expression_long (g.tighter x) = expression_long x
  expression_long (g.binary x p d f) = expression_long x

-- what a cast is
abbrev CastOf : List Item → List Item → Type 0
CastOf ts after = (i : ℕ) × (j : ℕ) × ((ts ≡ fixed i w.Long ∷ sign j s.RightParenthesis ∷ after) ⊎ (ts ≡ fixed i w.IntPointer ∷ sign j s.RightParenthesis ∷ after))

cast_of : {l : ℕ} {ts after : List Item} → SpellsCast (sign l s.LeftParenthesis ∷ ts) after → CastOf ts after
cast_of (g.long {m = m} {n = n}) = (m, n, inl refl)
cast_of (g.int_pointer {m = m} {n = n}) = (m, n, inr refl)

-- in parentheses: the inside is no word of a cast alone
inside_none : {k l m : ℕ} {ts rest : List Item} {e : Tall Expr} (y : T (SpellsExpression k) ts (sign m s.RightParenthesis ∷ rest) e) → NoCast (sign l s.LeftParenthesis ∷ ts) → (z : List Item) → NoCast (sign l s.LeftParenthesis ∷ y.p.put (sign m s.RightParenthesis ∷ z))
inside_none {k} {l} {m} {ts} {rest} {e} y none z after x = let c = cast_of x in go c.0 c.1 c.2
  where
    alone : (i : ℕ) → y.p.put (sign m s.RightParenthesis ∷ z) ≡ fixed i w.IntPointer ∷ sign m s.RightParenthesis ∷ z → ⊥
    alone i q =
        let f = append_cancel_right y.p.front (fixed i w.IntPointer ∷ []) (sign m s.RightParenthesis ∷ z) (sym (y.p.same (sign m s.RightParenthesis ∷ z)) ∙ q) in
        let p = y.parts ∙ y.p.same (sign m s.RightParenthesis ∷ rest) ∙ ap (λ (t : List Item). t ++ sign m s.RightParenthesis ∷ rest) f in
        none rest (subst (λ (t : List Item). SpellsCast (sign l s.LeftParenthesis ∷ t) rest) (sym p) g.int_pointer)

    pointer : (i j : ℕ) → y.p.put (sign m s.RightParenthesis ∷ z) ≡ fixed i w.IntPointer ∷ sign j s.RightParenthesis ∷ after → GoesOn (sign j s.RightParenthesis ∷ after) (sign m s.RightParenthesis ∷ z) → ⊥
    pointer i j q (inl d) = alone i (q ∙ ap (λ (t : List Item). fixed i w.IntPointer ∷ t) d)
    pointer i j q (inr d) = d.4 (sign_of d.0 d.1 d.2 d.3)
      where
        sign_of : (l : ℕ) (x : Sign) (mid : List Item) → sign j s.RightParenthesis ∷ after ≡ sign l x ∷ mid → x ≡ s.RightParenthesis
        sign_of l x mid e = cc

    go : (i j : ℕ) → (y.p.put (sign m s.RightParenthesis ∷ z) ≡ fixed i w.Long ∷ sign j s.RightParenthesis ∷ after) ⊎ (y.p.put (sign m s.RightParenthesis ∷ z) ≡ fixed i w.IntPointer ∷ sign j s.RightParenthesis ∷ after) → ⊥
    go i j (inl q) = expression_long (subst (λ (t : List Item). SpellsExpression k t (sign m s.RightParenthesis ∷ z) e) q (y.again (sign m s.RightParenthesis ∷ z)))
    go i j (inr q) =
        pointer i j q (expression_goes (spelling w.IntPointer) refl (subst (λ (t : List Item). SpellsExpression k t (sign m s.RightParenthesis ∷ z) e) q (y.again (sign m s.RightParenthesis ∷ z))))

-- an operand before which no cast stands, whatever stands behind it
abbrev Free : List Item → List Item → Tall Expr → Type 0
Free before after e = (y : T SpellsUnary before after e) × ((z : List Item) → NoCast (y.p.put z))

free_taken : {before after : List Item} {e : Tall Expr} → NoCast before → SpellsUnary before after e → Free before after e
unfolding unary_taken
free_taken none (g.not {l = l} x) = (unary_taken (g.not {l = l} x), λ z. no_cast_here l (What.Sign s.Not) _ refl)
free_taken none (g.minus {l = l} x) = (unary_taken (g.minus {l = l} x), λ z. no_cast_here l (What.Sign s.Minus) _ refl)
free_taken none (g.primary (g.number {l = l} {value = k})) = (unary_taken (g.primary (g.number {l = l})), λ z. no_cast_here l (What.Number k) _ refl)
free_taken none (g.primary (g.name {l = l} {a = a} {n = n} d)) = (unary_taken (g.primary (g.name {l = l} d)), λ z. no_cast_here l a _ (name_opens a n d))
free_taken none (g.primary (g.element {l = l} {m = m} {a = a} {n = n} d x)) = (unary_taken (g.primary (g.element {l = l} {m = m} d x)), λ z. no_cast_here l a _ (name_opens a n d))
free_taken none (g.primary (g.parentheses {l = l} {m = m} x)) = (unary_taken (g.primary (g.parentheses {l = l} x)), λ z. inside_none {l = l} (expression_taken x) none z)
free_taken none (g.primary (g.argument x d)) = absurd (none _ x)
free_taken none (g.primary (g.int_argument {l = l} {m = m} {k = k} x d)) = (unary_taken (g.primary (g.int_argument {l = l} {m = m} {k = k} x d)), λ z. int_none l m _)
  where
    int_none : (l m : ℕ) (ts : List Item) → NoCast (sign l s.LeftParenthesis ∷ fixed m w.Int ∷ ts)
    int_none l m ts rest c = elim c [ ]

pub argument_taken : {before after : List Item} {e : Tall Expr} → SpellsArgument before after e → T SpellsArgument before after e
argument_taken (g.null {l = l}) = taken (token (fixed l w.Null) refl nothing) refl (λ z. g.null)
argument_taken (g.plain {l = l} {m = m} {n = n} {k = k} none x) =
    let y = free_taken none x in
    taken (token (sign l s.LeftParenthesis) refl (token (fixed m w.Void) refl (token (sign n s.Star) refl (token (sign k s.RightParenthesis) refl y.0.p))))
    (ap (λ (t : List Item). sign l s.LeftParenthesis ∷ fixed m w.Void ∷ sign n s.Star ∷ sign k s.RightParenthesis ∷ t) y.0.parts) (λ z. g.plain (y.1 z) (y.0.again z))
argument_taken (g.cast {l = l} {m = m} {n = n} {k = k} c x) =
    let y = cast_taken c in
    let r = unary_taken x in
    taken (token (sign l s.LeftParenthesis) refl (token (fixed m w.Void) refl (token (sign n s.Star) refl (token (sign k s.RightParenthesis) refl (both y.p r.p)))))
    (ap (λ (t : List Item). sign l s.LeftParenthesis ∷ fixed m w.Void ∷ sign n s.Star ∷ sign k s.RightParenthesis ∷ t) (y.parts ∙ ap y.p.put r.parts)) (λ z. g.cast (y.again (r.p.put z)) (r.again z))
