-- The calls and the arguments of new threads that are read are spelled.
use Rattle.std.proofs.Common.{◌≡◌, ℕ, zero, suc, Bool, true, false, cond, List, [], ◌∷◌, Option, Some, None, refl, sym, subst, inl, inr, ◌⊎◌}
use Rattle.c_lexer.specs.declared.token.Sign.TheVariants as s
use Rattle.c_tree.specs.Expressions.{Expr, Exprs, listed}
use Rattle.c_tree.specs.Expressions as tree
use Rattle.c_grammar.specs.declared.words.FixedWord.TheVariants as w
use Rattle.c_grammar.specs.Items.{What, Item, at, sign, fixed, callee}
use Rattle.c_grammar.specs.Levels.{Tall, tall, gathered}
use Rattle.c_grammar.specs.Expressions as g
use Rattle.c_grammar.specs.Expressions.{SpellsCast, SpellsPrimary, SpellsUnary, SpellsExpression, SpellsExpressions, Called, SpellsCall, NoCast, SpellsArgument}
use Rattle.parse_laws.specs.Parser.{Got, Parser, Stop, must, when, deeper}
use Rattle.parse_laws.proofs.Sound.{Sound, SoundMove, stop_sound, deep_sound, go_sound, pure_sound, refuse_sound, sound_map, bind_sound, commit_sound, fallback_sound, when_sound, token_sound}
use Rattle.c_expressions.specs.declared.token.Inner.{Inner}
use Rattle.c_expressions.specs.declared.token.Inner.TheVariants as i
use Rattle.c_expressions.specs.Words.{same_sign, is_sign, inner}
use Rattle.c_expressions.specs.Parsers.{Sight, what_at, seen, is, is_cast_inner, is_void, go_named, fits, fitting, may_open, opened_by, opened, closed, expression_in, pointer, pointer_first, lower_in, arguments, call_of, as_arguments, no_arguments, call_behind, call, unary, cast_by, cast_unary, void_cast, argument_by, argument}
use Rattle.c_expressions.proofs.Spelled as spelled
use Rattle.c_expressions.proofs.Spelled.{is_sign_only}
use Rattle.c_expressions.proofs.Sounds.{items, Opened, close_sound, fitting_sound, int_cast_sound, pointer_first_sound, closed_sound, expression_in_sound, operand_sound, lower_sound, cast_inner_long, cast_inner_pointer}
use Rattle.c_expressions.proofs.ListSounds.{expressions_sound}

-- ---- single tokens

none_spelled : (t1 t2 t3 : Item) (rest : List Item) (f : List ℕ) → callee (what_at t1) ≡ Some f → is_sign s.LeftParenthesis (what_at t2) ≡ true → is_sign s.RightParenthesis (what_at t3) ≡ true
    → SpellsCall (t1 ∷ t2 ∷ t3 ∷ rest) rest (call_of f no_arguments)
none_spelled (at l1 a1) (at l2 a2) (at l3 a3) rest f d q2 q3 = rw (is_sign_only s.LeftParenthesis a2 q2, is_sign_only s.RightParenthesis a3 q3) (g.no_arguments d)

some_spelled : (t1 t2 t3 : Item) (ts rest : List Item) (f : List ℕ) (all : List (Tall Expr)) (a : Tall (List Expr)) → callee (what_at t1) ≡ Some f → is_sign s.LeftParenthesis (what_at t2) ≡ true
    → is_sign s.RightParenthesis (what_at t3) ≡ true → SpellsExpressions ts (t3 ∷ rest) all → gathered all ≡ a → SpellsCall (t1 ∷ t2 ∷ ts) rest (call_of f (as_arguments a))
some_spelled (at l1 a1) (at l2 a2) (at l3 a3) ts rest f all a d q2 q3 x e =
    rw (is_sign_only s.LeftParenthesis a2 q2, sym e) (g.with_arguments d (subst (λ (w : What). SpellsExpressions ts (at l3 w ∷ rest) all) (is_sign_only s.RightParenthesis a3 q3) x))

-- what stands behind `( void * )`
abbrev Behind : List Item → List Item → Tall Expr → Type 0
Behind ts rest e = (NoCast ts × SpellsUnary ts rest e) ⊎ ((mid : List Item) × SpellsCast ts mid × SpellsUnary mid rest e)

argument_spelled : (t1 t2 t3 t4 : Item) (ts rest : List Item) (e : Tall Expr) → is_sign s.LeftParenthesis (what_at t1) ≡ true → is_void (what_at t2) ≡ true → is_sign s.Star (what_at t3) ≡ true
    → is_sign s.RightParenthesis (what_at t4) ≡ true → Behind ts rest e → SpellsArgument (t1 ∷ t2 ∷ t3 ∷ t4 ∷ ts) rest e
argument_spelled (at l1 a1) (at l2 (What.Fixed w.Void)) (at l3 a3) (at l4 a4) ts rest e q1 q2 q3 q4 x =
    rw (is_sign_only s.LeftParenthesis a1 q1, is_sign_only s.Star a3 q3, is_sign_only s.RightParenthesis a4 q4) (go x)
  where
    go : Behind ts rest e → SpellsArgument (sign l1 s.LeftParenthesis ∷ fixed l2 w.Void ∷ sign l3 s.Star ∷ sign l4 s.RightParenthesis ∷ ts) rest e
    go (inl y) = g.plain y.0 y.1
    go (inr y) = g.cast y.1 y.2
argument_spelled (at l1 a1) (at l2 _) t3 t4 ts rest e q1 q2 q3 q4 x = absurd cc

no_cast_there : (t : Item) (ts : List Item) → is_sign s.LeftParenthesis (what_at t) ≡ false → NoCast (t ∷ ts)
unfolding same_sign
no_cast_there t ts e rest g.long = absurd cc
no_cast_there t ts e rest g.int_pointer = absurd cc

no_cast_inside : (l : ℕ) (t : Item) (ts : List Item) → is_cast_inner (inner (what_at t)) ≡ false → NoCast (sign l s.LeftParenthesis ∷ t ∷ ts)
no_cast_inside l t ts e rest g.long = absurd cc
no_cast_inside l t ts e rest g.int_pointer = absurd cc

no_cast_first : (l : ℕ) (t u : Item) (ts : List Item) → is_sign s.RightParenthesis (what_at u) ≡ false → NoCast (sign l s.LeftParenthesis ∷ t ∷ u ∷ ts)
unfolding same_sign
no_cast_first l t u ts e rest g.long = absurd cc
no_cast_first l t u ts e rest g.int_pointer = absurd cc

no_cast_empty : (ts rest : List Item) → ts ≡ [] → SpellsCast ts rest → ⊥
no_cast_empty ts rest e g.long = absurd cc
no_cast_empty ts rest e g.int_pointer = absurd cc

no_cast_alone : (l : ℕ) (ts rest : List Item) → ts ≡ sign l s.LeftParenthesis ∷ [] → SpellsCast ts rest → ⊥
no_cast_alone l ts rest e g.long = absurd cc
no_cast_alone l ts rest e g.int_pointer = absurd cc

no_cast_short : (l : ℕ) (t : Item) (ts rest : List Item) → ts ≡ sign l s.LeftParenthesis ∷ t ∷ [] → SpellsCast ts rest → ⊥
no_cast_short l t ts rest e g.long = absurd cc
no_cast_short l t ts rest e g.int_pointer = absurd cc

behind_cast : (l : ℕ) (t u : Item) (ts rest : List Item) (e : Tall Expr) → is_cast_inner (inner (what_at t)) ≡ true → is_sign s.RightParenthesis (what_at u) ≡ true → SpellsUnary ts rest e
    → Behind (sign l s.LeftParenthesis ∷ t ∷ u ∷ ts) rest e
behind_cast l t (at m a) ts rest e c q d = rw (is_sign_only s.RightParenthesis a q) (inr (ts, spelled.cast_spelled l m t ts c, d))

not_other : (x : Inner) → x ≡ i.Other → is_cast_inner x ≡ false
not_other x e = rw e refl

not_int : (x : Inner) → x ≡ i.Int → is_cast_inner x ≡ false
not_int x e = rw e refl

opens : (a : What) → a ≡ What.Sign s.LeftParenthesis → is_sign s.LeftParenthesis a ≡ true
unfolding same_sign
opens a e = rw e refl

unary_of : (ts rest : List Item) (e : Tall Expr) → SpellsExpression 0 ts rest e → SpellsUnary ts rest e
unary_of ts rest e (g.unary x) = x

module _ {Token : Type 0} (v : Sight Token) where
  -- ---- calls

  -- the arguments of a call of f, behind its name u and the parenthesis t
  pub arguments_sound : (r : ℕ) (u t : Token) (f : List ℕ) → callee (seen v u) ≡ Some f → is v s.LeftParenthesis t ≡ true
      → Sound (arguments v r) (λ mid rest args. SpellsCall (items v (u ∷ t ∷ mid)) (items v rest) (call_of f args))
  unfolding arguments
  arguments_sound r u t f d q =
      commit_sound (λ w. when_sound (is v s.RightParenthesis w) (λ q2. pure_sound (λ rest. none_spelled (v.item u) (v.item t) (v.item w) (items v rest) f d q q2)))
      (bind_sound (expressions_sound v r) (λ all. close_sound v s.RightParenthesis (fits r all.levels)
      (λ w q2. pure_sound (λ rest ts y. some_spelled (v.item u) (v.item t) (v.item w) (items v ts) (items v rest) f y.0 all d q q2 y.1 y.2))))

  -- a call, behind the name u of its function
  pub call_behind_sound : (r : ℕ) (u : Token) (f : List ℕ) → callee (seen v u) ≡ Some f → Sound (call_behind v r f) (λ mid rest c. SpellsCall (items v (u ∷ mid)) (items v rest) c)
  unfolding call_behind
  call_behind_sound r u f d = token_sound (λ t q. bind_sound (arguments_sound r u t f d q) (λ args. pure_sound (λ rest ts y. y)))

  pub call_sound : (r : ℕ) → Sound (call v r) (λ ts rest c. SpellsCall (items v ts) (items v rest) c)
  unfolding call
  call_sound r = commit_sound (λ u. go u (callee (seen v u)) refl) refuse_sound
    where
      go : (u : Token) (o : Option (List ℕ)) → callee (seen v u) ≡ o → SoundMove (λ mid rest c. SpellsCall (items v (u ∷ mid)) (items v rest) c) (go_named (call_behind v r) o)
      go u None d = stop_sound
      go u (Some f) d = go_sound (call_behind_sound r u f d)

  -- ---- the argument of a new thread

  abbrev B : List Token → List Token → Tall Expr → Type 0
  B ts rest e = Behind (items v ts) (items v rest) e

  unary_sound : (r : ℕ) → Sound (unary v r) (λ ts rest e. SpellsUnary (items v ts) (items v rest) e)
  unary_sound r = sound_map (λ ts rest e y. unary_of (items v ts) (items v rest) e y) (operand_sound v r (lower_in v r) (lower_sound v r))

  -- behind the parenthesis that follows `( void * )`
  abbrev O : List Token → List Token → Tall Expr → Type 0
  O ts rest e = (l : ℕ) → Behind (sign l s.LeftParenthesis ∷ items v ts) (items v rest) e

  module _ (r : ℕ) where
    behind_long : (u : Token) → is_cast_inner (inner (seen v u)) ≡ true → Sound (must (is v s.RightParenthesis) (unary v r)) (λ mid rest e. O (u ∷ mid) rest e)
    behind_long u c = token_sound (λ t q. sound_map (λ ts rest e y l. behind_cast l (v.item u) (v.item t) (items v ts) (items v rest) e c q y) (unary_sound r))

    behind_pointer : (u : Token) → is_cast_inner (inner (seen v u)) ≡ true → Sound (pointer v r (lower_in v r) (unary v r) u) (λ mid rest e. O (u ∷ mid) rest e)
    unfolding pointer
    behind_pointer u c =
        fallback_sound (λ t. when (is v s.RightParenthesis t) (unary v r)) (pointer_first v r (lower_in v r) u) (λ t. when_sound (is v s.RightParenthesis t) (λ q. sound_map (λ ts rest e y l. behind_cast l (v.item u) (v.item t) (items v ts) (items v rest) e c q y) (unary_sound r)))
        (λ e rest d l. inl ((λ mid c. no_cast_short l (v.item u) (sign l s.LeftParenthesis ∷ v.item u ∷ []) mid refl c), g.primary (first.spelled [] e rest d l))) (λ t ts e rest d x. other t ts e rest (is v s.RightParenthesis t) refl d x)
      where
        first : Sound (pointer_first v r (lower_in v r) u) (λ mid rest e. Opened v (u ∷ mid) rest e)
        first = pointer_first_sound v r (lower_in v r) (lower_sound v r) u

        other : (t : Token) (ts : List Token) (e : Tall Expr) (rest : List Token) (b : Bool) → is v s.RightParenthesis t ≡ b → when b (unary v r) ≡ Stop → pointer_first v r (lower_in v r) u (t ∷ ts) ≡ Got e rest → O (u ∷ t ∷ ts) rest e
        other t ts e rest true q d x = absurd cc
        other t ts e rest false q d x = λ l. inl (no_cast_first l (v.item u) (v.item t) (items v ts) q, g.primary (first.spelled (t ∷ ts) e rest x l))

    behind_opened : Sound (opened v r (lower_in v r) (unary v r) (unary v r)) O
    unfolding opened
    behind_opened = fallback_sound (λ u. opened_by v r (lower_in v r) (unary v r) (unary v r) u (inner (seen v u))) (closed v r (expression_in v r (lower_in v r))) (λ u. go u (inner (seen v u)) refl) (λ e rest d l. inl ((λ mid c. no_cast_alone l (sign l s.LeftParenthesis ∷ []) mid refl c), g.primary (whole.spelled [] e rest d l))) (λ u ts e rest d x. other u ts e rest (inner (seen v u)) refl d x)
      where
        whole : Sound (closed v r (expression_in v r (lower_in v r))) (Opened v)
        whole = closed_sound v r (lower_in v r) (lower_sound v r) (expression_in_sound v r (lower_in v r) (lower_sound v r))

        go : (u : Token) (x : Inner) → inner (seen v u) ≡ x → SoundMove (λ mid rest e. O (u ∷ mid) rest e) (opened_by v r (lower_in v r) (unary v r) (unary v r) u x)
        go u i.Int d = when_sound v.casts (λ e. sound_map (λ ts rest a y l. inl (no_cast_inside l (v.item u) (items v ts) (not_int (inner (seen v u)) d), g.primary (y l))) (int_cast_sound v u d))
        go u i.Long d = go_sound (behind_long u (cast_inner_long v (inner (seen v u)) d))
        go u i.Pointer d = go_sound (behind_pointer u (cast_inner_pointer v (inner (seen v u)) d))
        go u i.Other d = stop_sound

        other : (u : Token) (ts : List Token) (e : Tall Expr) (rest : List Token) (x : Inner) → inner (seen v u) ≡ x → opened_by v r (lower_in v r) (unary v r) (unary v r) u x ≡ Stop
            → closed v r (expression_in v r (lower_in v r)) (u ∷ ts) ≡ Got e rest → O (u ∷ ts) rest e
        other u ts e rest i.Int d m x = λ l. inl (no_cast_inside l (v.item u) (items v ts) (not_int (inner (seen v u)) d), g.primary (whole.spelled (u ∷ ts) e rest x l))
        other u ts e rest i.Other d m x = λ l. inl (no_cast_inside l (v.item u) (items v ts) (not_other (inner (seen v u)) d), g.primary (whole.spelled (u ∷ ts) e rest x l))
        other u ts e rest i.Long d m x = absurd cc
        other u ts e rest i.Pointer d m x = absurd cc

    cast_unary_sound : Sound (cast_unary v r) B
    unfolding cast_unary
    cast_unary_sound = fallback_sound (cast_by v r) (unary v r) (λ u. go u (is v s.LeftParenthesis u) refl) (λ e rest d. inl ((λ mid c. no_cast_empty [] mid refl c), (unary_sound r).spelled [] e rest d)) (λ u ts e rest d x. other u ts e rest (is v s.LeftParenthesis u) refl d x)
      where
        opened_at : (t : Item) (ts rest : List Item) (e : Tall Expr) → is_sign s.LeftParenthesis (what_at t) ≡ true → ((l : ℕ) → Behind (sign l s.LeftParenthesis ∷ ts) rest e) → Behind (t ∷ ts) rest e
        opened_at (at l a) ts rest e q y = rw (is_sign_only s.LeftParenthesis a q) (y l)

        go : (u : Token) (b : Bool) → is v s.LeftParenthesis u ≡ b → SoundMove (λ mid rest e. B (u ∷ mid) rest e) (cond b (fitting (may_open v r) (opened v r (lower_in v r) (unary v r) (unary v r))) Stop)
        go u true q = fitting_sound v (may_open v r) (sound_map (λ ts rest e y. opened_at (v.item u) (items v ts) (items v rest) e q y) behind_opened)
        go u false q = stop_sound

        other : (u : Token) (ts : List Token) (e : Tall Expr) (rest : List Token) (b : Bool) → is v s.LeftParenthesis u ≡ b → cond b (fitting (may_open v r) (opened v r (lower_in v r) (unary v r) (unary v r))) Stop ≡ Stop
            → unary v r (u ∷ ts) ≡ Got e rest → B (u ∷ ts) rest e
        other u ts e rest false q d x = inl (no_cast_there (v.item u) (items v ts) q, (unary_sound r).spelled (u ∷ ts) e rest x)
        other u ts e rest true q d x = absurd (taken (may_open v r) d)
          where
            taken : (c : Bool) → fitting c (opened v r (lower_in v r) (unary v r) (unary v r)) ≡ Stop → ⊥
            taken true d = cc
            taken false d = cc

    void_cast_sound : (u : Token) → is v s.LeftParenthesis u ≡ true → Sound (void_cast v r) (λ mid rest e. SpellsArgument (items v (u ∷ mid)) (items v rest) e)
    unfolding void_cast
    void_cast_sound u q = token_sound (λ t q2. token_sound (λ t3 q3. token_sound (λ t4 q4. sound_map (λ ts rest e y. argument_spelled (v.item u) (v.item t) (v.item t3) (v.item t4) (items v ts) (items v rest) e q q2 q3 q4 y) cast_unary_sound)))

  lower_room : {A : Type 0} {R : List Token → List Token → A → Type 0} (p : ℕ → Parser Token A) (r : ℕ) → ((m : ℕ) → Sound (p m) R) → SoundMove R (deeper p r)
  lower_room p zero h = deep_sound
  lower_room p (suc r) h = go_sound (h r)

  -- the argument of a new thread
  pub argument_sound : (r : ℕ) → Sound (argument v r) (λ ts rest e. SpellsArgument (items v ts) (items v rest) e)
  unfolding argument
  argument_sound r = commit_sound (λ u. go u (seen v u) refl) refuse_sound
    where
      null_spelled : (t : Item) (rest : List Item) → what_at t ≡ What.Fixed w.Null → SpellsArgument (t ∷ rest) rest (tall (tree.Number 0) 0)
      null_spelled (at l a) rest e = rw e g.null

      if_free : (u : Token) → is v s.LeftParenthesis u ≡ true → (b : Bool) → SoundMove (λ mid rest e. SpellsArgument (items v (u ∷ mid)) (items v rest) e) (cond b (deeper (void_cast v) r) Stop)
      if_free u q true = lower_room (void_cast v) r (λ m. void_cast_sound m u q)
      if_free u q false = stop_sound

      go : (u : Token) (a : What) → seen v u ≡ a → SoundMove (λ mid rest e. SpellsArgument (items v (u ∷ mid)) (items v rest) e) (argument_by v r a)
      go u (What.Fixed w.Null) d = go_sound (pure_sound (λ rest. null_spelled (v.item u) (items v rest) d))
      go u (What.Sign s.LeftParenthesis) d = if_free u (opens (seen v u) d) v.void
      go u _ d = stop_sound
