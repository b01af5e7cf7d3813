-- What the parser reads is what the grammar spells.
use Rattle.std.proofs.Common.{◌≡◌, ℕ, zero, suc, ◌-◌, Bool, true, false, cond, ltb, List, ◌∷◌, map, Option, Some, None, refl, sym, subst, ◌∙◌}
use Rattle.c_lexer.specs.declared.token.Sign.{Sign}
use Rattle.c_lexer.specs.declared.token.Sign.TheVariants as s
use Rattle.c_tree.specs.declared.expr.Op.{Op}
use Rattle.c_tree.specs.Expressions.{Expr, Place}
use Rattle.c_grammar.specs.Items.{Item, at, sign, name_of}
use Rattle.c_grammar.specs.Levels.{Tall}
use Rattle.c_grammar.specs.Expressions as g
use Rattle.c_grammar.specs.Expressions.{loosest, joined, SpellsPrimary, SpellsUnary, SpellsExpression, SpellsPlace, SpellsAddress}
use Rattle.parse_laws.specs.Parser.{Parser, ◌>>=◌, pure, Stop, Deep, Go, must, deeper}
use Rattle.parse_laws.specs.Operators.{operate_by, operate, climb, chain}
use Rattle.parse_laws.proofs.Rooms.{by_room}
use Rattle.parse_laws.proofs.Operators as ops
use Rattle.parse_laws.proofs.Sound.{Sound, SoundMove, stop_sound, deep_sound, go_sound, pure_sound, refuse_sound, sound_map, bind_sound, commit_sound, token_sound, level_sound, loop_sound, when_sound}
use Rattle.c_expressions.specs.declared.token.Inner.{Inner}
use Rattle.c_expressions.specs.declared.token.Inner.TheVariants as i
use Rattle.c_expressions.specs.Words.{Head, head, inner}
use Rattle.c_expressions.specs.Parsers.{Sight, what_at, seen, is, go_named, named, fitting, fits, close, cast_name, int_cast, is_cast_word, is_cast_inner, pointer_cast, pointer, pointer_first, opened_by, opened, closed, expression_in, may_open, indexed, name_operand, element, operand_by, operand, expressions_of, operator_at, lower_in, argument_of, expression, member, place_behind, place, address}
use Rattle.c_expressions.proofs.Spelled as spelled

module _ {Token : Type 0} (v : Sight Token) where
  -- the tokens as the grammar sees them
  abbrev pub items : List Token → List Item
  items ts = map v.item ts

  abbrev pub E : ℕ → List Token → List Token → Tall Expr → Type 0
  E k ts rest e = SpellsExpression k (items ts) (items rest) e

  abbrev pub U : List Token → List Token → Tall Expr → Type 0
  U ts rest e = SpellsUnary (items ts) (items rest) e

  -- behind the opening parenthesis
  abbrev pub Opened : List Token → List Token → Tall Expr → Type 0
  Opened ts rest e = (l : ℕ) → SpellsPrimary (sign l s.LeftParenthesis ∷ items ts) (items rest) e

  module _ {A : Type 0} where
    pub named_sound : (R : List Token → List Token → A → Type 0) {p : List ℕ → Parser Token A} (u : Token) → ((n : List ℕ) → name_of (seen v u) ≡ Some n → Sound (p n) (λ mid rest a. R (u ∷ mid) rest a)) → SoundMove (λ mid rest a. R (u ∷ mid) rest a) (named v p u)
    named_sound R {p = p} u h = go (name_of (seen v u)) h
      where
        go : (o : Option (List ℕ)) → ((n : List ℕ) → o ≡ Some n → Sound (p n) (λ mid rest a. R (u ∷ mid) rest a)) → SoundMove (λ mid rest a. R (u ∷ mid) rest a) (go_named p o)
        go None h = stop_sound
        go (Some n) h = go_sound (h n refl)

  module _ {A : Type 0} {R : List Token → List Token → A → Type 0} where
    pub fitting_sound : {p : Parser Token A} (b : Bool) → Sound p R → SoundMove R (fitting b p)
    fitting_sound true x = go_sound x
    fitting_sound false x = deep_sound

    pub deeper_sound : {p : Parser Token A} (r : ℕ) → ((m : ℕ) → r ≡ suc m → Sound p R) → SoundMove R (deeper (λ _. p) r)
    deeper_sound zero h = deep_sound
    deeper_sound (suc r) h = go_sound (h r refl)

    pub close_sound : {p : Parser Token A} (x : Sign) (fit : Bool) → ((u : Token) → is v x u ≡ true → Sound p (λ mid rest a. R (u ∷ mid) rest a)) → Sound (close v x fit p) R
    close_sound {p = p} x fit h =
        bind_sound {R = λ ts rest u. (ts ≡ u ∷ rest) × (is v x u ≡ true)} (commit_sound (λ u. go u (is v x u) refl) refuse_sound)
        (λ u. record { spelled = λ mid a rest e ts y. subst (λ (w : List Token). R w rest a) (sym y.0) ((h u y.1).spelled mid a rest e) })
      where
        go : (u : Token) (b : Bool) → is v x u ≡ b → SoundMove (λ mid rest w. (u ∷ mid ≡ w ∷ rest) × (is v x w ≡ true)) (cond b (fitting fit (pure u)) Stop)
        go u false q = stop_sound
        go u true q = here fit
          where
            here : (c : Bool) → SoundMove (λ mid rest w. (u ∷ mid ≡ w ∷ rest) × (is v x w ≡ true)) (fitting c (pure u))
            here true = go_sound (pure_sound (λ ts. (refl, q)))
            here false = deep_sound

  -- ---- casts

  cast_name_sound : {R : List Token → List Token → Tall Expr → Type 0} → ((u : Token) (n : List ℕ) (rest : List Token) → name_of (seen v u) ≡ Some n → R (u ∷ rest) rest (argument_of n)) → Sound (cast_name v) R
  unfolding cast_name
  cast_name_sound {R = R} h = commit_sound (λ u. named_sound R u (λ n e. pure_sound (λ rest. h u n rest e))) refuse_sound

  pub int_cast_sound : (u : Token) → inner (seen v u) ≡ i.Int → Sound (int_cast v) (λ mid rest e. Opened (u ∷ mid) rest e)
  unfolding int_cast
  int_cast_sound u d =
      token_sound (λ u1 e1. token_sound (λ u2 e2. token_sound (λ u3 e3. token_sound (λ u4 e4. cast_name_sound (λ u5 n rest e5 l. go (v.item u) d l u1 u2 u3 u4 u5 n rest e1 e2 e3 e4 e5)))))
    where
      go : (t : Item) → inner (what_at t) ≡ i.Int → (l : ℕ) (u1 u2 u3 u4 u5 : Token) (n : List ℕ) (rest : List Token) → is v s.RightParenthesis u1 ≡ true → is v s.LeftParenthesis u2 ≡ true → is_cast_word v u3 ≡ true → is v s.RightParenthesis u4 ≡ true
          → name_of (seen v u5) ≡ Some n → SpellsPrimary (sign l s.LeftParenthesis ∷ t ∷ v.item u1 ∷ v.item u2 ∷ v.item u3 ∷ v.item u4 ∷ v.item u5 ∷ items rest) (items rest) (argument_of n)
      go (at m a) d l u1 u2 u3 u4 u5 n rest e1 e2 e3 e4 e5 = rw (spelled.inner_int a d) (spelled.int_spelled l m (v.item u1) (v.item u2) (v.item u3) (v.item u4) (v.item u5) (items rest) n e1 e2 e3 e4 e5)

  pub cast_inner_long : (x : Inner) → x ≡ i.Long → is_cast_inner x ≡ true
  cast_inner_long x e = rw e refl

  pub cast_inner_pointer : (x : Inner) → x ≡ i.Pointer → is_cast_inner x ≡ true
  cast_inner_pointer x e = rw e refl

  long_sound : (u : Token) → inner (seen v u) ≡ i.Long → Sound (must (is v s.RightParenthesis) (cast_name v)) (λ mid rest e. Opened (u ∷ mid) rest e)
  long_sound u d = token_sound (λ u1 e1. cast_name_sound (λ u2 n rest e2 l. spelled.argument_spelled l (v.item u) (v.item u1) (v.item u2) (items rest) n (cast_inner_long (inner (seen v u)) d) e1 e2))

  pointer_cast_sound : (u t : Token) → inner (seen v u) ≡ i.Pointer → is v s.RightParenthesis t ≡ true → Sound (pointer_cast v) (λ mid rest e. Opened (u ∷ t ∷ mid) rest e)
  unfolding pointer_cast
  pointer_cast_sound u t d e1 =
      commit_sound (λ u2. named_sound (λ mid rest e. Opened (u ∷ t ∷ mid) rest e) u2 (λ n e2. pure_sound (λ rest l. spelled.argument_spelled l (v.item u) (v.item t) (v.item u2) (items rest) n (cast_inner_pointer (inner (seen v u)) d) e1 e2)))
      (pure_sound (λ rest l. spelled.pointer_spelled l (v.item u) (v.item t) (items rest) (spelled.inner_pointer (seen v u) d) e1))

  module _ (r : ℕ) (lower : ℕ → Parser Token (Tall Expr)) (h : (m : ℕ) → r ≡ suc m → (k : ℕ) → Sound (lower k) (E k)) where
    pub closed_sound : {inside : Parser Token (Tall Expr)} → Sound inside (E loosest) → Sound (closed v r inside) Opened
    closed_sound x = bind_sound x (λ e. close_sound s.RightParenthesis (fits r e.levels) (λ u q. pure_sound (λ rest ts d l. spelled.parentheses_spelled l (v.item u) (items ts) (items rest) e q d)))

    pub expression_in_sound : Sound (expression_in v r lower) (E loosest)
    expression_in_sound = level_sound _ r (λ m e. h m e loosest)

    pub pointer_first_sound : (u : Token) → Sound (pointer_first v r lower u) (λ mid rest e. Opened (u ∷ mid) rest e)
    pointer_first_sound u = go r h
      where
        go : (r : ℕ) → ((m : ℕ) → r ≡ suc m → (k : ℕ) → Sound (lower k) (E k)) → Sound (pointer_first v r lower u) (λ mid rest e. Opened (u ∷ mid) rest e)
        go zero h = record { spelled = λ ts a rest e. absurd cc }
        go (suc m) h = record { spelled = λ ts a rest e. (inside m (h m refl loosest)).spelled (u ∷ ts) a rest e }
          where
            inside : (m : ℕ) → Sound (lower loosest) (E loosest) → Sound (closed v (suc m) (lower loosest)) Opened
            inside m x = bind_sound x (λ e. close_sound s.RightParenthesis (fits (suc m) e.levels) (λ u q. pure_sound (λ rest ts d l. spelled.parentheses_spelled l (v.item u) (items ts) (items rest) e q d)))

    pointer_sound : (u : Token) → inner (seen v u) ≡ i.Pointer → Sound (pointer v r lower (pointer_cast v) u) (λ mid rest e. Opened (u ∷ mid) rest e)
    unfolding pointer
    pointer_sound u d = commit_sound (λ t. when_sound (is v s.RightParenthesis t) (λ e. pointer_cast_sound u t d e)) (pointer_first_sound u)

    opened_sound : Sound (opened v r lower (cast_name v) (pointer_cast v)) Opened
    unfolding opened
    opened_sound = commit_sound (λ u. go u (inner (seen v u)) refl) (closed_sound expression_in_sound)
      where
        go : (u : Token) (x : Inner) → inner (seen v u) ≡ x → SoundMove (λ mid rest e. Opened (u ∷ mid) rest e) (opened_by v r lower (cast_name v) (pointer_cast v) u x)
        go u i.Int d = when_sound v.casts (λ e. int_cast_sound u d)
        go u i.Long d = go_sound (long_sound u d)
        go u i.Pointer d = go_sound (pointer_sound u d)
        go u i.Other d = stop_sound

    -- ---- operands

    name_operand_sound : (u : Token) (n : List ℕ) → name_of (seen v u) ≡ Some n → Sound (name_operand v r lower n) (λ mid rest e. U (u ∷ mid) rest e)
    unfolding name_operand
    name_operand_sound u n d =
        commit_sound (λ t. go t (is v s.LeftBracket t) refl) (pure_sound (λ rest. g.primary (spelled.name_spelled (v.item u) (items rest) n d)))
      where
        go : (t : Token) (b : Bool) → is v s.LeftBracket t ≡ b → SoundMove (λ mid rest e. U (u ∷ t ∷ mid) rest e) (cond b (deeper (λ _. indexed v r lower (element n)) r) Stop)
        go t false q = stop_sound
        go t true q = deeper_sound r (λ m e.
            bind_sound {R = λ ts rest a. U (u ∷ t ∷ ts) rest (element n a)}
            (bind_sound (h m e loosest) (λ a. close_sound s.RightBracket (fits r a.levels) (λ w q2. pure_sound (λ rest ts y. g.primary (spelled.element_spelled (v.item u) (v.item t) (v.item w) (items ts) (items rest) n a d q q2 y)))))
            (λ a. pure_sound (λ rest ts y. y)))

    operand_move_sound : (u : Token) (x : Head) → head (seen v u) ≡ x → SoundMove (λ mid rest e. U (u ∷ mid) rest e) (operand_by v r lower x)
    operand_move_sound u (Head.Value n) d = go_sound (pure_sound (λ rest. spelled.number_spelled (v.item u) (items rest) n d))
    operand_move_sound u (Head.Word n) d = go_sound (name_operand_sound u n (spelled.head_word (seen v u) n d))
    operand_move_sound u Head.Open d = fitting_sound (may_open v r) (sound_map (λ ts rest e y. spelled.opened_spelled (v.item u) (items ts) (items rest) e d y) opened_sound)
    operand_move_sound u Head.Not d = deeper_sound r (λ m e. bind_sound (h m e 0) (λ a. pure_sound (λ rest ts y. spelled.not_spelled (v.item u) (items ts) (items rest) a d (unary_of y))))
      where
        unary_of : {ts rest : List Item} {a : Tall Expr} → SpellsExpression 0 ts rest a → SpellsUnary ts rest a
        unary_of (g.unary x) = x
    operand_move_sound u Head.Minus d = deeper_sound r (λ m e. bind_sound (h m e 0) (λ a. pure_sound (λ rest ts y. spelled.minus_spelled (v.item u) (items ts) (items rest) a d (unary_of y))))
      where
        unary_of : {ts rest : List Item} {a : Tall Expr} → SpellsExpression 0 ts rest a → SpellsUnary ts rest a
        unary_of (g.unary x) = x
    operand_move_sound u Head.Other d = stop_sound

    pub operand_sound : Sound (operand v r lower) (E 0)
    unfolding operand
    operand_sound = sound_map (λ ts rest e y. g.unary y) (commit_sound (λ u. operand_move_sound u (head (seen v u)) refl) refuse_sound)

  -- ---- operators

  operate_sound : (r k : ℕ) → ((m : ℕ) → r ≡ suc m → (k : ℕ) → Sound (lower_in v r k) (E k)) → (a : Tall Expr) (u : Token)
      → SoundMove (λ mid rest b. (ts : List Token) → E (suc k) ts (u ∷ mid) a → E (suc k) ts rest b) (operate (expressions_of v) r k (lower_in v r k) a u)
  operate_sound r k h a u = go (operator_at v k u) refl
    where
      turn : (o : Op) → operator_at v k u ≡ Some o → (r : ℕ) → ((m : ℕ) → r ≡ suc m → (k : ℕ) → Sound (lower_in v r k) (E k))
          → Sound (lower_in v r k >>= λ b. pure (joined o a b)) (λ mid rest b. (ts : List Token) → E (suc k) ts (u ∷ mid) a → E (suc k) ts rest b)
      turn o e zero h = record { spelled = λ ts b rest d. absurd cc }
      turn o e (suc m) h = bind_sound (h m refl k) (λ b. pure_sound (λ rest mid y ts x. spelled.binary_spelled k (v.item u) (items ts) (items mid) (items rest) a b o e x y))

      here : (o : Op) → operator_at v k u ≡ Some o → (b : Bool) → SoundMove (λ mid rest b. (ts : List Token) → E (suc k) ts (u ∷ mid) a → E (suc k) ts rest b) (cond b (Go (lower_in v r k >>= λ b. pure (joined o a b))) Deep)
      here o e true = go_sound (turn o e r h)
      here o e false = deep_sound

      go : (m : Option Op) → operator_at v k u ≡ m
          → SoundMove (λ mid rest b. (ts : List Token) → E (suc k) ts (u ∷ mid) a → E (suc k) ts rest b) (operate_by r (a.levels - 1) (λ o. lower_in v r k >>= λ b. pure (joined o a b)) m)
      go None e = stop_sound
      go (Some o) e = here o e (ltb (a.levels - 1) r)

  climb_sound : (r k : ℕ) → ((m : ℕ) → r ≡ suc m → (k : ℕ) → Sound (lower_in v r k) (E k)) → (a : Tall Expr)
      → Sound (climb (expressions_of v) r (lower_in v r) k a) (λ mid rest b. (ts : List Token) → E 0 ts mid a → E k ts rest b)
  unfolding climb
  climb_sound r zero h a = pure_sound (λ mid ts x. x)
  climb_sound r (suc k) h a =
      bind_sound (climb_sound r k h a) (λ b. sound_map (λ mid rest c f mid2 x ts y. f ts (g.tighter (x ts y))) (loop_sound {R = E (suc k)} (operate_sound r k h) b))

  below_sound : (r : ℕ) → ((m : ℕ) → r ≡ suc m → (k : ℕ) → Sound (chain (expressions_of v) m k) (E k)) → (m : ℕ) → r ≡ suc m → (k : ℕ) → Sound (lower_in v r k) (E k)
  below_sound zero h m e k = absurd cc
  below_sound (suc r) h m e k = h r refl k

  -- every expression that is read is spelled
  pub chain_sound : (r k : ℕ) → Sound (chain (expressions_of v) r k) (E k)
  chain_sound = by_room (λ r. (k : ℕ) → Sound (chain (expressions_of v) r k) (E k)) whole
    where
      whole : (r : ℕ) → ((m : ℕ) → r ≡ suc m → (k : ℕ) → Sound (chain (expressions_of v) m k) (E k)) → (k : ℕ) → Sound (chain (expressions_of v) r k) (E k)
      whole r h k =
          let x = bind_sound {S = E k} (operand_sound r (lower_in v r) (below_sound r h)) (climb_sound r k (below_sound r h)) in
          record { spelled = λ ts a rest e. x.spelled ts a rest (sym (ops.chain_is (expressions_of v) r k ts) ∙ e) }

  -- a level below a room
  pub lower_sound : (r m : ℕ) → r ≡ suc m → (k : ℕ) → Sound (lower_in v r k) (E k)
  lower_sound r m e k = below_sound r (λ n d j. chain_sound n j) m e k

  -- an expression of a statement
  pub expression_sound : (r : ℕ) → Sound (expression v r) (E loosest)
  expression_sound r = expression_in_sound r (lower_in v r) (lower_sound r)

  -- ---- places

  abbrev pub P : List Token → List Token → Tall Place → Type 0
  P ts rest p = SpellsPlace (items ts) (items rest) p

  pub place_behind_sound : (r : ℕ) (u : Token) (n : List ℕ) → name_of (seen v u) ≡ Some n → Sound (place_behind v r n) (λ mid rest p. P (u ∷ mid) rest p)
  place_behind_sound r u n d = commit_sound (λ t. go t (is v s.LeftBracket t) refl) (pure_sound (λ rest. spelled.scalar_spelled (v.item u) (items rest) n d))
    where
      go : (t : Token) (b : Bool) → is v s.LeftBracket t ≡ b → SoundMove (λ mid rest p. P (u ∷ t ∷ mid) rest p) (cond b (deeper (λ _. indexed v r (lower_in v r) (member n)) r) Stop)
      go t false q = stop_sound
      go t true q = deeper_sound r (λ m e.
          bind_sound {R = λ ts rest a. P (u ∷ t ∷ ts) rest (member n a)}
          (bind_sound (lower_sound r m e loosest) (λ a. close_sound s.RightBracket (fits r a.levels) (λ w q2. pure_sound (λ rest ts y. spelled.member_spelled (v.item u) (v.item t) (v.item w) (items ts) (items rest) n a d q q2 y))))
          (λ a. pure_sound (λ rest ts y. y)))

  -- every place that is read is spelled
  pub place_sound : (r : ℕ) → Sound (place v r) P
  unfolding place
  place_sound r = commit_sound (λ u. named_sound P u (λ n e. place_behind_sound r u n e)) refuse_sound

  pub address_sound : (r : ℕ) → Sound (address v r) (λ ts rest p. SpellsAddress (items ts) (items rest) p)
  unfolding address
  address_sound r = token_sound (λ u e. sound_map (λ ts rest p y. spelled.address_spelled (v.item u) (items ts) (items rest) p e y) (place_sound r))
