-- No parser of this crate takes a token back, so the bound on the turns of its loops is never met.
use Rattle.std.proofs.Common.{◌≡◌, ℕ, zero, suc, ◌-◌, ◌<◌, ◌≤◌, Bool, true, false, cond, ltb, List, ◌∷◌, length, Option, Some, None, refl, sym, ◌∙◌, arith}
use Rattle.c_lexer.specs.declared.token.Sign.{Sign}
use Rattle.c_lexer.specs.declared.token.Sign.TheVariants as s
use Rattle.c_tree.specs.declared.expr.Op.{Op}
use Rattle.c_tree.specs.Expressions.{Expr}
use Rattle.c_grammar.specs.Levels.{Tall}
use Rattle.c_grammar.specs.Expressions.{joined}
use Rattle.parse_laws.specs.Parser.{Parser, ◌>>=◌, pure, refuse, Move, Stop, Deep, Go, commit, and_go, when, must, deeper, loop, loop_from}
use Rattle.parse_laws.specs.Operators.{operate_by, operate, climb, chain}
use Rattle.parse_laws.proofs.Rooms.{by_room}
use Rattle.parse_laws.proofs.Loops.{Shrinks}
use Rattle.parse_laws.proofs.Operators as ops
use Rattle.parse_laws.proofs.Sound.{Sound, SoundMove, stop_sound, deep_sound, go_sound, pure_sound, refuse_sound, sound_map, bind_sound, commit_sound, level_sound}
use Rattle.c_expressions.specs.declared.token.Inner.{Inner}
use Rattle.c_expressions.specs.declared.token.Inner.TheVariants as i
use Rattle.c_expressions.specs.Words.{Head, head, inner}
use Rattle.c_expressions.specs.Parsers.{Sight, seen, is, go_named, fitting, close_by, close, cast_name, int_cast, pointer_cast, pointer, pointer_first, opened_by, opened, closed, expression_in, may_open, index_in, indexed, behind_name, name_operand, operand_by, operand, expressions_of, operator_at, lower_in}

module _ {Token : Type 0} where
  -- what is left is no longer
  abbrev pub Less : {A : Type 0} → List Token → List Token → A → Type 0
  Less ts rest a = length rest ≤ length ts

  -- what is left is shorter
  abbrev pub Fewer : {A : Type 0} → List Token → List Token → A → Type 0
  Fewer ts rest a = length rest < length ts

  module _ {A : Type 0} where
    pub less_pure : {a : A} → Sound (pure a) Less
    less_pure = pure_sound (λ ts. omega arith)

    -- behind a token that was taken
    pub less_move : {m : Move Token A} → SoundMove Less m → (u : Token) → SoundMove (λ mid rest a. Less (u ∷ mid) rest a) m
    less_move x u = record { taken = λ p e. sound_map (λ ts rest a le. omega (arith, le)) (x.taken p e) }

    pub less_commit : {k : Token → Move Token A} {other : Parser Token A} → ((u : Token) → SoundMove Less (k u)) → Sound other Less → Sound (commit k other) Less
    less_commit x y = commit_sound (λ u. less_move (x u) u) y

    pub fewer_choice : {k : Token → Move Token A} → ((u : Token) → SoundMove Less (k u)) → Sound (commit k refuse) Fewer
    fewer_choice x = commit_sound (λ u. record { taken = λ p e. sound_map (λ ts rest a le. omega (arith, le)) ((x u).taken p e) }) refuse_sound

    pub fewer_less : {p : Parser Token A} → Sound p Fewer → Sound p Less
    fewer_less x = sound_map (λ ts rest a le. omega (arith, le)) x

    pub less_choice : {k : Token → Move Token A} → ((u : Token) → SoundMove Less (k u)) → Sound (commit k refuse) Less
    less_choice x = less_commit x refuse_sound

    pub less_when : (b : Bool) {p : Parser Token A} → Sound p Less → SoundMove Less (when b p)
    less_when true x = go_sound x
    less_when false x = stop_sound

    pub less_fitting : (b : Bool) {p : Parser Token A} → Sound p Less → SoundMove Less (fitting b p)
    less_fitting true x = go_sound x
    less_fitting false x = deep_sound

    pub less_deeper : {p : Parser Token A} (r : ℕ) → ((m : ℕ) → r ≡ suc m → Sound p Less) → SoundMove Less (deeper (λ _. p) r)
    less_deeper zero h = deep_sound
    less_deeper (suc r) h = go_sound (h r refl)

    pub less_shrinks : {m : Move Token A} → SoundMove Less m → Shrinks m
    less_shrinks {m = Stop} x = tt
    less_shrinks {m = Deep} x = tt
    less_shrinks {m = Go p} x = λ ts a rest e. (x.taken p refl).spelled ts a rest e

  pub less_bind : {A B : Type 0} {p : Parser Token A} {f : A → Parser Token B} → Sound p Less → ((a : A) → Sound (f a) Less) → Sound (p >>= f) Less
  less_bind x y = bind_sound x (λ a. sound_map (λ mid rest b h ts le. omega (arith, h, le)) (y a))

  pub fewer_bind : {A B : Type 0} {p : Parser Token A} {f : A → Parser Token B} → Sound p Fewer → ((a : A) → Sound (f a) Less) → Sound (p >>= f) Fewer
  fewer_bind x y = bind_sound x (λ a. sound_map (λ mid rest b h ts le. omega (arith, h, le)) (y a))

  pub less_then : {A B : Type 0} {m : Move Token A} {f : A → Parser Token B} → SoundMove Less m → ((a : A) → Sound (f a) Less) → SoundMove Less (and_go m f)
  less_then {m = Stop} x y = stop_sound
  less_then {m = Deep} x y = deep_sound
  less_then {m = Go p} x y = go_sound (less_bind (x.taken p refl) y)

  pub less_must : {A : Type 0} (is : Token → Bool) {p : Parser Token A} → Sound p Less → Sound (must is p) Less
  less_must is x = less_bind (less_choice (λ u. less_when (is u) less_pure)) (λ u. x)

  pub less_loop : {A : Type 0} {turn : A → Token → Move Token A} → ((a : A) (u : Token) → SoundMove Less (turn a u)) → (a : A) → Sound (loop turn a) Less
  unfolding loop loop_from
  less_loop {A} {turn} x a = record { spelled = λ ts b rest e. (from (length ts) a).spelled ts b rest e }
    where
      from : (n : ℕ) (a : A) → Sound (loop_from n turn a) Less
      from zero a = less_pure
      from (suc n) a = less_commit (λ u. less_then (x a u) (λ b. from n b)) less_pure

-- ---- the parts of expressions

module _ {Token : Type 0} (v : Sight Token) where
  pub less_named : {A : Type 0} {p : List ℕ → Parser Token A} (n : Option (List ℕ)) → ((n : List ℕ) → Sound (p n) Less) → SoundMove Less (go_named p n)
  less_named None x = stop_sound
  less_named (Some n) x = go_sound (x n)

  less_cast_name : Sound (cast_name v) Less
  unfolding cast_name
  less_cast_name = less_choice (λ u. less_named _ (λ n. less_pure))

  less_pointer_cast : Sound (pointer_cast v) Less
  unfolding pointer_cast
  less_pointer_cast = less_commit (λ u. less_named _ (λ n. less_pure)) less_pure

  pub less_int_cast : Sound (int_cast v) Less
  unfolding int_cast
  less_int_cast = less_must _ (less_must _ (less_must _ (less_must _ less_cast_name)))

  pub less_close_by : {A : Type 0} (sign : Sign) (fits : Bool) {p : Parser Token A} → Sound p Less → (u : Token) → SoundMove Less (close_by v sign fits p u)
  less_close_by sign fits {p = p} x u = go (is v sign u)
    where
      go : (b : Bool) → SoundMove Less (cond b (fitting fits p) Stop)
      go true = less_fitting fits x
      go false = stop_sound

  pub less_close : {A : Type 0} (sign : Sign) (fits : Bool) {p : Parser Token A} → Sound p Less → Sound (close v sign fits p) Less
  less_close sign fits x = less_bind (less_choice (λ u. less_close_by sign fits less_pure u)) (λ u. x)

  module _ (r : ℕ) (lower : ℕ → Parser Token (Tall Expr)) (h : (m : ℕ) → r ≡ suc m → (k : ℕ) → Sound (lower k) Fewer) where
    pub fewer_expression : Sound (expression_in v r lower) Fewer
    fewer_expression = level_sound _ r (λ m e. h m e 6)

    pub fewer_closed : Sound (closed v r (expression_in v r lower)) Fewer
    fewer_closed = fewer_bind fewer_expression (λ e. less_close _ _ less_pure)

    pub less_first : (u : Token) → Sound (pointer_first v r lower u) Less
    less_first u = go r h
      where
        go : (r : ℕ) → ((m : ℕ) → r ≡ suc m → (k : ℕ) → Sound (lower k) Fewer) → Sound (pointer_first v r lower u) Less
        go zero h = record { spelled = λ ts a rest e. absurd cc }
        go (suc m) h = record { spelled = λ ts a rest e. let le = (fewer_bind (h m refl 6) (λ e. less_close s.RightParenthesis _ less_pure)).spelled (u ∷ ts) a rest e in omega (arith, le) }

    pub less_pointer : {cast : Parser Token (Tall Expr)} → Sound cast Less → (u : Token) → Sound (pointer v r lower cast u) Less
    unfolding pointer
    less_pointer x u = less_commit (λ t. less_when _ x) (less_first u)

    pub less_opened : {long_cast pointer_cast : Parser Token (Tall Expr)} → Sound long_cast Less → Sound pointer_cast Less → Sound (opened v r lower long_cast pointer_cast) Less
    unfolding opened
    less_opened {long_cast = long_cast} {pointer_cast = pointer_cast} x y = less_commit (λ u. go u (inner (seen v u))) (fewer_less fewer_closed)
      where
        go : (u : Token) (w : Inner) → SoundMove Less (opened_by v r lower long_cast pointer_cast u w)
        go u i.Int = less_when v.casts less_int_cast
        go u i.Long = go_sound (less_must _ x)
        go u i.Pointer = go_sound (less_pointer y u)
        go u i.Other = stop_sound

    pub less_index : (m : ℕ) → r ≡ suc m → Sound (index_in v r lower) Less
    less_index m e = fewer_less (fewer_bind (h m e 6) (λ a. less_close _ _ less_pure))

    pub less_behind : {A : Type 0} (make : Tall Expr → A) (alone : A) → Sound (behind_name v r lower make alone) Less
    less_behind make alone = less_commit (λ u. go (is v s.LeftBracket u)) less_pure
      where
        go : (b : Bool) → SoundMove Less (cond b (deeper (λ _. indexed v r lower make) r) Stop)
        go true = less_deeper r (λ m e. less_bind (less_index m e) (λ a. less_pure))
        go false = stop_sound

    less_operand_by : (w : Head) → SoundMove Less (operand_by v r lower w)
    unfolding name_operand
    less_operand_by (Head.Value value) = go_sound less_pure
    less_operand_by (Head.Word n) = go_sound (less_behind _ _)
    less_operand_by Head.Open = less_fitting (may_open v r) (less_opened less_cast_name less_pointer_cast)
    less_operand_by Head.Not = less_deeper r (λ m e. less_bind (fewer_less (h m e 0)) (λ a. less_pure))
    less_operand_by Head.Minus = less_deeper r (λ m e. less_bind (fewer_less (h m e 0)) (λ a. less_pure))
    less_operand_by Head.Other = stop_sound

    pub fewer_operand : Sound (operand v r lower) Fewer
    unfolding operand
    fewer_operand = fewer_choice (λ u. less_operand_by (head (seen v u)))

  -- ---- operators

  less_operate : (r k : ℕ) → ((m : ℕ) → r ≡ suc m → (k : ℕ) → Sound (lower_in v r k) Fewer) → (a : Tall Expr) (u : Token) → SoundMove Less (operate (expressions_of v) r k (lower_in v r k) a u)
  less_operate r k h a u = go (operator_at v k u)
    where
      turn : (o : Op) (r : ℕ) → ((m : ℕ) → r ≡ suc m → (k : ℕ) → Sound (lower_in v r k) Fewer) → Sound (lower_in v r k >>= λ b. pure (joined o a b)) Less
      turn o zero h = record { spelled = λ ts b rest e. absurd cc }
      turn o (suc m) h = less_bind (fewer_less (h m refl k)) (λ b. less_pure)

      here : (o : Op) (b : Bool) → SoundMove Less (cond b (Go (lower_in v r k >>= λ b. pure (joined o a b))) Deep)
      here o true = go_sound (turn o r h)
      here o false = deep_sound

      go : (m : Option Op) → SoundMove Less (operate_by r (a.levels - 1) (λ o. lower_in v r k >>= λ b. pure (joined o a b)) m)
      go None = stop_sound
      go (Some o) = here o (ltb (a.levels - 1) r)

  less_climb : (r k : ℕ) → ((m : ℕ) → r ≡ suc m → (k : ℕ) → Sound (lower_in v r k) Fewer) → (a : Tall Expr) → Sound (climb (expressions_of v) r (lower_in v r) k a) Less
  unfolding climb
  less_climb r zero h a = less_pure
  less_climb r (suc k) h a = less_bind (less_climb r k h a) (less_loop (less_operate r k h))

  pub below_fewer : (r : ℕ) → ((m : ℕ) → r ≡ suc m → (k : ℕ) → Sound (chain (expressions_of v) m k) Fewer) → (m : ℕ) → r ≡ suc m → (k : ℕ) → Sound (lower_in v r k) Fewer
  below_fewer zero h m e k = absurd cc
  below_fewer (suc r) h m e k = h r refl k

  -- an expression takes a token
  pub fewer_chain : (r k : ℕ) → Sound (chain (expressions_of v) r k) Fewer
  fewer_chain = by_room (λ r. (k : ℕ) → Sound (chain (expressions_of v) r k) Fewer) whole
    where
      whole : (r : ℕ) → ((m : ℕ) → r ≡ suc m → (k : ℕ) → Sound (chain (expressions_of v) m k) Fewer) → (k : ℕ) → Sound (chain (expressions_of v) r k) Fewer
      whole r h k =
          let x = fewer_bind (fewer_operand r (lower_in v r) (below_fewer r h)) (less_climb r k (below_fewer r h)) in
          record { spelled = λ ts a rest e. x.spelled ts a rest (sym (ops.chain_is (expressions_of v) r k ts) ∙ e) }

  -- and so does each of its operators
  pub shrinks : (r k : ℕ) (a : Tall Expr) (u : Token) → Shrinks (operate (expressions_of v) r k (lower_in v r k) a u)
  shrinks r k a u = less_shrinks (less_operate r k (below_fewer r (λ m e j. fewer_chain m j)) a u)

  pub fewer_expression_of : (r : ℕ) → Sound (expression_in v r (lower_in v r)) Fewer
  fewer_expression_of r = fewer_expression r (lower_in v r) (below_fewer r (λ m e j. fewer_chain m j))
