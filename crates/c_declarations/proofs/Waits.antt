-- The capacities with what stands behind them, and what `void` begins there, by one token after the other.
use Rattle.std.proofs.Common.{◌≡◌, ℕ, Bool, true, false, cond, List, [], ◌∷◌, ◌++◌, Option, Some, None, refl, sym, ap, ◌∙◌}
use Rattle.c_lexer.specs.declared.token.Sign.TheVariants as s
use Rattle.c_tree.specs.declared.program.Kind.TheVariants as kind
use Rattle.c_grammar.specs.declared.words.FixedWord.TheVariants as w
use Rattle.c_grammar.specs.Items.{Item, spelling}
use Rattle.c_grammar.specs.Declarations as g
use Rattle.c_grammar.specs.Declarations.{SpellsWaitPrototype, SpellsCapacities}
use Rattle.parse_laws.specs.Parser.{Outcome, Got, Parser, and_then, ◌>>=◌, pure, commit, when, must}
use Rattle.parse_laws.proofs.Viable.{Viable, Takes, reads_of, when_move, pure_local, pure_viable, fallback_viable, first_takes}
use Rattle.c_expressions.specs.Parsers.{Sight, is}
use Rattle.c_expressions.proofs.Words.{Words}
use Rattle.c_declarations.specs.declared.tree.Head.{Head}
use Rattle.c_declarations.specs.Parsers.{is_fixed, parameters, void_head, head_behind_void, type_comes, open_comes, word_comes, wait_comes, wait_end, wait_behind_void, wait_prototype, wait_declared}
use Rattle.c_declarations.specs.Spelled.{SpellsMonitors, monitors}
use Rattle.c_declarations.proofs.Tokens.{fixed_at}
use Rattle.c_declarations.proofs.Viable.{any, word_at, sign_viable, word_viable, CapacityWords, made_viable, parameters_viable, parameters_take, behind_void_viable, behind_void_take}

-- ---- what is spelled

pub with_wait : {before mid after : List Item} {c : g.Capacities} → SpellsMonitors before mid c → SpellsWaitPrototype mid after → SpellsCapacities before after c
with_wait (monitors x y z) p = g.capacities x y z p

pub wait_apart : {before after : List Item} {c : g.Capacities} → SpellsCapacities before after c → (mid : List Item) × SpellsMonitors before mid c × SpellsWaitPrototype mid after
wait_apart (g.capacities x y z p) = (_, monitors x y z, p)

-- ---- what is read

three : (a b c : Bool) → cond a (cond b c false) false ≡ true → (a ≡ true) × (b ≡ true) × (c ≡ true)
three true true true e = (refl, refl, refl)
three true true false e = absurd cc
three true false c e = absurd cc
three false b c e = absurd cc

module _ {Token : Type 0} (v : Sight Token) where
  abbrev some_head : Parser Token Head → Parser Token (Option Head)
  some_head p = p >>= λ h. pure (Some h)

  -- behind `void N (`
  abbrev void_end : ℕ → List ℕ → Parser Token Head
  void_end l n = parameters v >>= λ all. pure (record { name = n; kind = kind.Void; params = all; line = l })

  -- behind `void gd_cond_wait (`: its declaration, or the head of a function
  abbrev wait_or_end : ℕ → Parser Token (Option Head)
  wait_or_end l = commit (λ u. when (is_fixed v w.Condition u) (wait_end v >>= λ _. pure None)) (some_head (void_end l (spelling w.ControlledWait)))

  -- behind `void`
  abbrev pub head_or_wait : ℕ → Parser Token (Option Head)
  head_or_wait l = commit (λ u. when (is_fixed v w.ControlledWait u) (must (is v s.LeftParenthesis) (wait_or_end l))) (some_head (head_behind_void v l))

  module _ (l : ℕ) where
    by_word : (u : Token) (ts : List Token) → is_fixed v w.ControlledWait u ≡ true → head_behind_void v l (u ∷ ts) ≡ void_head v l (spelling w.ControlledWait) ts
    unfolding head_behind_void
    by_word u ts d = rw (fixed_at v u w.ControlledWait d) refl

    no_type : (ts : List Token) → type_comes v ts ≡ false → wait_or_end l ts ≡ some_head (void_end l (spelling w.ControlledWait)) ts
    no_type [] e = refl
    no_type (u ∷ ts) e = rw e refl

    no_open : (ts : List Token) → open_comes v ts ≡ false → must (is v s.LeftParenthesis) (wait_or_end l) ts ≡ some_head (void_head v l (spelling w.ControlledWait)) ts
    unfolding void_head
    no_open [] e = refl
    no_open (u ∷ ts) e = go (is v s.LeftParenthesis u) refl e
      where
        go : (b : Bool) → is v s.LeftParenthesis u ≡ b → cond b (type_comes v ts) false ≡ false → must (is v s.LeftParenthesis) (wait_or_end l) (u ∷ ts) ≡ some_head (must (is v s.LeftParenthesis) (void_end l (spelling w.ControlledWait))) (u ∷ ts)
        go true d e = rw d (no_type ts e)
        go false d e = rw d refl

    -- where it isn't the declaration of `gd_cond_wait`, it is the head of a function
    pub no_wait : (ts : List Token) → word_comes v ts ≡ false → head_or_wait l ts ≡ some_head (head_behind_void v l) ts
    no_wait [] e = refl
    no_wait (u ∷ ts) e = go (is_fixed v w.ControlledWait u) refl e
      where
        go : (b : Bool) → is_fixed v w.ControlledWait u ≡ b → cond b (open_comes v ts) false ≡ false → head_or_wait l (u ∷ ts) ≡ some_head (head_behind_void v l) (u ∷ ts)
        go true d e = rw d (no_open ts e ∙ ap (λ (o : Outcome Token Head). and_then o (λ h. pure (Some h))) (sym (by_word u ts d)))
        go false d e = rw d refl

    pub some_wait : (ts : List Token) → word_comes v ts ≡ true → head_or_wait l ts ≡ and_then (wait_behind_void v ts) (λ _. pure None)
    unfolding wait_behind_void
    some_wait [] e = absurd cc
    some_wait (u ∷ []) e = absurd (go (is_fixed v w.ControlledWait u) e)
      where
        go : (b : Bool) → cond b false false ≡ true → ⊥
        go true e = cc
        go false e = cc
    some_wait (u ∷ t ∷ []) e = let x = three (is_fixed v w.ControlledWait u) (is v s.LeftParenthesis t) false e in absurd (differs x.2)
      where
        differs : false ≡ true → ⊥
        differs e = cc
    some_wait (u ∷ t ∷ c ∷ ts) e = let x = three (is_fixed v w.ControlledWait u) (is v s.LeftParenthesis t) (is_fixed v w.Condition c) e in rw (x.0, x.1, x.2) refl

  module _ (words : Words v) (here : CapacityWords v words) where
    wait_end_viable : {ends : Token → Bool} {r : ℕ} → Viable ends r (λ s. wait_end v)
    unfolding wait_end
    wait_end_viable =
        sign_viable v words s.Star (word_viable v words w.ConditionParameter here.7 (sign_viable v words s.Comma (word_viable v words w.Mutex here.8 (sign_viable v words s.Star (word_viable v words w.MutexParameter here.9
        (sign_viable v words s.Comma (sign_viable v words s.Ellipsis (sign_viable v words s.RightParenthesis (sign_viable v words s.Semicolon pure_viable)))))))))

    none_viable : {ends : Token → Bool} {r : ℕ} → Viable {A = Option Head} ends r (λ s. wait_end v >>= λ _. pure None)
    none_viable = made_viable v words (λ _. None) wait_end_viable

    wait_prototype_viable : {ends : Token → Bool} {r : ℕ} → Viable ends r (λ s. wait_prototype v)
    unfolding wait_prototype wait_behind_void
    wait_prototype_viable = word_viable v words w.Void here.0 (word_viable v words w.ControlledWait here.5 (sign_viable v words s.LeftParenthesis (word_viable v words w.Condition here.6 wait_end_viable)))

    -- what is read of it stands at the front
    pub wait_fronts : (ts rest : List Token) (x : Unit {0}) → wait_declared v ts ≡ Got x rest → (front : List Token) × (ts ≡ front ++ rest)
    unfolding wait_declared
    wait_fronts ts rest x e = go (wait_comes v ts) e
      where
        go : (b : Bool) → cond b (wait_prototype v) (pure tt) ts ≡ Got x rest → (front : List Token) × (ts ≡ front ++ rest)
        go true e = let y = reads_of (wait_prototype_viable {ends = any v} {r = 0}).local ts x rest e in (y.front, y.parts)
        go false e = ([], cc)

    module _ (l : ℕ) where
      void_end_viable : {ends : Token → Bool} {r : ℕ} → Viable ends r (λ s. void_end l (spelling w.ControlledWait))
      void_end_viable = made_viable v words (λ all. record { name = spelling w.ControlledWait; kind = kind.Void; params = all; line = l }) (parameters_viable v words)

      void_end_takes : (r : ℕ) → Takes (some_head (void_end l (spelling w.ControlledWait)))
      void_end_takes r =
          first_takes {before = any v} {ends = any v} {r = r} (void_end_viable {ends = any v} {r = r}).local (λ h. pure_local)
          (first_takes {before = any v} {ends = any v} {r = r} (parameters_viable v words {ends = any v} {r = r}).local (λ all. pure_local) (parameters_take v words r))

      wait_or_end_viable : {ends : Token → Bool} {r : ℕ} → Viable ends r (λ s. wait_or_end l)
      wait_or_end_viable {r = r} =
          fallback_viable (λ u. when_move (is_fixed v w.Condition u) (λ e. none_viable)) (void_end_takes r) (made_viable v words (λ h. Some h) void_end_viable).local here.6.0 (λ s le. rw (word_at v w.Condition here.6.0 here.6.1) refl) none_viable

      pub head_or_wait_viable : {ends : Token → Bool} {r : ℕ} → Viable ends r (λ s. head_or_wait l)
      head_or_wait_viable {r = r} =
          fallback_viable (λ u. when_move (is_fixed v w.ControlledWait u) (λ e. sign_viable v words s.LeftParenthesis wait_or_end_viable))
          (first_takes {before = any v} {ends = any v} {r = r} (behind_void_viable v words here.0 {ends = any v} {r = r} l).local (λ h. pure_local) (behind_void_take v words here.0 l r))
          (made_viable v words (λ h. Some h) (behind_void_viable v words here.0 l)).local here.5.0 (λ s le. rw (word_at v w.ControlledWait here.5.0 here.5.1) refl) (sign_viable v words s.LeftParenthesis wait_or_end_viable)
