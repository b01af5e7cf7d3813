-- Operators of any number of levels of precedence, from what is known of an operand alone.
use Rattle.std.proofs.Common.{◌≡◌, ℕ, zero, suc, max, ◌<◌, ◌≤◌, ◌-◌, Bool, true, false, cond, ltb, List, [], ◌∷◌, ◌++◌, Option, Some, None, refl, sym, ap, ◌∙◌, arith}
use Rattle.std.proofs.lemmas.Bool.{ltb-true, ltb-false, lt-ltb}
use Rattle.parse_laws.specs.declared.fault.Fault.{Fault}
use Rattle.parse_laws.specs.Parser.{Outcome, Got, Failed, Parser, and_then, ◌>>=◌, pure, Stop, Deep, Go, loop}
use Rattle.parse_laws.specs.Operators.{Operators, operate_by, operate, climb, chain, below}
use Rattle.parse_laws.proofs.Says.{Quiet, Live}
use Rattle.parse_laws.proofs.Rooms.{by_room}
use Rattle.parse_laws.proofs.Viable.{Viable, Follows, ViableMove, stops, sinks, goes, same_viable, lower_viable, bind_viable, bind_follows, pure_follows}
use Rattle.parse_laws.proofs.Loops.{Shrinks, viable_shrinks, loop_turns, loop_ends, loop_stops, loop_follows}
use Rattle.parse_laws.proofs.Sound.{Sound, SoundMove, stop_sound, deep_sound, go_sound, sound_map, pure_sound, bind_sound, loop_sound}

module _ {Token O A : Type 0} (g : Operators Token O A) where
  -- ---- what a chain of operators is

  -- an operand, and what goes on behind it
  pub chain_is : (r k : ℕ) (ts : List Token) → chain g r k ts ≡ and_then (g.operand r (below g r) ts) (climb g r (below g r) k)
  unfolding chain
  chain_is zero k ts = refl
  chain_is (suc r) k ts = refl

  -- an expression without operators is an operand
  pub chain_base : (r : ℕ) (ts : List Token) → chain g r 0 ts ≡ g.operand r (below g r) ts
  unfolding climb
  chain_base r ts = chain_is r 0 ts ∙ go (g.operand r (below g r) ts)
    where
      go : (o : Outcome Token A) → and_then o (λ a. pure a) ≡ o
      go (Got a rest) = refl
      go (Failed f rest) = refl

  -- else it is one of the next tighter level, and a loop
  pub chain_next : (r k : ℕ) (ts : List Token) → chain g r (suc k) ts ≡ and_then (chain g r k ts) (loop (operate g r k (below g r k)))
  unfolding climb
  chain_next r k ts = chain_is r (suc k) ts ∙ go (g.operand r (below g r) ts) ∙ ap (λ (o : Outcome Token A). and_then o (loop (operate g r k (below g r k)))) (sym (chain_is r k ts))
    where
      go : (o : Outcome Token A) → and_then o (λ a. climb g r (below g r) k a >>= loop (operate g r k (below g r k))) ≡ and_then (and_then o (climb g r (below g r) k)) (loop (operate g r k (below g r k)))
      go (Got a rest) = refl
      go (Failed f rest) = refl

  -- the same, of a level that is not 0
  pub chain_step : (r k : ℕ) (ts : List Token) → 0 < k → chain g r k ts ≡ and_then (chain g r (k - 1) ts) (loop (operate g r (k - 1) (below g r (k - 1))))
  chain_step r zero ts lt = absurd (omega arith)
  chain_step r (suc k) ts lt = let e : suc k - 1 ≡ k = omega arith in rw e (chain_next r k ts)

  -- it fails where its first operand does
  pub operand_fails : (r k : ℕ) (ts rest : List Token) (f : Fault) → g.operand r (below g r) ts ≡ Failed f rest → chain g r k ts ≡ Failed f rest
  operand_fails r k ts rest f e = chain_is r k ts ∙ rw e refl

  -- an operator is taken, or too deep
  pub operator_goes : (r k : ℕ) (right : Parser Token A) (a : A) (u : Token) → (g.operator k u ≡ None → ⊥) → operate g r k right a u ≡ Stop → ⊥
  operator_goes r k right a u h = go (g.operator k u) h
    where
      here : (b : Bool) (p : Parser Token A) → cond b (Go p) Deep ≡ Stop → ⊥
      here true p e = cc
      here false p e = cc

      go : (m : Option O) → (m ≡ None → ⊥) → operate_by r (g.height a) (λ o. right >>= λ b. pure (g.joined o a b)) m ≡ Stop → ⊥
      go None h e = h refl
      go (Some o) h e = here (ltb (g.height a) r) (right >>= λ b. pure (g.joined o a b)) e

  -- no operator of a level below k comes next
  abbrev pub Calm : ℕ → List Token → Type 0
  Calm k [] = Unit {0}
  Calm k (u ∷ rest) = (j : ℕ) → j < k → g.operator j u ≡ None

  pub calm_less : (k : ℕ) (rest : List Token) → Calm (suc k) rest → Calm k rest
  calm_less k [] c = tt
  calm_less k (u ∷ rest) c = λ j lt. c j (omega arith)

  no_more : (r k : ℕ) (right : Parser Token A) (a : A) (rest : List Token) → Calm (suc k) rest → loop (operate g r k right) a rest ≡ Got a rest
  no_more r k right a [] c = loop_ends (operate g r k right) a
  no_more r k right a (u ∷ rest) c = loop_stops (operate g r k right) a u rest (rw (c k (omega arith)) refl)

  -- where no operator comes, an operand stands alone
  pub climb_calm : (r k : ℕ) (lower : ℕ → Parser Token A) (a : A) (rest : List Token) → Calm k rest → climb g r lower k a rest ≡ Got a rest
  unfolding climb
  climb_calm r zero lower a rest c = refl
  climb_calm r (suc k) lower a rest c = rw (climb_calm r k lower a rest (calm_less k rest c)) (no_more r k (lower k) a rest c)

  -- an operand that no operator follows is an expression
  pub operand_reads : (r k : ℕ) (ts rest : List Token) (a : A) → g.operand r (below g r) ts ≡ Got a rest → Calm k rest → chain g r k ts ≡ Got a rest
  operand_reads r k ts rest a e c = chain_is r k ts ∙ rw e (climb_calm r k (below g r) a rest c)

  -- ---- a chain is viable, where an operand is

  module _ (ends : Token → Bool) (quiet : (k : ℕ) (u : Token) → ends u ≡ true → g.operator k u ≡ None) (leaf : (r : ℕ) (lower : ℕ → Parser Token A) → Live ends (λ z o. g.operand r lower z ≡ o)) where
    calm_quiet : (k : ℕ) (z : List Token) → Quiet ends z → Calm k z
    calm_quiet k [] q = tt
    calm_quiet k (u ∷ z) q = λ j lt. quiet j u q

    -- some expression is read in every room
    pub chain_live : (r k : ℕ) → Live ends (λ z o. chain g r k z ≡ o)
    chain_live r k =
        let x = leaf r (below g r) in
        record { word = x.word; value = x.value; reads = λ z q. rw (chain_is r k (x.word ++ z), x.reads z q) (climb_calm r k (below g r) x.value z (calm_quiet k z q)) }

    -- a level down
    pub below_viable : (r k : ℕ) → 0 < r → ((m : ℕ) → r ≡ suc m → (k : ℕ) → Viable ends m (λ s. chain g s k)) → Viable ends r (λ s. below g s k)
    below_viable zero k lt h = absurd (omega arith)
    below_viable (suc m) k lt h = lower_viable (λ s z. refl) (h m refl k)

    -- an operator of the level k
    pub operate_moves : (r k : ℕ) → ((m : ℕ) → r ≡ suc m → (k : ℕ) → Viable ends m (λ s. chain g s k)) → (a : A) (u : Token) → ViableMove ends r (λ s. operate g s k (below g s k) a u)
    operate_moves r k h a u = go (g.operator k u)
      where
        next : O → ℕ → Parser Token A
        next o s = below g s k >>= λ b. pure (g.joined o a b)

        here : (o : O) (b : Bool) → ltb (g.height a) r ≡ b → ViableMove ends r (λ s. cond (ltb (g.height a) s) (Go (next o s)) Deep)
        here o true e =
            let lt : g.height a < r = ltb-true (g.height a) r e in
            goes (next o) (λ s le. let lts : ltb (g.height a) s ≡ true = lt-ltb (g.height a) s (omega arith) in rw lts refl)
            (bind_viable (below_viable r k (omega arith) h) (λ b. pure_follows (λ v q. q)))
        here o false e =
            let deep : ltb (g.height a) (suc (g.height a)) ≡ true = lt-ltb (g.height a) (suc (g.height a)) (omega arith) in
            let x = chain_live (g.height a) k in
            sinks (rw e refl) (suc (g.height a)) (high e) (next o (suc (g.height a))) (rw deep refl)
            (record { word = x.word; value = g.joined o a x.value; reads = λ z q. rw (x.reads z q) refl })
          where
            high : ltb (g.height a) r ≡ false → r ≤ suc (g.height a)
            high e = let le = ltb-false (g.height a) r e in omega arith

        go : (m : Option O) → ViableMove ends r (λ s. operate_by s (g.height a) (λ o. next o s) m)
        go None = stops (λ s le. refl)
        go (Some o) = here o (ltb (g.height a) r) refl

    -- what goes on behind an operand
    pub climb_follows : (r k : ℕ) → ((m : ℕ) → r ≡ suc m → (k : ℕ) → Viable ends m (λ s. chain g s k)) → (a : A) → Follows ends ends r (λ s. climb g s (below g s) k a)
    unfolding climb
    climb_follows r zero h a = pure_follows (λ u e. e)
    climb_follows r (suc k) h a = bind_follows (climb_follows r k h a) (λ b. loop_follows b (λ u e. e) (λ u e. e) (λ s c u e. rw (quiet k u e) refl) (operate_moves r k h))

    -- The premise is of one room, and is given what is shown for the room one less.
    pub chain_viable : ((r : ℕ) → ((m : ℕ) → r ≡ suc m → (k : ℕ) → Viable ends m (λ s. chain g s k)) → Viable ends r (λ s. g.operand s (below g s))) → (r k : ℕ) → Viable ends r (λ s. chain g s k)
    chain_viable operand = by_room (λ r. (k : ℕ) → Viable ends r (λ s. chain g s k)) (λ r h k. same_viable (λ s z. sym (chain_is s k z)) (bind_viable (operand r h) (climb_follows r k h)))

    -- no turn takes a token back
    pub operate_shrinks : ((r k : ℕ) → Viable ends r (λ s. chain g s k)) → (r k : ℕ) (a : A) (u : Token) → Shrinks (operate g r k (below g r k) a u)
    operate_shrinks viable r k a u = viable_shrinks (operate_moves r k (λ m e j. viable m j) a u)

  -- ---- a chain is sound, where an operand is

  -- spelled so, with so many levels below
  abbrev pub Fits : ℕ → (List Token → List Token → A → Type 0) → List Token → List Token → A → Type 0
  Fits r R ts rest a = R ts rest a × (g.height a ≤ r)

  module _ (Spells : ℕ → List Token → List Token → A → Type 0)
      (tighter : (k : ℕ) (ts rest : List Token) (a : A) → Spells k ts rest a → Spells (suc k) ts rest a)
      (binary : (k : ℕ) (ts mid rest : List Token) (a b : A) (o : O) (t : Token) → Spells (suc k) ts (t ∷ mid) a → g.operator k t ≡ Some o → Spells k mid rest b → Spells (suc k) ts rest (g.joined o a b))
      (tall : (o : O) (a b : A) → g.height (g.joined o a b) ≡ suc (max (g.height a) (g.height b))) where
    operate_sound : (r k : ℕ) → ((m : ℕ) → r ≡ suc m → (k : ℕ) → Sound (chain g m k) (Fits m (Spells k))) → (a : A) (u : Token)
        → SoundMove (λ mid rest b. (ts : List Token) → Fits r (Spells (suc k)) ts (u ∷ mid) a → Fits r (Spells (suc k)) ts rest b) (operate g r k (below g r k) a u)
    operate_sound r k h a u = go (g.operator k u) refl
      where
        turn : (o : O) (r : ℕ) → ((m : ℕ) → r ≡ suc m → (k : ℕ) → Sound (chain g m k) (Fits m (Spells k))) → g.operator k u ≡ Some o → g.height a < r
            → Sound (below g r k >>= λ b. pure (g.joined o a b)) (λ mid rest b. (ts : List Token) → Fits r (Spells (suc k)) ts (u ∷ mid) a → Fits r (Spells (suc k)) ts rest b)
        turn o zero h e lt = absurd (omega arith)
        turn o (suc m) h e lt = bind_sound (h m refl k) (λ b. pure_sound (λ rest mid y ts x. (binary k ts mid rest a b o u x.0 e y.0, omega (arith, tall o a b, y.1))))

        here : (o : O) → g.operator k u ≡ Some o → (b : Bool) → ltb (g.height a) r ≡ b
            → SoundMove (λ mid rest b. (ts : List Token) → Fits r (Spells (suc k)) ts (u ∷ mid) a → Fits r (Spells (suc k)) ts rest b) (cond b (Go (below g r k >>= λ b. pure (g.joined o a b))) Deep)
        here o e true d = go_sound (turn o r h e (ltb-true (g.height a) r d))
        here o e false d = deep_sound

        go : (m : Option O) → g.operator k u ≡ m
            → SoundMove (λ mid rest b. (ts : List Token) → Fits r (Spells (suc k)) ts (u ∷ mid) a → Fits r (Spells (suc k)) ts rest b) (operate_by r (g.height a) (λ o. below g r k >>= λ b. pure (g.joined o a b)) m)
        go None e = stop_sound
        go (Some o) e = here o e (ltb (g.height a) r) refl

    -- behind an operand
    pub climb_sound : (r k : ℕ) → ((m : ℕ) → r ≡ suc m → (k : ℕ) → Sound (chain g m k) (Fits m (Spells k))) → (a : A) → Sound (climb g r (below g r) k a) (λ mid rest b. (ts : List Token) → Fits r (Spells 0) ts mid a → Fits r (Spells k) ts rest b)
    unfolding climb
    climb_sound r zero h a = pure_sound (λ mid ts x. x)
    climb_sound r (suc k) h a =
        bind_sound (climb_sound r k h a)
        (λ b. sound_map (λ mid rest c f mid2 x ts y. let z = x ts y in f ts (tighter k ts mid b z.0, z.1)) (loop_sound {R = Fits r (Spells (suc k))} (operate_sound r k h) b))

    pub chain_sound : ((r : ℕ) → ((m : ℕ) → r ≡ suc m → (k : ℕ) → Sound (chain g m k) (Fits m (Spells k))) → Sound (g.operand r (below g r)) (Fits r (Spells 0))) → (r k : ℕ) → Sound (chain g r k) (Fits r (Spells k))
    chain_sound operand = by_room (λ r. (k : ℕ) → Sound (chain g r k) (Fits r (Spells k))) whole
      where
        whole : (r : ℕ) → ((m : ℕ) → r ≡ suc m → (k : ℕ) → Sound (chain g m k) (Fits m (Spells k))) → (k : ℕ) → Sound (chain g r k) (Fits r (Spells k))
        whole r h k = let x = bind_sound {S = Fits r (Spells k)} (operand r h) (climb_sound r k h) in record { spelled = λ ts a rest e. x.spelled ts a rest (sym (chain_is r k ts) ∙ e) }

  -- ---- what is spelled is read

  -- Where a derivation stands in the parser: at a loop that goes on with its value.
  abbrev pub Found : ℕ → ℕ → List Token → List Token → A → Type 0
  Found r zero ts rest a = chain g r 0 ts ≡ Got a rest
  Found r (suc k) ts rest a = Calm k rest → chain g r (suc k) ts ≡ loop (operate g r k (below g r k)) a rest

  -- an expression is read, where no operator goes on
  pub found_ends : (r k : ℕ) (ts rest : List Token) (a : A) → Found r k ts rest a → Calm k rest → chain g r k ts ≡ Got a rest
  found_ends r zero ts rest a f c = f
  found_ends r (suc k) ts rest a f c = f (calm_less k rest c) ∙ no_more r k (below g r k) a rest c

  -- a derivation by a tighter level
  pub found_tighter : (r k : ℕ) (ts rest : List Token) (a : A) → Found r k ts rest a → Found r (suc k) ts rest a
  found_tighter r k ts rest a f = λ c. chain_next r k ts ∙ rw (found_ends r k ts rest a f c) refl

  -- a derivation by an operator: `one` says that a token is an operator of one level only
  pub found_binary : (r k : ℕ) (ts mid rest : List Token) (a b : A) (o : O) (u : Token) → ((b : A) (v : Token) → Shrinks (operate g (suc r) k (chain g r k) b v)) → ((j : ℕ) → j < k → g.operator j u ≡ None) → g.height a ≤ r
      → Found (suc r) (suc k) ts (u ∷ mid) a → g.operator k u ≡ Some o → Found r k mid rest b → Found (suc r) (suc k) ts rest (g.joined o a b)
  found_binary r k ts mid rest a b o u shrinks one le f e d = λ c.
      f one ∙ loop_turns (operate g (suc r) k (chain g r k)) shrinks a (g.joined o a b) u mid rest (chain g r k >>= λ b. pure (g.joined o a b))
      (let lt : ltb (g.height a) (suc r) ≡ true = lt-ltb (g.height a) (suc r) (omega arith) in rw (e, lt) refl) (rw (found_ends r k mid rest b d c) refl)
