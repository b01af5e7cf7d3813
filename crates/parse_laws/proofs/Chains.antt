-- Loops and operators over parts whose value may not fit.
use Rattle.std.proofs.Common.{◌≡◌, ℕ, zero, suc, ◌≤◌, ◌<◌, Bool, true, false, cond, ltb, List, [], ◌∷◌, length, Option, Some, None, refl, sym, ap, ◌∙◌, inl, arith}
use Rattle.std.proofs.lemmas.Bool.{ltb-true, ltb-false, lt-ltb}
use Rattle.parse_laws.specs.declared.fault.Fault.TheVariants.{Syntax, TooDeep}
use Rattle.parse_laws.specs.Parser.{Outcome, Got, Failed, Parser, and_then, ◌>>=◌, pure, Move, Stop, Deep, Go, commit, and_go, fault_at, loop}
use Rattle.parse_laws.specs.Operators.{Operators, operate_by, operate, climb, chain, below}
use Rattle.parse_laws.proofs.Says.{first, Quiet, Live, Starts, quiet_less}
use Rattle.parse_laws.proofs.Viable.{Within}
use Rattle.parse_laws.proofs.Loops.{Shrinks, loop_is, loop_ends, loop_stops}
use Rattle.parse_laws.proofs.After.{Fine, Tells, Steady, Completes, CompletesMove, stays, drops, takes, Behind, same_tells, same_steady, same_completes, live_then, tells_then, then_steady, then_completes}
use Rattle.parse_laws.proofs.Completes.{pure_steady, pure_behind, at_deep, at_go, at_end, at_stop, lower_completes}

-- ---- loops

module _ {Token A : Type 0} {ends : Token → Bool} {k : ℕ → A → Token → Move Token A} (stop : (s : ℕ) (a : A) (u : Token) → ends u ≡ true → k s a u ≡ Stop) where
  ended : (a : A) (s : ℕ) (z : List Token) → Quiet ends z → loop (k s) a z ≡ Got a z
  ended a s [] q = loop_ends (k s) a
  ended a s (u ∷ z) q = loop_stops (k s) a u z (stop s a u q)

  -- before a closer a loop reads nothing more
  pub loop_starts : (fits : ℕ → A → Bool) {before : Token → Bool} → Within before ends → (s : ℕ) (a : A) → fits s a ≡ true → Starts before ends (λ z o. Fine (fits s) (loop (k s) a) z o)
  loop_starts fits {before = before} outside s a e = record { live = record { word = []; value = a; reads = λ z q. (ended a s z q, e) }; closes = λ z q. quiet_less before ends z outside q }

-- `inner` closes what a turn reads, `ends` the loop.
module _ {Token A : Type 0} {fits : ℕ → A → Bool} {inner ends : Token → Bool} {r : ℕ} {k : ℕ → A → Token → Move Token A} (within : Within inner ends)
    (stop : (s : ℕ) (a : A) (u : Token) → ends u ≡ true → k s a u ≡ Stop) (shrinks : (s : ℕ) (a : A) (u : Token) → Shrinks (k s a u)) (moves : (a : A) (u : Token) → CompletesMove fits inner r (λ s. k s a u)) where
  -- a turn, and the loop again, or the end
  abbrev turned : A → ℕ → Parser Token A
  turned a s = commit (λ u. and_go (k s a u) (loop (k s))) (pure a)

  turned_is : (a : A) (s : ℕ) (z : List Token) → turned a s z ≡ loop (k s) a z
  turned_is a s [] = sym (loop_ends (k s) a)
  turned_is a s (u ∷ rest) = sym (loop_is (k s) (shrinks s) a u rest)

  calm : (a : A) (s : ℕ) (u : Token) → ends u ≡ true → and_go (k s a u) (loop (k s)) ≡ Stop
  calm a s u e = rw (stop s a u e) refl

  tells : (n : ℕ) (a : A) (ts : List Token) → length ts ≤ n → Tells fits ends r (λ s. loop (k s) a) ts (loop (k r) a ts)
  tells n a [] le = same_tells fits ends r (turned_is a) [] (at_end fits ends r (λ s u. and_go (k s a u) (loop (k s))) (λ s. pure a) (λ ts b e s l u. calm a s u) ((pure_steady {fits = fits} {ends = ends} {r = r} {a = a}).tells []))
  tells zero a (t ∷ rest) le = absurd (omega arith)
  tells (suc n) a (t ∷ rest) le = same_tells fits ends r (turned_is a) (t ∷ rest) (go (λ b mid l. tells n b mid l) (moves a t))
    where
      go : ((b : A) (mid : List Token) → length mid ≤ n → Tells fits ends r (λ s. loop (k s) b) mid (loop (k r) b mid)) → CompletesMove fits inner r (λ s. k s a t) → Tells fits ends r (turned a) (t ∷ rest) (turned a r (t ∷ rest))
      go later (stays f) =
          at_stop fits ends r (λ s u. and_go (k s a u) (loop (k s))) (λ s. pure a) (λ ts b e s l u. calm a s u) t rest (λ s l. rw (f s l) refl)
          ((pure_steady {fits = fits} {ends = ends} {r = r} {a = a}).tells (t ∷ rest))
      go later (drops e s l p d live) =
          at_deep fits ends r (λ s u. and_go (k s a u) (loop (k s))) (λ s. pure a) t rest (rw e refl) s l (λ ts. and_then (p ts) (loop (k s))) (rw d refl)
          (live_then fits fits {r = r} (λ s. p) (λ s l. loop_starts stop fits within s) s l (λ z. z) live)
      go later (takes p f c) =
          at_go fits ends r (λ s u. and_go (k s a u) (loop (k s))) (λ s. pure a) t rest (λ s. p s >>= loop (k s)) (λ s l. rw (f s l) refl)
          (live_then fits fits {r = r} p (λ s l. loop_starts stop fits within s) r (omega arith) (λ z. z) (c.live r (omega arith)))
          (tells_then fits fits p (λ s l. loop_starts stop fits within s) (λ mid b ts c e h. within) rest (p r rest) (c.steady.tells rest) (λ b mid e. later b mid (shorter b mid e)))
        where
          shorter : (b : A) (mid : List Token) → p r rest ≡ Got b mid → length mid ≤ n
          shorter b mid e = let lt = here (k r a t) (f r (omega arith)) (shrinks r a t) b mid e in omega (arith, lt, le)
            where
              here : (m : Move Token A) → m ≡ Go (p r) → Shrinks m → (b : A) (mid : List Token) → p r rest ≡ Got b mid → length mid ≤ length rest
              here Stop d h b mid e = absurd cc
              here Deep d h b mid e = absurd cc
              here (Go q) d h b mid e = let same : q ≡ p r = cc in h rest b mid (rw same e)

  -- behind a part that `before` closes
  pub loop_behind : {before : Token → Bool} → Within before ends → Behind fits fits before ends r (λ s a. loop (k s) a)
  loop_behind {before} outside = record {
    steady = λ a. record { tells = λ ts. tells (length ts) a ts (omega arith) };
    starts = λ s le a e. loop_starts stop fits outside s a e;
    empty = λ a ts c e. outside;
  }

-- ---- operators

module _ {Token O A : Type 0} (g : Operators Token O A) (fits : ℕ → A → Bool) (ends : Token → Bool) (quiet : (k : ℕ) (u : Token) → ends u ≡ true → g.operator k u ≡ None)
    (shrinks : (r k : ℕ) (a : A) (u : Token) → Shrinks (operate g r k (below g r k) a u))
    (fit : (s : ℕ) (o : O) (a b : A) → g.height a ≤ s → fits s b ≡ true → fits (suc s) (g.joined o a b) ≡ true)
    (live : (s k : ℕ) → Live ends (λ z o. Fine (fits s) (chain g s k) z o)) where
  abbrev Whole : ℕ → Type 0
  Whole r = (k : ℕ) → Completes fits ends r (λ s. chain g s k)

  -- the operand on the right, and the operator with both
  turn : (r k : ℕ) (o : O) (a : A) → g.height a < r → ((m : ℕ) → r ≡ suc m → Whole m) → Completes fits ends r (λ s. below g s k >>= λ b. pure (g.joined o a b))
  turn zero k o a lt h = absurd (omega arith)
  turn (suc m) k o a lt h =
      lower_completes {small = λ s b. fits (suc s) b} {p = λ s. chain g s k >>= λ b. pure (g.joined o a b)} (λ s z. refl) (λ s b. refl)
      (then_completes (h m refl k) (pure_behind (λ u e. e) (λ s le b e. fit s o a b (omega arith) e)))

  operate_moves : (r k : ℕ) → ((m : ℕ) → r ≡ suc m → Whole m) → (a : A) (u : Token) → CompletesMove fits ends r (λ s. operate g s k (below g s k) a u)
  operate_moves r k h a u = go (g.operator k u)
    where
      next : O → ℕ → Parser Token A
      next o s = below g s k >>= λ b. pure (g.joined o a b)

      here : (o : O) (b : Bool) → ltb (g.height a) r ≡ b → CompletesMove fits ends r (λ s. cond (ltb (g.height a) s) (Go (next o s)) Deep)
      here o true e =
          let lt : g.height a < r = ltb-true (g.height a) r e in
          takes (next o) (λ s le. let lts : ltb (g.height a) s ≡ true = lt-ltb (g.height a) s (omega arith) in rw lts refl) (turn r k o a lt h)
      here o false e =
          let deep : ltb (g.height a) (suc (g.height a)) ≡ true = lt-ltb (g.height a) (suc (g.height a)) (omega arith) in
          let x = live (g.height a) k in
          drops (rw e refl) (suc (g.height a)) (high e) (next o (suc (g.height a))) (rw deep refl)
          (record { word = x.word; value = g.joined o a x.value; reads = λ z q. let d = x.reads z q in (rw d.0 refl, fit (g.height a) o a x.value (omega arith) d.1) })
        where
          high : ltb (g.height a) r ≡ false → r ≤ suc (g.height a)
          high e = let le = ltb-false (g.height a) r e in omega arith

      go : (m : Option O) → CompletesMove fits ends r (λ s. operate_by s (g.height a) (λ o. next o s) m)
      go None = stays (λ s le. refl)
      go (Some o) = here o (ltb (g.height a) r) refl

  -- what goes on behind an operand, whichever it is
  module _ {r : ℕ} (h : (m : ℕ) → r ≡ suc m → Whole m) where
    turns : (k : ℕ) → Behind fits fits ends ends r (λ s a. loop (operate g s k (below g s k)) a)
    turns k = loop_behind (λ u e. e) (λ s a u e. rw (quiet k u e) refl) (λ s a u. shrinks s k a u) (operate_moves r k h) (λ u e. e)

  module _ (q : ℕ → Parser Token A) where
    alone : (s : ℕ) (z : List Token) → q s z ≡ and_then (q s z) (λ a. pure a)
    alone s z = go (q s z)
      where
        go : (o : Outcome Token A) → o ≡ and_then o (λ a. pure a)
        go (Got a rest) = refl
        go (Failed f rest) = refl

    grouped : (k s : ℕ) (z : List Token) → and_then (and_then (q s z) (climb g s (below g s) k)) (loop (operate g s k (below g s k))) ≡ and_then (q s z) (λ a. climb g s (below g s) k a >>= loop (operate g s k (below g s k)))
    grouped k s z = go (q s z)
      where
        go : (o : Outcome Token A) → and_then (and_then o (climb g s (below g s) k)) (loop (operate g s k (below g s k))) ≡ and_then o (λ a. climb g s (below g s) k a >>= loop (operate g s k (below g s k)))
        go (Got a rest) = refl
        go (Failed f rest) = refl

  module _ {q : ℕ → Parser Token A} {r : ℕ} (h : (m : ℕ) → r ≡ suc m → Whole m) where
    pub climb_steady : (k : ℕ) → Steady fits ends r q → Steady fits ends r (λ s. q s >>= climb g s (below g s) k)
    unfolding climb
    climb_steady zero x = same_steady (alone q) x
    climb_steady (suc k) x = same_steady (grouped q k) (then_steady (climb_steady k x) (turns h k))

    pub climb_completes : (k : ℕ) → Completes fits ends r q → Completes fits ends r (λ s. q s >>= climb g s (below g s) k)
    unfolding climb
    climb_completes zero x = same_completes (alone q) x
    climb_completes (suc k) x = same_completes (grouped q k) (then_completes (climb_completes k x) (turns h k))

-- ---- a part a level down

-- Where there is room, it is the part; else the tokens with which the part begins in some room are too deep, and no other begins it.
module _ {Token A : Type 0} {fits : ℕ → A → Bool} {ends : Token → Bool} {r : ℕ} {p : ℕ → Parser Token A} (begins : Token → Bool) where
  pub level_steady : ((m : ℕ) → r ≡ suc m → Steady fits ends r p) → ((u : Token) → begins u ≡ true → (s : ℕ) × Live ends (λ z o. Fine (fits (suc s)) (p (suc s)) (u ∷ z) o))
      → ((z : List Token) → p 0 z ≡ Failed (fault_at begins z) z) → ((s : ℕ) → p (suc s) [] ≡ Failed Syntax []) → ((s : ℕ) (u : Token) (rest : List Token) → begins u ≡ false → p (suc s) (u ∷ rest) ≡ Failed Syntax (u ∷ rest)) → Steady fits ends r p
  level_steady h begun shut end none = at r h
    where
      empty : (s : ℕ) (z : List Token) → first z ≡ None → p s z ≡ Failed Syntax z
      empty zero [] e = shut []
      empty (suc s) [] e = end s
      empty s (u ∷ z) e = absurd cc

      other : (t : Token) → begins t ≡ false → (s : ℕ) (z : List Token) → first z ≡ Some t → p s z ≡ Failed Syntax z
      other t b s [] e = absurd cc
      other t b zero (u ∷ z) e = let ut : u ≡ t = cc in shut (u ∷ z) ∙ rw (ut, b) refl
      other t b (suc s) (u ∷ z) e = let ut : u ≡ t = cc in none s u z (ap begins ut ∙ b)

      sunk : (t : Token) → begins t ≡ true → (z : List Token) → first z ≡ Some t → p 0 z ≡ Failed TooDeep z
      sunk t b [] e = absurd cc
      sunk t b (u ∷ z) e = let ut : u ≡ t = cc in shut (u ∷ z) ∙ rw (ut, b) refl

      says : (ts : List Token) → Tells fits ends 0 p ts (Failed (fault_at begins ts) ts)
      says [] = record { front = []; parts = refl; again = λ s le z h. empty s z h; begun = inl refl }
      says (u ∷ rest) = go (begins u) refl
        where
          go : (b : Bool) → begins u ≡ b → Tells fits ends 0 p (u ∷ rest) (Failed (cond b TooDeep Syntax) (u ∷ rest))
          go true e =
              let x = begun u e in
              record { front = []; parts = refl; again = sunk u e; begun = inl refl; room = suc x.0; wider = omega arith; deeper = record { word = x.1.word; value = x.1.value; reads = x.1.reads } }
          go false e = record { front = []; parts = refl; again = λ s le z h. other u e s z h; begun = inl refl }

      at : (n : ℕ) → ((m : ℕ) → n ≡ suc m → Steady fits ends n p) → Steady fits ends n p
      at zero h = record { tells = λ ts. rw (shut ts) (says ts) }
      at (suc m) h = h m refl
