-- What keeps parts whose value may not fit, and how they are viable with what stands behind them.
use Rattle.std.proofs.Common.{◌≡◌, ℕ, zero, suc, ◌≤◌, Bool, true, false, List, [], ◌∷◌, ◌++◌, length, length-append, Some, None, refl, sym, ap, subst, ◌∙◌, inl, inr, ◌⊎◌, arith}
use Rattle.parse_laws.specs.declared.fault.Fault.TheVariants.{Syntax, TooDeep}
use Rattle.parse_laws.specs.Parser.{Outcome, Got, Failed, Parser, and_then, ◌>>=◌, pure, refuse, Move, Stop, Deep, Go, commit, and_go, when, must}
use Rattle.parse_laws.proofs.Says.{first, Quiet, Stopped, Live, Says, quiet_less, says_along, says_shifted}
use Rattle.parse_laws.proofs.Viable.{Local, Viable, Within, in_one_step}
use Rattle.parse_laws.proofs.After.{Fine, Tells, Steady, Completes, CompletesMove, stays, drops, takes, Behind, After, same_steady, same_completes, tells_along, tells_behind, live_then, then_steady, then_completes}

-- ---- parts of which all values fit

module _ {Token A : Type 0} (good : A → Bool) (p : Parser Token A) where
  all_fine : ((z : List Token) (a : A) (rest : List Token) → p z ≡ Got a rest → good a ≡ true) → (z : List Token) (o : Outcome Token A) → p z ≡ o → Fine good p z o
  all_fine h z (Got a rest) e = (e, h z a rest e)
  all_fine h z (Failed f rest) e = e

  plain : (z : List Token) (o : Outcome Token A) → Fine good p z o → p z ≡ o
  plain z (Got a rest) e = e.0
  plain z (Failed f rest) e = e

module _ {Token A : Type 0} (fits : ℕ → A → Bool) (ends : Token → Bool) (r : ℕ) (p : ℕ → Parser Token A) (good : (s : ℕ) → r ≤ s → (z : List Token) (a : A) (rest : List Token) → p s z ≡ Got a rest → fits s a ≡ true) where
  told : (ts : List Token) (o : Outcome Token A) → p r ts ≡ o → Says ends r (λ s z o. p s z ≡ o) ts o → Tells fits ends r p ts o
  told ts (Got a rest) e x = record { front = x.front; parts = x.parts; again = x.again; begun = λ b. absurd (differ (good r (omega arith) ts a rest e) b) }
    where
      differ : fits r a ≡ true → fits r a ≡ false → ⊥
      differ x y = cc
  told ts (Failed f rest) e x = says_along ts (λ s le z o h d. all_fine (fits s) (p s) (good s le) z o d) (λ a h s le z q d. all_fine (fits s) (p s) (good s le) z (Got a z) d) (Failed f rest) x

module _ {Token A : Type 0} {fits : ℕ → A → Bool} {ends : Token → Bool} {r : ℕ} {p : ℕ → Parser Token A} (good : (s : ℕ) → r ≤ s → (z : List Token) (a : A) (rest : List Token) → p s z ≡ Got a rest → fits s a ≡ true) where
  pub local_steady : Local ends r p → Steady fits ends r p
  local_steady x = record { tells = λ ts. told fits ends r p good ts (p r ts) refl (x.says ts) }

  pub viable_completes : Viable ends r p → Completes fits ends r p
  viable_completes x = record {
    steady = local_steady x.local;
    live = λ s le. let y = x.live s le in record { word = y.word; value = y.value; reads = λ z q. all_fine (fits s) (p s) (good s le) (y.word ++ z) (Got y.value z) (y.reads z q) };
  }

-- where every value fits by itself
abbrev pub all_fit : {A : Type 0} → ℕ → A → Bool
all_fit s a = true

module _ {Token A : Type 0} (fits : ℕ → A → Bool) (ends : Token → Bool) (r : ℕ) (p : ℕ → Parser Token A) where
  untold : (ts : List Token) (o : Outcome Token A) → Tells fits ends r p ts o → Says ends r (λ s z o. p s z ≡ o) ts o
  untold ts (Got a rest) x = record { front = x.front; parts = x.parts; again = x.again }
  untold ts (Failed f rest) x = says_along ts (λ s le z o h e. plain (fits s) (p s) z o e) (λ a h s le z q e. e.0) (Failed f rest) x

-- what is known apart from what fits
module _ {Token A : Type 0} {fits : ℕ → A → Bool} {ends : Token → Bool} {r : ℕ} {p : ℕ → Parser Token A} where
  pub steady_local : Steady fits ends r p → Local ends r p
  steady_local x = record { says = λ ts. untold fits ends r p ts (p r ts) (x.tells ts) }

  pub completes_viable : Completes fits ends r p → Viable ends r p
  completes_viable x = record { local = steady_local x.steady; live = λ s le. let y = x.live s le in record { word = y.word; value = y.value; reads = λ z q. (y.reads z q).0 } }

-- no token is taken back
pub steady_less : {Token A : Type 0} {fits : ℕ → A → Bool} {ends : Token → Bool} {r : ℕ} {p : ℕ → Parser Token A} → Steady fits ends r p → (ts : List Token) (a : A) (rest : List Token) → p r ts ≡ Got a rest → length rest ≤ length ts
steady_less {Token} {A} {fits} {ends} {r} {p} x ts a rest e =
    let y : Tells fits ends r p ts (Got a rest) = subst (λ (o : Outcome Token A). Tells fits ends r p ts o) e (x.tells ts) in
    omega (arith, ap length y.parts, length-append y.front rest)

-- ---- with what stands behind

module _ {Token A B : Type 0} {fits : ℕ → A → Bool} {before ends : Token → Bool} {r : ℕ} {after : ℕ → A → Parser Token B} where
  pub after_behind : After fits before ends r after → Behind fits all_fit before ends r after
  after_behind y = record {
    steady = λ a. local_steady (λ s le z b rest e. refl) (y.local a);
    starts = λ s le a e. let c = y.starts s le a e in record { live = record { word = c.live.word; value = c.live.value; reads = λ z q. (c.live.reads z q, refl) }; closes = c.closes };
    empty = y.empty;
  }

module _ {Token A B : Type 0} {fits : ℕ → A → Bool} {before ends : Token → Bool} {r : ℕ} {after : ℕ → A → Parser Token B} where
  pub behind_after : Behind fits all_fit before ends r after → After fits before ends r after
  behind_after y = record {
    local = λ a. steady_local (y.steady a);
    starts = λ s le a e. let c = y.starts s le a e in record { live = record { word = c.live.word; value = c.live.value; reads = λ z q. (c.live.reads z q).0 }; closes = c.closes };
    empty = y.empty;
  }

-- A part, and behind it what asks whether it fits.
module _ {Token A B : Type 0} {fits : ℕ → A → Bool} {before ends : Token → Bool} {r : ℕ} {p : ℕ → Parser Token A} {after : ℕ → A → Parser Token B} where
  pub after_local : Steady fits before r p → After fits before ends r after → Local ends r (λ s. p s >>= after s)
  after_local x y = steady_local (then_steady x (after_behind y))

  pub after_viable : Completes fits before r p → After fits before ends r after → Viable ends r (λ s. p s >>= after s)
  after_viable x y = completes_viable (then_completes x (after_behind y))

-- ---- nothing is read

module _ {Token A : Type 0} {fits : ℕ → A → Bool} {ends : Token → Bool} {r : ℕ} where
  pub pure_steady : {a : A} → Steady {Token = Token} fits ends r (λ s. pure a)
  pure_steady = record { tells = λ ts. record { front = []; parts = refl; again = λ s le z h. refl; begun = λ e. inl refl } }

  pub pure_completes : {a : A} → ((s : ℕ) → r ≤ s → fits s a ≡ true) → Completes {Token = Token} fits ends r (λ s. pure a)
  pure_completes {a} h = record { steady = pure_steady; live = λ s le. record { word = []; value = a; reads = λ z q. (refl, h s le) } }

  pub refuse_steady : Steady {Token = Token} fits ends r (λ s. refuse)
  refuse_steady = record { tells = λ ts. record { front = []; parts = refl; again = λ s le z h. refl; begun = inl refl } }

-- a value is made of the one that was read
pub pure_behind : {Token A C : Type 0} {small : ℕ → A → Bool} {fits : ℕ → C → Bool} {before ends : Token → Bool} {r : ℕ} {h : A → C} → Within before ends
    → ((s : ℕ) → r ≤ s → (a : A) → small s a ≡ true → fits s (h a) ≡ true) → Behind {Token = Token} small fits before ends r (λ s a. pure (h a))
pure_behind {before = before} {ends = ends} {h = h} within fit = record {
  steady = λ a. pure_steady;
  starts = λ s le a e. record { live = record { word = []; value = h a; reads = λ z q. (refl, fit s le a e) }; closes = λ z q. quiet_less before ends z within q };
  empty = λ a ts c e. within;
}

-- the same of a value that was changed before
pub behind_of : {Token D A C : Type 0} {large : ℕ → D → Bool} {small : ℕ → A → Bool} {fits : ℕ → C → Bool} {before ends : Token → Bool} {r : ℕ} {f : ℕ → A → Parser Token C} (g : D → A)
    → ((s : ℕ) → r ≤ s → (a : D) → large s a ≡ true → small s (g a) ≡ true) → Behind small fits before ends r f → Behind large fits before ends r (λ s a. f s (g a))
behind_of g h y = record { steady = λ a. y.steady (g a); starts = λ s le a e. y.starts s le (g a) (h s le a e); empty = λ a. y.empty (g a) }

-- ---- by the next token

module _ {Token A : Type 0} (fits : ℕ → A → Bool) (ends : Token → Bool) (r : ℕ) (k : ℕ → Token → Move Token A) (other : ℕ → Parser Token A) where
  here : (t : Token) → ((s : ℕ) → r ≤ s → k s t ≡ Stop) → (s : ℕ) → r ≤ s → (z : List Token) → first z ≡ Some t → other s z ≡ commit (k s) (other s) z
  here t f s le [] h = absurd cc
  here t f s le (u ∷ z) h = let ut : u ≡ t = cc in rw (ut, f s le) refl

  none : (s : ℕ) (z : List Token) → first z ≡ None → other s z ≡ commit (k s) (other s) z
  none s [] h = refl
  none s (u ∷ z) h = absurd cc

  sunk : (t : Token) → k r t ≡ Deep → (z : List Token) → first z ≡ Some t → commit (k r) (other r) z ≡ Failed TooDeep z
  sunk t e [] h = absurd cc
  sunk t e (u ∷ z) h = let ut : u ≡ t = cc in rw (ut, e) refl

  pub at_deep : (t : Token) (rest : List Token) → k r t ≡ Deep → (s : ℕ) → r ≤ s → (p : Parser Token A) → k s t ≡ Go p → Live ends (λ z o. Fine (fits s) p z o) → Tells fits ends r (λ s. commit (k s) (other s)) (t ∷ rest) (commit (k r) (other r) (t ∷ rest))
  at_deep t rest e s le p d live = rw e (record {
    front = [];
    parts = refl;
    again = sunk t e;
    begun = inl refl;
    room = s;
    wider = le;
    deeper = record { word = live.word; value = live.value; reads = λ z q. rw d (live.reads z q) };
  })

  pub at_go : (t : Token) (rest : List Token) (p : ℕ → Parser Token A) → ((s : ℕ) → r ≤ s → k s t ≡ Go (p s)) → Live ends (λ z o. Fine (fits r) (p r) z o) → Tells fits ends r p rest (p r rest)
      → Tells fits ends r (λ s. commit (k s) (other s)) (t ∷ rest) (commit (k r) (other r) (t ∷ rest))
  at_go t rest p f live x = rw (f r (omega arith)) (tells_behind fits {ends = ends} {r = r} {p = p} (λ s. commit (k s) (other s)) t (λ s le z. rw (f s le) refl) live rest (p r rest) x)

  module _ (calm : (ts : List Token) (a : A) → other r ts ≡ Got a ts → (s : ℕ) → r ≤ s → (u : Token) → ends u ≡ true → k s u ≡ Stop) where
    quiet : (ts : List Token) (a : A) → other r ts ≡ Got a ts → (s : ℕ) → r ≤ s → (z : List Token) → Quiet ends z → other s z ≡ Got a z → commit (k s) (other s) z ≡ Got a z
    quiet ts a e s le [] q h = h
    quiet ts a e s le (u ∷ z) q h = rw (calm ts a e s le u q) h

    pub at_end : Tells fits ends r other [] (other r []) → Tells fits ends r (λ s. commit (k s) (other s)) [] (commit (k r) (other r) [])
    at_end x = tells_along fits [] (λ s le z h. none s z h) (quiet []) (other r []) x

    pub at_stop : (t : Token) (rest : List Token) → ((s : ℕ) → r ≤ s → k s t ≡ Stop) → Tells fits ends r other (t ∷ rest) (other r (t ∷ rest))
        → Tells fits ends r (λ s. commit (k s) (other s)) (t ∷ rest) (commit (k r) (other r) (t ∷ rest))
    at_stop t rest f x = rw (f r (omega arith)) (tells_along fits (t ∷ rest) (here t f) (quiet (t ∷ rest)) (other r (t ∷ rest)) x)

    tells : ((u : Token) → CompletesMove fits ends r (λ s. k s u)) → Tells fits ends r other [] (other r [])
        → ((t : Token) (rest : List Token) → ((s : ℕ) → r ≤ s → k s t ≡ Stop) → Tells fits ends r other (t ∷ rest) (other r (t ∷ rest)))
        → (ts : List Token) → Tells fits ends r (λ s. commit (k s) (other s)) ts (commit (k r) (other r) ts)
    tells moves x y [] = at_end x
    tells moves x y (t ∷ rest) = go (moves t)
      where
        go : CompletesMove fits ends r (λ s. k s t) → Tells fits ends r (λ s. commit (k s) (other s)) (t ∷ rest) (commit (k r) (other r) (t ∷ rest))
        go (stays f) = at_stop t rest f (y t rest f)
        go (drops e s le p d live) = at_deep t rest e s le p d live
        go (takes p f c) = at_go t rest p f (c.live r (omega arith)) (c.steady.tells rest)

module _ {Token A : Type 0} {fits : ℕ → A → Bool} {ends : Token → Bool} {r : ℕ} {k : ℕ → Token → Move Token A} (other : ℕ → Parser Token A)
    (moves : (u : Token) → CompletesMove fits ends r (λ s. k s u))
    (calm : (ts : List Token) (a : A) → other r ts ≡ Got a ts → (s : ℕ) → r ≤ s → (u : Token) → ends u ≡ true → k s u ≡ Stop) where
  -- By the token, else by another parser, of which only its answers at tokens that do nothing count.
  pub commit_steady_at : Tells fits ends r other [] (other r []) → ((t : Token) (rest : List Token) → ((s : ℕ) → r ≤ s → k s t ≡ Stop) → Tells fits ends r other (t ∷ rest) (other r (t ∷ rest))) → Steady fits ends r (λ s. commit (k s) (other s))
  commit_steady_at x y = record { tells = tells fits ends r k other calm moves x y }

  pub commit_steady : Steady fits ends r other → Steady fits ends r (λ s. commit (k s) (other s))
  commit_steady x = commit_steady_at (x.tells []) (λ t rest f. x.tells (t ∷ rest))

-- where one token goes, a word is read
pub goes_fine : {Token A : Type 0} (good : A → Bool) (ends : Token → Bool) (k : Token → Move Token A) (other : Parser Token A) (t : Token) (p : Parser Token A) → k t ≡ Go p
    → Live ends (λ z o. Fine good p z o) → Live ends (λ z o. Fine good (commit k other) z o)
goes_fine good ends k other t p e x = record { word = t ∷ x.word; value = x.value; reads = λ z q. rw e (x.reads z q) }

module _ {Token A : Type 0} {fits : ℕ → A → Bool} {ends : Token → Bool} {r : ℕ} {k : ℕ → Token → Move Token A} (moves : (u : Token) → CompletesMove fits ends r (λ s. k s u)) where
  -- a part that must come: one token of it goes, as t does
  pub choice_steady : Steady fits ends r (λ s. commit (k s) refuse)
  choice_steady = commit_steady (λ s. refuse) moves (λ ts a e. absurd cc) refuse_steady

  pub choice_completes : {p : ℕ → Parser Token A} (t : Token) → ((s : ℕ) → r ≤ s → k s t ≡ Go (p s)) → Completes fits ends r p → Completes fits ends r (λ s. commit (k s) refuse)
  choice_completes {p} t f c = record { steady = choice_steady; live = λ s le. goes_fine (fits s) ends (k s) refuse t (p s) (f s le) (c.live s le) }

-- ---- moves

-- a level down
abbrev pub lowered : {Token A : Type 0} → (ℕ → Parser Token A) → ℕ → Parser Token A
lowered p zero = p zero
lowered p (suc s) = p s

-- what has one level less to its room
module _ {Token A : Type 0} (fits small : ℕ → A → Bool) (ends : Token → Bool) (m : ℕ) (p q : ℕ → Parser Token A) (same : (s : ℕ) (z : List Token) → p s z ≡ q (suc s) z) (fit : (s : ℕ) (a : A) → small s a ≡ fits (suc s) a) where
  fine_lower : (s : ℕ) (z : List Token) (o : Outcome Token A) → Fine (small s) (p s) z o → Fine (fits (suc s)) (q (suc s)) z o
  fine_lower s z (Got a rest) e = (sym (same s z) ∙ e.0, sym (fit s a) ∙ e.1)
  fine_lower s z (Failed f rest) e = sym (same s z) ∙ e

  live_lower : (s : ℕ) (g : List Token → List Token) → Live ends (λ z o. Fine (small s) (p s) (g z) o) → Live ends (λ z o. Fine (fits (suc s)) (q (suc s)) (g z) o)
  live_lower s g x = record { word = x.word; value = x.value; reads = λ z h. fine_lower s (g (x.word ++ z)) (Got x.value z) (x.reads z h) }

  tells_lower : (ts : List Token) (o : Outcome Token A) → Tells small ends m p ts o → Tells fits ends (suc m) q ts o
  tells_lower ts (Got a rest) x = record { front = x.front; parts = x.parts; again = again; begun = λ e. begun (x.begun (fit m a ∙ e)) }
    where
      again : (s : ℕ) → suc m ≤ s → (z : List Token) → Stopped ends rest z → q s (x.front ++ z) ≡ Got a z
      again zero le z h = absurd (omega arith)
      again (suc s) le z h = sym (same s (x.front ++ z)) ∙ x.again s (omega arith) z h

      begun : (x.front ≡ []) ⊎ Live ends (λ z o. Fine (small m) (p m) (x.front ++ z) o) → (x.front ≡ []) ⊎ Live ends (λ z o. Fine (fits (suc m)) (q (suc m)) (x.front ++ z) o)
      begun (inl e) = inl e
      begun (inr l) = inr (live_lower m (λ z. x.front ++ z) l)
  tells_lower ts (Failed f rest) x = says_shifted ends m (λ s z o. Fine (fits s) (q s) z o) (λ s z o e. fine_lower s z o e) ts (Failed f rest) x

module _ {Token A : Type 0} {fits small : ℕ → A → Bool} {ends : Token → Bool} {m : ℕ} {p q : ℕ → Parser Token A} (same : (s : ℕ) (z : List Token) → p s z ≡ q (suc s) z) (fit : (s : ℕ) (a : A) → small s a ≡ fits (suc s) a) where
  pub lower_steady : Steady small ends m p → Steady fits ends (suc m) q
  lower_steady x = record { tells = λ ts. subst (λ (o : Outcome Token A). Tells fits ends (suc m) q ts o) (same m ts) (tells_lower fits small ends m p q same fit ts (p m ts) (x.tells ts)) }

  pub lower_completes : Completes small ends m p → Completes fits ends (suc m) q
  lower_completes x = record { steady = lower_steady x.steady; live = live }
    where
      live : (s : ℕ) → suc m ≤ s → Live ends (λ z o. Fine (fits s) (q s) z o)
      live zero le = absurd (omega arith)
      live (suc s) le = live_lower fits small ends m p q same fit s (λ z. z) (x.live s (omega arith))

module _ {Token A : Type 0} {fits : ℕ → A → Bool} {ends : Token → Bool} {r : ℕ} where
  -- a token that does the same in each room
  pub stop_completes : CompletesMove fits ends r (λ s. Stop)
  stop_completes = stays (λ s le. refl)

  pub go_completes : {p : ℕ → Parser Token A} → Completes fits ends r p → CompletesMove fits ends r (λ s. Go (p s))
  go_completes {p} c = takes p (λ s le. refl) c

  pub when_completes : {p : ℕ → Parser Token A} (b : Bool) → (b ≡ true → Completes fits ends r p) → CompletesMove fits ends r (λ s. when b (p s))
  when_completes {p} true c = takes p (λ s le. refl) (c refl)
  when_completes false c = stays (λ s le. refl)

  -- a token that opens a level: `live` is a word of what goes on behind it in the room 1
  pub deeper_completes : {k : ℕ → Move Token A} {p : ℕ → Parser Token A} → k 0 ≡ Deep → ((s : ℕ) → k (suc s) ≡ Go (p (suc s))) → Live ends (λ z o. Fine (fits 1) (p 1) z o)
      → ((m : ℕ) → r ≡ suc m → Completes fits ends r p) → CompletesMove fits ends r k
  deeper_completes {k = k} {p = p} deep go live h = at r h
    where
      at : (n : ℕ) → ((m : ℕ) → n ≡ suc m → Completes fits ends n p) → CompletesMove fits ends n k
      at zero h = drops deep 1 (omega arith) (p 1) (go 0) live
      at (suc m) h = takes p same (h m refl)
        where
          same : (s : ℕ) → suc m ≤ s → k s ≡ Go (p s)
          same zero le = absurd (omega arith)
          same (suc s) le = go s

-- a move, and a part behind what it reads
pub go_behind : {Token A C : Type 0} {small : ℕ → A → Bool} {fits : ℕ → C → Bool} {before ends : Token → Bool} {r : ℕ} {k : ℕ → Move Token A} {f : ℕ → A → Parser Token C}
    → CompletesMove small before r k → Behind small fits before ends r f → CompletesMove fits ends r (λ s. and_go (k s) (f s))
go_behind (stays f) y = stays (λ s le. rw (f s le) refl)
go_behind {small = small} {fits = fits} {f = f} (drops e s le p d live) y = drops (rw e refl) s le (λ ts. and_then (p ts) (f s)) (rw d refl) (live_then small fits (λ s. p) y.starts s le (λ z. z) live)
go_behind {f = f} (takes p g c) y = takes (λ s. p s >>= f s) (λ s le. rw (g s le) refl) (then_completes c y)

-- ---- a token that must come

module _ {Token A : Type 0} {fits : ℕ → A → Bool} {ends : Token → Bool} {r : ℕ} {p : ℕ → Parser Token A} (is : Token → Bool) where
  pub must_steady : Completes fits ends r p → Steady fits ends r (λ s. must is (p s))
  must_steady c = same_steady (λ s z. in_one_step is (λ u. p s) z) (choice_steady (λ u. when_completes (is u) (λ e. c)))

  -- as v may
  pub must_completes : (v : Token) → is v ≡ true → Completes fits ends r p → Completes fits ends r (λ s. must is (p s))
  must_completes v e c = same_completes (λ s z. in_one_step is (λ u. p s) z) (choice_completes (λ u. when_completes (is u) (λ d. c)) v (λ s le. rw e refl) c)

-- ---- a token at which nothing is read

module _ {Token A : Type 0} (fits : ℕ → A → Bool) (ends : Token → Bool) (r : ℕ) (p : ℕ → Parser Token A) where
  -- no text of any depth goes on so
  pub syntax_tells : (ts : List Token) → ((s : ℕ) → r ≤ s → (z : List Token) → first z ≡ first ts → p s z ≡ Failed Syntax z) → Tells fits ends r p ts (p r ts)
  syntax_tells ts h = rw (h r (omega arith) ts refl) (record { front = []; parts = refl; again = h; begun = inl refl })

  -- in a wider room some text does
  pub deep_tells : (t : Token) (rest : List Token) → ((z : List Token) → first z ≡ Some t → p r z ≡ Failed TooDeep z) → (s : ℕ) → r ≤ s → Live ends (λ z o. Fine (fits s) (p s) (t ∷ z) o) → Tells fits ends r p (t ∷ rest) (p r (t ∷ rest))
  deep_tells t rest h s le x = rw (h (t ∷ rest) refl) (record { front = []; parts = refl; again = h; begun = inl refl; room = s; wider = le; deeper = x })
