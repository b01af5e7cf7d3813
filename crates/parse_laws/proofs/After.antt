-- Parts whose value may not fit into their room, and what stands behind them.
--
-- A part may read a value that doesn't fit, where going on in another way would make it fit; what stands behind then refuses
-- it. So what is known of such a part says, of each value that doesn't fit, that the tokens read so far begin one that does.
use Rattle.std.proofs.Common.{◌≡◌, ℕ, ◌≤◌, Bool, true, false, List, [], ◌∷◌, ◌++◌, refl, sym, ap, subst, ◌∙◌, append_assoc, inl, inr, ◌⊎◌, arith}
use Rattle.parse_laws.specs.declared.fault.Fault.TheVariants.{Syntax, TooDeep}
use Rattle.parse_laws.specs.Parser.{Outcome, Got, Failed, Parser, and_then, ◌>>=◌, Move, Stop, Deep, Go}
use Rattle.parse_laws.proofs.Says.{first, Quiet, Stopped, Live, Starts, Says, quiet_less, first_behind, says_along, says_behind}
use Rattle.parse_laws.proofs.Viable.{Local, Within}

-- The parser reads so from the tokens z; and if it reads a value, this fits.
abbrev pub Fine : {Token A : Type 0} → (A → Bool) → Parser Token A → List Token → Outcome Token A → Type 0
Fine good p z (Got a rest) = (p z ≡ Got a rest) × (good a ≡ true)
Fine good p z (Failed f rest) = p z ≡ Failed f rest

-- parsers that answer alike
pub fine_same : {Token A : Type 0} (good : A → Bool) (p q : Parser Token A) (z w : List Token) → p z ≡ q w → (o : Outcome Token A) → Fine good p z o → Fine good q w o
fine_same good p q z w e (Got a rest) x = (sym e ∙ x.0, x.1)
fine_same good p q z w e (Failed f rest) x = sym e ∙ x

-- A value was read, which fits or doesn't: the same is read in each wider room, and whatever else goes on alike or closes the
-- part. If it doesn't fit, what was read can be completed to a value that does, unless nothing was.
pub record Arrives {Token A : Type 0} (fits : ℕ → A → Bool) (ends : Token → Bool) (r : ℕ) (p : ℕ → Parser Token A) (ts : List Token) (a : A) (rest : List Token) : Type 0 where
  pub front : List Token
  pub parts : ts ≡ front ++ rest
  pub again : (s : ℕ) → r ≤ s → (z : List Token) → Stopped ends rest z → p s (front ++ z) ≡ Got a z
  pub begun : fits r a ≡ false → (front ≡ []) ⊎ Live ends (λ z o. Fine (fits r) (p r) (front ++ z) o)

-- And of a fault all that `Says` says, where each completion is to a value that fits.
abbrev pub Tells : {Token A : Type 0} → (ℕ → A → Bool) → (Token → Bool) → ℕ → (ℕ → Parser Token A) → List Token → Outcome Token A → Type 0
Tells fits ends r p ts (Got a rest) = Arrives fits ends r p ts a rest
Tells fits ends r p ts (Failed f rest) = Says ends r (λ s z o. Fine (fits s) (p s) z o) ts (Failed f rest)

-- The answer of a parser in the room r, at every list of tokens.
pub record Steady {Token A : Type 0} (fits : ℕ → A → Bool) (ends : Token → Bool) (r : ℕ) (p : ℕ → Parser Token A) : Type 0 where
  pub tells : (ts : List Token) → Tells fits ends r p ts (p r ts)

-- And some value that fits is read at all.
pub record Completes {Token A : Type 0} (fits : ℕ → A → Bool) (ends : Token → Bool) (r : ℕ) (p : ℕ → Parser Token A) : Type 0 where
  pub steady : Steady fits ends r p
  pub live : (s : ℕ) → r ≤ s → Live ends (λ z o. Fine (fits s) (p s) z o)

-- What a token does, in the room r and wider ones.
pub data CompletesMove {Token A : Type 0} (fits : ℕ → A → Bool) (ends : Token → Bool) (r : ℕ) (k : ℕ → Move Token A) : Type 0 where
  stays : ((s : ℕ) → r ≤ s → k s ≡ Stop) → CompletesMove fits ends r k
  drops : k r ≡ Deep → (s : ℕ) → r ≤ s → (p : List Token → Outcome Token A) → k s ≡ Go p → Live ends (λ z o. Fine (fits s) p z o) → CompletesMove fits ends r k
  takes : (p : ℕ → List Token → Outcome Token A) → ((s : ℕ) → r ≤ s → k s ≡ Go (p s)) → Completes fits ends r p → CompletesMove fits ends r k

-- What may stand behind a part whose values fit by `small`: its own fit by `fits`.
pub record Behind {Token A C : Type 0} (small : ℕ → A → Bool) (fits : ℕ → C → Bool) (before ends : Token → Bool) (r : ℕ) (f : ℕ → A → Parser Token C) : Type 0 where
  pub steady : (a : A) → Steady fits ends r (λ s. f s a)
  -- behind a value that fits a word begins that closes the part
  pub starts : (s : ℕ) → r ≤ s → (a : A) → small s a ≡ true → Starts before ends (λ z o. Fine (fits s) (f s a) z o)
  -- where it reads nothing, its closers close the part before it
  pub empty : (a : A) (ts : List Token) (c : C) → f r a ts ≡ Got c ts → Within before ends

-- The same of what asks itself whether the value before it fits.
pub record After {Token A B : Type 0} (fits : ℕ → A → Bool) (before ends : Token → Bool) (r : ℕ) (after : ℕ → A → Parser Token B) : Type 0 where
  pub local : (a : A) → Local ends r (λ s. after s a)
  pub starts : (s : ℕ) → r ≤ s → (a : A) → fits s a ≡ true → Starts before ends (λ z o. after s a z ≡ o)
  pub empty : (a : A) (ts : List Token) (b : B) → after r a ts ≡ Got b ts → Within before ends

-- ---- along lists that begin as this one does

module _ {Token A : Type 0} (fits : ℕ → A → Bool) {ends : Token → Bool} {r : ℕ} {p q : ℕ → Parser Token A} (ts : List Token)
    (agree : (s : ℕ) → r ≤ s → (z : List Token) → first z ≡ first ts → p s z ≡ q s z)
    (calm : (a : A) → p r ts ≡ Got a ts → (s : ℕ) → r ≤ s → (z : List Token) → Quiet ends z → p s z ≡ Got a z → q s z ≡ Got a z) where
  arrives_along : (a : A) (rest front : List Token) → ts ≡ front ++ rest → ((s : ℕ) → r ≤ s → (z : List Token) → Stopped ends rest z → p s (front ++ z) ≡ Got a z)
      → (fits r a ≡ false → (front ≡ []) ⊎ Live ends (λ z o. Fine (fits r) (p r) (front ++ z) o)) → Arrives fits ends r q ts a rest
  arrives_along a rest [] parts again begun = record { front = []; parts = parts; again = go; begun = λ e. inl refl }
    where
      go : (s : ℕ) → r ≤ s → (z : List Token) → Stopped ends rest z → q s z ≡ Got a z
      go s le z (inl e) = sym (agree s le z (e ∙ sym (ap first parts))) ∙ again s le z (inl e)
      go s le z (inr h) = calm a (subst (λ (w : List Token). p r w ≡ Got a w) (sym parts) (again r (omega arith) rest (inl refl))) s le z h (again s le z (inr h))
  arrives_along a rest (u ∷ y) parts again begun = record {
    front = u ∷ y;
    parts = parts;
    again = λ s le z h. sym (agree s le (u ∷ (y ++ z)) (sym (ap first parts))) ∙ again s le z h;
    begun = λ e. more (begun e);
  }
    where
      more : (u ∷ y ≡ []) ⊎ Live ends (λ z o. Fine (fits r) (p r) (u ∷ (y ++ z)) o) → (u ∷ y ≡ []) ⊎ Live ends (λ z o. Fine (fits r) (q r) (u ∷ (y ++ z)) o)
      more (inl e) = absurd cc
      more (inr x) = inr (record { word = x.word; value = x.value; reads = λ z h. let d = x.reads z h in (sym (agree r (omega arith) (u ∷ (y ++ (x.word ++ z))) (sym (ap first parts))) ∙ d.0, d.1) })

  pub tells_along : (o : Outcome Token A) → Tells fits ends r p ts o → Tells fits ends r q ts o
  tells_along (Got a rest) x = arrives_along a rest x.front x.parts x.again x.begun
  tells_along (Failed f rest) x = says_along ts (λ s le z o h e. fine_same (fits s) (p s) (q s) z z (agree s le z h) o e) (λ a h s le z d e. (calm a h.0 s le z d e.0, e.1)) (Failed f rest) x

-- parsers that answer alike
module _ {Token A : Type 0} (fits : ℕ → A → Bool) (ends : Token → Bool) (r : ℕ) {p q : ℕ → Parser Token A} (same : (s : ℕ) (z : List Token) → p s z ≡ q s z) where
  pub same_tells : (ts : List Token) → Tells fits ends r p ts (p r ts) → Tells fits ends r q ts (q r ts)
  same_tells ts x = subst (λ (o : Outcome Token A). Tells fits ends r q ts o) (same r ts) (tells_along fits ts (λ s le z h. same s z) (λ a h s le z d e. sym (same s z) ∙ e) (p r ts) x)

module _ {Token A : Type 0} {fits : ℕ → A → Bool} {ends : Token → Bool} {r : ℕ} {p q : ℕ → Parser Token A} (same : (s : ℕ) (z : List Token) → p s z ≡ q s z) where
  pub same_steady : Steady fits ends r p → Steady fits ends r q
  same_steady x = record { tells = λ ts. same_tells fits ends r same ts (x.tells ts) }

  pub same_completes : Completes fits ends r p → Completes fits ends r q
  same_completes x = record {
    steady = same_steady x.steady;
    live = λ s le. let y = x.live s le in record { word = y.word; value = y.value; reads = λ z h. let d = y.reads z h in (sym (same s (y.word ++ z)) ∙ d.0, d.1) };
  }

-- parsers that answer alike in the room r and wider ones
module _ {Token A : Type 0} {fits : ℕ → A → Bool} {ends : Token → Bool} {r : ℕ} {p q : ℕ → Parser Token A} (same : (s : ℕ) → r ≤ s → (z : List Token) → p s z ≡ q s z) where
  pub alike_steady : Steady fits ends r p → Steady fits ends r q
  alike_steady x = record {
    tells = λ ts. subst (λ (o : Outcome Token A). Tells fits ends r q ts o) (same r (omega arith) ts)
        (tells_along fits ts (λ s le z h. same s le z) (λ a h s le z d e. sym (same s le z) ∙ e) (p r ts) (x.tells ts));
  }

  pub alike_completes : Completes fits ends r p → Completes fits ends r q
  alike_completes x = record {
    steady = alike_steady x.steady;
    live = λ s le. let y = x.live s le in record { word = y.word; value = y.value; reads = λ z h. let d = y.reads z h in (sym (same s le (y.word ++ z)) ∙ d.0, d.1) };
  }

-- ---- behind a token

module _ {Token A : Type 0} (fits : ℕ → A → Bool) {ends : Token → Bool} {r : ℕ} {p : ℕ → Parser Token A} (q : ℕ → Parser Token A) (t : Token)
    (take : (s : ℕ) → r ≤ s → (z : List Token) → p s z ≡ q s (t ∷ z)) (live : Live ends (λ z o. Fine (fits r) (p r) z o)) where
  fits_behind : (front : List Token) → (front ≡ []) ⊎ Live ends (λ z o. Fine (fits r) (p r) (front ++ z) o) → Live ends (λ z o. Fine (fits r) (q r) (t ∷ (front ++ z)) o)
  fits_behind [] b = record { word = live.word; value = live.value; reads = λ z h. fine_same (fits r) (p r) (q r) (live.word ++ z) (t ∷ (live.word ++ z)) (take r (omega arith) (live.word ++ z)) (Got live.value z) (live.reads z h) }
  fits_behind (u ∷ y) (inl e) = absurd cc
  fits_behind (u ∷ y) (inr x) = record { word = x.word; value = x.value; reads = λ z h. let d = x.reads z h in (sym (take r (omega arith) (u ∷ (y ++ (x.word ++ z)))) ∙ d.0, d.1) }

  pub tells_behind : (ts : List Token) (o : Outcome Token A) → Tells fits ends r p ts o → Tells fits ends r q (t ∷ ts) o
  tells_behind ts (Got a rest) x = record {
    front = t ∷ x.front;
    parts = ap (λ (w : List Token). t ∷ w) x.parts;
    again = λ s le z h. sym (take s le (x.front ++ z)) ∙ x.again s le z h;
    begun = λ e. inr (fits_behind x.front (x.begun e));
  }
  tells_behind ts (Failed f rest) x = says_behind (λ s z o. Fine (fits s) (q s) z o) t (λ s le z o e. fine_same (fits s) (p s) (q s) z (t ∷ z) (take s le z) o e) live ts (Failed f rest) x

-- ---- one part after another

module _ {Token A C : Type 0} (small : ℕ → A → Bool) (fits : ℕ → C → Bool) {before ends : Token → Bool} {r : ℕ} (p : ℕ → Parser Token A) {f : ℕ → A → Parser Token C}
    (starts : (s : ℕ) → r ≤ s → (a : A) → small s a ≡ true → Starts before ends (λ z o. Fine (fits s) (f s a) z o)) where
  -- what a word goes on behind, whatever stands before it
  pub live_then : (s : ℕ) → r ≤ s → (g : List Token → List Token) → Live before (λ z o. Fine (small s) (p s) (g z) o) → Live ends (λ z o. Fine (fits s) (p s >>= f s) (g z) o)
  live_then s le g x =
      let y = starts s le x.value ((x.reads [] tt).1) in
      record {
        word = x.word ++ y.live.word;
        value = y.live.value;
        reads = λ z q. rw (append_assoc x.word y.live.word z, (x.reads (y.live.word ++ z) (y.closes z q)).0) (y.live.reads z q);
      }

-- what is known of the second part, only at what the first leaves
module _ {Token A C : Type 0} (small : ℕ → A → Bool) (fits : ℕ → C → Bool) {before ends : Token → Bool} {r : ℕ} (p : ℕ → Parser Token A) {f : ℕ → A → Parser Token C}
    (starts : (s : ℕ) → r ≤ s → (a : A) → small s a ≡ true → Starts before ends (λ z o. Fine (fits s) (f s a) z o))
    (empty : (mid : List Token) (a : A) (ts : List Token) (c : C) → p r mid ≡ Got a ts → f r a ts ≡ Got c ts → Within before ends) where
  module _ (ts : List Token) (a : A) (rest : List Token) (x : Arrives small before r p ts a rest) where
    go_on : (c : C) (rest2 front z : List Token) → rest ≡ front ++ rest2 → f r a (front ++ rest2) ≡ Got c rest2 → Stopped ends rest2 z → Stopped before rest (front ++ z)
    go_on c rest2 [] z e d (inl h) = inl (h ∙ sym (ap first e))
    go_on c rest2 [] z e d (inr q) = inr (quiet_less before ends z (empty (x.front ++ rest2) a rest2 c (x.again r (omega arith) rest2 (inl (sym (ap first e)))) d) q)
    go_on c rest2 (t ∷ y) z e d h = inl (sym (ap first e))

    split : (front rest2 : List Token) → rest ≡ front ++ rest2 → ts ≡ (x.front ++ front) ++ rest2
    split front rest2 e = x.parts ∙ ap (λ (w : List Token). x.front ++ w) e ∙ sym (append_assoc x.front front rest2)

    -- tokens that begin as the rest does
    alike : (front rest2 z : List Token) → rest ≡ front ++ rest2 → first z ≡ first rest2 → Stopped before rest (front ++ z)
    alike front rest2 z e h = inl (first_behind front z rest2 h ∙ sym (ap first e))

    -- the first part alone can be completed
    first_begun : (b : Bool) → small r a ≡ b → (x.front ++ [] ≡ []) ⊎ Live ends (λ z o. Fine (fits r) (p r >>= f r) ((x.front ++ []) ++ z) o)
    first_begun true e =
        let y = starts r (omega arith) a e in
        inr (record { word = y.live.word; value = y.live.value; reads = λ z q. rw (append_assoc x.front [] (y.live.word ++ z), x.again r (omega arith) (y.live.word ++ z) (inr (y.closes z q))) (y.live.reads z q) })
    first_begun false e = go (x.begun e)
      where
        go : (x.front ≡ []) ⊎ Live before (λ z o. Fine (small r) (p r) (x.front ++ z) o) → (x.front ++ [] ≡ []) ⊎ Live ends (λ z o. Fine (fits r) (p r >>= f r) ((x.front ++ []) ++ z) o)
        go (inl d) = inl (ap (λ (w : List Token). w ++ []) d)
        go (inr y) = let l = live_then small fits p starts r (omega arith) (λ z. x.front ++ z) y in inr (record { word = l.word; value = l.value; reads = λ z q. rw (append_assoc x.front [] (l.word ++ z)) (l.reads z q) })

    begun_then : (front rest2 : List Token) → rest ≡ front ++ rest2 → (front ≡ []) ⊎ Live ends (λ z o. Fine (fits r) (f r a) (front ++ z) o)
        → (x.front ++ front ≡ []) ⊎ Live ends (λ z o. Fine (fits r) (p r >>= f r) ((x.front ++ front) ++ z) o)
    begun_then [] rest2 e b = first_begun (small r a) refl
    begun_then (u ∷ y) rest2 e (inl b) = absurd cc
    begun_then (u ∷ y) rest2 e (inr b) =
        inr (record { word = b.word; value = b.value; reads = λ z q. rw (append_assoc x.front (u ∷ y) (b.word ++ z), x.again r (omega arith) (u ∷ (y ++ (b.word ++ z))) (inl (sym (ap first e)))) (b.reads z q) })

    second : (o : Outcome Token C) → Tells fits ends r (λ s. f s a) rest o → Tells fits ends r (λ s. p s >>= f s) ts o
    second (Got c rest2) y = record {
      front = x.front ++ y.front;
      parts = split y.front rest2 y.parts;
      again = λ s le z h. rw (append_assoc x.front y.front z, x.again s le (y.front ++ z) (go_on c rest2 y.front z y.parts (y.again r (omega arith) rest2 (inl refl)) h)) (y.again s le z h);
      begun = λ e. begun_then y.front rest2 y.parts (y.begun e);
    }
    second (Failed Syntax rest2) y = record {
      front = x.front ++ y.front;
      parts = split y.front rest2 y.parts;
      again = λ s le z h. rw (append_assoc x.front y.front z, x.again s le (y.front ++ z) (alike y.front rest2 z y.parts h)) (y.again s le z h);
      begun = begun_then y.front rest2 y.parts y.begun;
    }
    second (Failed TooDeep []) y = absurd y
    second (Failed TooDeep (t ∷ after)) y = record {
      front = x.front ++ y.front;
      parts = split y.front (t ∷ after) y.parts;
      again = λ z h. rw (append_assoc x.front y.front z, x.again r (omega arith) (y.front ++ z) (alike y.front (t ∷ after) z y.parts h)) (y.again z h);
      begun = begun_then y.front (t ∷ after) y.parts y.begun;
      room = y.room;
      wider = y.wider;
      deeper = record {
        word = y.deeper.word;
        value = y.deeper.value;
        reads = λ z q. rw (append_assoc x.front y.front (t ∷ (y.deeper.word ++ z)), x.again y.room y.wider (y.front ++ t ∷ (y.deeper.word ++ z)) (alike y.front (t ∷ after) (t ∷ (y.deeper.word ++ z)) y.parts refl)) (y.deeper.reads z q);
      };
    }

  begun_before : (front : List Token) → (front ≡ []) ⊎ Live before (λ z o. Fine (small r) (p r) (front ++ z) o) → (front ≡ []) ⊎ Live ends (λ z o. Fine (fits r) (p r >>= f r) (front ++ z) o)
  begun_before front (inl e) = inl e
  begun_before front (inr x) = inr (live_then small fits p starts r (omega arith) (λ z. front ++ z) x)

  pub tells_then : (ts : List Token) (o : Outcome Token A) → Tells small before r p ts o → ((a : A) (rest : List Token) → o ≡ Got a rest → Tells fits ends r (λ s. f s a) rest (f r a rest)) → Tells fits ends r (λ s. p s >>= f s) ts (and_then o (f r))
  tells_then ts (Got a rest) x y = second ts a rest x (f r a rest) (y a rest refl)
  tells_then ts (Failed Syntax rest) x y = record {
    front = x.front;
    parts = x.parts;
    again = λ s le z h. rw (x.again s le z h) refl;
    begun = begun_before x.front x.begun;
  }
  tells_then ts (Failed TooDeep []) x y = absurd x
  tells_then ts (Failed TooDeep (t ∷ after)) x y = record {
    front = x.front;
    parts = x.parts;
    again = λ z h. rw (x.again z h) refl;
    begun = begun_before x.front x.begun;
    room = x.room;
    wider = x.wider;
    deeper = live_then small fits p starts x.room x.wider (λ z. x.front ++ t ∷ z) x.deeper;
  }

module _ {Token A C : Type 0} {small : ℕ → A → Bool} {fits : ℕ → C → Bool} {before ends : Token → Bool} {r : ℕ} {p : ℕ → Parser Token A} {f : ℕ → A → Parser Token C} where
  pub then_steady : Steady small before r p → Behind small fits before ends r f → Steady fits ends r (λ s. p s >>= f s)
  then_steady x y = record { tells = λ ts. tells_then small fits p y.starts (λ mid a ts c e. y.empty a ts c) ts (p r ts) (x.tells ts) (λ a rest e. (y.steady a).tells rest) }

  pub then_completes : Completes small before r p → Behind small fits before ends r f → Completes fits ends r (λ s. p s >>= f s)
  then_completes x y = record { steady = then_steady x.steady y; live = λ s le. live_then small fits p y.starts s le (λ z. z) (x.live s le) }

-- What may stand behind a part of which each value that is read fits.
pub record Onward {Token A C : Type 0} (small : ℕ → A → Bool) (fits : ℕ → C → Bool) (before ends : Token → Bool) (r : ℕ) (f : ℕ → A → Parser Token C) : Type 0 where
  pub steady : (a : A) → small r a ≡ true → Steady fits ends r (λ s. f s a)
  pub starts : (s : ℕ) → r ≤ s → (a : A) → small s a ≡ true → Starts before ends (λ z o. Fine (fits s) (f s a) z o)
  pub empty : (a : A) → small r a ≡ true → (ts : List Token) (c : C) → f r a ts ≡ Got c ts → Within before ends

module _ {Token A C : Type 0} {small : ℕ → A → Bool} {fits : ℕ → C → Bool} {before ends : Token → Bool} {r : ℕ} {p : ℕ → Parser Token A} {f : ℕ → A → Parser Token C}
    (good : (ts : List Token) (a : A) (rest : List Token) → p r ts ≡ Got a rest → small r a ≡ true) where
  pub onward_steady : Steady small before r p → Onward small fits before ends r f → Steady fits ends r (λ s. p s >>= f s)
  onward_steady x y = record { tells = λ ts. tells_then small fits p y.starts (λ mid a ts c e d. y.empty a (good mid a ts e) ts c d) ts (p r ts) (x.tells ts) (λ a rest e. (y.steady a (good ts a rest e)).tells rest) }

  pub onward_completes : Completes small before r p → Onward small fits before ends r f → Completes fits ends r (λ s. p s >>= f s)
  onward_completes x y = record { steady = onward_steady x.steady y; live = λ s le. live_then small fits p y.starts s le (λ z. z) (x.live s le) }
