-- What an answer at one list of tokens says of all lists that begin like it, and of all wider rooms.
--
-- `ends` holds of the tokens that close a part whatever was read of it: a part that is complete is also complete before
-- one of them. `run` stands for a parser in each room: `run s z o` says that in the room s the tokens z lead to o.
use Rattle.std.proofs.Common.{◌≡◌, ℕ, zero, suc, ◌≤◌, Bool, true, List, [], ◌∷◌, ◌++◌, length, Option, Some, None, refl, sym, ap, subst, ◌∙◌, append_assoc, length-append, inl, inr, ◌⊎◌, arith}
use Rattle.parse_laws.specs.declared.fault.Fault.{Fault}
use Rattle.parse_laws.specs.declared.fault.Fault.TheVariants.{Syntax, TooDeep}
use Rattle.parse_laws.specs.Parser.{Outcome, Got, Failed, Parser, and_then}

abbrev pub first : {Token : Type 0} → List Token → Option Token
first [] = None
first (t ∷ ts) = Some t

-- the text ends here, or such a token comes
abbrev pub Quiet : {Token : Type 0} → (Token → Bool) → List Token → Type 0
Quiet ends [] = Unit {0}
Quiet ends (t ∷ ts) = ends t ≡ true

-- z goes on as rest does, or closes what stands before it
abbrev pub Stopped : {Token : Type 0} → (Token → Bool) → List Token → List Token → Type 0
Stopped ends rest z = (first z ≡ first rest) ⊎ Quiet ends z

-- some word is read, whatever closer follows
pub record Live {Token A : Type 0} (ends : Token → Bool) (run : List Token → Outcome Token A → Type 0) : Type 0 where
  pub word : List Token
  pub value : A
  pub reads : (z : List Token) → Quiet ends z → run (word ++ z) (Got value z)

-- and the word closes a part that `before` closes
pub record Starts {Token A : Type 0} (before ends : Token → Bool) (run : List Token → Outcome Token A → Type 0) : Type 0 where
  pub live : Live ends run
  pub closes : (z : List Token) → Quiet ends z → Quiet before (live.word ++ z)

-- A value was read: the same is read in each wider room, and whatever else goes on alike or closes the part.
pub record Reads {Token A : Type 0} (ends : Token → Bool) (r : ℕ) (run : ℕ → List Token → Outcome Token A → Type 0) (ts : List Token) (a : A) (rest : List Token) : Type 0 where
  pub front : List Token
  pub parts : ts ≡ front ++ rest
  pub again : (s : ℕ) → r ≤ s → (z : List Token) → Stopped ends rest z → run s (front ++ z) (Got a z)

-- No text of any depth goes on so: the same fault comes in each wider room; and what was read before can be completed.
pub record Breaks {Token A : Type 0} (ends : Token → Bool) (r : ℕ) (run : ℕ → List Token → Outcome Token A → Type 0) (ts rest : List Token) : Type 0 where
  pub front : List Token
  pub parts : ts ≡ front ++ rest
  pub again : (s : ℕ) → r ≤ s → (z : List Token) → first z ≡ first rest → run s (front ++ z) (Failed Syntax z)
  pub begun : (front ≡ []) ⊎ Live ends (λ z o. run r (front ++ z) o)

-- The token t is too deep: what was read before it can be completed, and in some wider room that with t can be too.
pub record Sinks {Token A : Type 0} (ends : Token → Bool) (r : ℕ) (run : ℕ → List Token → Outcome Token A → Type 0) (ts : List Token) (t : Token) (after : List Token) : Type 0 where
  pub front : List Token
  pub parts : ts ≡ front ++ t ∷ after
  pub again : (z : List Token) → first z ≡ Some t → run r (front ++ z) (Failed TooDeep z)
  pub begun : (front ≡ []) ⊎ Live ends (λ z o. run r (front ++ z) o)
  pub room : ℕ
  pub wider : r ≤ room
  pub deeper : Live ends (λ z o. run room (front ++ t ∷ z) o)

abbrev pub Says : {Token A : Type 0} → (Token → Bool) → ℕ → (ℕ → List Token → Outcome Token A → Type 0) → List Token → Outcome Token A → Type 0
Says ends r run ts (Got a rest) = Reads ends r run ts a rest
Says ends r run ts (Failed Syntax rest) = Breaks ends r run ts rest
Says ends r run ts (Failed TooDeep []) = ⊥
Says ends r run ts (Failed TooDeep (t ∷ after)) = Sinks ends r run ts t after

-- ---- lists of tokens

pub first_behind : {Token : Type 0} (x r s : List Token) → first r ≡ first s → first (x ++ r) ≡ first (x ++ s)
first_behind [] r s e = e
first_behind (t ∷ x) r s e = refl

pub quiet_less : {Token : Type 0} (before ends : Token → Bool) (z : List Token) → ((u : Token) → ends u ≡ true → before u ≡ true) → Quiet ends z → Quiet before z
quiet_less before ends [] h q = tt
quiet_less before ends (u ∷ z) h q = h u q

shorter : {Token : Type 0} (front z : List Token) → length z ≤ length (front ++ z)
shorter front z = omega (arith, length-append front z)

-- ---- along lists that begin as this one does

module _ {Token A : Type 0} {ends : Token → Bool} {r : ℕ} {run run2 : ℕ → List Token → Outcome Token A → Type 0} (ts : List Token)
    (agree : (s : ℕ) → r ≤ s → (z : List Token) (o : Outcome Token A) → first z ≡ first ts → run s z o → run2 s z o)
    (calm : (a : A) → run r ts (Got a ts) → (s : ℕ) → r ≤ s → (z : List Token) → Quiet ends z → run s z (Got a z) → run2 s z (Got a z)) where
  reads_along : (a : A) (rest front : List Token) → ts ≡ front ++ rest → ((s : ℕ) → r ≤ s → (z : List Token) → Stopped ends rest z → run s (front ++ z) (Got a z)) → Reads ends r run2 ts a rest
  reads_along a rest [] parts again = record { front = []; parts = parts; again = go }
    where
      go : (s : ℕ) → r ≤ s → (z : List Token) → Stopped ends rest z → run2 s z (Got a z)
      go s le z (inl e) = agree s le z (Got a z) (e ∙ sym (ap first parts)) (again s le z (inl e))
      go s le z (inr q) = calm a (subst (λ (w : List Token). run r w (Got a w)) (sym parts) (again r (omega arith) rest (inl refl))) s le z q (again s le z (inr q))
  reads_along a rest (u ∷ y) parts again = record { front = u ∷ y; parts = parts; again = λ s le z h. agree s le (u ∷ (y ++ z)) (Got a z) (sym (ap first parts)) (again s le z h) }

  live_along : (s : ℕ) → r ≤ s → (u : Token) (front : List Token) → Some u ≡ first ts → Live ends (λ z o. run s (u ∷ (front ++ z)) o) → Live ends (λ z o. run2 s (u ∷ (front ++ z)) o)
  live_along s le u front e x = record { word = x.word; value = x.value; reads = λ z q. agree s le (u ∷ (front ++ (x.word ++ z))) (Got x.value z) e (x.reads z q) }

  begun_along : (front rest : List Token) → ts ≡ front ++ rest → (front ≡ []) ⊎ Live ends (λ z o. run r (front ++ z) o) → (front ≡ []) ⊎ Live ends (λ z o. run2 r (front ++ z) o)
  begun_along [] rest parts b = inl refl
  begun_along (u ∷ y) rest parts (inl e) = absurd cc
  begun_along (u ∷ y) rest parts (inr x) = inr (live_along r (omega arith) u y (sym (ap first parts)) x)

  deeper_along : (s : ℕ) → r ≤ s → (front : List Token) (t : Token) (after : List Token) → ts ≡ front ++ t ∷ after → Live ends (λ z o. run s (front ++ t ∷ z) o) → Live ends (λ z o. run2 s (front ++ t ∷ z) o)
  deeper_along s le front t after parts x = record {
    word = x.word;
    value = x.value;
    reads = λ z q. agree s le (front ++ t ∷ (x.word ++ z)) (Got x.value z) (first_behind front (t ∷ (x.word ++ z)) (t ∷ after) refl ∙ sym (ap first parts)) (x.reads z q);
  }

  pub says_along : (o : Outcome Token A) → Says ends r run ts o → Says ends r run2 ts o
  says_along (Got a rest) x = reads_along a rest x.front x.parts x.again
  says_along (Failed Syntax rest) x = record {
    front = x.front;
    parts = x.parts;
    again = λ s le z h. agree s le (x.front ++ z) (Failed Syntax z) (first_behind x.front z rest h ∙ sym (ap first x.parts)) (x.again s le z h);
    begun = begun_along x.front rest x.parts x.begun;
  }
  says_along (Failed TooDeep []) x = absurd x
  says_along (Failed TooDeep (t ∷ after)) x = record {
    front = x.front;
    parts = x.parts;
    again = λ z h. agree r (omega arith) (x.front ++ z) (Failed TooDeep z) (first_behind x.front z (t ∷ after) h ∙ sym (ap first x.parts)) (x.again z h);
    begun = begun_along x.front (t ∷ after) x.parts x.begun;
    room = x.room;
    wider = x.wider;
    deeper = deeper_along x.room x.wider x.front t after x.parts x.deeper;
  }

-- ---- behind a token

module _ {Token A : Type 0} {ends : Token → Bool} {r : ℕ} {run : ℕ → List Token → Outcome Token A → Type 0} (run2 : ℕ → List Token → Outcome Token A → Type 0) (t : Token)
    (take : (s : ℕ) → r ≤ s → (z : List Token) (o : Outcome Token A) → run s z o → run2 s (t ∷ z) o) (live : Live ends (run r)) where
  begun_behind : (front : List Token) → (front ≡ []) ⊎ Live ends (λ z o. run r (front ++ z) o) → (t ∷ front ≡ []) ⊎ Live ends (λ z o. run2 r (t ∷ (front ++ z)) o)
  begun_behind [] b = inr (record { word = live.word; value = live.value; reads = λ z q. take r (omega arith) (live.word ++ z) (Got live.value z) (live.reads z q) })
  begun_behind (u ∷ y) (inl e) = absurd cc
  begun_behind (u ∷ y) (inr x) = inr (record { word = x.word; value = x.value; reads = λ z q. take r (omega arith) (u ∷ (y ++ (x.word ++ z))) (Got x.value z) (x.reads z q) })

  pub says_behind : (ts : List Token) (o : Outcome Token A) → Says ends r run ts o → Says ends r run2 (t ∷ ts) o
  says_behind ts (Got a rest) x = record {
    front = t ∷ x.front;
    parts = ap (λ (w : List Token). t ∷ w) x.parts;
    again = λ s le z h. take s le (x.front ++ z) (Got a z) (x.again s le z h);
  }
  says_behind ts (Failed Syntax rest) x = record {
    front = t ∷ x.front;
    parts = ap (λ (w : List Token). t ∷ w) x.parts;
    again = λ s le z h. take s le (x.front ++ z) (Failed Syntax z) (x.again s le z h);
    begun = begun_behind x.front x.begun;
  }
  says_behind ts (Failed TooDeep []) x = absurd x
  says_behind ts (Failed TooDeep (u ∷ after)) x = record {
    front = t ∷ x.front;
    parts = ap (λ (w : List Token). t ∷ w) x.parts;
    again = λ z h. take r (omega arith) (x.front ++ z) (Failed TooDeep z) (x.again z h);
    begun = begun_behind x.front x.begun;
    room = x.room;
    wider = x.wider;
    deeper = record { word = x.deeper.word; value = x.deeper.value; reads = λ z q. take x.room x.wider (x.front ++ u ∷ (x.deeper.word ++ z)) (Got x.deeper.value z) (x.deeper.reads z q) };
  }

-- ---- one part after another

module _ {Token A B : Type 0} {before ends : Token → Bool} {r : ℕ} {p : ℕ → Parser Token A} {next : ℕ → A → List Token → Outcome Token B → Type 0} {run : ℕ → List Token → Outcome Token B → Type 0}
    (got : (s : ℕ) → r ≤ s → (z z2 : List Token) (a : A) (o : Outcome Token B) → p s z ≡ Got a z2 → length z2 ≤ length z → next s a z2 o → run s z o)
    (failed : (s : ℕ) → r ≤ s → (z z2 : List Token) (e : Fault) → p s z ≡ Failed e z2 → run s z (Failed e z2))
    (starts : (s : ℕ) → r ≤ s → (a : A) → Starts before ends (next s a))
    (empty : (a : A) (ts : List Token) (b : B) → next r a ts (Got b ts) → (u : Token) → ends u ≡ true → before u ≡ true) where
  -- a word of the second part goes on from one of the first
  pub live_then : (s : ℕ) → r ≤ s → (front : List Token) → Live before (λ z o. p s (front ++ z) ≡ o) → Live ends (λ z o. run s (front ++ z) o)
  live_then s le front x =
      let y = starts s le x.value in
      record {
        word = x.word ++ y.live.word;
        value = y.live.value;
        reads = λ z q. rw (append_assoc x.word y.live.word z)
            (got s le (front ++ (x.word ++ (y.live.word ++ z))) (y.live.word ++ z) x.value (Got y.live.value z) (x.reads (y.live.word ++ z) (y.closes z q))
            (omega (arith, length-append front (x.word ++ (y.live.word ++ z)), length-append x.word (y.live.word ++ z))) (y.live.reads z q));
      }

  module _ (ts : List Token) (a : A) (rest : List Token) (x : Reads before r (λ s z o. p s z ≡ o) ts a rest) where
    step : (s : ℕ) → r ≤ s → (z : List Token) (o : Outcome Token B) → Stopped before rest z → next s a z o → run s (x.front ++ z) o
    step s le z o h n = got s le (x.front ++ z) z a o (x.again s le z h) (shorter x.front z) n

    go_on : (b : B) (rest2 front z : List Token) → rest ≡ front ++ rest2 → next r a (front ++ rest2) (Got b rest2) → Stopped ends rest2 z → Stopped before rest (front ++ z)
    go_on b rest2 [] z e d (inl h) = inl (h ∙ sym (ap first e))
    go_on b rest2 [] z e d (inr q) = inr (quiet_less before ends z (empty a rest2 b d) q)
    go_on b rest2 (t ∷ y) z e d h = inl (sym (ap first e))

    split : (front rest2 : List Token) → rest ≡ front ++ rest2 → ts ≡ (x.front ++ front) ++ rest2
    split front rest2 e = x.parts ∙ ap (λ (w : List Token). x.front ++ w) e ∙ sym (append_assoc x.front front rest2)

    -- tokens that begin as the rest does
    alike : (front rest2 z : List Token) → rest ≡ front ++ rest2 → first z ≡ first rest2 → Stopped before rest (front ++ z)
    alike front rest2 z e h = inl (first_behind front z rest2 h ∙ sym (ap first e))

    begun_then : (front rest2 : List Token) → rest ≡ front ++ rest2 → (front ≡ []) ⊎ Live ends (λ z o. next r a (front ++ z) o) → (x.front ++ front ≡ []) ⊎ Live ends (λ z o. run r ((x.front ++ front) ++ z) o)
    begun_then [] rest2 e b =
        let y = starts r (omega arith) a in
        inr (record {
          word = y.live.word;
          value = y.live.value;
          reads = λ z q. rw (append_assoc x.front [] (y.live.word ++ z)) (step r (omega arith) (y.live.word ++ z) (Got y.live.value z) (inr (y.closes z q)) (y.live.reads z q));
        })
    begun_then (u ∷ y) rest2 e (inl b) = absurd cc
    begun_then (u ∷ y) rest2 e (inr b) =
        inr (record {
          word = b.word;
          value = b.value;
          reads = λ z q. rw (append_assoc x.front (u ∷ y) (b.word ++ z)) (step r (omega arith) (u ∷ (y ++ (b.word ++ z))) (Got b.value z) (inl (sym (ap first e))) (b.reads z q));
        })

    second : (o : Outcome Token B) → Says ends r (λ s z o. next s a z o) rest o → Says ends r run ts o
    second (Got b rest2) y = record {
      front = x.front ++ y.front;
      parts = split y.front rest2 y.parts;
      again = λ s le z h. rw (append_assoc x.front y.front z) (step s le (y.front ++ z) (Got b z) (go_on b rest2 y.front z y.parts (y.again r (omega arith) rest2 (inl refl)) h) (y.again s le z h));
    }
    second (Failed Syntax rest2) y = record {
      front = x.front ++ y.front;
      parts = split y.front rest2 y.parts;
      again = λ s le z h. rw (append_assoc x.front y.front z) (step s le (y.front ++ z) (Failed Syntax z) (alike y.front rest2 z y.parts h) (y.again s le z h));
      begun = begun_then y.front rest2 y.parts y.begun;
    }
    second (Failed TooDeep []) y = absurd y
    second (Failed TooDeep (t ∷ after)) y = record {
      front = x.front ++ y.front;
      parts = split y.front (t ∷ after) y.parts;
      again = λ z h. rw (append_assoc x.front y.front z) (step r (omega arith) (y.front ++ z) (Failed TooDeep z) (alike y.front (t ∷ after) z y.parts h) (y.again z h));
      begun = begun_then y.front (t ∷ after) y.parts y.begun;
      room = y.room;
      wider = y.wider;
      deeper = record {
        word = y.deeper.word;
        value = y.deeper.value;
        reads = λ z q. rw (append_assoc x.front y.front (t ∷ (y.deeper.word ++ z)))
            (step y.room y.wider (y.front ++ t ∷ (y.deeper.word ++ z)) (Got y.deeper.value z) (alike y.front (t ∷ after) (t ∷ (y.deeper.word ++ z)) y.parts refl) (y.deeper.reads z q));
      };
    }

  begun_before : (front : List Token) → (front ≡ []) ⊎ Live before (λ z o. p r (front ++ z) ≡ o) → (front ≡ []) ⊎ Live ends (λ z o. run r (front ++ z) o)
  begun_before front (inl e) = inl e
  begun_before front (inr x) = inr (live_then r (omega arith) front x)

  pub says_then : (ts : List Token) (o : Outcome Token A) (f : A → Parser Token B) → Says before r (λ s z o. p s z ≡ o) ts o
      → ((a : A) (rest : List Token) → o ≡ Got a rest → Says ends r (λ s z o. next s a z o) rest (f a rest)) → Says ends r run ts (and_then o f)
  says_then ts (Got a rest) f x y = second ts a rest x (f a rest) (y a rest refl)
  says_then ts (Failed Syntax rest) f x y = record {
    front = x.front;
    parts = x.parts;
    again = λ s le z h. failed s le (x.front ++ z) z Syntax (x.again s le z h);
    begun = begun_before x.front x.begun;
  }
  says_then ts (Failed TooDeep []) f x y = absurd x
  says_then ts (Failed TooDeep (t ∷ after)) f x y = record {
    front = x.front;
    parts = x.parts;
    again = λ z h. failed r (omega arith) (x.front ++ z) z TooDeep (x.again z h);
    begun = begun_before x.front x.begun;
    room = x.room;
    wider = x.wider;
    deeper = below;
  }
    where
      below : Live ends (λ z o. run x.room (x.front ++ t ∷ z) o)
      below =
          let y = starts x.room x.wider x.deeper.value in
          record {
            word = x.deeper.word ++ y.live.word;
            value = y.live.value;
            reads = λ z q. rw (append_assoc x.deeper.word y.live.word z)
                (got x.room x.wider (x.front ++ t ∷ (x.deeper.word ++ (y.live.word ++ z))) (y.live.word ++ z) x.deeper.value (Got y.live.value z) (x.deeper.reads (y.live.word ++ z) (y.closes z q))
                (omega (arith, length-append x.front (t ∷ (x.deeper.word ++ (y.live.word ++ z))), length-append x.deeper.word (y.live.word ++ z))) (y.live.reads z q));
          }

-- ---- in rooms one wider

module _ {Token A : Type 0} (ends : Token → Bool) (m : ℕ) {run : ℕ → List Token → Outcome Token A → Type 0} (run2 : ℕ → List Token → Outcome Token A → Type 0) (shift : (s : ℕ) (z : List Token) (o : Outcome Token A) → run s z o → run2 (suc s) z o) where
  live_shifted : (s : ℕ) (front : List Token) → Live ends (λ z o. run s (front ++ z) o) → Live ends (λ z o. run2 (suc s) (front ++ z) o)
  live_shifted s front x = record { word = x.word; value = x.value; reads = λ z q. shift s (front ++ (x.word ++ z)) (Got x.value z) (x.reads z q) }

  begun_shifted : (front : List Token) → (front ≡ []) ⊎ Live ends (λ z o. run m (front ++ z) o) → (front ≡ []) ⊎ Live ends (λ z o. run2 (suc m) (front ++ z) o)
  begun_shifted front (inl e) = inl e
  begun_shifted front (inr x) = inr (live_shifted m front x)

  again_shifted : (front : List Token) (o : List Token → Outcome Token A) (P : List Token → Type 0) → ((s : ℕ) → m ≤ s → (z : List Token) → P z → run s (front ++ z) (o z)) → (s : ℕ) → suc m ≤ s → (z : List Token) → P z → run2 s (front ++ z) (o z)
  again_shifted front o P h zero le z q = absurd (omega arith)
  again_shifted front o P h (suc s) le z q = shift s (front ++ z) (o z) (h s (omega arith) z q)

  pub says_shifted : (ts : List Token) (o : Outcome Token A) → Says ends m run ts o → Says ends (suc m) run2 ts o
  says_shifted ts (Got a rest) x = record { front = x.front; parts = x.parts; again = again_shifted x.front (λ z. Got a z) (λ z. Stopped ends rest z) x.again }
  says_shifted ts (Failed Syntax rest) x = record {
    front = x.front;
    parts = x.parts;
    again = again_shifted x.front (λ z. Failed Syntax z) (λ z. first z ≡ first rest) x.again;
    begun = begun_shifted x.front x.begun;
  }
  says_shifted ts (Failed TooDeep []) x = absurd x
  says_shifted ts (Failed TooDeep (t ∷ after)) x = record {
    front = x.front;
    parts = x.parts;
    again = λ z h. shift m (x.front ++ z) (Failed TooDeep z) (x.again z h);
    begun = begun_shifted x.front x.begun;
    room = suc x.room;
    wider = omega (arith, x.wider);
    deeper = record { word = x.deeper.word; value = x.deeper.value; reads = λ z q. shift x.room (x.front ++ t ∷ (x.deeper.word ++ z)) (Got x.deeper.value z) (x.deeper.reads z q) };
  }
