-- A parser that is viable, sound and complete in each room answers a value exactly where the tokens spell it within the
-- room, and fails exactly at the first failing token.
use Rattle.std.proofs.Common.{◌≡◌, ℕ, ◌+◌, ◌≤◌, Bool, List, [], ◌∷◌, ◌++◌, refl, sym, subst, ◌∙◌, append_assoc, arith, inl, inr, ◌⊎◌}
use Rattle.std.proofs.lemmas.List.{append-nil}
use Rattle.parse_laws.specs.declared.fault.Fault.{Fault}
use Rattle.parse_laws.specs.declared.fault.Fault.TheVariants.{Syntax, TooDeep}
use Rattle.parse_laws.specs.Parser.{Outcome, Got, Failed}
use Rattle.parse_laws.specs.Exact.{Begins, BeginsSome, Shut, FailsAt, IsExact, at_end, whole}
use Rattle.parse_laws.proofs.Says.{first, Live, Reads, Sinks, Says}
use Rattle.parse_laws.proofs.Viable.{Viable}

-- What must be shown of a parser of whole texts. `ends` holds of no token that matters: behind a text nothing comes.
pub record Exact {Token A : Type 0} (ends : Token → Bool) (Spells : List Token → A → Type 0) (height : A → ℕ) (p : ℕ → List Token → Outcome Token A) : Type 0 where
  pub viable : (r : ℕ) → Viable ends r p
  pub sound : (r : ℕ) (ts : List Token) (a : A) → p r ts ≡ Got a [] → Spells ts a × (height a ≤ r)
  pub complete : (r : ℕ) (ts : List Token) (a : A) → Spells ts a → height a ≤ r → p r ts ≡ Got a []

module _ {Token A : Type 0} {ends : Token → Bool} {Spells : List Token → A → Type 0} {height : A → ℕ} {p : ℕ → List Token → Outcome Token A} (x : Exact ends Spells height p) where
  begins : (r : ℕ) (front more : List Token) (a : A) → p r (front ++ more) ≡ Got a [] → Begins Spells height r front
  begins r front more a e = let h = x.sound r (front ++ more) a e in (more, a, h.0, h.1)

  begins_live : (r : ℕ) (front more : List Token) → Live ends (λ z o. p r (front ++ (more ++ z)) ≡ o) → Begins Spells height r (front ++ more)
  begins_live r front more y =
      begins r (front ++ more) (y.word ++ []) y.value (rw (append_assoc front more (y.word ++ [])) (y.reads [] tt))

  -- a text that goes on so is read, and so neither refused nor cut short
  read : (r s : ℕ) (front more : List Token) (t : Token) (a : A) → Spells ((front ++ t ∷ []) ++ more) a → height a ≤ s → s ≤ r → p r (front ++ t ∷ more) ≡ Got a []
  read r s front more t a d le le2 = subst (λ (w : List Token). p r w ≡ Got a []) (append_assoc front (t ∷ []) more) (x.complete r ((front ++ t ∷ []) ++ more) a d (omega arith))

  two_answers : (o : Outcome Token A) (a : A) (f : Fault) (y z : List Token) → o ≡ Got a y → o ≡ Failed f z → ⊥
  two_answers o a f y z d e = cc

  two_rests : (o : Outcome Token A) (a b : A) (t : Token) (y : List Token) → o ≡ Got a [] → o ≡ Got b (t ∷ y) → ⊥
  two_rests o a b t y d e = cc

  module _ (r : ℕ) (ts : List Token) where
    ended : (a : A) (rest : List Token) → p r ts ≡ Got a rest → Reads ends r (λ s z o. p s z ≡ o) ts a rest → IsExact Spells height r ts (at_end (Got a rest))
    ended a [] e y = let h = x.sound r ts a e in (refl, h.0, h.1)
    ended a (t ∷ rest) e y = record {
      front = y.front;
      parts = y.parts;
      before = begins r y.front [] a (y.again r (omega arith) [] (inr tt));
      shut = λ b. two_rests (p (r + height b.1) (y.front ++ t ∷ b.0)) b.1 a t b.0
          (read (r + height b.1) (height b.1) y.front b.0 t b.1 b.2 (omega arith) (omega arith)) (y.again (r + height b.1) (omega arith) (t ∷ b.0) (inl refl));
    }

    open_before : (front : List Token) → ((front ≡ []) ⊎ Live ends (λ z o. p r (front ++ z) ≡ o)) → Begins Spells height r front
    open_before front (inr y) = begins r front (y.word ++ []) y.value (y.reads [] tt)
    open_before front (inl e) = let y = (x.viable r).live r (omega arith) in subst (λ (w : List Token). Begins Spells height r w) (sym e) (begins r [] (y.word ++ []) y.value (y.reads [] tt))

    broken : (rest front : List Token) → ((s : ℕ) → r ≤ s → (z : List Token) → first z ≡ first rest → p s (front ++ z) ≡ Failed Syntax z) → Shut Spells height r front Syntax rest
    broken [] front again = λ a d.
        two_answers (p (r + height a) (front ++ [])) a Syntax [] [] (subst (λ (w : List Token). p (r + height a) w ≡ Got a []) (sym (append-nil front)) (x.complete (r + height a) front a d (omega arith)))
        (again (r + height a) (omega arith) [] refl)
    broken (t ∷ after) front again = λ b.
        two_answers (p (r + height b.1) (front ++ t ∷ b.0)) b.1 Syntax [] (t ∷ b.0) (read (r + height b.1) (height b.1) front b.0 t b.1 b.2 (omega arith) (omega arith))
        (again (r + height b.1) (omega arith) (t ∷ b.0) refl)

    deep : (t : Token) (after : List Token) → Sinks ends r (λ s z o. p s z ≡ o) ts t after → FailsAt Spells height r ts TooDeep (t ∷ after)
    deep t after y = record {
      front = y.front;
      parts = y.parts;
      before = open_before y.front y.begun;
      shut = (
        some (begins_live y.room y.front (t ∷ []) y.deeper),
        λ b. two_answers (p r (y.front ++ t ∷ b.0)) b.1 TooDeep [] (t ∷ b.0) (read r r y.front b.0 t b.1 b.2 b.3 (omega arith)) (y.again (t ∷ b.0) refl),
      );
    }
      where
        some : Begins Spells height y.room (y.front ++ t ∷ []) → BeginsSome Spells (y.front ++ t ∷ [])
        some b = (b.0, b.1, b.2)

    exact : (o : Outcome Token A) → p r ts ≡ o → Says ends r (λ s z o. p s z ≡ o) ts o → IsExact Spells height r ts (at_end o)
    exact (Got a rest) e y = ended a rest e y
    exact (Failed Syntax rest) e y = record { front = y.front; parts = y.parts; before = open_before y.front y.begun; shut = broken rest y.front y.again }
    exact (Failed TooDeep []) e y = absurd y
    exact (Failed TooDeep (t ∷ after)) e y = deep t after y

    -- whatever it answers is right
    pub whole_is_exact : IsExact Spells height r ts (whole (p r) ts)
    whole_is_exact = exact (p r ts) refl ((x.viable r).local.says ts)

    -- a text within the room is read
    pub whole_reads : (a : A) → Spells ts a → height a ≤ r → whole (p r) ts ≡ Got a []
    whole_reads a d le = rw (x.complete r ts a d le) refl

  -- tokens spell at most one value
  pub one_value : (ts : List Token) (a b : A) → Spells ts a → Spells ts b → a ≡ b
  one_value ts a b d e =
      same (p (height a + height b) ts) (x.complete (height a + height b) ts a d (omega arith)) (x.complete (height a + height b) ts b e (omega arith))
    where
      same : (o : Outcome Token A) → o ≡ Got a [] → o ≡ Got b [] → a ≡ b
      same o d e = cc

-- ---- the failing token is one

module _ {Token A : Type 0} (Spells : List Token → A → Type 0) (height : A → ℕ) (r : ℕ) where
  -- what begins a text still does with fewer tokens
  fewer : (x : List Token) (t : Token) (w : List Token) → Begins Spells height r (x ++ t ∷ w) → Begins Spells height r (x ++ t ∷ [])
  fewer x t w b =
      let same : (x ++ t ∷ w) ++ b.0 ≡ (x ++ t ∷ []) ++ (w ++ b.0) = append_assoc x (t ∷ w) b.0 ∙ sym (append_assoc x (t ∷ []) (w ++ b.0)) in
      (w ++ b.0, b.1, subst (λ (v : List Token). Spells v b.1) same b.2, b.3)

  not_shut : (x : List Token) (f : Fault) (t : Token) (after : List Token) → Shut Spells height r x f (t ∷ after) → Begins Spells height r (x ++ t ∷ []) → ⊥
  not_shut x Syntax t after h b = h (b.0, b.1, b.2)
  not_shut x TooDeep t after h b = h.1 b

  one_fault : (x : List Token) (f g : Fault) (rest : List Token) → Shut Spells height r x f rest → Shut Spells height r x g rest → f ≡ g
  one_fault x Syntax Syntax rest h k = refl
  one_fault x TooDeep TooDeep rest h k = refl
  one_fault x Syntax TooDeep [] h k = absurd k
  one_fault x Syntax TooDeep (t ∷ after) h k = absurd (h k.0)
  one_fault x TooDeep Syntax [] h k = absurd h
  one_fault x TooDeep Syntax (t ∷ after) h k = absurd (k h.0)

  -- of two ways to part a list, either they are the same, or one part goes on into the other
  parted : (x y rest after : List Token) → x ++ rest ≡ y ++ after
      → ((x ≡ y) × (rest ≡ after)) ⊎ (((t : Token) × (w : List Token) × (y ≡ x ++ t ∷ w) × (rest ≡ t ∷ (w ++ after))) ⊎ ((t : Token) × (w : List Token) × (x ≡ y ++ t ∷ w) × (after ≡ t ∷ (w ++ rest))))
  parted [] [] rest after e = inl (refl, e)
  parted [] (t ∷ w) rest after e = inr (inl (t, w, refl, e))
  parted (t ∷ w) [] rest after e = inr (inr (t, w, refl, sym e))
  parted (t ∷ x) (u ∷ y) rest after e = go (parted x y rest after cc) cc
    where
      go : ((x ≡ y) × (rest ≡ after)) ⊎ (((t : Token) × (w : List Token) × (y ≡ x ++ t ∷ w) × (rest ≡ t ∷ (w ++ after))) ⊎ ((t : Token) × (w : List Token) × (x ≡ y ++ t ∷ w) × (after ≡ t ∷ (w ++ rest)))) → t ≡ u
          → ((t ∷ x ≡ u ∷ y) × (rest ≡ after)) ⊎ (((v : Token) × (w : List Token) × (u ∷ y ≡ t ∷ (x ++ v ∷ w)) × (rest ≡ v ∷ (w ++ after))) ⊎ ((v : Token) × (w : List Token) × (t ∷ x ≡ u ∷ (y ++ v ∷ w)) × (after ≡ v ∷ (w ++ rest))))
      go (inl (d, f)) tu = inl (cc, f)
      go (inr (inl (v, w, d, f))) tu = inr (inl (v, w, cc, f))
      go (inr (inr (v, w, d, f))) tu = inr (inr (v, w, cc, f))

  -- a text fails at one place, and for one reason
  pub one_failure : (ts : List Token) (f g : Fault) (rest after : List Token) → FailsAt Spells height r ts f rest → FailsAt Spells height r ts g after → (f ≡ g) × (rest ≡ after)
  one_failure ts f g rest after a b = go (parted a.front b.front rest after (sym a.parts ∙ b.parts))
    where
      go : ((a.front ≡ b.front) × (rest ≡ after)) ⊎ (((t : Token) × (w : List Token) × (b.front ≡ a.front ++ t ∷ w) × (rest ≡ t ∷ (w ++ after))) ⊎ ((t : Token) × (w : List Token) × (a.front ≡ b.front ++ t ∷ w) × (after ≡ t ∷ (w ++ rest))))
          → (f ≡ g) × (rest ≡ after)
      go (inl (d, e)) =
          (one_fault a.front f g rest a.shut (subst (λ (w : List Token). Shut Spells height r a.front g w) (sym e) (subst (λ (w : List Token). Shut Spells height r w g after) (sym d) b.shut)), e)
      go (inr (inl (t, w, d, e))) =
          absurd (not_shut a.front f t (w ++ after) (subst (λ (v : List Token). Shut Spells height r a.front f v) e a.shut) (fewer a.front t w (subst (λ (v : List Token). Begins Spells height r v) d b.before)))
      go (inr (inr (t, w, d, e))) =
          absurd (not_shut b.front g t (w ++ rest) (subst (λ (v : List Token). Shut Spells height r b.front g v) e b.shut) (fewer b.front t w (subst (λ (v : List Token). Begins Spells height r v) d a.before)))

  -- what is a text fails nowhere
  pub no_failure : (ts : List Token) (a : A) (f : Fault) (rest : List Token) → Spells ts a → height a ≤ r → FailsAt Spells height r ts f rest → ⊥
  no_failure ts a f rest d le x = go f rest x.front x.parts x.shut
    where
      go : (f : Fault) (rest front : List Token) → ts ≡ front ++ rest → Shut Spells height r front f rest → ⊥
      go Syntax [] front e h = h a (subst (λ (w : List Token). Spells w a) (e ∙ append-nil front) d)
      go TooDeep [] front e h = h
      go f (t ∷ after) front e h =
          not_shut front f t after h (after, a, subst (λ (w : List Token). Spells w a) (e ∙ sym (append_assoc front (t ∷ []) after)) d, le)

  -- where the parser fails only at the end, or not at all, the tokens begin a text
  pub open_to_the_end : (ts : List Token) (f : Fault) → FailsAt Spells height r ts f [] → Begins Spells height r ts
  open_to_the_end ts f x = subst (λ (w : List Token). Begins Spells height r w) (sym (x.parts ∙ append-nil x.front)) x.before

  pub open_whole : (ts : List Token) (a : A) → Spells ts a → height a ≤ r → Begins Spells height r ts
  open_whole ts a d le = ([], a, subst (λ (w : List Token). Spells w a) (sym (append-nil ts)) d, le)

-- where a text fails, the parser does
pub whole_fails : {Token A : Type 0} {ends : Token → Bool} {Spells : List Token → A → Type 0} {height : A → ℕ} {p : ℕ → List Token → Outcome Token A} → Exact ends Spells height p
    → (r : ℕ) (ts : List Token) (f : Fault) (rest : List Token) → FailsAt Spells height r ts f rest → whole (p r) ts ≡ Failed f rest
whole_fails {Token} {A} {ends} {Spells} {height} {p} x r ts f rest h = go (whole (p r) ts) (whole_is_exact x r ts)
  where
    go : (o : Outcome Token A) → IsExact Spells height r ts o → o ≡ Failed f rest
    go (Got a after) y = absurd (no_failure Spells height r ts a f rest y.1 y.2 h)
    go (Failed g after) y = let z = one_failure Spells height r ts g f after rest y h in rw (z.0, z.1) refl
