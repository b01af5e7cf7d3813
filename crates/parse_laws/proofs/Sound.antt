-- What a parser reads is what a relation spells.
use Rattle.std.proofs.Common.{◌≡◌, ℕ, zero, suc, Bool, true, false, List, [], ◌∷◌, length, refl, sym, subst}
use Rattle.parse_laws.specs.Parser.{Outcome, Got, Failed, Parser, and_then, ◌>>=◌, pure, refuse, Move, Stop, Deep, Go, moved, commit, and_go, when, expect, must, a_level_down, loop_from, loop, many, separated}

-- the tokens before it, those behind it, and a value
abbrev pub Reading : Type 0 → Type 0 → Type 1
Reading Token A = List Token → List Token → A → Type 0

-- what a parser reads is spelled so
pub record Sound {Token A : Type 0} (p : Parser Token A) (R : List Token → List Token → A → Type 0) : Type 0 where
  pub spelled : (ts : List Token) (a : A) (rest : List Token) → p ts ≡ Got a rest → R ts rest a

-- what is read behind a token that a move takes is spelled so
pub record SoundMove {Token A : Type 0} (R : List Token → List Token → A → Type 0) (m : Move Token A) : Type 0 where
  pub taken : (p : List Token → Outcome Token A) → m ≡ Go p → Sound p R

-- ---- moves

pub stop_sound : {Token A : Type 0} {R : List Token → List Token → A → Type 0} → SoundMove R Stop
stop_sound = record { taken = λ p e. absurd cc }

pub deep_sound : {Token A : Type 0} {R : List Token → List Token → A → Type 0} → SoundMove R Deep
deep_sound = record { taken = λ p e. absurd cc }

pub go_sound : {Token A : Type 0} {R : List Token → List Token → A → Type 0} {p : List Token → Outcome Token A} → Sound p R → SoundMove R (Go p)
go_sound {Token} {A} {R} {p} x = record { taken = λ q e. let same : p ≡ q = cc in subst (λ (w : List Token → Outcome Token A). Sound w R) same x }

-- ---- parsers

module _ {Token A : Type 0} {R : List Token → List Token → A → Type 0} where
  pub pure_sound : {a : A} → ((ts : List Token) → R ts ts a) → Sound (pure a) R
  pure_sound {a = a} h = record { spelled = λ ts b rest e. go ts b rest e }
    where
      go : (ts : List Token) (b : A) (rest : List Token) → Got a ts ≡ Got b rest → R ts rest b
      go ts b rest e = let ab : a ≡ b = cc in let tr : ts ≡ rest = cc in subst (λ (w : List Token). R ts w b) tr (subst (λ (w : A). R ts ts w) ab (h ts))

  pub refuse_sound : Sound refuse R
  refuse_sound = record { spelled = λ ts a rest e. absurd cc }

  pub sound_map : {p : Parser Token A} {S : List Token → List Token → A → Type 0} → ((ts rest : List Token) (a : A) → R ts rest a → S ts rest a) → Sound p R → Sound p S
  sound_map f x = record { spelled = λ ts a rest e. f ts rest a (x.spelled ts a rest e) }

-- the second part is told what was read before it
pub bind_sound : {Token A B : Type 0} {p : Parser Token A} {f : A → Parser Token B} {R : List Token → List Token → A → Type 0} {S : List Token → List Token → B → Type 0}
    → Sound p R → ((a : A) → Sound (f a) (λ mid rest b. (ts : List Token) → R ts mid a → S ts rest b)) → Sound (p >>= f) S
bind_sound {Token} {A} {B} {p} {f} {R} {S} x y = record { spelled = λ ts b rest e. go ts b rest (p ts) refl e }
  where
    go : (ts : List Token) (b : B) (rest : List Token) (o : Outcome Token A) → p ts ≡ o → and_then o f ≡ Got b rest → S ts rest b
    go ts b rest (Got a mid) d e = (y a).spelled mid b rest e ts (x.spelled ts a mid d)
    go ts b rest (Failed g mid) d e = absurd cc

pub and_go_sound : {Token A B : Type 0} {m : Move Token A} {f : A → Parser Token B} {R : List Token → List Token → A → Type 0} {S : List Token → List Token → B → Type 0}
    → SoundMove R m → ((a : A) → Sound (f a) (λ mid rest b. (ts : List Token) → R ts mid a → S ts rest b)) → SoundMove S (and_go m f)
and_go_sound {m = Stop} x y = stop_sound
and_go_sound {m = Deep} x y = deep_sound
and_go_sound {m = Go p} x y = go_sound (bind_sound (x.taken p refl) y)

module _ {Token A : Type 0} {R : List Token → List Token → A → Type 0} where
  pub commit_sound : {k : Token → Move Token A} {other : Parser Token A} → ((u : Token) → SoundMove (λ mid rest a. R (u ∷ mid) rest a) (k u)) → Sound other R → Sound (commit k other) R
  commit_sound {k = k} {other = other} x y = record { spelled = all }
    where
      go : (u : Token) (ts : List Token) (a : A) (rest : List Token) (m : Move Token A) → SoundMove (λ mid rest a. R (u ∷ mid) rest a) m → moved m other u ts ≡ Got a rest → R (u ∷ ts) rest a
      go u ts a rest Stop h e = y.spelled (u ∷ ts) a rest e
      go u ts a rest Deep h e = absurd cc
      go u ts a rest (Go p) h e = (h.taken p refl).spelled ts a rest e

      all : (ts : List Token) (a : A) (rest : List Token) → commit k other ts ≡ Got a rest → R ts rest a
      all [] a rest e = y.spelled [] a rest e
      all (u ∷ ts) a rest e = go u ts a rest (k u) (x u) e

  -- a part that may come: where it does not, the text ends or its token stops
  pub option_sound : {k : Token → Move Token A} {a : A} → ((u : Token) → SoundMove (λ mid rest a. R (u ∷ mid) rest a) (k u)) → R [] [] a → ((u : Token) (rest : List Token) → k u ≡ Stop → R (u ∷ rest) (u ∷ rest) a) → Sound (commit k (pure a)) R
  option_sound {k = k} {a = a} x end stop = record { spelled = all }
    where
      same : (ts : List Token) (b : A) (rest : List Token) → Got a ts ≡ Got b rest → R ts ts a → R ts rest b
      same ts b rest e h = let ab : a ≡ b = cc in let tr : ts ≡ rest = cc in subst (λ (w : List Token). R ts w b) tr (subst (λ (w : A). R ts ts w) ab h)

      go : (u : Token) (ts : List Token) (b : A) (rest : List Token) (m : Move Token A) → k u ≡ m → SoundMove (λ mid rest a. R (u ∷ mid) rest a) m → moved m (pure a) u ts ≡ Got b rest → R (u ∷ ts) rest b
      go u ts b rest Stop d h e = same (u ∷ ts) b rest e (stop u ts d)
      go u ts b rest Deep d h e = absurd cc
      go u ts b rest (Go p) d h e = (h.taken p refl).spelled ts b rest e

      all : (ts : List Token) (b : A) (rest : List Token) → commit k (pure a) ts ≡ Got b rest → R ts rest b
      all [] b rest e = same [] b rest e end
      all (u ∷ ts) b rest e = go u ts b rest (k u) refl (x u) e

  -- by the token, else by another part: that stands where the text ends or its token stops
  pub fallback_sound : (k : Token → Move Token A) (other : Parser Token A) → ((u : Token) → SoundMove (λ mid rest a. R (u ∷ mid) rest a) (k u))
      → ((a : A) (rest : List Token) → other [] ≡ Got a rest → R [] rest a)
      → ((u : Token) (mid : List Token) (a : A) (rest : List Token) → k u ≡ Stop → other (u ∷ mid) ≡ Got a rest → R (u ∷ mid) rest a) → Sound (commit k other) R
  fallback_sound k other x end stop = record { spelled = all }
    where
      go : (u : Token) (ts : List Token) (a : A) (rest : List Token) (m : Move Token A) → k u ≡ m → SoundMove (λ mid rest a. R (u ∷ mid) rest a) m → moved m other u ts ≡ Got a rest → R (u ∷ ts) rest a
      go u ts a rest Stop d h e = stop u ts a rest d e
      go u ts a rest Deep d h e = absurd cc
      go u ts a rest (Go p) d h e = (h.taken p refl).spelled ts a rest e

      all : (ts : List Token) (a : A) (rest : List Token) → commit k other ts ≡ Got a rest → R ts rest a
      all [] a rest e = end a rest e
      all (u ∷ ts) a rest e = go u ts a rest (k u) refl (x u) e

  pub when_sound : {p : Parser Token A} (b : Bool) → (b ≡ true → Sound p R) → SoundMove R (when b p)
  when_sound true h = go_sound (h refl)
  when_sound false h = stop_sound

  pub token_sound : {is : Token → Bool} {f : Token → Parser Token A} → ((u : Token) → is u ≡ true → Sound (f u) (λ mid rest a. R (u ∷ mid) rest a)) → Sound (expect is >>= f) R
  token_sound {is = is} {f = f} x = record { spelled = all }
    where
      go : (u : Token) (ts : List Token) (a : A) (rest : List Token) (b : Bool) → is u ≡ b → and_then (moved (when b (pure u)) refuse u ts) f ≡ Got a rest → R (u ∷ ts) rest a
      go u ts a rest true d e = (x u d).spelled ts a rest e
      go u ts a rest false d e = absurd cc

      all : (ts : List Token) (a : A) (rest : List Token) → and_then (expect is ts) f ≡ Got a rest → R ts rest a
      all [] a rest e = absurd cc
      all (u ∷ ts) a rest e = go u ts a rest (is u) refl e

  -- v is the only such token
  pub must_sound : {p : Parser Token A} (is : Token → Bool) (v : Token) → ((u : Token) → is u ≡ true → u ≡ v) → Sound p (λ mid rest a. R (v ∷ mid) rest a) → Sound (must is p) R
  must_sound {p = p} is v only x = token_sound {f = λ u. p} (λ u e. record { spelled = λ ts a rest d. subst (λ (w : Token). R (w ∷ ts) rest a) (sym (only u e)) (x.spelled ts a rest d) })

  pub level_sound : {p : ℕ → Parser Token A} (begins : Token → Bool) (r : ℕ) → ((m : ℕ) → r ≡ suc m → Sound (p m) R) → Sound (a_level_down begins p r) R
  level_sound begins zero h = record { spelled = λ ts a rest e. absurd cc }
  level_sound begins (suc r) h = h r refl

-- what was read before a loop is read with its turns
module _ {Token A : Type 0} {R : List Token → List Token → A → Type 0} {turn : A → Token → Move Token A} where
  pub loop_sound : ((a : A) (u : Token) → SoundMove (λ mid rest b. (ts : List Token) → R ts (u ∷ mid) a → R ts rest b) (turn a u)) → (a : A) → Sound (loop turn a) (λ mid rest b. (ts : List Token) → R ts mid a → R ts rest b)
  unfolding loop loop_from
  loop_sound h a = record { spelled = λ mid b rest e. (from (length mid) a).spelled mid b rest e }
    where
      from : (n : ℕ) (a : A) → Sound (loop_from n turn a) (λ mid rest b. (ts : List Token) → R ts mid a → R ts rest b)
      from zero a = pure_sound (λ mid ts x. x)
      from (suc n) a = commit_sound (λ u. and_go_sound (h a u) (λ b. sound_map (λ mid rest c y ts x ts2 z. y ts2 (x ts2 z)) (from n b))) (pure_sound (λ mid ts x. x))

-- items one after the other
module _ {Token A B : Type 0} {Item : List Token → List Token → A → Type 0} {All : List Token → List Token → B → Type 0} where
  pub many_sound : (item : Token → Move Token A) (add : B → A → B) → ((ts mid rest : List Token) (all : B) (x : A) → All ts mid all → Item mid rest x → All ts rest (add all x))
      → ((u : Token) → SoundMove (λ mid rest x. Item (u ∷ mid) rest x) (item u)) → (all : B) → Sound (many item add all) (λ mid rest b. (ts : List Token) → All ts mid all → All ts rest b)
  many_sound item add step h all = loop_sound {R = All} (λ b u. and_go_sound (h u) (λ x. pure_sound (λ rest mid i ts a. step ts (u ∷ mid) rest b x a i))) all

  pub separated_sound : {item : Parser Token A} (is : Token → Bool) (add : B → A → B) (start : A → B) → ((ts rest : List Token) (x : A) → Item ts rest x → All ts rest (start x))
      → ((ts mid rest : List Token) (u : Token) (all : B) (x : A) → is u ≡ true → All ts (u ∷ mid) all → Item mid rest x → All ts rest (add all x)) → Sound item Item → Sound (separated is item add start) All
  separated_sound is add start one step x =
      bind_sound x (λ a. sound_map (λ mid rest b h ts i. h ts (one ts mid a i))
      (loop_sound {R = All} (λ b u. and_go_sound (when_sound {R = λ mid rest y. (is u ≡ true) × Item mid rest y} (is u) (λ e. sound_map (λ mid rest y i. (e, i)) x)) (λ y. pure_sound (λ rest mid i ts all. step ts mid rest u b y i.0 all i.1))) (start a)))
