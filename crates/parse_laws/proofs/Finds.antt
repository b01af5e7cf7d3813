-- Completeness: what is spelled is read, where a grammar speaks of tokens as they are seen. `see` says as what a token is seen.
--
-- A production is complete by one term that follows the parser's definition, as it is sound. Where it is shown by recursion on a
-- derivation that grows at its end, a list reaches the loop that goes on with it (`Reaches`), turn by turn.
use Rattle.std.proofs.Common.{◌≡◌, Bool, true, List, [], ◌∷◌, map, refl, ◌∙◌}
use Rattle.parse_laws.specs.Parser.{Outcome, Got, Parser, and_then, ◌>>=◌, pure, refuse, Move, Stop, Deep, Go, moved, commit, when, expect, must, loop}
use Rattle.parse_laws.proofs.Loops.{Shrinks, loop_turns, loop_ends, loop_stops}

module _ {Token Item : Type 0} (see : Token → Item) where
  -- On tokens that are seen as `before` the parser answers what the other answers on some that are seen as `after`.
  abbrev pub Reaches : {A : Type 0} → Parser Token A → Parser Token A → List Item → List Item → Type 0
  Reaches p q before after = (ts : List Token) → map see ts ≡ before → (rest : List Token) × (map see rest ≡ after) × (p ts ≡ q rest)

  -- It reads this value, up to those.
  abbrev pub Finds : {A : Type 0} → Parser Token A → List Item → List Item → A → Type 0
  Finds p before after a = Reaches p (pure a) before after

  -- A token that is seen so goes, and what is behind it reads this value.
  abbrev pub FindsMove : {A : Type 0} → (Token → Move Token A) → Item → List Item → List Item → A → Type 0
  FindsMove {A} k t before after a = (u : Token) → see u ≡ t → (p : Parser Token A) × (k u ≡ Go p) × Finds p before after a

  -- The text ends here, or a token comes with which a choice doesn't go on.
  abbrev pub Halts : {A : Type 0} → (Token → Move Token A) → List Item → Type 0
  Halts k [] = Unit {0}
  Halts k (t ∷ after) = (u : Token) → see u ≡ t → k u ≡ Stop

  -- the first token of a list, as it is seen
  pub parted : (ts : List Token) (t : Item) (before : List Item) → map see ts ≡ t ∷ before → (u : Token) × (mid : List Token) × (ts ≡ u ∷ mid) × (see u ≡ t) × (map see mid ≡ before)
  parted [] t before e = absurd cc
  parted (u ∷ mid) t before e = (u, mid, refl, cc, cc)

  module _ {A : Type 0} where
    pub pure_finds : (before : List Item) (a : A) → Finds (pure a) before before a
    pure_finds before a = λ ts e. (ts, e, refl)

    -- by a token that goes
    pub commit_finds : (k : Token → Move Token A) (other : Parser Token A) (t : Item) (before after : List Item) (a : A) → FindsMove k t before after a → Finds (commit k other) (t ∷ before) after a
    commit_finds k other t before after a x [] e = absurd cc
    commit_finds k other t before after a x (u ∷ ts) e = let m = x u cc in let y = m.2 ts cc in (y.0, y.1, rw m.1 y.2)

    -- where the token stops, or none comes, by the other part
    pub other_finds : (k : Token → Move Token A) (other : Parser Token A) (before after : List Item) (a : A) → Halts k before → Finds other before after a → Finds (commit k other) before after a
    other_finds k other [] after a h x [] e = x [] e
    other_finds k other [] after a h x (u ∷ ts) e = absurd cc
    other_finds k other (t ∷ before) after a h x [] e = absurd cc
    other_finds k other (t ∷ before) after a h x (u ∷ ts) e = let y = x (u ∷ ts) e in (y.0, y.1, rw (h u cc) y.2)

    -- a part that may come and doesn't
    pub none_finds : (k : Token → Move Token A) (before : List Item) (a : A) → Halts k before → Finds (commit k (pure a)) before before a
    none_finds k before a h = other_finds k (pure a) before before a h (pure_finds before a)

    pub when_goes : (b : Bool) (p : Parser Token A) → b ≡ true → when b p ≡ Go p
    when_goes b p e = rw e refl

    -- a token that must come, and what is behind it
    pub must_finds : (is : Token → Bool) (p : Parser Token A) (t : Item) (before after : List Item) (a : A) → ((u : Token) → see u ≡ t → is u ≡ true) → Finds p before after a → Finds (must is p) (t ∷ before) after a
    must_finds is p t before after a h x [] e = absurd cc
    must_finds is p t before after a h x (u ∷ ts) e = let y = x ts cc in (y.0, y.1, rw (h u cc) y.2)

    turned : (turn : A → Token → Move Token A) → ((a : A) (u : Token) → Shrinks (turn a u)) → (a b : A) (u : Token) (ts mid rest : List Token) (p : Parser Token A) → ts ≡ u ∷ mid → turn a u ≡ Go p → p mid ≡ Got b rest
        → loop turn a ts ≡ loop turn b rest
    turned turn shrinks a b u ts mid rest p e m h = rw e (loop_turns turn shrinks a b u mid rest p m h)

    -- one more turn of a loop
    pub turn_reaches : (p : Parser Token A) (turn : A → Token → Move Token A) (before mid after : List Item) (t : Item) (a b : A) → ((a : A) (u : Token) → Shrinks (turn a u))
        → Reaches p (loop turn a) before (t ∷ mid) → FindsMove (turn a) t mid after b → Reaches p (loop turn b) before after
    turn_reaches p turn before mid after t a b shrinks x y = λ ts e.
        let r = x ts e in
        let s = parted r.0 t mid r.1 in
        let m = y s.0 s.3 in
        let z = m.2 s.1 s.4 in
        (z.0, z.1, r.2 ∙ turned turn shrinks a b s.0 r.0 s.1 z.0 m.0 s.2 m.1 z.2)

    -- a loop that no token goes on with
    pub loop_finds : (p : Parser Token A) (turn : A → Token → Move Token A) (before after : List Item) (a : A) → Reaches p (loop turn a) before after → Halts (turn a) after → Finds p before after a
    loop_finds p turn before after a x h = λ ts e. let r = x ts e in (r.0, r.1, r.2 ∙ ends r.0 after r.1 h)
      where
        ends : (rest : List Token) (after : List Item) → map see rest ≡ after → Halts (turn a) after → loop turn a rest ≡ Got a rest
        ends [] after e h = loop_ends turn a
        ends (u ∷ rest) [] e h = absurd cc
        ends (u ∷ rest) (t ∷ after) e h = loop_stops turn a u rest (h u cc)

    -- a loop of its own
    pub reaches_itself : (p : Parser Token A) (before : List Item) → Reaches p p before before
    reaches_itself p before = λ ts e. (ts, e, refl)

  -- one part after another
  pub bind_finds : {A B : Type 0} (p : Parser Token A) (f : A → Parser Token B) (before mid after : List Item) (a : A) (b : B) → Finds p before mid a → Finds (f a) mid after b → Finds (p >>= f) before after b
  bind_finds p f before mid after a b x y = λ ts e. let r = x ts e in let s = y r.0 r.1 in (s.0, s.1, rw r.2 s.2)

  -- a part, and a loop or another parser that is reached behind it
  pub bind_reaches : {A B : Type 0} (p : Parser Token A) (f : A → Parser Token B) (before mid : List Item) (a : A) → Finds p before mid a → Reaches (p >>= f) (f a) before mid
  bind_reaches p f before mid a x = λ ts e. let r = x ts e in (r.0, r.1, rw r.2 refl)

  pub reaches_finds : {A : Type 0} (p q : Parser Token A) (before mid after : List Item) (a : A) → Reaches p q before mid → Finds q mid after a → Finds p before after a
  reaches_finds p q before mid after a x y = λ ts e. let r = x ts e in let s = y r.0 r.1 in (s.0, s.1, r.2 ∙ s.2)
