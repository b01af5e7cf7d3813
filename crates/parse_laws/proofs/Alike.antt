-- Two parsers over tokens of two types that are seen alike: they read alike.
--
-- The tokens of the code and the words of a text are seen as the same items, up to a token that bars the way, which no
-- parser takes: from it on the two lists are related by `Later`, and may be seen otherwise. A parser's lemma follows its
-- definition, one combinator after another.
use Rattle.std.proofs.Common.{◌≡◌, ℕ, zero, suc, nat_lt, Bool, true, false, cond, List, [], ◌∷◌, length, Option, Some, None, refl, sym, ap, subst}
use Rattle.parse_laws.specs.declared.fault.Fault.{Fault}
use Rattle.parse_laws.specs.declared.fault.Fault.TheVariants.{Syntax, TooDeep}
use Rattle.parse_laws.specs.Parser.{Outcome, Got, Failed, Parser, and_then, ◌>>=◌, pure, refuse, Move, Stop, Deep, Go, moved, commit, and_go, when, expect, must, deeper, fault_at, a_level_down, loop_from, loop, one_more, many, separated}
use Rattle.parse_laws.specs.Operators.{Operators, operate_by, operate, climb, chain, below}

-- How tokens of two types are seen, what is passed, what bars the way, and how the lists are related from there on.
pub record Ways (One Two Item : Type 0) : Type 1 where
  pub one : One → Item
  pub two : Two → Item
  pub clear : Item → Bool
  pub bars : Item → Bool
  pub Later : List One → List Two → Type 0
  pub long : (x : List One) (y : List Two) → Later x y → length x ≡ length y

-- tokens that are seen alike
pub data Along {One Two Item : Type 0} (w : Ways One Two Item) : List One → List Two → Type 0 where
  ended : Along w [] []
  token : {u : One} {t : Two} {x : List One} {y : List Two} → w.one u ≡ w.two t → w.clear (w.two t) ≡ true → Along w x y → Along w (u ∷ x) (t ∷ y)
  barred : {u : One} {t : Two} {x : List One} {y : List Two} → w.one u ≡ w.two t → w.bars (w.two t) ≡ true → w.Later (u ∷ x) (t ∷ y) → Along w (u ∷ x) (t ∷ y)

module _ {One Two Item : Type 0} (w : Ways One Two Item) where
  pub along_long : {x : List One} {y : List Two} → Along w x y → length x ≡ length y
  along_long ended = refl
  along_long (token e c h) = ap suc (along_long h)
  along_long (barred e b h) = w.long _ _ h

  -- the same answer, with tokens left that are seen alike
  abbrev pub Both : {A : Type 0} → Outcome One A → Outcome Two A → Type 0
  Both (Got a x) (Got b y) = (a ≡ b) × Along w x y
  Both (Failed f x) (Failed g y) = (f ≡ g) × Along w x y
  Both (Got a x) (Failed g y) = ⊥
  Both (Failed f x) (Got b y) = ⊥

  abbrev pub Alike : {A : Type 0} → Parser One A → Parser Two A → Type 0
  Alike p q = (x : List One) (y : List Two) → Along w x y → Both (p x) (q y)

  abbrev pub AlikeMove : {A : Type 0} → Move One A → Move Two A → Type 0
  AlikeMove Stop Stop = Unit {0}
  AlikeMove Deep Deep = Unit {0}
  AlikeMove (Go p) (Go q) = Alike p q
  AlikeMove _ _ = ⊥

  -- it doesn't go
  abbrev pub Stays : {A : Type 0} → Move Two A → Type 0
  Stays (Go p) = ⊥
  Stays _ = Unit {0}

  -- moves that are alike at each token, and that don't go at one that bars the way
  pub record AlikeMoves {A : Type 0} (k : One → Move One A) (m : Two → Move Two A) : Type 0 where
    pub moves : (u : One) (t : Two) → w.one u ≡ w.two t → w.clear (w.two t) ≡ true → AlikeMove (k u) (m t)
    pub barred : (u : One) (t : Two) → w.one u ≡ w.two t → w.bars (w.two t) ≡ true → AlikeMove (k u) (m t)
    pub stays : (t : Two) → w.bars (w.two t) ≡ true → Stays (m t)

  -- where they are alike whatever the token does
  pub alike_moves : {A : Type 0} {k : One → Move One A} {m : Two → Move Two A} → ((u : One) (t : Two) → w.one u ≡ w.two t → AlikeMove (k u) (m t)) → ((t : Two) → w.bars (w.two t) ≡ true → Stays (m t)) → AlikeMoves k m
  alike_moves h s = record { moves = λ u t e c. h u t e; barred = λ u t e b. h u t e; stays = s }

  -- a test of tokens that answers alike, and not what bars the way
  pub record AlikeTest (p : One → Bool) (q : Two → Bool) : Type 0 where
    pub same : (u : One) (t : Two) → w.one u ≡ w.two t → p u ≡ q t
    pub passes : (t : Two) → w.bars (w.two t) ≡ true → q t ≡ false

  pub refuse_alike : (A : Type 0) → Alike {A = A} refuse refuse
  refuse_alike A = λ x y h. (refl, h)

  module _ {A : Type 0} where
    pub pure_alike : (a : A) → Alike (pure a) (pure a)
    pure_alike a = λ x y h. (refl, h)

    -- by the next token, else by another parser
    pub commit_alike : (k : One → Move One A) (m : Two → Move Two A) (p : Parser One A) (q : Parser Two A) → AlikeMoves k m → Alike p q → Alike (commit k p) (commit m q)
    commit_alike k m p q s o = λ x y h. go h
      where
        taken : (a : Move One A) (b : Move Two A) (u : One) (t : Two) (x : List One) (y : List Two) → AlikeMove a b → Along w (u ∷ x) (t ∷ y) → Along w x y → Both (moved a p u x) (moved b q t y)
        taken Stop Stop u t x y z h d = o (u ∷ x) (t ∷ y) h
        taken Deep Deep u t x y z h d = (refl, h)
        taken (Go f) (Go g) u t x y z h d = z x y d
        taken Stop Deep u t x y z h d = absurd z
        taken Stop (Go g) u t x y z h d = absurd z
        taken Deep Stop u t x y z h d = absurd z
        taken Deep (Go g) u t x y z h d = absurd z
        taken (Go f) Stop u t x y z h d = absurd z
        taken (Go f) Deep u t x y z h d = absurd z

        stopped : (a : Move One A) (b : Move Two A) (u : One) (t : Two) (x : List One) (y : List Two) → AlikeMove a b → Stays b → Along w (u ∷ x) (t ∷ y) → Both (moved a p u x) (moved b q t y)
        stopped Stop Stop u t x y z n h = o (u ∷ x) (t ∷ y) h
        stopped Deep Deep u t x y z n h = (refl, h)
        stopped a (Go g) u t x y z n h = absurd n
        stopped Stop Deep u t x y z n h = absurd z
        stopped Deep Stop u t x y z n h = absurd z
        stopped (Go f) Stop u t x y z n h = absurd z
        stopped (Go f) Deep u t x y z n h = absurd z

        go : {x : List One} {y : List Two} → Along w x y → Both (commit k p x) (commit m q y)
        go ended = o [] [] ended
        go (token {u = u} {t = t} {x = x} {y = y} e c h) = taken (k u) (m t) u t x y (s.moves u t e c) (token e c h) h
        go (barred {u = u} {t = t} {x = x} {y = y} e b h) = stopped (k u) (m t) u t x y (s.barred u t e b) (s.stays t b) (barred e b h)

    pub choice_alike : (k : One → Move One A) (m : Two → Move Two A) → AlikeMoves k m → Alike (commit k refuse) (commit m refuse)
    choice_alike k m s = commit_alike k m refuse refuse s (refuse_alike A)

    pub option_alike : (k : One → Move One A) (m : Two → Move Two A) (a : A) → AlikeMoves k m → Alike (commit k (pure a)) (commit m (pure a))
    option_alike k m a s = commit_alike k m (pure a) (pure a) s (pure_alike a)

    pub when_alike : (b c : Bool) (p : Parser One A) (q : Parser Two A) → b ≡ c → Alike p q → AlikeMove (when b p) (when c q)
    when_alike true true p q e h = h
    when_alike false false p q e h = tt
    when_alike true false p q e h = absurd cc
    when_alike false true p q e h = absurd cc

    pub when_stays : (c : Bool) (q : Parser Two A) → c ≡ false → Stays (when c q)
    when_stays true q e = absurd cc
    when_stays false q e = tt

    -- a token by its test, and a parser behind it
    pub test_alike : (is : One → Bool) (its : Two → Bool) (p : Parser One A) (q : Parser Two A) → AlikeTest is its → Alike p q → AlikeMoves (λ u. when (is u) p) (λ t. when (its t) q)
    test_alike is its p q s h = alike_moves (λ u t e. when_alike (is u) (its t) p q (s.same u t e) h) (λ t b. when_stays (its t) q (s.passes t b))

    pub must_alike : (is : One → Bool) (its : Two → Bool) (p : Parser One A) (q : Parser Two A) → AlikeTest is its → Alike p q → Alike (must is p) (must its q)
    must_alike is its p q s o = λ x y h. go h
      where
        taken : (b c : Bool) (u : One) (t : Two) (x : List One) (y : List Two) → b ≡ c → Along w (u ∷ x) (t ∷ y) → Along w x y → Both (and_then (moved (when b (pure u)) refuse u x) (λ _. p)) (and_then (moved (when c (pure t)) refuse t y) (λ _. q))
        taken true true u t x y e h d = o x y d
        taken false false u t x y e h d = (refl, h)
        taken true false u t x y e h d = absurd cc
        taken false true u t x y e h d = absurd cc

        stopped : (b c : Bool) (u : One) (t : Two) (x : List One) (y : List Two) → b ≡ c → c ≡ false → Along w (u ∷ x) (t ∷ y) → Both (and_then (moved (when b (pure u)) refuse u x) (λ _. p)) (and_then (moved (when c (pure t)) refuse t y) (λ _. q))
        stopped false false u t x y e d h = (refl, h)
        stopped true true u t x y e d h = absurd cc
        stopped true false u t x y e d h = absurd cc
        stopped false true u t x y e d h = absurd cc

        go : {x : List One} {y : List Two} → Along w x y → Both (must is p x) (must its q y)
        go ended = (refl, ended)
        go (token {u = u} {t = t} {x = x} {y = y} e c h) = taken (is u) (its t) u t x y (s.same u t e) (token e c h) h
        go (barred {u = u} {t = t} {x = x} {y = y} e b h) = stopped (is u) (its t) u t x y (s.same u t e) (s.passes t b) (barred e b h)

  -- one after the other
  pub bind_alike : {A B : Type 0} (p : Parser One A) (q : Parser Two A) (f : A → Parser One B) (g : A → Parser Two B) → Alike p q → ((a : A) → Alike (f a) (g a)) → Alike (p >>= f) (q >>= g)
  bind_alike {A} {B} p q f g h k = λ x y d. go (p x) (q y) (h x y d)
    where
      go : (a : Outcome One A) (b : Outcome Two A) → Both a b → Both (and_then a f) (and_then b g)
      go (Got a x) (Got b y) z = rw z.0 (k b x y z.1)
      go (Failed a x) (Failed b y) z = z
      go (Got a x) (Failed b y) z = absurd z
      go (Failed a x) (Got b y) z = absurd z

  pub and_go_alike : {A B : Type 0} (k : Move One A) (m : Move Two A) (f : A → Parser One B) (g : A → Parser Two B) → AlikeMove k m → ((a : A) → Alike (f a) (g a)) → AlikeMove (and_go k f) (and_go m g)
  and_go_alike Stop Stop f g z h = tt
  and_go_alike Deep Deep f g z h = tt
  and_go_alike (Go p) (Go q) f g z h = bind_alike p q f g z h
  and_go_alike Stop Deep f g z h = absurd z
  and_go_alike Stop (Go q) f g z h = absurd z
  and_go_alike Deep Stop f g z h = absurd z
  and_go_alike Deep (Go q) f g z h = absurd z
  and_go_alike (Go p) Stop f g z h = absurd z
  and_go_alike (Go p) Deep f g z h = absurd z

  and_go_stays : {A B : Type 0} (m : Move Two A) (g : A → Parser Two B) → Stays m → Stays (and_go m g)
  and_go_stays Stop g z = tt
  and_go_stays Deep g z = tt
  and_go_stays (Go q) g z = absurd z

  pub then_alike : {A B : Type 0} (k : One → Move One A) (m : Two → Move Two A) (f : A → Parser One B) (g : A → Parser Two B) → AlikeMoves k m → ((a : A) → Alike (f a) (g a)) → AlikeMoves (λ u. and_go (k u) f) (λ t. and_go (m t) g)
  then_alike k m f g s h = record {
    moves = λ u t e c. and_go_alike (k u) (m t) f g (s.moves u t e c) h;
    barred = λ u t e b. and_go_alike (k u) (m t) f g (s.barred u t e b) h;
    stays = λ t b. and_go_stays (m t) g (s.stays t b);
  }

  -- levels
  pub deeper_alike : {A : Type 0} (p : ℕ → Parser One A) (q : ℕ → Parser Two A) (r : ℕ) → ((m : ℕ) → r ≡ suc m → Alike (p m) (q m)) → AlikeMove (deeper p r) (deeper q r)
  deeper_alike p q zero h = tt
  deeper_alike p q (suc r) h = h r refl

  -- the fault at tokens that are seen alike
  pub fault_alike : (begins : One → Bool) (starts : Two → Bool) → ((u : One) (t : Two) → w.one u ≡ w.two t → begins u ≡ starts t) → (x : List One) (y : List Two) → Along w x y → fault_at begins x ≡ fault_at starts y
  fault_alike begins starts s x y d = go d
    where
      go : {x : List One} {y : List Two} → Along w x y → fault_at begins x ≡ fault_at starts y
      go ended = refl
      go (token {u = u} {t = t} e c h) = rw (s u t e) refl
      go (barred {u = u} {t = t} e b h) = rw (s u t e) refl

  pub level_alike : {A : Type 0} (begins : One → Bool) (starts : Two → Bool) (p : ℕ → Parser One A) (q : ℕ → Parser Two A) (r : ℕ) → ((u : One) (t : Two) → w.one u ≡ w.two t → begins u ≡ starts t) → ((m : ℕ) → r ≡ suc m → Alike (p m) (q m))
      → Alike (a_level_down begins p r) (a_level_down starts q r)
  level_alike begins starts p q zero s h = λ x y d. (fault_alike begins starts s x y d, d)
  level_alike begins starts p q (suc r) s h = h r refl

  -- loops
  module _ {A : Type 0} (turn : A → One → Move One A) (its : A → Two → Move Two A) (s : (a : A) → AlikeMoves (turn a) (its a)) where
    pub loop_alike : (a : A) → Alike (loop turn a) (loop its a)
    unfolding loop loop_from
    loop_alike a = λ x y h. subst (λ (n : ℕ). Both (loop_from (length x) turn a x) (loop_from n its a y)) (along_long h) (from (length x) a x y h)
      where
        from : (n : ℕ) (a : A) → Alike (loop_from n turn a) (loop_from n its a)
        from zero a = pure_alike a
        from (suc n) a = option_alike (λ u. and_go (turn a u) (loop_from n turn)) (λ t. and_go (its a t) (loop_from n its)) a (then_alike (turn a) (its a) (loop_from n turn) (loop_from n its) (s a) (from n))

  pub many_alike : {A B : Type 0} (item : One → Move One A) (its : Two → Move Two A) (add : B → A → B) → AlikeMoves item its → (all : B) → Alike (many item add all) (many its add all)
  many_alike item its add s all = loop_alike (one_more item add) (one_more its add) (λ b. then_alike item its (λ x. pure (add b x)) (λ x. pure (add b x)) s (λ x. pure_alike (add b x))) all

  pub separated_alike : {A B : Type 0} (is : One → Bool) (its : Two → Bool) (p : Parser One A) (q : Parser Two A) (add : B → A → B) (start : A → B) → AlikeTest is its → Alike p q → Alike (separated is p add start) (separated its q add start)
  separated_alike is its p q add start s h =
      bind_alike p q (λ x. many (λ u. when (is u) p) add (start x)) (λ x. many (λ t. when (its t) q) add (start x)) h (λ a. many_alike (λ u. when (is u) p) (λ t. when (its t) q) add (test_alike is its p q s h) (start a))

  -- ---- operators

  module _ {O A : Type 0} (operator : ℕ → One → Option O) (its : ℕ → Two → Option O) (same : (k : ℕ) (u : One) (t : Two) → w.one u ≡ w.two t → operator k u ≡ its k t) (passes : (k : ℕ) (t : Two) → w.bars (w.two t) ≡ true → its k t ≡ None)
      (joined : O → A → A → A) (height : A → ℕ) (operand : ℕ → (ℕ → List One → Outcome One A) → List One → Outcome One A) (other : ℕ → (ℕ → List Two → Outcome Two A) → List Two → Outcome Two A) where
    abbrev pub first_of : Operators One O A
    first_of = record { operator = operator; joined = joined; height = height; operand = operand }

    abbrev pub second_of : Operators Two O A
    second_of = record { operator = its; joined = joined; height = height; operand = other }

    operate_alike : (r k : ℕ) (right : Parser One A) (left : Parser Two A) (a : A) → Alike right left → AlikeMoves (operate first_of r k right a) (operate second_of r k left a)
    operate_alike r k right left a h = alike_moves (λ u t e. go (operator k u) (its k t) (same k u t e)) (λ t b. calm (its k t) (passes k t b))
      where
        fits : (b : Bool) (o : O) → AlikeMove (cond b (Go (right >>= λ b. pure (joined o a b))) Deep) (cond b (Go (left >>= λ b. pure (joined o a b))) Deep)
        fits true o = bind_alike right left (λ b. pure (joined o a b)) (λ b. pure (joined o a b)) h (λ b. pure_alike (joined o a b))
        fits false o = tt

        go : (x y : Option O) → x ≡ y → AlikeMove (operate_by r (height a) (λ o. right >>= λ b. pure (joined o a b)) x) (operate_by r (height a) (λ o. left >>= λ b. pure (joined o a b)) y)
        go None None e = tt
        go (Some o) (Some p) e = let op : o ≡ p = cc in subst (λ (z : O). AlikeMove (operate_by r (height a) (λ o. right >>= λ b. pure (joined o a b)) (Some o)) (operate_by r (height a) (λ o. left >>= λ b. pure (joined o a b)) (Some z))) op (fits (nat_lt (height a) r) o)
        go None (Some p) e = absurd cc
        go (Some o) None e = absurd cc

        calm : (y : Option O) → y ≡ None → Stays (operate_by r (height a) (λ o. left >>= λ b. pure (joined o a b)) y)
        calm None e = tt
        calm (Some p) e = absurd cc

    climb_alike : (r k : ℕ) (lower : ℕ → Parser One A) (below : ℕ → Parser Two A) → ((j : ℕ) → Alike (lower j) (below j)) → (a : A) → Alike (climb first_of r lower k a) (climb second_of r below k a)
    unfolding climb
    climb_alike r zero lower below h a = pure_alike a
    climb_alike r (suc k) lower below h a =
        bind_alike (climb first_of r lower k a) (climb second_of r below k a) (loop (operate first_of r k (lower k))) (loop (operate second_of r k (below k))) (climb_alike r k lower below h a)
        (λ b. loop_alike (operate first_of r k (lower k)) (operate second_of r k (below k)) (λ c. operate_alike r k (lower k) (below k) c (h k)) b)

    -- where operands are alike, expressions are
    pub chain_alike : ((r : ℕ) (lower : ℕ → Parser One A) (below : ℕ → Parser Two A) → ((j : ℕ) → Alike (lower j) (below j)) → Alike (operand r lower) (other r below)) → (r k : ℕ) → Alike (chain first_of r k) (chain second_of r k)
    unfolding chain
    chain_alike h zero k =
        bind_alike (operand zero (λ j. refuse)) (other zero (λ j. refuse)) (climb first_of zero (λ j. refuse) k) (climb second_of zero (λ j. refuse) k) (h zero (λ j. refuse) (λ j. refuse) (λ j. refuse_alike A))
        (climb_alike zero k (λ j. refuse) (λ j. refuse) (λ j. refuse_alike A))
    chain_alike h (suc r) k =
        bind_alike (operand (suc r) (chain first_of r)) (other (suc r) (chain second_of r)) (climb first_of (suc r) (chain first_of r) k) (climb second_of (suc r) (chain second_of r) k) (h (suc r) (chain first_of r) (chain second_of r) (chain_alike h r))
        (climb_alike (suc r) k (chain first_of r) (chain second_of r) (chain_alike h r))
