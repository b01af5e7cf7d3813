-- Loops: each turn takes a token, so the bound on the turns is never met; and loops keep what parsers keep.
use Rattle.std.proofs.Common.{◌≡◌, ℕ, zero, suc, ◌<◌, ◌≤◌, Bool, true, false, List, [], ◌∷◌, ◌++◌, length, Some, refl, ap, subst, ◌∙◌, length-append, inl, inr, arith}
use Rattle.parse_laws.specs.declared.fault.Fault.TheVariants.{Syntax, TooDeep}
use Rattle.parse_laws.specs.Parser.{Outcome, Got, Failed, Parser, and_then, pure, refuse, Move, Stop, Deep, Go, moved, commit, and_go, when, loop_from, loop, one_more, many, separated}
use Rattle.parse_laws.proofs.Says.{first, Quiet, Stopped, Live, Starts, Says, quiet_less, says_along, says_behind, says_then}
use Rattle.parse_laws.proofs.Viable.{Local, Viable, Follows, ViableMove, stops, sinks, goes, Within, Stops, reads_of, bind_viable, move_then, pure_follows, when_move}

-- ---- the bound is never met

-- what a move reads takes no token back
abbrev pub Shrinks : {Token A : Type 0} → Move Token A → Type 0
Shrinks Stop = Unit {0}
Shrinks Deep = Unit {0}
Shrinks {Token} {A} (Go p) = (ts : List Token) (a : A) (rest : List Token) → p ts ≡ Got a rest → length rest ≤ length ts

-- a viable move takes none back
pub viable_shrinks : {Token A : Type 0} {ends : Token → Bool} {r : ℕ} {k : ℕ → Move Token A} → ViableMove ends r k → Shrinks (k r)
viable_shrinks {r = r} (stops f) = rw (f r (omega arith)) tt
viable_shrinks (sinks e s le p f live) = rw e tt
viable_shrinks {r = r} (goes p f v) = rw (f r (omega arith)) (λ ts a rest e. let x = reads_of v.local ts a rest e in omega (arith, ap length x.parts, length-append x.front rest))

module _ {Token A : Type 0} (turn : A → Token → Move Token A) (shrinks : (a : A) (u : Token) → Shrinks (turn a u)) where
  -- two bounds that are large enough give the same
  agree : (n m : ℕ) (a : A) (ts : List Token) → length ts ≤ n → length ts ≤ m → loop_from n turn a ts ≡ loop_from m turn a ts
  unfolding loop_from
  agree zero zero a ts x y = refl
  agree zero (suc m) a [] x y = refl
  agree zero (suc m) a (u ∷ rest) x y = absurd (omega arith)
  agree (suc n) zero a [] x y = refl
  agree (suc n) zero a (u ∷ rest) x y = absurd (omega arith)
  agree (suc n) (suc m) a [] x y = refl
  agree (suc n) (suc m) a (u ∷ rest) x y = move (turn a u) (shrinks a u) (λ b ts c d. agree n m b ts c d)
    where
      move : (v : Move Token A) → Shrinks v → ((b : A) (ts : List Token) → length ts ≤ n → length ts ≤ m → loop_from n turn b ts ≡ loop_from m turn b ts)
          → moved (and_go v (loop_from n turn)) (pure a) u rest ≡ moved (and_go v (loop_from m turn)) (pure a) u rest
      move Stop f ih = refl
      move Deep f ih = refl
      move (Go p) f ih = after (p rest) (f rest)
        where
          after : (o : Outcome Token A) → ((b : A) (rest2 : List Token) → o ≡ Got b rest2 → length rest2 ≤ length rest) → and_then o (loop_from n turn) ≡ and_then o (loop_from m turn)
          after (Got b rest2) h = let le = h b rest2 refl in ih b rest2 (omega arith) (omega arith)
          after (Failed e rest2) h = refl

  -- a loop is a turn and the loop again, or ends
  pub loop_is : (a : A) (u : Token) (rest : List Token) → loop turn a (u ∷ rest) ≡ moved (and_go (turn a u) (loop turn)) (pure a) u rest
  unfolding loop loop_from
  loop_is a u rest = move (turn a u) (shrinks a u)
    where
      move : (v : Move Token A) → Shrinks v → moved (and_go v (loop_from (length rest) turn)) (pure a) u rest ≡ moved (and_go v (λ b ts. loop_from (length ts) turn b ts)) (pure a) u rest
      move Stop f = refl
      move Deep f = refl
      move (Go p) f = after (p rest) (f rest)
        where
          after : (o : Outcome Token A) → ((b : A) (rest2 : List Token) → o ≡ Got b rest2 → length rest2 ≤ length rest) → and_then o (loop_from (length rest) turn) ≡ and_then o (λ b ts. loop_from (length ts) turn b ts)
          after (Got b rest2) h = agree (length rest) (length rest2) b rest2 (h b rest2 refl) (omega arith)
          after (Failed e rest2) h = refl

  -- a turn that reads b goes on from b
  pub loop_turns : (a b : A) (u : Token) (rest rest2 : List Token) (p : Parser Token A) → turn a u ≡ Go p → p rest ≡ Got b rest2 → loop turn a (u ∷ rest) ≡ loop turn b rest2
  loop_turns a b u rest rest2 p e h = rw (loop_is a u rest, e, h) refl

-- where a token does something, a loop is a turn that must come, and the loop again
pub loop_next : {Token A : Type 0} (turn : A → Token → Move Token A) → ((a : A) (u : Token) → Shrinks (turn a u)) → (a : A) (u : Token) (rest : List Token) → (turn a u ≡ Stop → ⊥)
    → loop turn a (u ∷ rest) ≡ and_then (commit (turn a) refuse (u ∷ rest)) (loop turn)
loop_next {Token} {A} turn shrinks a u rest h = loop_is turn shrinks a u rest ∙ go (turn a u) h
  where
    go : (m : Move Token A) → (m ≡ Stop → ⊥) → moved (and_go m (loop turn)) (pure a) u rest ≡ and_then (moved m refuse u rest) (loop turn)
    go Stop h = absurd (h refl)
    go Deep h = refl
    go (Go p) h = refl

-- a parser reads no token back
pub local_shrinks : {Token A : Type 0} {ends : Token → Bool} {r : ℕ} {p : ℕ → Parser Token A} → Local ends r p → Shrinks (Go (p r))
local_shrinks v = λ ts a rest e. let x = reads_of v ts a rest e in omega (arith, ap length x.parts, length-append x.front rest)

-- moves made of such parsers
pub when_shrinks : {Token A : Type 0} (b : Bool) (p : Parser Token A) → Shrinks (Go p) → Shrinks (when b p)
when_shrinks true p h = h
when_shrinks false p h = tt

pub map_shrinks : {Token A B : Type 0} (m : Move Token A) (f : A → B) → Shrinks m → Shrinks (and_go m (λ x. pure (f x)))
map_shrinks Stop f h = tt
map_shrinks Deep f h = tt
map_shrinks {Token} {A} {B} (Go p) f h = λ ts b rest e. go ts b rest (p ts) refl e
  where
    go : (ts : List Token) (b : B) (rest : List Token) (o : Outcome Token A) → p ts ≡ o → and_then o (λ x. pure (f x)) ≡ Got b rest → length rest ≤ length ts
    go ts b rest (Got a mid) d e = let same : mid ≡ rest = cc in subst (λ (w : List Token). length w ≤ length ts) same (h ts a mid d)
    go ts b rest (Failed g mid) d e = absurd cc

-- where the text ends, or no token goes on, the loop does
pub loop_ends : {Token A : Type 0} (turn : A → Token → Move Token A) (a : A) → loop turn a [] ≡ Got a []
unfolding loop loop_from
loop_ends turn a = refl

pub loop_stops : {Token A : Type 0} (turn : A → Token → Move Token A) (a : A) (u : Token) (rest : List Token) → turn a u ≡ Stop → loop turn a (u ∷ rest) ≡ Got a (u ∷ rest)
unfolding loop loop_from
loop_stops turn a u rest e = rw e refl

-- where a token does something, a list is an item that must come, and the list again
pub many_next : {Token A B : Type 0} (item : Token → Move Token A) (add : B → A → B) → ((u : Token) → Shrinks (item u)) → (all : B) (u : Token) (rest : List Token) → (item u ≡ Stop → ⊥)
    → many item add all (u ∷ rest) ≡ and_then (commit item refuse (u ∷ rest)) (λ x. many item add (add all x))
many_next {Token} {A} {B} item add shrinks all u rest h =
    loop_is (one_more item add) (λ b v. map_shrinks (item v) (λ x. add b x) (shrinks v)) all u rest ∙ go (item u) h
  where
    again : (o : Outcome Token A) → and_then (and_then o (λ x. pure (add all x))) (many item add) ≡ and_then o (λ x. many item add (add all x))
    again (Got x after) = refl
    again (Failed f after) = refl

    go : (m : Move Token A) → (m ≡ Stop → ⊥) → moved (and_go (and_go m (λ x. pure (add all x))) (many item add)) (pure all) u rest ≡ and_then (moved m refuse u rest) (λ x. many item add (add all x))
    go Stop h = absurd (h refl)
    go Deep h = refl
    go (Go p) h = again (p rest)

-- an item that is read is added, and its list goes on
pub many_reads : {Token A B : Type 0} (item : Token → Move Token A) (add : B → A → B) → ((u : Token) → Shrinks (item u)) → (all : B) (x : A) (ts rest : List Token) → commit item refuse ts ≡ Got x rest
    → many item add all ts ≡ many item add (add all x) rest
many_reads item add shrinks all x [] rest h = absurd cc
many_reads {Token} {A} item add shrinks all x (u ∷ ts) rest h = many_next item add shrinks all u ts (λ e. stopped (subst (λ (m : Move Token A). moved m refuse u ts ≡ Got x rest) e h)) ∙ rw h refl
  where
    stopped : Failed Syntax (u ∷ ts) ≡ Got x rest → ⊥
    stopped e = cc

pub many_stops : {Token A B : Type 0} (item : Token → Move Token A) (add : B → A → B) (all : B) (u : Token) (rest : List Token) → item u ≡ Stop → many item add all (u ∷ rest) ≡ Got all (u ∷ rest)
many_stops item add all u rest e = loop_stops (one_more item add) all u rest (rw e refl)

-- a part that must come takes a token
pub choice_shorter : {Token A : Type 0} (k : Token → Move Token A) → ((u : Token) → Shrinks (k u)) → (ts : List Token) (a : A) (rest : List Token) → commit k refuse ts ≡ Got a rest → length rest < length ts
choice_shorter k shrinks [] a rest e = absurd cc
choice_shorter {Token} {A} k shrinks (u ∷ ts) a rest e = go (k u) (shrinks u) e
  where
    go : (m : Move Token A) → Shrinks m → moved m refuse u ts ≡ Got a rest → length rest < length (u ∷ ts)
    go Stop h e = absurd cc
    go Deep h e = absurd cc
    go (Go p) h e = let le = h ts a rest e in omega arith

-- ---- loops keep what parsers keep

module _ {Token A : Type 0} (inner ends : Token → Bool) (r : ℕ) (k : ℕ → A → Token → Move Token A) (within : Within inner ends)
    (stop : (s : ℕ) (a : A) (u : Token) → ends u ≡ true → k s a u ≡ Stop) (moves : (a : A) (u : Token) → ViableMove inner r (λ s. k s a u)) where
  -- the loop leads there, whatever the bound on its turns, if it is no less than the number of tokens
  abbrev Settled : A → ℕ → List Token → Outcome Token A → Type 0
  Settled a s z o = (m : ℕ) → length z ≤ m → loop_from m (k s) a z ≡ o

  stays : (a : A) (s : ℕ) (z : List Token) → Quiet ends z → Settled a s z (Got a z)
  unfolding loop_from
  stays a s [] q zero le = refl
  stays a s [] q (suc m) le = refl
  stays a s (u ∷ z) q zero le = absurd (omega arith)
  stays a s (u ∷ z) q (suc m) le = rw (stop s a u q) refl

  starts : (a : A) (s : ℕ) → Starts inner ends (Settled a s)
  starts a s = record { live = record { word = []; value = a; reads = stays a s }; closes = λ z q. quiet_less inner ends z within q }

  ended : (a : A) → Says ends r (Settled a) [] (Got a [])
  ended a = record { front = []; parts = refl; again = λ s le z h. go s z h }
    where
      go : (s : ℕ) (z : List Token) → Stopped ends [] z → Settled a s z (Got a z)
      go s z (inr q) = stays a s z q
      go s [] (inl e) = stays a s [] tt
      go s (u ∷ z) (inl e) = absurd cc

  step : (n m : ℕ) (a : A) (t : Token) (rest : List Token) → length rest ≤ n → length rest ≤ m
      → ((b : A) (ts : List Token) → length ts ≤ n → length ts ≤ m → Says ends r (Settled b) ts (loop_from m (k r) b ts))
      → ViableMove inner r (λ s. k s a t) → Says ends r (Settled a) (t ∷ rest) (moved (and_go (k r a t) (loop_from m (k r))) (pure a) t rest)
  unfolding loop_from
  step n m a t rest ln lm ih (stops f) = rw (f r (omega arith)) (record { front = []; parts = refl; again = λ s le z h. go s le z h })
    where
      go : (s : ℕ) → r ≤ s → (z : List Token) → Stopped ends (t ∷ rest) z → Settled a s z (Got a z)
      go s le z (inr q) m lm = stays a s z q m lm
      go s le [] (inl e) m lm = absurd cc
      go s le (u ∷ z) (inl e) zero lm = absurd (omega arith)
      go s le (u ∷ z) (inl e) (suc m) lm = let ut : u ≡ t = cc in rw (ut, f s le) refl
  step n m a t rest ln lm ih (sinks e s le p f live) = rw e (record {
    front = [];
    parts = refl;
    again = sunk;
    begun = inl refl;
    room = s;
    wider = le;
    deeper = record { word = live.word; value = live.value; reads = reads };
  })
    where
      sunk : (z : List Token) → first z ≡ Some t → Settled a r z (Failed TooDeep z)
      sunk [] h m lm = absurd cc
      sunk (u ∷ z) h zero lm = absurd (omega arith)
      sunk (u ∷ z) h (suc m) lm = let ut : u ≡ t = cc in rw (ut, e) refl

      reads : (z : List Token) → Quiet ends z → Settled a s (t ∷ (live.word ++ z)) (Got live.value z)
      reads z q zero lm = absurd (omega arith)
      reads z q (suc m) lm = rw (f, live.reads z (quiet_less inner ends z within q)) (stays live.value s z q m (omega (arith, length-append live.word z)))
  step n m a t rest ln lm ih (goes p f v) = rw (f r (omega arith)) (says_behind (Settled a) t take alive rest (and_then (p r rest) (loop_from m (k r)))
      (says_then {next = λ s b z o. Settled b s z o} (λ s le z z2 b o e lt h m2 l2. rw e (h m2 (omega arith))) (λ s le z z2 e h m2 l2. rw h refl) (λ s le b. starts b s) (λ b ts c h. within)
      rest (p r rest) (loop_from m (k r)) (v.local.says rest) later))
    where
      -- the turn, and the loop behind it
      Turned : ℕ → List Token → Outcome Token A → Type 0
      Turned s z o = (m : ℕ) → length z ≤ m → and_then (p s z) (loop_from m (k s)) ≡ o

      take : (s : ℕ) → r ≤ s → (z : List Token) (o : Outcome Token A) → Turned s z o → Settled a s (t ∷ z) o
      take s le z o h zero lm = absurd (omega arith)
      take s le z o h (suc m) lm = rw (f s le) (h m (omega arith))

      alive : Live ends (Turned r)
      alive =
          let x = v.live r (omega arith) in
          record { word = x.word; value = x.value; reads = λ z q m lm. rw (x.reads z (quiet_less inner ends z within q)) (stays x.value r z q m (omega (arith, length-append x.word z))) }

      later : (b : A) (rest2 : List Token) → p r rest ≡ Got b rest2 → Says ends r (λ s z o. Settled b s z o) rest2 (loop_from m (k r) b rest2)
      later b rest2 e =
          let x = reads_of v.local rest b rest2 e in
          let le : length rest2 ≤ length rest = omega (arith, ap length x.parts, length-append x.front rest2) in
          ih b rest2 (omega arith) (omega arith)

  says : (n : ℕ) (a : A) (ts : List Token) → length ts ≤ n → (m : ℕ) → length ts ≤ m → Says ends r (Settled a) ts (loop_from m (k r) a ts)
  unfolding loop_from
  says n a [] ln zero lm = ended a
  says n a [] ln (suc m) lm = ended a
  says zero a (t ∷ rest) ln m lm = absurd (omega arith)
  says (suc n) a (t ∷ rest) ln zero lm = absurd (omega arith)
  says (suc n) a (t ∷ rest) ln (suc m) lm = step n m a t rest (omega arith) (omega arith) (λ b ts x y. says n b ts x m y) (moves a t)

  local : (a : A) → Local ends r (λ s. loop (k s) a)
  unfolding loop
  local a = record { says = λ ts. says_along ts (λ s le z o h e. e (length z) (omega arith)) (λ b h s le z q e. e (length z) (omega arith)) (loop (k r) a ts) (says (length ts) a ts (omega arith) (length ts) (omega arith)) }

module _ {Token A : Type 0} {inner ends : Token → Bool} {r : ℕ} {k : ℕ → A → Token → Move Token A} where
  -- `inner` closes what a turn reads, `ends` the loop
  -- behind a part that `before` closes
  pub loop_follows : {before : Token → Bool} (a : A) → Within before ends → Within inner ends → ((s : ℕ) (a : A) (u : Token) → ends u ≡ true → k s a u ≡ Stop)
      → ((a : A) (u : Token) → ViableMove inner r (λ s. k s a u)) → Follows before ends r (λ s. loop (k s) a)
  unfolding loop
  loop_follows {before = before} a outside within stop moves = record {
    local = local inner ends r k within stop moves a;
    starts = λ s le. record { live = record { word = []; value = a; reads = λ z q. stays inner ends r k within stop moves a s z q (length z) (omega arith) }; closes = λ z q. quiet_less before ends z outside q };
    empty = λ ts b e. outside;
  }

-- items one after the other
module _ {Token A B : Type 0} {inner ends : Token → Bool} {r : ℕ} {item : ℕ → Token → Move Token A} (add : B → A → B) where
  pub many_follows : {before : Token → Bool} (all : B) → Within before ends → Within inner ends → Stops ends item → ((u : Token) → ViableMove inner r (λ s. item s u)) → Follows before ends r (λ s. many (item s) add all)
  many_follows all outside within stop moves =
      loop_follows all outside within (λ s a u e. rw (stop s u e) refl) (λ a u. move_then (moves u) (λ x. pure_follows (λ v e. e)))

-- one item, and more of them behind a separator, which closes an item and not the list
pub separated_viable : {Token A B : Type 0} {inner ends : Token → Bool} {r : ℕ} {item : ℕ → Parser Token A} (is : Token → Bool) (add : B → A → B) (start : A → B)
    → Within inner ends → ((u : Token) → ends u ≡ true → is u ≡ false) → Viable inner r item → Viable ends r (λ s. separated is (item s) add start)
separated_viable is add start within other v =
    bind_viable v (λ x. many_follows add (start x) within within (λ s u e. rw (other u e) refl) (λ u. when_move (is u) (λ e. v)))
