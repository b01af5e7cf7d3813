-- Parsers whose answer depends on what they read and one token more, whose faults say that no text goes on so, and whose
-- every prefix can be completed. The combinators keep this; so a production's proof is one term that follows its definition.
use Rattle.std.proofs.Common.{◌≡◌, ℕ, zero, suc, ◌≤◌, Bool, true, false, cond, List, [], ◌∷◌, ◌++◌, length, Some, None, refl, sym, ap, subst, ◌∙◌, append_assoc, length-append, inl, arith}
use Rattle.parse_laws.specs.declared.fault.Fault.TheVariants.{Syntax, TooDeep}
use Rattle.parse_laws.specs.Parser.{Outcome, Got, Failed, Parser, and_then, ◌>>=◌, pure, refuse, Move, Stop, Deep, Go, moved, commit, and_go, when, expect, must, fault_at, a_level_down}
use Rattle.parse_laws.proofs.Says.{first, Quiet, Live, Starts, Reads, Says, quiet_less, says_along, says_behind, says_then, says_shifted}

-- The answer of a parser in the room r, at every list of tokens.
pub record Local {Token A : Type 0} (ends : Token → Bool) (r : ℕ) (p : ℕ → Parser Token A) : Type 0 where
  pub says : (ts : List Token) → Says ends r (λ s z o. p s z ≡ o) ts (p r ts)

-- And something is read at all.
pub record Viable {Token A : Type 0} (ends : Token → Bool) (r : ℕ) (p : ℕ → Parser Token A) : Type 0 where
  pub local : Local ends r p
  pub live : (s : ℕ) → r ≤ s → Live ends (λ z o. p s z ≡ o)

-- A parser that may stand behind a part that `before` closes.
pub record Follows {Token A : Type 0} (before ends : Token → Bool) (r : ℕ) (q : ℕ → Parser Token A) : Type 0 where
  pub local : Local ends r q
  pub starts : (s : ℕ) → r ≤ s → Starts before ends (λ z o. q s z ≡ o)
  -- where it reads nothing, its closers close the part before it
  pub empty : (ts : List Token) (a : A) → q r ts ≡ Got a ts → (u : Token) → ends u ≡ true → before u ≡ true

-- What a token does, in the room r and wider ones.
pub data ViableMove {Token A : Type 0} (ends : Token → Bool) (r : ℕ) (k : ℕ → Move Token A) : Type 0 where
  stops : ((s : ℕ) → r ≤ s → k s ≡ Stop) → ViableMove ends r k
  sinks : k r ≡ Deep → (s : ℕ) → r ≤ s → (p : List Token → Outcome Token A) → k s ≡ Go p → Live ends (λ z o. p z ≡ o) → ViableMove ends r k
  goes : (p : ℕ → List Token → Outcome Token A) → ((s : ℕ) → r ≤ s → k s ≡ Go (p s)) → Viable ends r p → ViableMove ends r k

-- each token that closes a part by `ends` does so by `before`
abbrev pub Within : {Token : Type 0} → (Token → Bool) → (Token → Bool) → Type 0
Within {Token} before ends = (u : Token) → ends u ≡ true → before u ≡ true

-- a closer is no token to go on with
abbrev pub Stops : {Token A : Type 0} → (Token → Bool) → (ℕ → Token → Move Token A) → Type 0
Stops {Token} ends k = (s : ℕ) (u : Token) → ends u ≡ true → k s u ≡ Stop

-- what may stand behind a part may stand alone
pub follows_viable : {Token A : Type 0} {before ends : Token → Bool} {r : ℕ} {q : ℕ → Parser Token A} → Follows before ends r q → Viable ends r q
follows_viable x = record { local = x.local; live = λ s le. (x.starts s le).live }

-- whatever is read, a token is taken
abbrev pub Takes : {Token A : Type 0} → Parser Token A → Type 0
Takes {Token} {A} p = (ts : List Token) (a : A) → p ts ≡ Got a ts → ⊥

-- parsers that answer alike
pub same_local : {Token A : Type 0} {ends : Token → Bool} {r : ℕ} {p q : ℕ → Parser Token A} → ((s : ℕ) (z : List Token) → p s z ≡ q s z) → Local ends r p → Local ends r q
same_local {Token} {A} {ends} {r} {p} {q} same x = record {
  says = λ ts. subst (λ (o : Outcome Token A). Says ends r (λ s z o. q s z ≡ o) ts o) (same r ts)
      (says_along ts (λ s le z o h e. sym (same s z) ∙ e) (λ a h s le z q e. sym (same s z) ∙ e) (p r ts) (x.says ts));
}

pub same_viable : {Token A : Type 0} {ends : Token → Bool} {r : ℕ} {p q : ℕ → Parser Token A} → ((s : ℕ) (z : List Token) → p s z ≡ q s z) → Viable ends r p → Viable ends r q
same_viable same x = record {
  local = same_local same x.local;
  live = λ s le. let y = x.live s le in record { word = y.word; value = y.value; reads = λ z q. sym (same s (y.word ++ z)) ∙ y.reads z q };
}

-- what is read stands at the front
pub reads_of : {Token A : Type 0} {ends : Token → Bool} {r : ℕ} {p : ℕ → Parser Token A} → Local ends r p → (ts : List Token) (a : A) (rest : List Token) → p r ts ≡ Got a rest → Reads ends r (λ s z o. p s z ≡ o) ts a rest
reads_of {Token} {A} {ends} {r} {p} x ts a rest e = subst (λ (o : Outcome Token A). Says ends r (λ s z o. p s z ≡ o) ts o) e (x.says ts)

-- ---- nothing is read

pub pure_local : {Token A : Type 0} {ends : Token → Bool} {r : ℕ} {a : A} → Local {Token = Token} ends r (λ s. pure a)
pure_local = record { says = λ ts. record { front = []; parts = refl; again = λ s le z h. refl } }

pub pure_viable : {Token A : Type 0} {ends : Token → Bool} {r : ℕ} {a : A} → Viable {Token = Token} ends r (λ s. pure a)
pure_viable {a = a} = record { local = pure_local; live = λ s le. record { word = []; value = a; reads = λ z q. refl } }

pub pure_follows : {Token A : Type 0} {before ends : Token → Bool} {r : ℕ} {a : A} → Within before ends → Follows {Token = Token} before ends r (λ s. pure a)
pure_follows {before = before} {ends = ends} {a = a} within = record {
  local = pure_local;
  starts = λ s le. record { live = record { word = []; value = a; reads = λ z q. refl }; closes = λ z q. quiet_less before ends z within q };
  empty = λ ts b e. within;
}

pub refuse_local : {Token A : Type 0} {ends : Token → Bool} {r : ℕ} → Local {Token = Token} {A = A} ends r (λ s. refuse)
refuse_local = record { says = λ ts. record { front = []; parts = refl; again = λ s le z h. refl; begun = inl refl } }

-- ---- one after the other

module _ {Token A B : Type 0} {before ends : Token → Bool} {r : ℕ} where
  -- a word of the first part and one that the second begins with
  pub bind_live : (p : Parser Token A) {f : ℕ → A → Parser Token B} (s : ℕ) → r ≤ s → Live before (λ z o. p z ≡ o) → ((a : A) → Follows before ends r (λ s. f s a)) → Live ends (λ z o. and_then (p z) (f s) ≡ o)
  bind_live p {f = f} s le x y =
      let c = (y x.value).starts s le in
      record {
        word = x.word ++ c.live.word;
        value = c.live.value;
        reads = λ z q. rw (append_assoc x.word c.live.word z, x.reads (c.live.word ++ z) (c.closes z q)) (c.live.reads z q);
      }

module _ {Token A B : Type 0} {before ends : Token → Bool} {r : ℕ} {p : ℕ → Parser Token A} {f : ℕ → A → Parser Token B} where
  -- a part, and for each value of it a part that may stand behind it
  pub bind_local : Local before r p → ((a : A) → Follows before ends r (λ s. f s a)) → Local ends r (λ s. p s >>= f s)
  bind_local x y = record {
    says = λ ts. says_then {next = λ s a z o. f s a z ≡ o} (λ s le z z2 a o e lt h. rw e h) (λ s le z z2 e h. rw h refl) (λ s le a. (y a).starts s le) (λ a. (y a).empty)
        ts (p r ts) (f r) (x.says ts) (λ a rest e. (y a).local.says rest);
  }

  pub bind_viable : Viable before r p → ((a : A) → Follows before ends r (λ s. f s a)) → Viable ends r (λ s. p s >>= f s)
  bind_viable x y = record { local = bind_local x.local y; live = λ s le. bind_live (p s) s le (x.live s le) y }

-- ---- by the next token

module _ {Token A : Type 0} (ends : Token → Bool) (r : ℕ) (k : ℕ → Token → Move Token A) (other : ℕ → Parser Token A) where
  alike : (t : Token) → ((s : ℕ) → r ≤ s → k s t ≡ Stop) → (s : ℕ) → r ≤ s → (z : List Token) (o : Outcome Token A) → first z ≡ Some t → other s z ≡ o → commit (k s) (other s) z ≡ o
  alike t f s le [] o h e = absurd cc
  alike t f s le (u ∷ z) o h e = let ut : u ≡ t = cc in rw (ut, f s le) (subst (λ (w : Token). other s (w ∷ z) ≡ o) ut e)

  empty : (s : ℕ) (z : List Token) (o : Outcome Token A) → first z ≡ None → other s z ≡ o → commit (k s) (other s) z ≡ o
  empty s [] o h e = e
  empty s (u ∷ z) o h e = absurd cc

  module _ (calm : (ts : List Token) (a : A) → other r ts ≡ Got a ts → (s : ℕ) → r ≤ s → (u : Token) → ends u ≡ true → k s u ≡ Stop) where
    quiet : (ts : List Token) (a : A) → other r ts ≡ Got a ts → (s : ℕ) → r ≤ s → (z : List Token) → Quiet ends z → other s z ≡ Got a z → commit (k s) (other s) z ≡ Got a z
    quiet ts a e s le [] q h = h
    quiet ts a e s le (u ∷ z) q h = rw (calm ts a e s le u q) h

    says : ((u : Token) → ViableMove ends r (λ s. k s u)) → Local ends r other → (ts : List Token) → Says ends r (λ s z o. commit (k s) (other s) z ≡ o) ts (commit (k r) (other r) ts)
    says moves x [] = says_along [] (λ s le z o h e. empty s z o h e) (quiet []) (other r []) (x.says [])
    says moves x (t ∷ rest) = go (moves t)
      where
        go : ViableMove ends r (λ s. k s t) → Says ends r (λ s z o. commit (k s) (other s) z ≡ o) (t ∷ rest) (moved (k r t) (other r) t rest)
        go (stops f) = rw (f r (omega arith)) (says_along (t ∷ rest) (alike t f) (quiet (t ∷ rest)) (other r (t ∷ rest)) (x.says (t ∷ rest)))
        go (sinks e s le p f live) = rw e (record {
          front = [];
          parts = refl;
          again = sunk e;
          begun = inl refl;
          room = s;
          wider = le;
          deeper = record { word = live.word; value = live.value; reads = λ z q. rw f (live.reads z q) };
        })
          where
            sunk : k r t ≡ Deep → (z : List Token) → first z ≡ Some t → commit (k r) (other r) z ≡ Failed TooDeep z
            sunk e [] h = absurd cc
            sunk e (u ∷ z) h = let ut : u ≡ t = cc in rw (ut, e) refl
        go (goes p f v) = rw (f r (omega arith)) (says_behind (λ s z o. commit (k s) (other s) z ≡ o) t (λ s le z o h. rw (f s le) h) (v.live r (omega arith)) rest (p r rest) (v.local.says rest))

  -- where one token goes, a word is read
  goes_live : (t : Token) {p : ℕ → Parser Token A} → ((s : ℕ) → r ≤ s → k s t ≡ Go (p s)) → Viable ends r p → (s : ℕ) → r ≤ s → Live ends (λ z o. commit (k s) (other s) z ≡ o)
  goes_live t f v s le = let x = v.live s le in record { word = t ∷ x.word; value = x.value; reads = λ z q. rw (f s le) (x.reads z q) }

module _ {Token A : Type 0} {ends : Token → Bool} {r : ℕ} {k : ℕ → Token → Move Token A} where
  -- by the token, else by another parser; where that reads nothing, no closer is a token to go on with
  pub commit_local : {other : ℕ → Parser Token A} → ((u : Token) → ViableMove ends r (λ s. k s u))
      → ((ts : List Token) (a : A) → other r ts ≡ Got a ts → (s : ℕ) → r ≤ s → (u : Token) → ends u ≡ true → k s u ≡ Stop) → Local ends r other → Local ends r (λ s. commit (k s) (other s))
  commit_local {other = other} moves calm x = record { says = says ends r k other calm moves x }

  -- the same, where the token t goes and so a word is read
  pub commit_viable : {other p : ℕ → Parser Token A} → ((u : Token) → ViableMove ends r (λ s. k s u))
      → ((ts : List Token) (a : A) → other r ts ≡ Got a ts → (s : ℕ) → r ≤ s → (u : Token) → ends u ≡ true → k s u ≡ Stop) → Local ends r other
      → (t : Token) → ((s : ℕ) → r ≤ s → k s t ≡ Go (p s)) → Viable ends r p → Viable ends r (λ s. commit (k s) (other s))
  commit_viable {other = other} moves calm x t f v = record { local = commit_local moves calm x; live = goes_live ends r k other t f v }

  -- by the token, else by a part that takes a token
  pub fallback_viable : {other p : ℕ → Parser Token A} → ((u : Token) → ViableMove ends r (λ s. k s u)) → Takes (other r) → Local ends r other
      → (t : Token) → ((s : ℕ) → r ≤ s → k s t ≡ Go (p s)) → Viable ends r p → Viable ends r (λ s. commit (k s) (other s))
  fallback_viable moves h x t f v = commit_viable moves (λ ts a e. absurd (h ts a e)) x t f v

  -- it takes a token, as the other part does
  pub commit_takes : (other : ℕ → Parser Token A) → ((u : Token) → ViableMove ends r (λ s. k s u)) → Takes (other r) → Takes (commit (k r) (other r))
  commit_takes other moves h [] a e = h [] a e
  commit_takes other moves h (u ∷ z) a e = go (moves u)
    where
      go : ViableMove ends r (λ s. k s u) → ⊥
      go (stops f) = h (u ∷ z) a (subst (λ (m : Move Token A). moved m (other r) u z ≡ Got a (u ∷ z)) (f r (omega arith)) e)
      go (sinks d s le p f live) = deep (subst (λ (m : Move Token A). moved m (other r) u z ≡ Got a (u ∷ z)) d e)
        where
          deep : Failed TooDeep (u ∷ z) ≡ Got a (u ∷ z) → ⊥
          deep e = cc
      go (goes p f v) =
          let x = reads_of v.local z a (u ∷ z) (subst (λ (m : Move Token A). moved m (other r) u z ≡ Got a (u ∷ z)) (f r (omega arith)) e) in
          absurd (omega (arith, ap length x.parts, length-append x.front (u ∷ z)))

  -- the same behind a part that t closes
  pub fallback_follows : {before : Token → Bool} {other p : ℕ → Parser Token A} → ((u : Token) → ViableMove ends r (λ s. k s u)) → Takes (other r) → Local ends r other
      → (t : Token) → before t ≡ true → ((s : ℕ) → r ≤ s → k s t ≡ Go (p s)) → Viable ends r p → Follows before ends r (λ s. commit (k s) (other s))
  fallback_follows {before = before} {other = other} moves h x t c f v = record {
    local = (fallback_viable moves h x t f v).local;
    starts = λ s le. let x = v.live s le in record { live = record { word = t ∷ x.word; value = x.value; reads = λ z q. rw (f s le) (x.reads z q) }; closes = λ z q. c };
    empty = λ ts a e. absurd (commit_takes other moves h ts a e);
  }

  -- a part that must come: one token of it goes, as t does
  pub choice_viable : {p : ℕ → Parser Token A} → ((u : Token) → ViableMove ends r (λ s. k s u)) → (t : Token) → ((s : ℕ) → r ≤ s → k s t ≡ Go (p s)) → Viable ends r p
      → Viable ends r (λ s. commit (k s) refuse)
  choice_viable moves t f v = commit_viable moves (λ ts a e. absurd cc) refuse_local t f v

  -- the same behind a part that t closes
  pub choice_follows : {before : Token → Bool} {p : ℕ → Parser Token A} → ((u : Token) → ViableMove ends r (λ s. k s u)) → (t : Token) → before t ≡ true → ((s : ℕ) → r ≤ s → k s t ≡ Go (p s))
      → Viable ends r p → Follows before ends r (λ s. commit (k s) refuse)
  choice_follows moves t c f v = fallback_follows moves (λ ts a e. absurd cc) refuse_local t c f v

  -- a part that may come
  pub option_follows : {before : Token → Bool} {a : A} → Within before ends → Stops ends k → ((u : Token) → ViableMove ends r (λ s. k s u)) → Follows before ends r (λ s. commit (k s) (pure a))
  option_follows {before = before} {a = a} within stop moves = record {
    local = commit_local moves (λ ts b e s le. stop s) pure_local;
    starts = λ s le. record { live = record { word = []; value = a; reads = stays s }; closes = λ z q. quiet_less before ends z within q };
    empty = λ ts b e. within;
  }
    where
      stays : (s : ℕ) (z : List Token) → Quiet ends z → commit (k s) (pure a) z ≡ Got a z
      stays s [] q = refl
      stays s (u ∷ z) q = rw (stop s u q) refl

-- ---- moves

-- what has one level less to its room
pub lower_viable : {Token A : Type 0} {ends : Token → Bool} {m : ℕ} {p q : ℕ → Parser Token A} → ((s : ℕ) (z : List Token) → p s z ≡ q (suc s) z) → Viable ends m p → Viable ends (suc m) q
lower_viable {Token} {A} {ends} {m} {p} {q} same v = record {
  local = record {
    says = λ ts. subst (λ (o : Outcome Token A). Says ends (suc m) (λ s z o. q s z ≡ o) ts o) (same m ts)
        (says_shifted ends m (λ s z o. q s z ≡ o) (λ s z o e. sym (same s z) ∙ e) ts (p m ts) (v.local.says ts));
  };
  live = live;
}
  where
    live : (s : ℕ) → suc m ≤ s → Live ends (λ z o. q s z ≡ o)
    live zero le = absurd (omega arith)
    live (suc s) le = let x = v.live s (omega arith) in record { word = x.word; value = x.value; reads = λ z q. sym (same s (x.word ++ z)) ∙ x.reads z q }

-- a level down
lowered : {Token A : Type 0} → (ℕ → Parser Token A) → ℕ → Parser Token A
lowered p zero = p zero
lowered p (suc s) = p s

module _ {Token A : Type 0} {ends : Token → Bool} {r : ℕ} where
  -- a token that does the same in each room
  pub stop_move : ViableMove {A = A} ends r (λ s. Stop)
  stop_move = stops (λ s le. refl)

  pub go_move : {p : ℕ → Parser Token A} → Viable ends r p → ViableMove ends r (λ s. Go (p s))
  go_move {p = p} v = goes p (λ s le. refl) v

  pub when_move : {p : ℕ → Parser Token A} (b : Bool) → (b ≡ true → Viable ends r p) → ViableMove ends r (λ s. when b (p s))
  when_move {p = p} true v = goes p (λ s le. refl) (v refl)
  when_move false v = stops (λ s le. refl)

  -- a token that opens a level: `live` is a word of what goes on behind it in the room 0
  pub deeper_move : {k : ℕ → Move Token A} {p : ℕ → Parser Token A} → k 0 ≡ Deep → ((s : ℕ) → k (suc s) ≡ Go (p s)) → Live ends (λ z o. p 0 z ≡ o) → ((m : ℕ) → r ≡ suc m → Viable ends m p) → ViableMove ends r k
  unfolding lowered
  deeper_move {k = k} {p = p} deep go live h = at r h
    where
      at : (n : ℕ) → ((m : ℕ) → n ≡ suc m → Viable ends m p) → ViableMove ends n k
      at zero h = sinks deep 1 (omega arith) (p 0) (go 0) live
      at (suc m) h = goes (lowered p) same (lower_viable (λ s z. refl) (h m refl))
        where
          same : (s : ℕ) → suc m ≤ s → k s ≡ Go (lowered p s)
          same zero le = absurd (omega arith)
          same (suc s) le = go s

-- a move, and a part behind what it reads
pub move_then : {Token A B : Type 0} {before ends : Token → Bool} {r : ℕ} {k : ℕ → Move Token A} {f : ℕ → A → Parser Token B} → ViableMove before r k → ((a : A) → Follows before ends r (λ s. f s a)) → ViableMove ends r (λ s. and_go (k s) (f s))
move_then (stops f) y = stops (λ s le. rw (f s le) refl)
move_then {f = f} (sinks e s le p g live) y = sinks (rw e refl) s le (λ ts. and_then (p ts) (f s)) (rw g refl) (bind_live p s le live y)
move_then {f = f} (goes p g v) y = goes (λ s. p s >>= f s) (λ s le. rw (g s le) refl) (bind_viable v y)

-- ---- a token that must come

pub in_one_step : {Token A : Type 0} (is : Token → Bool) (f : Token → Parser Token A) (z : List Token) → commit (λ u. when (is u) (f u)) refuse z ≡ and_then (expect is z) f
in_one_step is f [] = refl
in_one_step is f (u ∷ z) = go (is u)
  where
    go : (b : Bool) → moved (when b (f u)) refuse u z ≡ and_then (moved (when b (pure u)) refuse u z) f
    go true = refl
    go false = refl

module _ {Token A : Type 0} {ends : Token → Bool} {r : ℕ} {is : Token → Bool} {f : ℕ → Token → Parser Token A} where
  -- a token that must come is taken
  pub token_takes : ((u : Token) → is u ≡ true → Local ends r (λ s. f s u)) → Takes (expect is >>= f r)
  token_takes h [] a d = absurd cc
  token_takes h (u ∷ z) a d = go (is u) refl d
    where
      go : (b : Bool) → is u ≡ b → and_then (moved (when b (pure u)) refuse u z) (f r) ≡ Got a (u ∷ z) → ⊥
      go true e d = let x = reads_of (h u e) z a (u ∷ z) d in absurd (omega (arith, ap length x.parts, length-append x.front (u ∷ z)))
      go false e d = absurd cc

  -- a token that must come, as v may, and a part that depends on it
  pub token_viable : (v : Token) → is v ≡ true → ((u : Token) → is u ≡ true → Viable ends r (λ s. f s u)) → Viable ends r (λ s. expect is >>= f s)
  token_viable v e h = record {
    local = same_local (λ s z. in_one_step is (f s) z) (commit_local (λ u. when_move (is u) (h u)) (λ ts a e. absurd cc) refuse_local);
    live = live;
  }
    where
      live : (s : ℕ) → r ≤ s → Live ends (λ z o. and_then (expect is z) (f s) ≡ o)
      live s le = let x = (h v e).live s le in record { word = v ∷ x.word; value = x.value; reads = λ z q. rw e (x.reads z q) }

  -- the same behind a part that v closes
  pub token_follows : {before : Token → Bool} (v : Token) → is v ≡ true → before v ≡ true → ((u : Token) → is u ≡ true → Viable ends r (λ s. f s u)) → Follows before ends r (λ s. expect is >>= f s)
  token_follows {before = before} v e c h = record {
    local = (token_viable v e h).local;
    starts = starts;
    empty = λ ts a d. absurd (token_takes (λ u i. (h u i).local) ts a d);
  }
    where
      starts : (s : ℕ) → r ≤ s → Starts before ends (λ z o. and_then (expect is z) (f s) ≡ o)
      starts s le = let x = (h v e).live s le in record { live = record { word = v ∷ x.word; value = x.value; reads = λ z q. rw e (x.reads z q) }; closes = λ z q. c }

module _ {Token A : Type 0} {ends : Token → Bool} {r : ℕ} {p : ℕ → Parser Token A} (is : Token → Bool) where
  -- a token that must come, as v may, and a part behind it
  pub must_viable : (v : Token) → is v ≡ true → Viable ends r p → Viable ends r (λ s. must is (p s))
  must_viable v e x = token_viable v e (λ u d. x)

  pub must_takes : Viable ends r p → Takes (must is (p r))
  must_takes x = token_takes (λ u e. x.local)

  pub must_follows : {before : Token → Bool} (v : Token) → is v ≡ true → before v ≡ true → Viable ends r p → Follows before ends r (λ s. must is (p s))
  must_follows v e c x = token_follows v e c (λ u d. x)

-- ---- what takes a token

-- two parts that together read nothing both read nothing
nothing_read : {Token : Type 0} (x y ts mid : List Token) → ts ≡ x ++ mid → mid ≡ y ++ ts → ts ≡ mid
nothing_read [] y ts mid e d = e
nothing_read (u ∷ x) y ts mid e d = absurd (omega (arith, ap length e, ap length d, length-append x mid, length-append y ts))

module _ {Token A B : Type 0} {before ends : Token → Bool} {r : ℕ} {p : ℕ → Parser Token A} {f : ℕ → A → Parser Token B} where
  middle : {ts : List Token} {b : B} (o : Outcome Token A) → p r ts ≡ o → and_then o (f r) ≡ Got b ts → Local before r p → ((a : A) → Local ends r (λ s. f s a)) → (a : A) × (p r ts ≡ Got a ts) × (f r a ts ≡ Got b ts)
  middle {ts = ts} {b = b} (Got a mid) e d x y =
      let one = reads_of x ts a mid e in
      let two = reads_of (y a) mid b ts d in
      let same : mid ≡ ts = sym (nothing_read one.front two.front ts mid one.parts two.parts) in
      (a, subst (λ (w : List Token). p r ts ≡ Got a w) same e, subst (λ (w : List Token). f r a w ≡ Got b ts) same d)
  middle (Failed g rest) e d x y = absurd cc

  -- the second part takes one
  pub then_takes : Local before r p → ((a : A) → Local ends r (λ s. f s a)) → ((a : A) → Takes (f r a)) → Takes (p r >>= f r)
  then_takes x y h ts b e = let m = middle (p r ts) refl e x y in h m.0 ts b m.2

  -- the first part takes one
  pub first_takes : Local before r p → ((a : A) → Local ends r (λ s. f s a)) → Takes (p r) → Takes (p r >>= f r)
  first_takes x y h ts b e = let m = middle (p r ts) refl e x y in h ts m.0 m.1

-- ---- two parts behind a third

module _ {Token A B : Type 0} {outer before ends : Token → Bool} {r : ℕ} {p : ℕ → Parser Token A} {f : ℕ → A → Parser Token B} where
  -- two parts one after the other, behind a third
  pub bind_follows : Follows outer before r p → ((a : A) → Follows before ends r (λ s. f s a)) → Follows outer ends r (λ s. p s >>= f s)
  bind_follows x y = record {
    local = bind_local x.local y;
    starts = starts;
    empty = λ ts b e u h. let m = middle (p r ts) refl e x.local (λ a. (y a).local) in x.empty ts m.0 m.1 u ((y m.0).empty ts b m.2 u h);
  }
    where
      starts : (s : ℕ) → r ≤ s → Starts outer ends (λ z o. and_then (p s z) (f s) ≡ o)
      starts s le =
          let c = x.starts s le in
          let d = (y c.live.value).starts s le in
          record {
            live = record {
              word = c.live.word ++ d.live.word;
              value = d.live.value;
              reads = λ z q. rw (append_assoc c.live.word d.live.word z, c.live.reads (d.live.word ++ z) (d.closes z q)) (d.live.reads z q);
            };
            closes = λ z q. rw (append_assoc c.live.word d.live.word z) (c.closes (d.live.word ++ z) (d.closes z q));
          }

-- ---- a part a level down

module _ {Token A : Type 0} {ends : Token → Bool} {r : ℕ} {begins : Token → Bool} {p : ℕ → Parser Token A} where
  -- Where there is room, it is the part; else the tokens with which the part begins in some room are too deep, and no other begins it.
  pub level_local : ((m : ℕ) → r ≡ suc m → Local ends m p) → ((u : Token) → begins u ≡ true → (s : ℕ) × Live ends (λ z o. p s (u ∷ z) ≡ o))
      → ((s : ℕ) → p s [] ≡ Failed Syntax []) → ((s : ℕ) (u : Token) (rest : List Token) → begins u ≡ false → p s (u ∷ rest) ≡ Failed Syntax (u ∷ rest)) → Local ends r (a_level_down begins p)
  level_local h begun end none = at r h
    where
      empty : (s : ℕ) (z : List Token) → first z ≡ None → a_level_down begins p s z ≡ Failed Syntax z
      empty zero [] e = refl
      empty (suc s) [] e = end s
      empty s (u ∷ z) e = absurd cc

      other : (t : Token) → begins t ≡ false → (s : ℕ) (z : List Token) → first z ≡ Some t → a_level_down begins p s z ≡ Failed Syntax z
      other t b s [] e = absurd cc
      other t b zero (u ∷ z) e = let ut : u ≡ t = cc in rw (ut, b) refl
      other t b (suc s) (u ∷ z) e = let ut : u ≡ t = cc in none s u z (ap begins ut ∙ b)

      sunk : (t : Token) → begins t ≡ true → (z : List Token) → first z ≡ Some t → a_level_down begins p 0 z ≡ Failed TooDeep z
      sunk t b [] e = absurd cc
      sunk t b (u ∷ z) e = let ut : u ≡ t = cc in rw (ut, b) refl

      shut : (ts : List Token) → Says ends 0 (λ s z o. a_level_down begins p s z ≡ o) ts (Failed (fault_at begins ts) ts)
      shut [] = record { front = []; parts = refl; again = λ s le z h. empty s z h; begun = inl refl }
      shut (u ∷ rest) = go (begins u) refl
        where
          go : (b : Bool) → begins u ≡ b → Says ends 0 (λ s z o. a_level_down begins p s z ≡ o) (u ∷ rest) (Failed (cond b TooDeep Syntax) (u ∷ rest))
          go true e =
              let x = begun u e in
              record { front = []; parts = refl; again = sunk u e; begun = inl refl; room = suc x.0; wider = omega arith; deeper = record { word = x.1.word; value = x.1.value; reads = x.1.reads } }
          go false e = record { front = []; parts = refl; again = λ s le z h. other u e s z h; begun = inl refl }

      at : (n : ℕ) → ((m : ℕ) → n ≡ suc m → Local ends m p) → Local ends n (a_level_down begins p)
      at zero h = record { says = shut }
      at (suc m) h = record { says = λ ts. says_shifted ends m (λ s z o. a_level_down begins p s z ≡ o) (λ s z o e. e) ts (p m ts) ((h m refl).says ts) }
