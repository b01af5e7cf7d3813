-- Parsers over lists of tokens of any type, which look one token ahead.
use Rattle.std.specs.Prelude.{ℕ, zero, suc, Bool, if◌then◌else◌, List, [], ◌∷◌, length}
use Rattle.parse_laws.specs.declared.fault.Fault.{Fault}
use Rattle.parse_laws.specs.declared.fault.Fault.TheVariants.{Syntax, TooDeep}

-- a value and the tokens after it, or a fault and the tokens from the failing one on ([] is the end of the text)
pub data Outcome (Token A : Type 0) : Type 0 where
  Got : A → List Token → Outcome Token A
  Failed : Fault → List Token → Outcome Token A

abbrev pub Parser : Type 0 → Type 0 → Type 0
Parser Token A = List Token → Outcome Token A

-- one parser after another

abbrev pub and_then : {Token A B : Type 0} → Outcome Token A → (A → Parser Token B) → Outcome Token B
and_then (Got a rest) f = f a rest
and_then (Failed e rest) f = Failed e rest

infixl 10 ◌>>=◌
abbrev pub ◌>>=◌ : {Token A B : Type 0} → Parser Token A → (A → Parser Token B) → Parser Token B
p >>= f = λ ts. and_then (p ts) f

abbrev pub pure : {Token A : Type 0} → A → Parser Token A
pure a = λ ts. Got a ts

abbrev pub refuse : {Token A : Type 0} → Parser Token A
refuse = λ ts. Failed Syntax ts

-- What the next token does: nothing here, it is too deep here, or it is taken and a parser goes on behind it.
pub data Move (Token A : Type 0) : Type 0 where
  Stop : Move Token A
  Deep : Move Token A
  Go : (List Token → Outcome Token A) → Move Token A

abbrev pub moved : {Token A : Type 0} → Move Token A → Parser Token A → Token → Parser Token A
moved Stop other t rest = other (t ∷ rest)
moved Deep other t rest = Failed TooDeep (t ∷ rest)
moved (Go p) other t rest = p rest

-- goes by the next token, and by the other parser where that does nothing
abbrev pub commit : {Token A : Type 0} → (Token → Move Token A) → Parser Token A → Parser Token A
commit k other [] = other []
commit k other (t ∷ rest) = moved (k t) other t rest

-- goes on behind what a move reads
abbrev pub and_go : {Token A B : Type 0} → Move Token A → (A → Parser Token B) → Move Token B
and_go Stop f = Stop
and_go Deep f = Deep
and_go (Go p) f = Go (p >>= f)

abbrev pub when : {Token A : Type 0} → Bool → Parser Token A → Move Token A
when b p = if b then Go p else Stop

-- a token that must come, and a parser behind it
abbrev pub expect : {Token : Type 0} → (Token → Bool) → Parser Token Token
expect is = commit (λ u. when (is u) (pure u)) refuse

abbrev pub must : {Token A : Type 0} → (Token → Bool) → Parser Token A → Parser Token A
must is p = expect is >>= λ _. p

-- Levels. A parser has a room: how many levels may stand below its own.

-- a token that opens a level
abbrev pub deeper : {Token A : Type 0} → (ℕ → Parser Token A) → ℕ → Move Token A
deeper p zero = Deep
deeper p (suc r) = Go (p r)

abbrev pub fault_at : {Token : Type 0} → (Token → Bool) → List Token → Fault
fault_at begins [] = Syntax
fault_at begins (u ∷ rest) = if begins u then TooDeep else Syntax

-- a part a level down, which begins with such tokens; where there is no room, they are too deep
abbrev pub a_level_down : {Token A : Type 0} → (Token → Bool) → (ℕ → Parser Token A) → ℕ → Parser Token A
a_level_down begins p zero = λ ts. Failed (fault_at begins ts) ts
a_level_down begins p (suc r) = p r

-- Loops.

-- Turns on what was read so far, as long as a token begins one. The number bounds the turns, each of which takes a token.
unfoldable pub loop_from : {Token A : Type 0} → ℕ → (A → Token → Move Token A) → A → Parser Token A
loop_from zero turn a = pure a
loop_from (suc n) turn a = commit (λ u. and_go (turn a u) (loop_from n turn)) (pure a)

unfoldable pub loop : {Token A : Type 0} → (A → Token → Move Token A) → A → Parser Token A
loop turn a = λ ts. loop_from (length ts) turn a ts

-- items one after the other, each added to those before it
abbrev pub one_more : {Token A B : Type 0} → (Token → Move Token A) → (B → A → B) → B → Token → Move Token B
one_more item add all u = and_go (item u) (λ x. pure (add all x))

abbrev pub many : {Token A B : Type 0} → (Token → Move Token A) → (B → A → B) → B → Parser Token B
many item add = loop (one_more item add)

-- one item, and more of them, each behind a separator
abbrev pub separated : {Token A B : Type 0} → (Token → Bool) → Parser Token A → (B → A → B) → (A → B) → Parser Token B
separated is item add one = item >>= λ x. many (λ u. when (is u) item) add (one x)
