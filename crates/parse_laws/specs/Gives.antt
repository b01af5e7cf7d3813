-- What a function that parses ensures: its answer is the outcome of a parser.
use Rattle.std.specs.Prelude.{◌≡◌, List, [], ◌∷◌, Option, Some, None, Result, Ok, Err}
use denote.Ref.{Bor}
use Rattle.parse_laws.specs.declared.fault.Refusal.{Refusal}
use Rattle.parse_laws.specs.declared.fault.Refusal.TheVariants.{Memory, At}
use Rattle.parse_laws.specs.Parser.{Outcome, Got, Failed}

-- what was refused is what the outcome refuses, unless memory ran out
abbrev pub Refuses : {Token A : Type 0} → Refusal Token → Outcome Token A → Type 0
Refuses Memory o = Unit {0}
Refuses (At f rest) o = o ≡ Failed f rest.now

-- a value and the tokens after it
abbrev pub Gives : {Token A : Type 0} → Result (A × Bor (List Token)) (Refusal Token) → Outcome Token A → Type 0
Gives (Ok x) o = o ≡ Got x.0 x.1.now
Gives (Err e) o = Refuses e o

-- the tokens that begin so
abbrev pub listed : {Token : Type 0} → Option (Token × Bor (List Token)) → List Token
listed None = []
listed (Some x) = x.0 ∷ x.1.now
