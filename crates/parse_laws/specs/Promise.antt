-- What the parser of lists of sums promises.
use Rattle.std.specs.Prelude.{◌≡◌, ℕ, ◌≤◌, List, Result, Ok, Err}
use Rattle.parse_laws.specs.declared.fault.Fault.{Fault}
use Rattle.parse_laws.specs.declared.fault.Refusal.{Refusal}
use Rattle.parse_laws.specs.declared.fault.Refusal.TheVariants.{Memory, At}
use Rattle.parse_laws.specs.declared.token.Token.{Token}
use Rattle.parse_laws.specs.declared.tree.Sum.{Sum}
use Rattle.parse_laws.specs.declared.tree.Tall.{Tall}
use Rattle.parse_laws.specs.Parser.{Outcome, Got, Failed}
use Rattle.parse_laws.specs.Exact.{FailsAt}
use Rattle.parse_laws.specs.Sums.{Spells, height}

-- how many levels may stand below a list's own
abbrev pub max_levels : ℕ
max_levels = 64

-- the list is spelled, or the first failing token is named, or memory ran out
abbrev pub Right : Result (Tall (List Sum)) (Refusal Token) → List Token → Type 0
Right (Ok x) ts = Spells ts x × (x.height ≤ max_levels)
Right (Err Memory) ts = Unit {0}
Right (Err (At f rest)) ts = FailsAt Spells height max_levels ts f rest.now

-- this list and no other, unless memory ran out
abbrev pub Is : Result (Tall (List Sum)) (Refusal Token) → Tall (List Sum) → Type 0
Is (Ok x) all = x ≡ all
Is (Err Memory) all = Unit {0}
Is (Err (At f rest)) all = ⊥

-- this fault at these tokens and no other, unless memory ran out
abbrev pub Fails : Result (Tall (List Sum)) (Refusal Token) → Fault → List Token → Type 0
Fails (Ok x) f rest = ⊥
Fails (Err Memory) f rest = Unit {0}
Fails (Err (At g after)) f rest = (g ≡ f) × (after.now ≡ rest)

-- the answer is the outcome at a whole text
abbrev pub Ends : Result (Tall (List Sum)) (Refusal Token) → Outcome Token (Tall (List Sum)) → Type 0
Ends (Ok x) (Got all rest) = x ≡ all
Ends (Ok x) (Failed f rest) = ⊥
Ends (Err Memory) o = Unit {0}
Ends (Err (At g after)) (Got all rest) = ⊥
Ends (Err (At g after)) (Failed f rest) = (g ≡ f) × (after.now ≡ rest)
