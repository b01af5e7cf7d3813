-- What an exact parser of whole texts promises, for any relation of lists of tokens to the values that they spell, where
-- a value has a height: how many levels stand below its own.
use Rattle.std.specs.Prelude.{◌≡◌, ◌≤◌, ℕ, List, [], ◌∷◌, ◌++◌}
use Rattle.parse_laws.specs.declared.fault.Fault.{Fault}
use Rattle.parse_laws.specs.declared.fault.Fault.TheVariants.{Syntax, TooDeep}
use Rattle.parse_laws.specs.Parser.{Outcome, Got, Failed, Parser}

-- the tokens begin a text with at most r levels
abbrev pub Begins : {Token A : Type 0} → (List Token → A → Type 0) → (A → ℕ) → ℕ → List Token → Type 0
Begins {Token} {A} Spells height r ts = (more : List Token) × (a : A) × Spells (ts ++ more) a × (height a ≤ r)

-- they begin a text of any depth
abbrev pub BeginsSome : {Token A : Type 0} → (List Token → A → Type 0) → List Token → Type 0
BeginsSome {Token} {A} Spells ts = (more : List Token) × (a : A) × Spells (ts ++ more) a

-- Why the tokens of `front` begin no text with the next one of `rest`; where none comes, why they are no text.
abbrev pub Shut : {Token A : Type 0} → (List Token → A → Type 0) → (A → ℕ) → ℕ → List Token → Fault → List Token → Type 0
Shut {Token} {A} Spells height r front Syntax [] = (a : A) → Spells front a → ⊥
Shut Spells height r front Syntax (t ∷ after) = BeginsSome Spells (front ++ t ∷ []) → ⊥
Shut Spells height r front TooDeep [] = ⊥
Shut Spells height r front TooDeep (t ∷ after) = BeginsSome Spells (front ++ t ∷ []) × (Begins Spells height r (front ++ t ∷ []) → ⊥)

-- The first token of `rest` is the failing one, or the end of the text is: those before it begin a text with at most r levels.
pub record FailsAt {Token A : Type 0} (Spells : List Token → A → Type 0) (height : A → ℕ) (r : ℕ) (ts : List Token) (f : Fault) (rest : List Token) : Type 0 where
  pub front : List Token
  pub parts : ts ≡ front ++ rest
  pub before : Begins Spells height r front
  pub shut : Shut Spells height r front f rest

-- an outcome at a whole text is right
abbrev pub IsExact : {Token A : Type 0} → (List Token → A → Type 0) → (A → ℕ) → ℕ → List Token → Outcome Token A → Type 0
IsExact Spells height r ts (Got a rest) = (rest ≡ []) × Spells ts a × (height a ≤ r)
IsExact Spells height r ts (Failed f rest) = FailsAt Spells height r ts f rest

-- what a parser reads must be the whole text
abbrev pub at_end : {Token A : Type 0} → Outcome Token A → Outcome Token A
at_end (Got a []) = Got a []
at_end (Got a (t ∷ rest)) = Failed Syntax (t ∷ rest)
at_end (Failed f rest) = Failed f rest

abbrev pub whole : {Token A : Type 0} → Parser Token A → Parser Token A
whole p = λ ts. at_end (p ts)
