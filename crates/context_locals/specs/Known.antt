-- What is known of the locals of a context, as it is kept.
use Rattle.std.specs.Prelude.{◌≡◌, ℕ, ℤ, Bool, true, not, ◌&&◌, List, [], ◌∷◌, length, reverse, position, bytes_eq, slice_get, slice_set, unwrap_or, Some, None, ⊤}
use Rattle.std.specs.declared.option.Option.{Option}
use Rattle.c_names.specs.Tables.{in_scope}
use Rattle.contexts.specs.Constants.{Constants, among}
use Rattle.context_locals.specs.declared.names.ConstantNames.{ConstantNames}
use Rattle.context_locals.specs.declared.known.Change.{Change}
use Rattle.context_locals.specs.declared.known.Change.TheVariants.{Opens, Sets}
use Rattle.context_locals.specs.declared.known.Known.{Known}

-- ---- names and their numbers

abbrev pub is_in : ConstantNames → List ℕ → Bool
is_in names q = in_scope names.names q

abbrev pub place_of : ConstantNames → List ℕ → Option ℕ
place_of names q = position (λ key. bytes_eq q key.now) names.names.keys

abbrev pub count_of : ConstantNames → ℕ
count_of names = length names.names.keys

-- of these locals, the names are those that nothing writes into
abbrev pub AreConstantNames : List (List ℕ) → List (List ℕ) → ConstantNames → Type 0
AreConstantNames writes locals names = (q : List ℕ) → is_in names q ≡ (among locals q && not (among writes q))

-- these names are among those
abbrev pub AreWithin : List (List ℕ) → List (List ℕ) → Type 0
AreWithin names locals = (q : List ℕ) → among names q ≡ true → among locals q ≡ true

-- ---- values

-- the value at a number
abbrev pub value_at : List (Option ℤ) → Option ℕ → Option ℤ
value_at values None = None
value_at values (Some k) = unwrap_or (slice_get values k) None

-- what is known where the locals of these names have these values
abbrev pub known_by : ConstantNames → List (Option ℤ) → Constants
known_by names values = λ name. value_at values (place_of names name)

-- what was known around each block, by the changes since, the newest first
abbrev pub outers : ConstantNames → List (Option ℤ) → List Change → List Constants
outers names values [] = []
outers names values (Opens ∷ changes) = known_by names values ∷ outers names values changes
outers names values (Sets k z ∷ changes) = outers names (slice_set values k z) changes

-- changes are kept from the first block on
abbrev pub IsBased : List Change → Type 0
IsBased [] = ⊤
IsBased (change ∷ changes) = change ≡ Opens

-- ---- what a context knows

abbrev pub known_of : Known → Constants
known_of k = known_by k.names.now k.values.items

abbrev pub outers_of : Known → List Constants
outers_of k = outers k.names.now k.values.items (reverse k.changes.items)

-- there is a value for each name, and changes are kept from the first block on
pub record IsKept (k : Known) : Type 0 where
  pub values : length k.values.items ≡ count_of k.names.now
  pub based : IsBased k.changes.items
