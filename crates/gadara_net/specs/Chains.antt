-- Places of keys in a list.
use Rattle.std.specs.Prelude.{◌≡◌, ◌≢◌, ℕ, suc, ◌<◌, ◌≤◌, List, length, slice_get, Some}

-- one more than the last place below the end that has the key, or 0 where none has
pub record IsLast (keys : List ℕ) (key end after : ℕ) : Type 0 where
  pub within : after ≤ end
  pub here : (k : ℕ) → after ≡ suc k → slice_get keys k ≡ Some key
  pub none : (k : ℕ) → after ≤ k → k < end → slice_get keys k ≢ Some key

-- what two lists say of a list of keys: the last place of each key, and the place before each with the same key
pub record IsChained (keys last before : List ℕ) (size end : ℕ) : Type 0 where
  pub sizes : length last ≡ size
  pub places : length before ≡ end
  pub last_of : (key after : ℕ) → slice_get last key ≡ Some after → IsLast keys key end after
  pub before_of : (k key after : ℕ) → slice_get keys k ≡ Some key → slice_get before k ≡ Some after → IsLast keys key k after
