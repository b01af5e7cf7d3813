-- What is known of locals, and a frame of a run.
use Rattle.std.specs.Prelude.{◌≡◌, ℕ, ℤ, true, List, Some, None}
use Rattle.std.specs.FinMap as finite
use Rattle.c_tree.specs.Bare as bare
use Rattle.c_tree.specs.Numbering.{scalar_cell}
use Rattle.c_meaning.specs.State.{Locals}
use Rattle.contexts.specs.Constants.{Constants, among}

-- what is known is so in the frame
abbrev pub Agrees : Constants → Locals → Type 0
Agrees known locals = (name : List ℕ) (z : ℤ) → known name ≡ Some z → finite.get locals name ≡ Some z

-- nothing that is written into is known, and the ints count as written into
pub record IsScoped (p : bare.Program) (writes : List (List ℕ)) (known : Constants) : Type 0 where
  pub unwritten : (name : List ℕ) → among writes name ≡ true → known name ≡ None
  pub cells : (name : List ℕ) (cell : ℕ) → scalar_cell p name ≡ Some cell → among writes name ≡ true
