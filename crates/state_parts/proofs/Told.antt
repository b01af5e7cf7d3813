-- What follows from a fact that a struct keeps.
use Rattle.std.proofs.Common.{◌≡◌, ℕ, Option}
use Rattle.std.proofs.Props.{props}
use Rattle.std.proofs.Math.Logic.{∥∥₁_elim}

-- an equation of numbers
pub told : {A : Type 0} {x y : Option ℕ} → ∥ A ∥₁ → (A → x ≡ y) → x ≡ y
told {x = x} {y = y} fact f = ∥∥₁_elim fact (Prim.hlevel props) f
