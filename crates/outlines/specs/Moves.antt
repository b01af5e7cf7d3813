-- How a thread goes along its outline.
use Rattle.std.specs.Prelude.{◌≡◌, ◌⊎◌, ℕ, List, [], ◌∷◌}
use Rattle.outlines.specs.Outline.{Part, Parts, Step, Join, Acquire, Release, Wait, Try, Branch, Loop, Inner, Leave, Nil, Cons, joined}
use Rattle.edges.specs.declared.EdgeOp.{EdgeOp}
use Rattle.edges.specs.declared.EdgeOp.TheVariants as op

-- where a thread stands: what is left of its functions, the newest first
pub data Position : Type 0 where
  Before : Position
  At : (left : List Parts) → Position
  -- sleeps, and will take these and then the resource
  Asleep : (resource : ℕ) (takes : List ℕ) (left : List Parts) → Position
  Woken : (resource : ℕ) (takes : List ℕ) (left : List Parts) → Position
  Over : Position

-- what the edge does, and where it leads
abbrev pub Is : EdgeOp → Position → EdgeOp → Position → Type 0
Is o y o' y' = (o ≡ o') × (y ≡ y')

-- where the end of a function leads
abbrev pub behind_leave : List Parts → Position
behind_leave [] = Over
behind_leave (xs ∷ more) = At (xs ∷ more)

-- one edge from a part, where xs stand behind it
abbrev pub PartMoves : Part → Parts → List Parts → EdgeOp → Position → Type 0
PartMoves (Step line) xs more o y = Is o y op.Plain (At (xs ∷ more))
PartMoves (Join line) xs more o y = Is o y op.Plain (At (xs ∷ more))
PartMoves (Acquire line r) xs more o y = Is o y (op.Acquire r) (At (xs ∷ more))
PartMoves (Release line r) xs more o y = Is o y (op.Release r) (At (xs ∷ more))
PartMoves (Wait line r cs) xs more o y = Is o y (op.Release r) (Asleep r cs (xs ∷ more))
PartMoves (Try line r a b) xs more o y = Is o y (op.Try r) (At (joined a xs ∷ more)) ⊎ Is o y op.Plain (At (joined b xs ∷ more))
PartMoves (Branch line a b) xs more o y = Is o y op.Plain (At (joined a xs ∷ more)) ⊎ Is o y op.Plain (At (joined b xs ∷ more))
PartMoves (Loop line b) xs more o y = Is o y op.Plain (At (joined b (Cons (Loop line b) xs) ∷ more)) ⊎ Is o y op.Plain (At (xs ∷ more))
PartMoves (Inner line f b) xs more o y = Is o y op.Plain (At (b ∷ xs ∷ more))
PartMoves (Leave line) xs more o y = Is o y op.Plain (behind_leave more)

-- one edge: what it does, and where it leads, by where it begins
abbrev pub MovesTo : Parts → Position → EdgeOp → Position → Type 0
MovesTo body Before o y = Is o y op.Plain (At (body ∷ []))
MovesTo body (At []) o y = ⊥
MovesTo body (At (Nil ∷ more)) o y = ⊥
MovesTo body (At (Cons x xs ∷ more)) o y = PartMoves x xs more o y
MovesTo body (Asleep r cs left) o y = Is o y op.Plain (Woken r cs left)
MovesTo body (Woken r [] left) o y = Is o y (op.Reacquire r) (At left)
MovesTo body (Woken r (c ∷ cs) left) o y = Is o y (op.Acquire c) (Woken r cs left)
MovesTo body Over o y = ⊥
