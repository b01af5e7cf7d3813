-- What the operation of an edge does to the tokens of a resource.
use Rattle.std.specs.Prelude.{ℕ, Bool, false, ◌==◌}
use Rattle.edges.specs.declared.EdgeOp.{EdgeOp}
use Rattle.edges.specs.declared.EdgeOp.TheVariants.{Plain, Acquire, Try, Reacquire, Release}

-- a token of the resource is taken
abbrev pub takes : EdgeOp → ℕ → Bool
takes Plain r = false
takes (Acquire q) r = q == r
takes (Try q) r = q == r
takes (Reacquire q) r = q == r
takes (Release q) r = false

-- the thread waits while no token of the resource is free; one that tries doesn't wait
abbrev pub blocks : EdgeOp → ℕ → Bool
blocks Plain r = false
blocks (Acquire q) r = q == r
blocks (Try q) r = false
blocks (Reacquire q) r = q == r
blocks (Release q) r = false

-- a token of the resource is given back
abbrev pub gives : EdgeOp → ℕ → Bool
gives Plain r = false
gives (Acquire q) r = false
gives (Try q) r = false
gives (Reacquire q) r = false
gives (Release q) r = q == r
