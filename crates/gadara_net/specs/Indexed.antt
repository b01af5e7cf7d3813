-- An index of places.
use Rattle.std.specs.Prelude.{ℕ, List, length}
use Rattle.gadara_net.specs.Chains.{IsChained}
use Rattle.gadara_net.specs.Flows.{targets_of}
use Rattle.gadara_net.specs.declared.chains.Chains.{Chains}
use Rattle.gadara_net.specs.declared.flow.Flow.{Flow}

-- the index is that of the keys, which are below the size
abbrev pub IsIndex : Chains → List ℕ → ℕ → Type 0
IsIndex c keys size = IsChained keys c.last.items c.before.items size (length keys)

-- the index finds the edges of a flow by the points that they lead to
abbrev pub IsIndexOf : Chains → Flow → Type 0
IsIndexOf c f = IsIndex c (targets_of f.edges) (length f.points)
