-- Edges by the points that they lead to.
use Rattle.std.specs.Prelude.{◌≡◌, ◌≢◌, ℕ, suc, ◌<◌, ◌≤◌, List, slice_get, Option, Some, None}
use Rattle.edges.specs.declared.Edge.{Edge}

-- no edge from one number on and below another leads to the point
abbrev pub NoneLeads : List Edge → ℕ → ℕ → ℕ → Type 0
NoneLeads edges point from end = (k : ℕ) (e : Edge) → from ≤ k → k < end → slice_get edges k ≡ Some e → e.to ≢ point

-- the last edge below a number that leads to the point, or none does
abbrev pub IsLastTo : List Edge → ℕ → ℕ → Option ℕ → Type 0
IsLastTo edges point end None = NoneLeads edges point 0 end
IsLastTo edges point end (Some k) =
    (k < end) × ((e : Edge) → slice_get edges k ≡ Some e → e.to ≡ point) × NoneLeads edges point (suc k) end
