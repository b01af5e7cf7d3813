-- The last edge that leads to a point, by an index of places.
use Rattle.std.proofs.Common.{◌≡◌, ℕ, suc, ◌-◌, ◌<◌, ◌≤◌, List, length, Some, None, sym, ap, ◌∙◌, subst, arith}
use Rattle.std.specs.Prelude.{slice_get, slice_index_or}
use Rattle.std.proofs.lemmas.Option.{slice_get_read, slice_get_within}
use Rattle.edges.specs.declared.Edge.{Edge}
use Rattle.gadara_net.specs.declared.chains.Chains.{Chains}
use Rattle.gadara_net.specs.declared.flow.Flow.{Flow}
use Rattle.gadara_net.specs.Chains.{IsLast}
use Rattle.gadara_net.specs.Indexed.{IsIndexOf}
use Rattle.gadara_net.specs.Flows.{targets_of}
use Rattle.gadara_net.specs.Into.{NoneLeads, IsLastTo}
use Rattle.gadara_net.proofs.Flowing.{target_at, target_is, length-targets_of}

none_leads : (edges : List Edge) (point after end from : ℕ) → IsLast (targets_of edges) point end after → after ≤ from → NoneLeads edges point from end
none_leads edges point after end from is le k e low high at to = is.none k (omega (arith, le, low)) high (target_at edges k e at ∙ ap Some to)

-- where no place has the point, no edge leads to it
pub no_last : (edges : List Edge) (point after end : ℕ) → IsLast (targets_of edges) point end after → after ≡ 0 → IsLastTo edges point end None
no_last edges point after end is none = none_leads edges point after end 0 is (omega (arith, none))

-- the last place of the point is that of the last edge to it
pub some_last : (edges : List Edge) (point after end : ℕ) → IsLast (targets_of edges) point end after → 0 < after → IsLastTo edges point end (Some (after - 1))
some_last edges point after end is some = (
  omega (arith, is.within, some),
  λ e at. target_is edges (after - 1) point e at (is.here (after - 1) (omega (arith, some))),
  none_leads edges point after end (suc (after - 1)) is (omega (arith, some)),
)

-- what the index reads at a point
pub last_at : (f : Flow) (c : Chains) (point after : ℕ) → IsIndexOf c f → point < length f.points → after ≡ slice_index_or c.last.items point after → IsLast (targets_of f.edges) point (length f.edges) after
last_at f c point after index lt read =
    subst (λ n. IsLast (targets_of f.edges) point n after) (length-targets_of f.edges)
    (index.last_of point after (slice_get_read c.last.items (length f.points) point after (sym index.sizes) lt read))

-- what it reads at an edge
pub before_at : (f : Flow) (c : Chains) (k after : ℕ) (e : Edge) → IsIndexOf c f → slice_get f.edges k ≡ Some e → after ≡ slice_index_or c.before.items k after → IsLast (targets_of f.edges) e.to k after
before_at f c k after e index at read =
    index.before_of k e.to after (target_at f.edges k e at)
    (slice_get_read c.before.items (length (targets_of f.edges)) k after (sym index.places) (omega (arith, slice_get_within f.edges k e at, length-targets_of f.edges)) read)
