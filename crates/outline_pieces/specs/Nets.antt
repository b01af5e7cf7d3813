-- The net that found points and edges show.
use Rattle.std.specs.Prelude.{ℕ, List, [], length, Option, Some, None, replicate, slice_get}
use Rattle.edges.specs.declared.Point.{Point}
use Rattle.net_laws.specs.Net.{Net}
use Rattle.net_laws.specs.Shown.{net_of}
use Rattle.outlines.specs.Outline.{Thread}
use Rattle.outlines.specs.Whole.{ThreadsName, ThreadsAreWhole}
use Rattle.held_counts.specs.Nets.{IsHeldNetOf}
use Rattle.outline_pieces.specs.declared.flow_parts.FlowParts.{FlowParts}
use Rattle.outline_pieces.specs.Found.{IsFlowOf}

-- their net, with these tokens of each resource
abbrev pub parts_net : ℕ → List ℕ → FlowParts → Net
parts_net mutexes tokens flow = net_of flow.threads mutexes tokens flow.points flow.edges

abbrev pub held_of : Option Point → List ℕ
held_of None = []
held_of (Some p) = p.held

abbrev pub counts_in : FlowParts → ℕ → List ℕ
counts_in flow p = held_of (slice_get flow.points p)

-- what is found of threads is their net, with what the walk holds at each point
abbrev pub FoundNetsAreHeld : Type 0
FoundNetsAreHeld = (mutexes : ℕ) (tokens : List ℕ) (ths : List Thread) (flow : FlowParts) → IsFlowOf mutexes (replicate (length tokens) 0) ths flow →
    ThreadsName (length tokens) ths → ThreadsAreWhole mutexes ths → IsHeldNetOf (parts_net mutexes tokens flow) ths (counts_in flow)
