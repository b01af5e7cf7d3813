-- The net of a flow is the program's, and what it keeps.
use Rattle.std.proofs.Common.{◌≡◌, length, replicate, refl, sym, ap, ◌∙◌, subst, arith}
use Rattle.std.proofs.lemmas.Option.{slice_get_within}
use Rattle.c_canonical.specs.ShapedPrograms.{ShapedProgram}
use Rattle.c_rules.specs.Formed.{Formed}
use Rattle.c_tree.specs.declared.program.Mode.{Mode}
use Rattle.c_tree.specs.Lined.{Program, bare_program}
use Rattle.c_tree.specs.Numbering.{mutex_count}
use Rattle.context_laws.proofs.WholeOutlines.{outlines_whole}
use Rattle.outlines.specs.Points.{all_rows}
use Rattle.outlines.specs.Whole.{ThreadsName}
use Rattle.held_counts.specs.Flows.{HasResources}
use Rattle.held_counts.proofs.Along.{counts_full, held_once}
use Rattle.held_counts.proofs.Flows.{held_shaped}
use Rattle.outline_pieces.specs.declared.flow_parts.FlowParts.{FlowParts}
use Rattle.outline_pieces.specs.Found.{IsFlowOf}
use Rattle.outline_pieces.specs.Nets.{held_of, counts_in}
use Rattle.outline_pieces.proofs.Matching.{found_nets_are_held}
use Rattle.flow_graph.specs.Flow.{IsFlow}
use Rattle.accounts.specs.Accounts.{IsNetOfProgram}
use Rattle.accounts.proofs.Outlined.{formed_outlined, nets_have_resources}
use Rattle.accounts.proofs.Stuck.{net_is, lines_unstuck, covered_unstuck, valid_unstuck}
use Rattle.flow_laws.specs.Nets.{tokens_in, net_in}
use Rattle.flow_laws.specs.Laws.{FlowsAreNets}
use Rattle.flow_laws.specs.Conditions.{NetsAreNets, NetsAreShaped, MutexesAreHeldOnce, PointsHaveCounts, PlacesAreFew, EdgesAreFew, FlowsMakeNets}
use Rattle.flow_laws.specs.StuckSets.{LinesKeepUnstuck, CoveredAreUnstuck, ValidAreUnstuck}
use Rattle.flow_laws.proofs.Tokens.{as_many_tokens, tokens_are}
use Rattle.flow_laws.proofs.Edges.{threads_few_edges}

module _ (p : Program) (mode : Mode) (flow : FlowParts) (formed : Formed p mode) (shaped : ShapedProgram (bare_program p)) (is : IsFlow p flow) where
  abbrev Nets : Type 0
  Nets = IsNetOfProgram p mode is.threads is.places (net_in p flow) (counts_in flow)

  net : Nets
  net =
      let has = formed_outlined p mode is.threads is.places formed shaped is.found in
      let whole = outlines_whole p is.threads is.places has.regular has.outlines in
      let many = sym (as_many_tokens p) in
      let m = mutex_count (bare_program p) in
      record {
        formed = formed;
        shaped = shaped;
        found = is.found;
        held = found_nets_are_held m (tokens_in p) is.threads flow (subst (λ k. IsFlowOf m (replicate k 0) is.threads flow) many is.parts)
            (subst (λ k. ThreadsName k is.threads) many whole.0) whole.1;
        mutexes = refl;
        resources = as_many_tokens p;
        tokens = λ r lt. tokens_are p r;
      }

  resources : HasResources (net_in p flow)
  resources = nets_have_resources p mode is.threads is.places (net_in p flow) (counts_in flow) net

pub flows_nets : FlowsAreNets
flows_nets p mode flow formed shaped is = (is.threads, is.places, net p mode flow formed shaped is)

-- ---- what is asked of it

pub nets_nets : NetsAreNets
nets_nets p mode flow formed shaped is = net_is p mode is.threads is.places (net_in p flow) (counts_in flow) (net p mode flow formed shaped is)

pub nets_shaped : NetsAreShaped
nets_shaped p mode flow formed shaped is =
    held_shaped (net_in p flow) is.threads (counts_in flow) (net p mode flow formed shaped is).held (resources p mode flow formed shaped is)

pub mutexes_once : MutexesAreHeldOnce
mutexes_once p mode flow formed shaped is k r lt below =
    held_once (net_in p flow) is.threads (counts_in flow) (net p mode flow formed shaped is).held k r lt below

pub points_counts : PointsHaveCounts
points_counts p mode flow formed shaped is k point at =
    let long = counts_full (net_in p flow) is.threads (counts_in flow) (net p mode flow formed shaped is).held k (slice_get_within flow.points k point at) in
    sym (ap (λ o. length (held_of o)) at) ∙ long

as_many_points : (p : Program) (mode : Mode) (flow : FlowParts) (formed : Formed p mode) (shaped : ShapedProgram (bare_program p)) (is : IsFlow p flow) →
    length flow.points ≡ length (all_rows 0 is.threads 0)
as_many_points p mode flow formed shaped is = (net p mode flow formed shaped is).held.net.points

pub places_few : PlacesAreFew
places_few p mode flow formed shaped is =
    let few = is.parts.few in
    let points = as_many_points p mode flow formed shaped is in
    (omega (arith, few, points), (resources p mode flow formed shaped is).few)

pub edges_few : EdgesAreFew
edges_few p mode flow formed shaped is =
    let points = as_many_points p mode flow formed shaped is in
    let edges = ap length is.parts.edges in
    omega (arith, points, edges, threads_few_edges is.threads)

pub flows_make : FlowsMakeNets
flows_make p mode flow formed shaped is =
    let places = places_few p mode flow formed shaped is in
    let edges = edges_few p mode flow formed shaped is in
    record {
      net = nets_nets p mode flow formed shaped is;
      shaped = nets_shaped p mode flow formed shaped is;
      once = mutexes_once p mode flow formed shaped is;
      counts = points_counts p mode flow formed shaped is;
      few_places = omega (arith, places.0, places.1);
      few_edges = omega (arith, places.0, edges);
    }

-- ---- programs that never get stuck

pub flow_lines_unstuck : LinesKeepUnstuck
flow_lines_unstuck p mode flow formed shaped is lines =
    lines_unstuck p mode is.threads is.places (net_in p flow) (counts_in flow) (net p mode flow formed shaped is) lines

pub flow_covered_unstuck : CoveredAreUnstuck
flow_covered_unstuck p mode flow formed shaped is covered =
    covered_unstuck p mode is.threads is.places (net_in p flow) (counts_in flow) (net p mode flow formed shaped is) covered

pub flow_valid_unstuck : ValidAreUnstuck
flow_valid_unstuck p mode flow lines formed shaped is valid =
    valid_unstuck p mode is.threads is.places (net_in p flow) (counts_in flow) lines (net p mode flow formed shaped is) valid
