use Rattle.std.proofs.Common.{◌≡◌, ◌||◌, ◌&&◌, length, Option, refl, sym, ap, ◌∙◌, subst, arith}
use Rattle.std.specs.Prelude.{slice_index, nat_lt, ◌==◌}
use Rattle.std.proofs.lemmas.Bool.{eq-eqb}
use Rattle.edges.specs.declared.Point.{Point}
use Rattle.edges.specs.Ops.{takes}
use Rattle.net_laws.specs.Shown.{held_at}
use Rattle.gadara_net.specs.Graphs.{has_arc}
use Rattle.gadara_net.proofs.Flowing.{point_read, row_of, taken_below}
use Rattle.gadara_net.proofs.graphs.add_arcs.Goals as goal

pub bounds-as_slice-edge : goal.bounds-as_slice-edge
bounds-as_slice-edge c = omega (arith, ap length c.as_slice.ensures, (c.requires.flow.shaped.leads c.args.edge c.requires.edge).0)

pub add_target-requires-clause-few : goal.add_target-requires-clause-few
add_target-requires-clause-few c =
    let at = point_read c.args.flow.now c.args.edge.from c.as_slice.result.now c.index-as_slice-edge.result c.as_slice.ensures (c.requires.flow.shaped.leads c.args.edge c.requires.edge).0 c.index-as_slice-edge.is in
    omega (arith, ap length (c.as_slice-in-Some.ensures ∙ ap (λ p. p.held) (sym c.index-as_slice-edge.is)), row_of c.args.flow.now c.args.edge.from _ c.requires.flow at)

pub add_target-requires-clause-target : goal.add_target-requires-clause-target
add_target-requires-clause-target c = taken_below c.args.flow.now c.args.edge c.in-Some.target c.requires.flow c.requires.edge (c.in-Some.ensures c.in-Some.target ∙ eq-eqb c.in-Some.target c.in-Some.target refl)

pub returns-in-Some : goal.returns-in-Some
returns-in-Some c r s lt =
    let point = c.index-as_slice-edge.result in
    let old = has_arc c.args.rows.now r s in
    let at = point_read c.args.flow.now c.args.edge.from c.as_slice.result.now point c.as_slice.ensures (c.requires.flow.shaped.leads c.args.edge c.requires.edge).0 c.index-as_slice-edge.is in
    let P : Option Point → Type 0 = λ o. has_arc c.add_target.new.rows r s ≡ (old || (nat_lt 0 (held_at o r) && takes c.args.edge.op s)) in
    subst P (sym at)
    (c.add_target.ensures r s lt
    ∙ (ap (λ h. old || (nat_lt 0 (slice_index h r) && (c.in-Some.target == s))) (c.as_slice-in-Some.ensures ∙ ap (λ p. p.held) (sym c.index-as_slice-edge.is))
    ∙ ap (λ b. old || (nat_lt 0 (slice_index point.held r) && b)) (sym (c.in-Some.ensures s))))
