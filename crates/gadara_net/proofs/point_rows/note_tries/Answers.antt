use Rattle.std.proofs.Common.{◌<◌, ◌&&◌, ◌||◌, List, length, take, false, Some, sym, ap, ◌∙◌, arith}
use Rattle.std.specs.Prelude.{◌==◌, slice_index_or}
use Rattle.std.specs.List.{list_any}
use Rattle.std.proofs.lemmas.List.{length-replicate}
use Rattle.std.proofs.lemmas.List.Folds.{list_any_more}
use Rattle.edges.specs.declared.Edge.{Edge}
use Rattle.edges.specs.declared.EdgeOp.TheVariants.{Plain}
use Rattle.weight_laws.specs.Flow.{is_try}
use Rattle.gadara_net.proofs.Flowing.{read_same}
use Rattle.gadara_net.proofs.point_rows.note_tries.Goals as goal

pub note_try-requires : goal.note_try-requires
note_try-requires c =
    let edges = c.args.flow.now.edges in
    let k = c.loop-edge.edge-index in
    let lt : k < length edges = omega (arith, c.loop-edge-test.true, ap length c.as_slice-edge-items.ensures) in
    let at = read_same edges c.as_slice-edge-items.result.now k (record { from = 0; to = 0; op = Plain }) c.as_slice-edge-items.ensures lt in
    omega (arith, (c.requires.flow.shaped.leads _ (k, at)).0, c.loop-edge.auto.tried, ap length c.requires.none, length-replicate (length c.args.flow.now.points) false)

pub loop-edge-preserved : goal.loop-edge-preserved
loop-edge-preserved c p lt =
    let edges = c.args.flow.now.edges in
    let k = c.loop-edge.edge-index in
    let none : Edge = record { from = 0; to = 0; op = Plain } in
    let inside : k < length edges = omega (arith, c.loop-edge-test.true, ap length c.as_slice-edge-items.ensures) in
    let test = λ (x : Edge). x.from == p && is_try x.op in
    let so_far = list_any test (take k edges) in
    c.note_try.ensures p so_far (c.loop-edge.invariant p lt)
    ∙ ap Some (sym (list_any_more test edges k none inside ∙ ap (λ (xs : List Edge). so_far || test (slice_index_or xs k none)) (sym c.as_slice-edge-items.ensures)))
