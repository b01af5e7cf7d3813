use Rattle.std.proofs.Common.{◌≡◌, ◌-◌, Some, length, true, refl, sym, ap, ◌∙◌, subst, ⊎_elim, arith}
use Rattle.std.specs.Prelude.{slice_get}
use Rattle.std.proofs.lemmas.Option.{slice_get_read, slice_get_within, same_Some}
use Rattle.std.proofs.lemmas.Bool.{cases_eq, cases_lt}
use Rattle.edges.specs.declared.EdgeOp.TheVariants.{Plain}
use Rattle.net_laws.specs.Candidates.{members}
use Rattle.gadara_net.specs.Flows.{targets_of}
use Rattle.gadara_net.specs.Marks.{IsSourceMarked}
use Rattle.gadara_net.proofs.Flowing.{target_at, target_is, length-targets_of, read_same}
use Rattle.gadara_net.proofs.Marking.{HaveGrown-refl, HaveGrown-trans}
use Rattle.gadara_net.proofs.siphons.mark_before.Goals as goal

pub loop-next-init : goal.loop-next-init
loop-next-init g c =
    let index = c.requires.index in
    let edges = c.args.flow.now.edges in
    let at = slice_get_read c.args.into.now.last.items (length c.args.flow.now.points) c.args.point c.index-next.result.now (sym index.sizes) c.requires.point c.index-next.ensures in
    let is = index.last_of c.args.point c.index-next.result.now at in
    record {
      bound = refl;
      marked = c.requires.marked;
      grown = HaveGrown-refl _ _ _;
      within = omega (arith, is.within, length-targets_of edges);
      here = is.here;
      before = λ k e low has to. absurd (is.none k low (omega (arith, slice_get_within edges k e has, length-targets_of edges)) (target_at edges k e has ∙ ap Some to));
    }

pub mark_source-end-requires-clause-edge : goal.mark_source-end-requires-clause-edge
mark_source-end-requires-clause-edge g c =
    let at = c.loop-next.next - 1 in
    (at, read_same c.args.flow.now.edges c.as_slice.result.now at (record { from = 0; to = 0; op = Plain }) c.as_slice.ensures (omega (arith, c.loop-next.invariant.within, c.loop-next-test.true)))

pub mark_source-end-requires-clause-to : goal.mark_source-end-requires-clause-to
mark_source-end-requires-clause-to g c =
    let at = c.loop-next.next - 1 in
    let edges = c.args.flow.now.edges in
    let has = read_same edges c.as_slice.result.now at (record { from = 0; to = 0; op = Plain }) c.as_slice.ensures (omega (arith, c.loop-next.invariant.within, c.loop-next-test.true)) in
    let to = target_is edges at c.args.point _ has (c.loop-next.invariant.here at (omega (arith, c.loop-next-test.true))) in
    c.loop-next.invariant.grown.kept _ (subst (λ p. g.S.PlaceSet.places c.args.out.now p ≡ true) (sym to) c.requires.is_marked)

pub loop-next-smaller : goal.loop-next-smaller
loop-next-smaller g c =
    let at = c.loop-next.next - 1 in
    let index = c.requires.index in
    let edges = c.args.flow.now.edges in
    let was = slice_get_read c.args.into.now.before.items (length (targets_of edges)) at c.index-next-in-loop-next.result.now (sym index.places) (omega (arith, c.loop-next.invariant.within, c.loop-next-test.true, length-targets_of edges)) c.index-next-in-loop-next.ensures in
    let is = index.before_of at c.args.point _ (c.loop-next.invariant.here at (omega (arith, c.loop-next-test.true))) was in
    omega (arith, is.within, c.loop-next-test.true)

pub loop-next-preserved : goal.loop-next-preserved
loop-next-preserved g c =
    let at = c.loop-next.next - 1 in
    let inv = c.loop-next.invariant in
    let made = c.mark_source-end.ensures in
    let index = c.requires.index in
    let edges = c.args.flow.now.edges in
    let R = members c.args.resources in
    let marks = g.S.PlaceSet.places c.mark_source-end.new.out in
    let has = read_same edges c.as_slice.result.now at (record { from = 0; to = 0; op = Plain }) c.as_slice.ensures (omega (arith, inv.within, c.loop-next-test.true)) in
    let here = inv.here at (omega (arith, c.loop-next-test.true)) in
    let was = slice_get_read c.args.into.now.before.items (length (targets_of edges)) at c.index-next-in-loop-next.result.now (sym index.places) (omega (arith, inv.within, c.loop-next-test.true, length-targets_of edges)) c.index-next-in-loop-next.ensures in
    let is = index.before_of at c.args.point _ here was in
    record {
      bound = made.bound ∙ inv.bound;
      marked = made.marked;
      grown = HaveGrown-trans _ _ _ _ _ _ _ _ _ inv.grown made.grown;
      within = omega (arith, is.within, inv.within);
      here = is.here;
      before = λ k e low found to.
          ⊎_elim
          (λ same. subst (IsSourceMarked R marks) (same_Some _ e (sym has ∙ (ap (slice_get edges) (sym same) ∙ found))) made.source)
          (λ differs.
          ⊎_elim
          (λ below. absurd (is.none k low below (target_at edges k e found ∙ ap Some to)))
          (λ up t. made.grown.kept e.from (inv.before k e (omega (arith, up, differs)) found to t))
          (cases_lt k at))
          (cases_eq k at);
    }
