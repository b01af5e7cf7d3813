use Rattle.std.proofs.Common.{◌≡◌, refl, sym, ap, ◌∙◌, subst, ⊎_elim, arith}
use Rattle.std.specs.Prelude.{slice_get}
use Rattle.std.proofs.lemmas.Option.{slice_get-get_or, same_Some}
use Rattle.std.proofs.lemmas.Bool.{cases_eq}
use Rattle.net_laws.specs.Candidates.{members}
use Rattle.gadara_net.specs.Flows.{flow_net}
use Rattle.gadara_net.specs.Marks.{AreMarkedBefore}
use Rattle.gadara_net.proofs.Marking.{AreMarked-end, marked_holds}
use Rattle.gadara_net.proofs.siphons.mark_sources.Goals as goal

pub bounds-row-done : goal.bounds-row-done
bounds-row-done g c = omega (arith, c.loop-done-test.true, AreMarked-end _ _ _ _ _ c.loop-done.invariant.marked)

pub offset_bounds-row-done : goal.offset_bounds-row-done
offset_bounds-row-done g c = omega (arith, c.loop-done-test.true, AreMarked-end _ _ _ _ _ c.loop-done.invariant.marked, c.loop-done.invariant.marked.room, c.requires.flow.few_places)

pub mark_before-end-requires-clause-is_marked : goal.mark_before-end-requires-clause-is_marked
mark_before-end-requires-clause-is_marked g c =
    let inv = c.loop-done.invariant in
    inv.marked.stands c.loop-done.done _ c.loop-done-test.true (slice_get-get_or c.loop-done.row c.loop-done.done 0 (omega (arith, c.loop-done-test.true, AreMarked-end _ _ _ _ _ inv.marked)))

pub mark_before-end-requires-clause-point : goal.mark_before-end-requires-clause-point
mark_before-end-requires-clause-point g c =
    let inv = c.loop-done.invariant in
    (inv.marked.sound _ (inv.marked.stands c.loop-done.done _ c.loop-done-test.true (slice_get-get_or c.loop-done.row c.loop-done.done 0 (omega (arith, c.loop-done-test.true, AreMarked-end _ _ _ _ _ inv.marked))))).0

pub loop-done-smaller : goal.loop-done-smaller
loop-done-smaller g c = omega (arith, c.loop-done-test.true, AreMarked-end _ _ _ _ _ c.loop-done.invariant.marked, c.loop-done.invariant.marked.room, c.mark_before-end.ensures.marked.room)

pub loop-done-preserved : goal.loop-done-preserved
loop-done-preserved g c =
    let inv = c.loop-done.invariant in
    let made = c.mark_before-end.ensures in
    let at = slice_get-get_or c.loop-done.row c.loop-done.done 0 (omega (arith, c.loop-done-test.true, AreMarked-end _ _ _ _ _ inv.marked)) in
    let n = flow_net c.args.flow.now in
    let R = members c.args.resources in
    let marks = g.S.PlaceSet.places c.mark_before-end.new.out in
    record {
      bound = made.bound ∙ inv.bound;
      marked = made.marked;
      givers = λ e has t. made.grown.kept e.from (inv.givers e has t);
      reached = omega (arith, c.loop-done-test.true, made.grown.further);
      before = λ k p below found.
          ⊎_elim
          (λ same.
          let stays = made.grown.stays k (omega (arith, same, c.loop-done-test.true)) in
          let is : p ≡ _ = same_Some p _ (sym found ∙ (stays ∙ (ap (slice_get c.loop-done.row) same ∙ at))) in
          subst (AreMarkedBefore n R marks) (sym is) made.before)
          (λ differs e has to t.
          let stays = made.grown.stays k (omega (arith, differs, below, c.loop-done-test.true)) in
          made.grown.kept e.from (inv.before k p (omega (arith, differs, below)) (sym stays ∙ found) e has to t))
          (cases_eq k c.loop-done.done);
    }

pub returns-clause-found : goal.returns-clause-found
returns-clause-found g c p =
    let inv = c.loop-done.invariant in
    let n = flow_net c.args.flow.now in (
      λ on. inv.marked.sound p on,
      λ is. marked_holds n (members c.args.resources) (g.S.PlaceSet.places c.loop-done.out) inv.givers (λ e has on t. let l = inv.marked.listed e.to on in inv.before l.0 e.to (omega (arith, l.1, c.loop-done-test.false)) l.2 e has refl t) is.1.0 p is.1.1,
    )
