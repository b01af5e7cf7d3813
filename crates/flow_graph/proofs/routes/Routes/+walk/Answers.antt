use Rattle.std.proofs.Common.{◌≡◌, ◌+◌, ◌<◌, ◌≤◌, ◌∷◌, List, length, drop, refl, sym, subst, ap, ◌∙◌, Some, arith}
use Rattle.std.specs.Prelude.{slice_get}
use Rattle.std.proofs.lemmas.Result.{on_ok_weaker}
use Rattle.c_tree.specs.Lined.{Program, bare_program}
use Rattle.context_walk.specs.Places.{callee_at}
use Rattle.context_walk.specs.Prepared.{program_in}
use Rattle.context_walk.proofs.Preparing.{same_some}
use Rattle.context_walk.proofs.Walking.{callee_above}
use Rattle.std.proofs.lemmas.List.Elements.{All-get_or}
use Rattle.outline_pieces.specs.declared.pieces.Piece.TheVariants as piece
use Rattle.outline_pieces.specs.declared.pieces.Deed.TheVariants as deed
use Rattle.flow_graph.proofs.Passing.{all_passed, mapped_at, passed_on, stop_fits}
use Rattle.flow_graph.specs.declared.routes.Stop.{Stop}
use Rattle.flow_graph.specs.Left.{left_in}
use Rattle.flow_graph.specs.Routes.{shown_stops, Enters, FitsShape, IsRoute, IsStop}
use Rattle.flow_graph.specs.Shapes as spec
use Rattle.flow_graph.specs.Shown.{shown_shape}
use Rattle.flow_graph.specs.Walking.{entries_at, woven_at, Adds}
use Rattle.flow_graph.specs.Weaving.{around, function_shapes}
use Rattle.flow_graph.proofs.Entered.{EntersAt, call_enters, call_passes, callee_place, enters_at}
use Rattle.flow_graph.proofs.Taking.{adds_one, call_added}
use Rattle.flow_graph.proofs.routes.Routes.+walk.Goals as goal

pub call-returns : goal.call-returns
call-returns t c = λ more name is.
    let p : Program = program_in c.args.self.now.functions.now in
    let within : c.args.k ≤ length p.functions = omega (arith, c.requires.within, c.requires.ready.all, c.requires.ready.prepared.all) in
    let there : EntersAt p c.args.k name c.args.callee = enters_at p c.args.k name c.args.callee within (callee_place p c.args.k name c.args.callee is) in
    call_added (woven_at c.args.self.now c.args.k (spec.Shape.Call c.args.line name ∷ more) (left_in c.args.marks.now)) (woven_at c.args.self.now c.args.k more (left_in c.enter.new.marks)) c.args.line
    (woven_at c.args.self.now c.args.callee (function_shapes there.f) (left_in c.next_resource.new.self)) (woven_at c.args.self.now c.args.k more) (left_in c.enter.new.marks)
    c.args.builder.now c.push.new.self c.enter.new.builder c.push-2.new.self
    (call_enters p c.args.k name c.args.callee c.args.line more (left_in c.args.marks.now) is there
    ∙ ap (λ ms. around c.args.line (woven_at c.args.self.now c.args.callee (function_shapes there.f) ms) (woven_at c.args.self.now c.args.k more)) (sym c.next_resource.ensures.left))
    refl c.push.ensures (c.in_ok-enter.ensures there.f there.at) c.push-2.ensures

-- ---- a stop

pub pass-pass_wait-requires-clause-fits : goal.pass-pass_wait-requires-clause-fits
pass-pass_wait-requires-clause-fits t c = subst (λ s. FitsShape (length (program_in c.args.self.now.functions.now).monitors) (shown_shape s)) c.in-Wait.is c.requires.fits

pub pass-call-requires : goal.pass-call-requires
pass-call-requires t c =
    let p : Program = program_in c.args.self.now.functions.now in
    let here : c.args.stop.now.callee ≡ callee_at p c.args.k c.in-Call.field-1.now = subst (λ s. Enters (callee_at p c.args.k) s c.args.stop.now.callee) c.in-Call.is c.requires.stop in
    let within : c.args.k ≤ length p.functions = omega (arith, c.requires.within, c.requires.ready.all, c.requires.ready.prepared.all) in
    let above : c.in-Some.callee < c.args.k = callee_above p c.args.k within c.in-Call.field-1.now c.in-Some.callee (sym c.in-Some.is ∙ here) in
    (omega arith, (c.requires.ready, (c.requires.within, above)))

pub pass-returns-in-Wait : goal.pass-returns-in-Wait
pass-returns-in-Wait t c = on_ok_weaker c.pass_wait.result (λ adds more.
    subst (λ s. Adds (woven_at c.args.self.now c.args.k (shown_shape s ∷ more) (left_in c.args.marks.now)) (woven_at c.args.self.now c.args.k more (left_in c.pass_wait.new.marks)) c.args.builder.now c.pass_wait.new.builder)
    (sym c.in-Wait.is) (adds c.args.k more)) c.pass_wait.ensures

pub pass-returns-in-Some : goal.pass-returns-in-Some
pass-returns-in-Some t c = on_ok_weaker c.call.result (λ adds more.
    let p : Program = program_in c.args.self.now.functions.now in
    let here : c.args.stop.now.callee ≡ callee_at p c.args.k c.in-Call.field-1.now = subst (λ s. Enters (callee_at p c.args.k) s c.args.stop.now.callee) c.in-Call.is c.requires.stop in
    subst (λ s. Adds (woven_at c.args.self.now c.args.k (shown_shape s ∷ more) (left_in c.args.marks.now)) (woven_at c.args.self.now c.args.k more (left_in c.call.new.marks)) c.args.builder.now c.call.new.builder)
    (sym c.in-Call.is) (adds more c.in-Call.field-1.now (sym here ∙ c.in-Some.is))) c.call.ensures

pub pass-returns-in-None : goal.pass-returns-in-None
pass-returns-in-None t c = λ more.
    let p : Program = program_in c.args.self.now.functions.now in
    let here : c.args.stop.now.callee ≡ callee_at p c.args.k c.in-Call.field-1.now = subst (λ s. Enters (callee_at p c.args.k) s c.args.stop.now.callee) c.in-Call.is c.requires.stop in
    subst (λ s. Adds (woven_at c.args.self.now c.args.k (shown_shape s ∷ more) (left_in c.args.marks.now)) (woven_at c.args.self.now c.args.k more (left_in c.args.marks.now)) c.args.builder.now c.push.new.self)
    (sym c.in-Call.is)
    (adds_one (woven_at c.args.self.now c.args.k (spec.Shape.Call c.in-Call.line c.in-Call.field-1.now ∷ more) (left_in c.args.marks.now)) (woven_at c.args.self.now c.args.k more (left_in c.args.marks.now))
    (piece.Pass c.in-Call.line deed.Plain) c.args.builder.now c.push.new.self
    (call_passes p c.args.k c.in-Call.field-1.now c.in-Call.line more (left_in c.args.marks.now) (sym here ∙ c.in-None.is)) c.push.ensures)

-- ---- a function

pub enter-pass-requires : goal.enter-pass-requires
enter-pass-requires t c =
    let p : Program = program_in c.args.self.now.functions.now in
    let stops : List Stop = c.as_slice-stop-items.result.now in
    let route : IsRoute p c.args.k stops =
    c.requires.ready.routes c.args.k stops (mapped_at (λ v. v.items) c.args.self.now.routes.items c.args.k c.index.result.now c.requires.within c.index.ensures ∙ ap Some (sym c.as_slice-stop-items.ensures.value)) in (
      omega arith,
      (
        c.requires.ready,
        (
          c.requires.within,
          (
            All-get_or (IsStop (callee_at p c.args.k)) stops c.loop-stop.stop-index _ c.loop-stop-test.true route.callees,
            stop_fits (length p.monitors) stops c.loop-stop.stop-index _ c.loop-stop-test.true route.fits,
          ),
        ),
      ),
    )

pub enter-loop-stop-preserved : goal.enter-loop-stop-preserved
enter-loop-stop-preserved t c =
    let p : Program = program_in c.args.self.now.functions.now in
    let stops : List Stop = c.as_slice-stop-items.result.now in
    passed_on (bare_program p) (entries_at p c.args.k) stops c.loop-stop.stop-index _ (woven_at c.args.self.now c.args.k (shown_stops stops) (left_in c.args.marks.now)) (left_in c.loop-stop.marks) (left_in c.pass.new.marks)
    c.args.builder.now c.loop-stop.builder c.pass.new.builder c.loop-stop-test.true c.loop-stop.invariant (c.in_ok-pass.ensures (shown_stops (drop (c.loop-stop.stop-index + 1) stops)))

pub enter-returns : goal.enter-returns
enter-returns t c = λ f at.
    let p : Program = program_in c.args.self.now.functions.now in
    let stops : List Stop = c.as_slice-stop-items.result.now in
    let route : IsRoute p c.args.k stops =
    c.requires.ready.routes c.args.k stops (mapped_at (λ v. v.items) c.args.self.now.routes.items c.args.k c.index.result.now c.requires.within c.index.ensures ∙ ap Some (sym c.as_slice-stop-items.ensures.value)) in
    let same : route.f ≡ f = same_some (slice_get p.functions c.args.k) route.f f route.at at in
    all_passed (bare_program p) (entries_at p c.args.k) stops c.loop-stop.stop-index f (left_in c.args.marks.now) (left_in c.loop-stop.marks) c.args.builder.now c.loop-stop.builder c.loop-stop-test.false
    (route.shapes ∙ ap function_shapes same) c.loop-stop.invariant
