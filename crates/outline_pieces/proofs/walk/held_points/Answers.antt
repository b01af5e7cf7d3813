use Rattle.std.proofs.Common.{◌∙◌, ap, sym, [], ◌++◌}
use Rattle.std.proofs.lemmas.Result.{err_from_is_err_and}
use Rattle.outline_pieces.specs.Walks as spec
use Rattle.outline_pieces.proofs.Walking.{mapped_same, go_on_at, stop_at, all_walked}
use Rattle.outline_pieces.proofs.walk.held_points.Goals as goal

pub loop-place-init : goal.loop-place-init
loop-place-init c =
    let m = c.args.mutexes in
    let nothing = c.args.nothing.now in
    mapped_same (spec.walked m nothing (spec.start nothing) c.args.places.now)
    ∙ ap (λ w. spec.mapped (λ l. [] ++ l) (spec.walked m nothing w c.args.places.now)) (sym c.in_ok-walk.ensures)
    ∙ ap (λ z. spec.mapped (λ l. z ++ l) (spec.walked m nothing c.in_ok-walk.walk c.args.places.now)) (sym c.new-points.ensures)

pub loop-place-preserved : goal.loop-place-preserved
loop-place-preserved c =
    go_on_at c.args.mutexes c.args.nothing.now _ c.loop-place.walk c.go.new.self c.args.places.now c.loop-place.place-index c.loop-place.points c.go.new.points
    c.loop-place-test.true c.loop-place.invariant c.in_ok-go.ensures.allowed c.in_ok-go.ensures.steps c.in_ok-go.ensures.points

pub returns-clause-ok : goal.returns-clause-ok
returns-clause-ok c =
    all_walked c.args.mutexes c.args.nothing.now _ c.loop-place.walk c.args.places.now c.loop-place.place-index c.loop-place.points
    c.loop-place-test.false c.loop-place.invariant

pub returns-in_err-go-clause-err : goal.returns-in_err-go-clause-err
returns-in_err-go-clause-err c =
    let p = err_from_is_err_and c.from_residual-in_err-go.result c.from_residual-in_err-go.ensures.1 in
    rw (p.1, p.2)
    (stop_at c.args.mutexes c.args.nothing.now _ c.loop-place.walk c.args.places.now c.loop-place.place-index c.loop-place.points _
    c.loop-place-test.true c.loop-place.invariant c.in_err-go.ensures.err)
