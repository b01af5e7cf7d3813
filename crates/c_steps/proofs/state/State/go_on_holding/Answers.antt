use Rattle.std.proofs.Common.{ap, ◌∙◌}
use Rattle.std.specs.Prelude.{slice_get, slice_set}
use Rattle.c_meaning.specs.State as run
use Rattle.c_steps.proofs.state.State.go_on_holding.Goals as goal

pub returns-clause-goes : goal.returns-clause-goes
returns-clause-goes c act at row e =
    let moved = c.go_on.ensures.goes act at in
    c.set_row.ensures.is c.args.p.now row (ap (λ (s : run.State). slice_get s.tokens c.args.monitor) moved ∙ e)
    ∙ ap (λ (s : run.State). record s { tokens = slice_set s.tokens c.args.monitor (slice_set row c.args.t c.args.held) }) moved
