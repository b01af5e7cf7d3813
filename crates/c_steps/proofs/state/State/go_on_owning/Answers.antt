use Rattle.std.proofs.Common.{ap, ◌∙◌}
use Rattle.std.specs.Prelude.{slice_set}
use Rattle.c_meaning.specs.State as run
use Rattle.c_steps.proofs.Effects.{is_one, owner_is_one}
use Rattle.c_steps.proofs.state.State.go_on_owning.Goals as goal

pub returns-clause-goes : goal.returns-clause-goes
returns-clause-goes c act at =
    c.set_owner.ensures.is c.args.p.now ∙ ap (λ (s : run.State). record s { owners = slice_set s.owners c.args.mutex c.args.owner }) (c.go_on.ensures.goes act at)

pub returns-clause-kept : goal.returns-clause-kept
returns-clause-kept c act at own =
    c.set_owner.ensures.kept c.args.p.now c.go_on.ensures.kept
    (owner_is_one c.args.p.now c.args.self.now c.go_on.new.self c.args.t _ c.args.owner (c.go_on.ensures.goes act at) (is_one c.args.p.now c.args.self.now c.args.t act at) own)
