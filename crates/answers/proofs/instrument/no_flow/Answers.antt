use Rattle.c_tree.specs.Lined.{program_of}
use Rattle.outline_pieces.specs.declared.error.FlowError.TheVariants as flow_error
use Rattle.answers.proofs.Declined.{flow_error_so, many_points, held_at}
use Rattle.answers.proofs.instrument.no_flow.Goals as goal

pub returns-in-TooManyPoints : goal.returns-in-TooManyPoints
returns-in-TooManyPoints c =
    many_points c.args.name.now c.args.bytes.now c.limited.result (program_of c.args.program.now) c.requires.spells
    (flow_error_so (program_of c.args.program.now) c.args.error flow_error.TooManyPoints c.requires.refused c.in-TooManyPoints.is) c.limited.ensures

pub returns-in-Held : goal.returns-in-Held
returns-in-Held c =
    held_at c.args.name.now c.args.bytes.now c.refused.result (program_of c.args.program.now) c.in-Held.kind c.in-Held.line c.reason_of_held.result.now c.requires.spells
    (flow_error_so (program_of c.args.program.now) c.args.error (flow_error.Held c.in-Held.kind c.in-Held.line) c.requires.refused c.in-Held.is)
    c.reason_of_held.ensures c.refused.ensures
