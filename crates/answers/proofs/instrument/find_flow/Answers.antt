use Rattle.answers.proofs.instrument.find_flow.Goals as goal

pub flow_of-requires-clause-small : goal.flow_of-requires-clause-small
flow_of-requires-clause-small c = c.spelled_is_small.ensures c.args.bytes.now c.args.program.now c.requires.spells.spelled
