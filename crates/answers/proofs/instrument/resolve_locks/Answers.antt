use Rattle.answers.proofs.instrument.resolve_locks.Goals as goal

pub resolve-requires-clause-small : goal.resolve-requires-clause-small
resolve-requires-clause-small c = c.spelled_is_small.ensures c.args.bytes.now c.args.program.now c.requires.spells.spelled
