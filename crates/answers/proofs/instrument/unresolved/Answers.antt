use Rattle.c_tree.specs.Lined.{program_of}
use Rattle.context_walk.specs.declared.marks.ContextError.TheVariants as error
use Rattle.answers.proofs.Declined.{unresolved_at, many_contexts, refused_so}
use Rattle.answers.proofs.instrument.unresolved.Goals as goal

pub returns-in-LockNotResolved : goal.returns-in-LockNotResolved
returns-in-LockNotResolved c =
    unresolved_at c.args.name.now c.args.bytes.now c.refused.result (program_of c.args.program.now) c.in-LockNotResolved.line c.requires.spells
    (refused_so (program_of c.args.program.now) c.args.error (error.LockNotResolved c.in-LockNotResolved.line) c.requires.refused c.in-LockNotResolved.is) c.refused.ensures

pub returns-in-TooManyContexts : goal.returns-in-TooManyContexts
returns-in-TooManyContexts c =
    many_contexts c.args.name.now c.args.bytes.now c.limited.result (program_of c.args.program.now) c.requires.spells
    (refused_so (program_of c.args.program.now) c.args.error error.TooManyContexts c.requires.refused c.in-TooManyContexts.is) c.limited.ensures
