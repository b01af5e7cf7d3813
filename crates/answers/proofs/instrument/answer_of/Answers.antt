use Rattle.c_tree.specs.Lined.{program_of}
use Rattle.answers.proofs.Declined.{nested_at}
use Rattle.answers.proofs.instrument.answer_of.Goals as goal

pub returns-in-Some : goal.returns-in-Some
returns-in-Some c =
    nested_at c.args.name.now c.args.bytes.now c.refused.result (program_of c.args.program.now) _ _ c.in-Some.line c.requires.spells c.requires.flow
    c.in_ok-has_first_text.ensures c.if-not-branch.false c.in_ok-line.ensures c.in-Some.is c.refused.ensures
