use Rattle.c_tree.specs.Lined.{program_of}
use Rattle.c_check.specs.declared.answer.CheckError.TheVariants as check_error
use Rattle.answers.proofs.Declined.{refused_at, limited_at, refused_as, broken_rule, passed_count}
use Rattle.answers.proofs.program.malformed.Goals as goal

pub returns-in-Rule : goal.returns-in-Rule
returns-in-Rule c =
    let program = program_of c.args.program.now in
    refused_at c.args.mode c.args.name.now c.args.bytes.now c.refused.result c.in-Rule.line c.reason_of_rule.result.now c.refused.ensures
    (broken_rule c.args.mode c.args.name.now c.args.bytes.now program c.in-Rule.rule c.in-Rule.line c.reason_of_rule.result.now c.requires.spelled
    (refused_as c.args.mode c.args.name.now c.args.bytes.now program c.args.error (check_error.Rule c.in-Rule.rule c.in-Rule.line) c.requires.refused c.in-Rule.is) c.reason_of_rule.ensures)

pub returns-in-TooMany : goal.returns-in-TooMany
returns-in-TooMany c =
    let program = program_of c.args.program.now in
    limited_at c.args.mode c.args.name.now c.args.bytes.now c.limited.result c.name_of_count.result.now c.in-TooMany.limit c.limited.ensures
    (passed_count c.args.mode c.args.name.now c.args.bytes.now program c.in-TooMany.what c.in-TooMany.limit c.name_of_count.result.now c.requires.spelled
    (refused_as c.args.mode c.args.name.now c.args.bytes.now program c.args.error (check_error.TooMany c.in-TooMany.what c.in-TooMany.limit) c.requires.refused c.in-TooMany.is) c.name_of_count.ensures)
