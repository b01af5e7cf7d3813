use Rattle.c_expressions.specs.Gives.{tall_of}
use Rattle.c_tree.specs.Lined.{program_of}
use Rattle.std.proofs.Common.{ap}
use Rattle.std.specs.Prelude.{Err}
use Rattle.c_parser.proofs.Parses.{few_tokens, parsed_whole, parsed_part, parsed_failed, refused}
use Rattle.c_programs.specs.Gives.{views}
use Rattle.c_parser.proofs.FewFunctions.{few_functions, few_answered}
use Rattle.c_parser.proofs.parser.parse_tokens.Goals as goal

pub program-requires-clause-few : goal.program-requires-clause-few
program-requires-clause-few c = rw c.deref.ensures.value (few_tokens c.args.text.now c.args.tokens.now c.requires.read)

pub returns-in-Ok-clause-cause : goal.returns-in-Ok-clause-cause
returns-in-Ok-clause-cause c =
    parsed_whole c.args.text.now c.args.tokens.now c.requires.read c.deref.result.now c.last_line-line.result c.deref.ensures.value c.last_line-line.ensures c.in-Ok.rest.now (tall_of program_of c.in-Ok.program) _ c.in-Ok.ensures c.if-is_empty.ensures c.when_read.ensures.is

pub returns-in-Ok-clause-few : goal.returns-in-Ok-clause-few
returns-in-Ok-clause-few c =
    few_answered c.when_read.result c.in-Ok.program.tree 65536 c.when_read.ensures.same
    (few_functions (views c.args.text.now) 64 c.last_line-line.result 65536 c.deref.result.now c.in-Ok.rest.now (tall_of program_of c.in-Ok.program) c.in-Ok.ensures
    (rw c.deref.ensures.value (few_tokens c.args.text.now c.args.tokens.now c.requires.read)))

pub returns-in-Ok-2-clause-cause : goal.returns-in-Ok-2-clause-cause
returns-in-Ok-2-clause-cause c =
    parsed_part c.args.text.now c.args.tokens.now c.requires.read c.deref.result.now c.last_line-line.result c.deref.ensures.value c.last_line-line.ensures c.in-Ok.rest.now (tall_of program_of c.in-Ok.program) _ c.in-Ok.ensures c.if-is_empty.ensures (ap Err c.when_left.ensures)

pub returns-in-Err-At-clause-cause : goal.returns-in-Err-At-clause-cause
returns-in-Err-At-clause-cause c =
    parsed_failed c.args.text.now c.args.tokens.now c.requires.read c.deref.result.now c.last_line-line.result c.deref.ensures.value c.last_line-line.ensures c.in-Err-At.rest.now c.in-Err-At.fault _ (refused c.in-Err-At.field-0 c.in-Err-At.fault c.in-Err-At.rest _ c.in-Err-At.field-0-is c.in-Err-At.ensures) (ap Err c.when_left-in-Err-At.ensures)
