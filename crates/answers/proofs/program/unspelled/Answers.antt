use Rattle.std.specs.Prelude.{codes}
use Rattle.c_parser.specs.declared.error.ParseError.TheVariants as error
use Rattle.answers.specs.Programs.{IsRefused, Passes}
use Rattle.answers.proofs.Declined.{refused_at, limited_at, of_error, lexed_at}
use Rattle.answers.proofs.program.unspelled.Goals as goal

pub returns-in-Lex : goal.returns-in-Lex
returns-in-Lex c =
    refused_at c.args.mode c.args.name.now c.args.bytes.now c.refused.result c.line_of.result c.reason_of.result.now c.refused.ensures
    (lexed_at c.args.mode c.args.name.now c.args.bytes.now c.in-Lex.error c.line_of.result c.reason_of.result.now
    (of_error c.args.mode c.args.name.now c.args.bytes.now c.args.error (error.Lex c.in-Lex.error) c.requires c.in-Lex.is) c.line_of.ensures c.reason_of.ensures)

pub returns-in-Syntax : goal.returns-in-Syntax
returns-in-Syntax c =
    refused_at c.args.mode c.args.name.now c.args.bytes.now c.refused-in-Syntax.result c.in-Syntax.line (codes "syntax") c.refused-in-Syntax.ensures
    (IsRefused.syntax (of_error c.args.mode c.args.name.now c.args.bytes.now c.args.error (error.Syntax c.in-Syntax.line) c.requires c.in-Syntax.is))

pub returns-in-TooDeep : goal.returns-in-TooDeep
returns-in-TooDeep c =
    limited_at c.args.mode c.args.name.now c.args.bytes.now c.limited.result (codes "depth") 64 c.limited.ensures
    (Passes.depth (of_error c.args.mode c.args.name.now c.args.bytes.now c.args.error (error.TooDeep c.in-TooDeep.line) c.requires c.in-TooDeep.is))

pub returns-in-TooManyTokens : goal.returns-in-TooManyTokens
returns-in-TooManyTokens c =
    limited_at c.args.mode c.args.name.now c.args.bytes.now c.limited-in-TooManyTokens.result (codes "tokens") 65536 c.limited-in-TooManyTokens.ensures
    (Passes.tokens (of_error c.args.mode c.args.name.now c.args.bytes.now c.args.error error.TooManyTokens c.requires c.in-TooManyTokens.is))
