use Rattle.std.specs.Prelude.{Ok, Err}
use Rattle.c_parser.specs.declared.error.ParseError.TheVariants.{Lex, Syntax, TooDeep, TooManyTokens}
use Rattle.c_parser.specs.Answer.{shown}
use Rattle.c_parser.proofs.OneAnswer.{answer_is}
use Rattle.c_parser.proofs.parser.parse.Goals as goal

pub returns-clause-program : goal.returns-clause-program
returns-clause-program c = λ p y. answer_is c.args.text.now (shown c.parse_tokens.result) (Ok p) c.parse_tokens.ensures.cause tt y

pub returns-clause-lex : goal.returns-clause-lex
returns-clause-lex c = λ e y. answer_is c.args.text.now (shown c.parse_tokens.result) (Err (Lex e)) c.parse_tokens.ensures.cause tt y

pub returns-clause-syntax : goal.returns-clause-syntax
returns-clause-syntax c = λ on y. answer_is c.args.text.now (shown c.parse_tokens.result) (Err (Syntax on)) c.parse_tokens.ensures.cause tt y

pub returns-clause-too_deep : goal.returns-clause-too_deep
returns-clause-too_deep c = λ on y. answer_is c.args.text.now (shown c.parse_tokens.result) (Err (TooDeep on)) c.parse_tokens.ensures.cause tt y

pub returns-clause-too_many : goal.returns-clause-too_many
returns-clause-too_many c = λ y. answer_is c.args.text.now (shown c.parse_tokens.result) (Err TooManyTokens) c.parse_tokens.ensures.cause tt y
