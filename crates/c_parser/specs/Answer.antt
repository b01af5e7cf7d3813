-- What is answered of what was read of a text.
use Rattle.std.specs.Prelude.{ℕ, List, [], ◌∷◌, Result, Ok, Err}
use Rattle.c_tree.specs.Lined.{Program, program_of}
use Rattle.c_tree.specs.declared.program.Program as declared
use Rattle.parse_laws.specs.declared.fault.Fault.{Fault}
use Rattle.parse_laws.specs.declared.fault.Fault.TheVariants as fault
use Rattle.c_expressions.specs.declared.token.Marked.{Marked}
use Rattle.c_tokens.specs.declared.reader.End.{End}
use Rattle.c_tokens.specs.declared.reader.End.TheVariants as end
use Rattle.c_parser.specs.declared.error.ParseError.{ParseError}
use Rattle.c_parser.specs.declared.error.ParseError.TheVariants as error

abbrev pub Answer : Type 0
Answer = Result Program ParseError

-- an answer with its program as plain data
abbrev pub shown : Result declared.Program ParseError → Answer
shown (Ok p) = Ok (program_of p)
shown (Err e) = Err e

-- a fault of a token on this line
abbrev pub fault_at : Fault → ℕ → ParseError
fault_at fault.Syntax line = error.Syntax line
fault_at fault.TooDeep line = error.TooDeep line

-- where all tokens were read as a program
abbrev pub when_read : Program → End → Answer
when_read p end.Text = Ok p
when_read p (end.Refused e) = Err (error.Lex e)
when_read p end.Longer = Err error.TooManyTokens

-- where they are none, in a text that ends on this line
abbrev pub when_failed : End → ℕ → ParseError
when_failed end.Text line = error.Syntax line
when_failed (end.Refused e) line = error.Lex e
when_failed end.Longer line = error.TooManyTokens

-- a fault at the first token that is left, or behind the last one
abbrev pub when_left : Fault → List Marked → End → ℕ → ParseError
when_left f [] e line = when_failed e line
when_left f (token ∷ rest) e line = fault_at f token.line
