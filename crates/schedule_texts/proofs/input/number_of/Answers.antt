use Rattle.std.proofs.Common.{rules, tests}
use Rattle.std.specs.Str.{IsUtf8}
use Rattle.schedule_texts.specs.Inputs.{IsNumber}
use Rattle.schedule_texts.proofs.Numbers.{number_is_utf8}
use Rattle.schedule_texts.proofs.input.number_of.Goals as goal

pub returns-in_err-ok-clause-none : goal.returns-in_err-ok-clause-none
returns-in_err-ok-clause-none c = let utf8 : IsNumber c.args.word.now → IsUtf8 c.args.word.now = number_is_utf8 c.args.word.now in grind (rules, tests)
