use Rattle.std.proofs.Common.{◌≡◌, true, arith}
use Rattle.std.proofs.lemmas.Grind.{common_steps}
use Rattle.command_words.specs.Words.{is_number}
use Rattle.command_words.proofs.Numbers.{fits}
use Rattle.command_words.proofs.task.number_of.Goals as goal

pub returns-in-Err : goal.returns-in-Err
returns-in-Err c =
    let number : is_number c.args.word.now ≡ true = grind (arith, common_steps) in
    absurd (c.in-Err.ensures.value.0 (fits c.args.word.now number))
