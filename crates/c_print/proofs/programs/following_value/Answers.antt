use Rattle.std.proofs.Common.{arith, rules}
use Rattle.std.proofs.lemmas.Grind.{common_steps}
use Rattle.c_print.proofs.ProgramTexts.{following_value_text}
use Rattle.c_print.proofs.programs.following_value.Goals as goal

pub returns : goal.returns
returns c =
    following_value_text c.args.out.now.items c.put.new.out.items c.put_value.new.out.items c.args.v
    c.in_ok-put.ensures (first_of (search rules, grind (arith, common_steps)))
