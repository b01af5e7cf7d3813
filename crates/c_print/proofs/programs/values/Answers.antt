use Rattle.std.proofs.Common.{arith, rules}
use Rattle.std.proofs.lemmas.Grind.{common_steps}
use Rattle.c_print.proofs.ProgramTexts.{values_text}
use Rattle.c_print.proofs.programs.values.Goals as goal

pub returns-in_ok-put-in-Some-2 : goal.returns-in_ok-put-in-Some-2
returns-in_ok-put-in-Some-2 c =
    values_text c.args.out.now.items c.put.new.out.items c.put_value.new.out.items c.following_values.new.out.items c.put-in-Some.new.out.items
    c.args.vs.now c.in-Some.first.now c.in-Some.more.now c.in-Some.ensures.cases.0
    c.in_ok-put-in-Some.ensures (first_of (search rules, grind (arith, common_steps))) c.in_ok-following_values-in-Some.ensures c.in_ok-put-in-Some-2.ensures
