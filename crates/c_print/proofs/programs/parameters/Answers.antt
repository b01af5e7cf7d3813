use Rattle.c_print.proofs.ProgramTexts.{parameters_text}
use Rattle.c_print.proofs.programs.parameters.Goals as goal

pub returns-in_ok-following_parameters-in-Some : goal.returns-in_ok-following_parameters-in-Some
returns-in_ok-following_parameters-in-Some c =
    parameters_text c.args.out.now.items c.parameter.new.out.items c.following_parameters.new.out.items c.args.kind c.args.names.now c.in-Some.first.now c.in-Some.more.now c.in-Some.ensures.cases.0
    c.in_ok-parameter-in-Some.ensures c.in_ok-following_parameters-in-Some.ensures
