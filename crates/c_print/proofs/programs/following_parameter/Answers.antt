use Rattle.c_print.proofs.ProgramTexts.{following_parameter_text}
use Rattle.c_print.proofs.programs.following_parameter.Goals as goal

pub returns : goal.returns
returns c =
    following_parameter_text c.args.out.now.items c.put.new.out.items c.parameter.new.out.items c.args.kind c.args.name.now
    c.in_ok-put.ensures c.in_ok-parameter.ensures
