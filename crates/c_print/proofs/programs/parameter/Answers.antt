use Rattle.c_print.proofs.ProgramTexts.{parameter_text}
use Rattle.c_print.proofs.programs.parameter.Goals as goal

pub returns : goal.returns
returns c =
    parameter_text c.args.out.now.items c.parameter_type.new.out.items c.put_name.new.out.items c.args.kind c.args.name.now
    c.in_ok-parameter_type.ensures c.in_ok-put_name.ensures
