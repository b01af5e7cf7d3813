use Rattle.c_print.proofs.ProgramTexts.{one_initialiser_text}
use Rattle.c_print.proofs.programs.one_initialiser.Goals as goal

pub returns : goal.returns
returns c =
    one_initialiser_text c.args.out.now.items c.put.new.out.items c.put-2.new.out.items c.args.initialiser.now c.args.given
    c.in_ok-put.ensures c.in_ok-put-2.ensures
