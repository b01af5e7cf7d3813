use Rattle.std.proofs.Common.{◌-◌, arith}
use Rattle.c_print.proofs.ProgramTexts.{list_text}
use Rattle.c_print.proofs.programs.initialiser_list.Goals as goal

pub returns : goal.returns
returns c =
    list_text c.args.out.now.items c.put.new.out.items c.following_initialisers.new.out.items c.args.initialiser.now c.args.given (c.args.given - 1) (omega arith)
    c.in_ok-put.ensures c.in_ok-following_initialisers.ensures
