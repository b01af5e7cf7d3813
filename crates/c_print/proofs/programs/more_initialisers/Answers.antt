use Rattle.c_print.proofs.ProgramTexts.{more_initialisers_text}
use Rattle.c_print.proofs.programs.more_initialisers.Goals as goal

pub returns : goal.returns
returns c =
    more_initialisers_text c.args.out.now.items c.put.new.out.items c.initialiser_list.new.out.items c.put-2.new.out.items c.args.initialiser.now c.args.len c.args.given
    c.in_ok-put.ensures c.in_ok-initialiser_list.ensures c.in_ok-put-2.ensures
