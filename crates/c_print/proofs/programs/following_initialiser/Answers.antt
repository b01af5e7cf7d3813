use Rattle.c_print.proofs.ProgramTexts.{following_initialiser_text}
use Rattle.c_print.proofs.programs.following_initialiser.Goals as goal

pub returns : goal.returns
returns c =
    following_initialiser_text c.args.out.now.items c.put.new.out.items c.put-2.new.out.items c.args.initialiser.now
    c.in_ok-put.ensures c.in_ok-put-2.ensures
