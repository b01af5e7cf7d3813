use Rattle.c_print.proofs.ProgramTexts.{next_number_text}
use Rattle.c_print.proofs.acts.next_number.Goals as goal

pub returns : goal.returns
returns c =
    next_number_text c.args.out.now.items c.put.new.out.items c.put_number.new.out.items c.args.n
    c.in_ok-put.ensures c.in_ok-put_number.ensures
