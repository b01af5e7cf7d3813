use Rattle.c_print.proofs.ProgramTexts.{length_text}
use Rattle.c_print.proofs.programs.length.Goals as goal

pub returns : goal.returns
returns c =
    length_text c.args.out.now.items c.put.new.out.items c.put_number.new.out.items c.put-2.new.out.items c.args.n
    c.in_ok-put.ensures c.in_ok-put_number.ensures c.in_ok-put-2.ensures
