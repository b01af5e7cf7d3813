use Rattle.c_tree.specs.Lined.{bare_array}
use Rattle.c_print.proofs.ProgramTexts.{array_text}
use Rattle.c_print.proofs.programs.array.Goals as goal

pub returns : goal.returns
returns c =
    array_text c.args.out.now.items c.put.new.out.items c.put_name.new.out.items c.length.new.out.items c.all_values.new.out.items c.put-2.new.out.items (bare_array c.args.a.now)
    c.in_ok-put.ensures c.in_ok-put_name.ensures c.in_ok-length.ensures c.in_ok-all_values.ensures c.in_ok-put-2.ensures
