use Rattle.std.proofs.Common.{arith, rules}
use Rattle.std.proofs.lemmas.Grind.{common_steps}
use Rattle.c_tree.specs.Lined.{bare_cell}
use Rattle.c_print.proofs.ProgramTexts.{cell_text}
use Rattle.c_print.proofs.programs.cell.Goals as goal

pub returns : goal.returns
returns c =
    cell_text c.args.out.now.items c.put.new.out.items c.put_name.new.out.items c.put-2.new.out.items c.put_value.new.out.items c.put-3.new.out.items (bare_cell c.args.c.now)
    c.in_ok-put.ensures c.in_ok-put_name.ensures c.in_ok-put-2.ensures (first_of (search rules, grind (arith, common_steps))) c.in_ok-put-3.ensures
