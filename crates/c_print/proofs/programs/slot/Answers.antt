use Rattle.c_tree.specs.Lined.{bare_slot}
use Rattle.c_print.proofs.ProgramTexts.{slot_text}
use Rattle.c_print.proofs.programs.slot.Goals as goal

pub returns : goal.returns
returns c =
    slot_text c.args.out.now.items c.put.new.out.items c.put_name.new.out.items c.length_of.new.out.items c.put-2.new.out.items (bare_slot c.args.t.now)
    c.in_ok-put.ensures c.in_ok-put_name.ensures c.in_ok-length_of.ensures c.in_ok-put-2.ensures
