use Rattle.c_tree.specs.Expressions.{place_of}
use Rattle.c_tree.specs.Lined.{stmt_of}
use Rattle.c_check.specs.Slots.{has_slot}
use Rattle.c_check.proofs.Shown.{join_of}
use Rattle.c_check.proofs.Kept.{joined_more}
use Rattle.c_check.proofs.own.add_joined.Goals as goal

pub returns-in_ok-add_slot : goal.returns-in_ok-add_slot
returns-in_ok-add_slot c =
    joined_more (has_slot c.args.joined.now) (has_slot c.add_slot.new.slots) (place_of c.in-Join.slot) (stmt_of c.args.s.now) c.args.s.now.line c.in_ok-add_slot.ensures
    (join_of c.args.s.now c.in-Join.slot c.in-Join.is)
