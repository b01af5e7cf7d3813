use Rattle.c_tree.specs.Expressions.{expr_of, place_of}
use Rattle.c_tree.specs.Lined.{stmt_of}
use Rattle.c_check.specs.Slots.{has_slot}
use Rattle.c_check.proofs.Shown.{create_of}
use Rattle.c_check.proofs.Kept.{created_more}
use Rattle.c_check.proofs.own.add_created.Goals as goal

pub returns-in_ok-add_slot : goal.returns-in_ok-add_slot
returns-in_ok-add_slot c =
    created_more (has_slot c.args.created.now) (has_slot c.add_slot.new.slots) (place_of c.in-Create.slot) (stmt_of c.args.s.now) c.args.s.now.line c.in-Create.function (expr_of c.in-Create.arg) c.in_ok-add_slot.ensures
    (create_of c.args.s.now c.in-Create.slot c.in-Create.function c.in-Create.arg c.in-Create.is)
