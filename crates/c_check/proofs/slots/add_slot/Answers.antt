use Rattle.std.proofs.Common.{sym, ap, ◌∙◌, option_map}
use Rattle.c_tree.specs.Expressions.{place_of}
use Rattle.c_check.specs.Slots.{shown_key}
use Rattle.c_check.proofs.Kept.{kept}
use Rattle.c_check.proofs.slots.add_slot.Goals as goal

pub returns-in_ok-insert : goal.returns-in_ok-insert
returns-in_ok-insert c = λ other.
    kept c.args.slots.now.keys c.insert.new.self.keys c.in-Some.key (place_of c.args.slot.now) other
    (sym c.key_of.ensures ∙ ap (option_map shown_key) c.in-Some.is) c.in_ok-insert.ensures.keys
