use Rattle.std.proofs.Common.{ap, ◌∙◌, ◌||◌}
use Rattle.c_tree.specs.Lined.{stmt_of}
use Rattle.c_check.specs.Own.{past_of}
use Rattle.c_check.specs.Slots.{has_slot}
use Rattle.c_check.proofs.Owned.{past_added}
use Rattle.c_check.proofs.own.Past.add.Goals as goal

pub returns : goal.returns
returns c =
    past_added (past_of c.args.self.now) (stmt_of c.args.s.now) (has_slot c.add_created.new.created) (has_slot c.add_joined.new.joined) c.either-self.result
    c.in_ok-add_created.ensures c.in_ok-add_joined.ensures (c.either-self.ensures ∙ ap (λ b. b || c.args.self.now.active) c.requires)
