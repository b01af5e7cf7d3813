use Rattle.c_tree.specs.Expressions.{place_of}
use Rattle.c_rules.specs.declared.role.Role.TheVariants.{OfThread}
use Rattle.c_rules.specs.declared.rule.Rule.TheVariants.{JoinNotFixed}
use Rattle.c_rules.specs.Uses.{of_place}
use Rattle.c_names.specs.Tables.{in_scope}
use Rattle.c_acts.specs.First.{break_if}
use Rattle.c_acts.specs.Uses.{around, uses_breaks}
use Rattle.c_acts.proofs.Noted.{noted_both}
use Rattle.c_acts.proofs.acts.check_join.Goals as goal

pub returns : goal.returns
returns c =
    let a = around c.args.at.now in
    let inside = in_scope c.args.scope.now in
    noted_both c.args.first.now c.check_place.new.first c.note_if.new.first (uses_breaks a inside c.args.line (of_place OfThread (place_of c.args.slot.now)))
    (break_if c.args.unfixed JoinNotFixed c.args.line) c.check_place.ensures c.note_if.ensures
