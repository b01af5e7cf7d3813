use Rattle.std.proofs.Common.{ap, ◌∙◌, ◌++◌}
use Rattle.c_tree.specs.Expressions.{place_of}
use Rattle.c_rules.specs.declared.role.Role.TheVariants.{OfMutex, OfCondition}
use Rattle.c_rules.specs.Uses.{of_place}
use Rattle.c_names.specs.Tables.{in_scope}
use Rattle.c_acts.specs.First.{noted_all}
use Rattle.c_acts.specs.Uses.{around, uses_breaks}
use Rattle.c_acts.specs.Acts.{takes_breaks}
use Rattle.c_acts.proofs.Noted.{noted_both}
use Rattle.c_acts.proofs.acts.check_wait.Goals as goal

pub returns : goal.returns
returns c =
    let a = around c.args.at.now in
    let inside = in_scope c.args.scope.now in
    noted_both c.args.first.now c.check_places.new.first c.check_takes.new.first
    (uses_breaks a inside c.args.line (of_place OfCondition (place_of c.args.cond.now) ++ of_place OfMutex (place_of c.args.mutex.now))) (takes_breaks a c.args.line c.args.takes.now)
    c.check_places.ensures (c.check_takes.ensures ∙ ap (λ ts. noted_all c.check_places.new.first (takes_breaks a c.args.line ts)) c.as_slice.ensures)
