use Rattle.c_tree.specs.Expressions.{place_of}
use Rattle.c_rules.specs.declared.role.Role.TheVariants.{OfMutex, OfCondition}
use Rattle.c_rules.specs.Uses.{of_place}
use Rattle.c_names.specs.Tables.{in_scope}
use Rattle.c_acts.specs.Uses.{around}
use Rattle.c_acts.proofs.Noted.{noted_uses}
use Rattle.c_acts.proofs.acts.check_places.Goals as goal

pub returns : goal.returns
returns c =
    let a = around c.args.at.now in
    let inside = in_scope c.args.scope.now in
    noted_uses a inside c.args.line c.args.first.now c.check_place.new.first c.check_place-2.new.first (of_place OfCondition (place_of c.args.cond.now))
    (of_place OfMutex (place_of c.args.mutex.now)) c.check_place.ensures c.check_place-2.ensures
