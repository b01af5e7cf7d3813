use Rattle.std.proofs.Common.{arith}
use Rattle.c_expressions.specs.Gives.{sight}
use Rattle.c_declarations.proofs.Shorter.{less_object}
use Rattle.c_declarations.proofs.object.objects.Goals as goal

pub more_objects-requires : goal.more_objects-requires
more_objects-requires c =
    let le = (less_object (sight c.args.setting) c.args.sort).spelled c.args.tokens.now _ c.in_ok-first.rest.now c.in_ok-first.ensures in
    record { few = omega (arith, le, c.requires.few) }
