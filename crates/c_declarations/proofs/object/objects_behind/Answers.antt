use Rattle.std.proofs.Common.{arith}
use Rattle.c_expressions.specs.Gives.{sight}
use Rattle.c_declarations.proofs.Shorter.{less_length}
use Rattle.c_declarations.proofs.object.objects_behind.Goals as goal

pub objects_end-requires : goal.objects_end-requires
objects_end-requires c =
    let le = (less_length (sight c.args.setting)).spelled c.args.tokens.now _ c.in_ok-len.rest.now c.in_ok-len.ensures in
    record { few = omega (arith, le, c.requires.few) }
