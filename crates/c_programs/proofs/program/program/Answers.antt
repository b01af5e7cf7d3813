use Rattle.std.proofs.Common.{arith}
use Rattle.c_programs.specs.Gives.{views}
use Rattle.c_programs.proofs.Shorter.{less_first}
use Rattle.c_programs.proofs.program.program.Goals as goal

pub outer_parts-requires : goal.outer_parts-requires
outer_parts-requires c =
    let le = (less_first (views c.args.text.now) c.args.room _).spelled c.args.tokens.now _ c.in_ok-program.rest.now c.in_ok-program.ensures in
    record { room = c.requires.room; few = omega (arith, le, c.requires.few) }
