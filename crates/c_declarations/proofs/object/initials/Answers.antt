use Rattle.std.proofs.Common.{arith}
use Rattle.c_expressions.specs.Gives.{sight}
use Rattle.c_declarations.proofs.Shorter.{less_initial}
use Rattle.c_declarations.proofs.object.initials.Goals as goal

pub more_initials-requires : goal.more_initials-requires
more_initials-requires c =
    let le = (less_initial (sight c.args.setting) c.args.sort).spelled c.args.tokens.now _ c.in_ok-first.rest.now c.in_ok-first.ensures.gives in
    record { few = omega (arith, le, c.in_ok-first.ensures.one, c.requires.few) }
