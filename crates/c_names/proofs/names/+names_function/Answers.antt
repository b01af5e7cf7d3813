use Rattle.std.proofs.Common.{sym, arith}
use Rattle.std.proofs.lemmas.List.{length-take}
use Rattle.c_names.proofs.Originals.{names_plain, names_copy, names_no_copy}
use Rattle.c_names.proofs.names.+names_function.Goals as goal

pub returns-in-None : goal.returns-in-None
returns-in-None t c = names_plain c.args.name.now (sym c.if-is_kept.ensures) c.in-None.ensures.front

pub returns-then-not-is_original : goal.returns-then-not-is_original
returns-then-not-is_original t c =
    names_no_copy c.args.name.now _ (sym c.if-is_kept.ensures) c.in-Some.ensures.front (sym c.if-not-is_original.ensures)

pub returns-else-not-is_original : goal.returns-else-not-is_original
returns-else-not-is_original t c =
    names_copy c.args.name.now _ c.names_function.result (sym c.if-is_kept.ensures) c.in-Some.ensures.front
    (omega (arith, length-take c.in-Some.len c.args.name.now, c.in-Some.ensures.shorter)) (sym c.if-not-is_original.ensures) c.names_function.ensures
