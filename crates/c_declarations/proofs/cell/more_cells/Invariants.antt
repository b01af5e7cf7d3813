use Rattle.std.proofs.Common.{◌≡◌, length}
use Rattle.c_expressions.specs.Gives.{sight}
use Rattle.c_declarations.specs.Words.{int_holds}
use Rattle.c_declarations.specs.Parsers.{more, with_declared, cell}
use Rattle.c_declarations.proofs.cell.more_cells.Given as goal

abbrev pub invariant-turns : goal.invariant-turns
invariant-turns l = record {
  gives : more (sight l.setting) (cell (sight l.setting) int_holds) with_declared l.fn.all l.tokens ≡ more (sight l.setting) (cell (sight l.setting) int_holds) with_declared l.all l.rest;
}

abbrev pub decreases-turns : goal.decreases-turns
decreases-turns l = length l.rest
