use Rattle.std.proofs.Common.{◌≡◌, [], drop}
use Rattle.first_form.specs.FirstForm.{nested_line}
use Rattle.c_tree.specs.Lined.{stmts_of}
use Rattle.first_form.specs.Shown.{shown}
use Rattle.first_form.specs.Sets.{texts}
use Rattle.first_form.specs.Locks.{AreHeld, above}
use Rattle.first_form.proofs.locks.nested_line.Given as goal

-- the names are those of what is held here, and the line is looked for in what is left
abbrev pub invariant-loop-s : goal.invariant-loop-s
invariant-loop-s l =
    AreHeld (texts l.held.names.items) (above l.body l.s-index)
    × (nested_line (shown l.scope.program.now) (above l.body l.s-index) (stmts_of (drop l.s-index l.body)) ≡ nested_line (shown l.scope.program.now) [] (stmts_of l.body))
