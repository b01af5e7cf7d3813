use Rattle.std.proofs.Common.{◌≡◌, [], drop}
use Rattle.first_form.specs.FirstForm.{is_balanced}
use Rattle.first_form.specs.Shown.{shown, shown_body}
use Rattle.first_form.specs.Sets.{texts}
use Rattle.first_form.specs.Locks.{AreHeld, above}
use Rattle.first_form.proofs.locks.is_balanced.Given as goal

-- the names are those of what is held here, and what is left is balanced just where all of it is
abbrev pub invariant-loop-s : goal.invariant-loop-s
invariant-loop-s l =
    AreHeld (texts l.held.names.items) (above l.body l.s-index)
    × (is_balanced (shown l.scope.program.now) (above l.body l.s-index) (shown_body (drop l.s-index l.body)) ≡ is_balanced (shown l.scope.program.now) [] (shown_body l.body))
