use Rattle.std.proofs.Common.{◌≡◌, length}
use Rattle.first_form.specs.FirstForm.{is_main_body}
use Rattle.first_form.specs.Shown.{shown, shown_body}
use Rattle.first_form.proofs.main_body.is_main_body.Given as goal

-- what is left goes on well just where all of it does
abbrev pub invariant-loop-first : goal.invariant-loop-first
invariant-loop-first l = is_main_body (shown l.p) (shown_body l.rest) ≡ is_main_body (shown l.p) (shown_body l.body)

abbrev pub decreases-loop-first : goal.decreases-loop-first
decreases-loop-first l = length l.rest
