use Rattle.std.proofs.Common.{◌≡◌, ◌++◌, drop}
use Rattle.first_form.specs.FirstForm.{created}
use Rattle.first_form.specs.Shown.{shown_body}
use Rattle.first_form.proofs.main_body.created.Given as goal

-- the indices so far, and those of what is left
abbrev pub invariant-loop-s : goal.invariant-loop-s
invariant-loop-s l = l.indices.items ++ created (shown_body (drop l.s-index l.body)) ≡ created (shown_body l.body)
