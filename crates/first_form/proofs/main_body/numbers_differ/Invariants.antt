use Rattle.std.proofs.Common.{◌≡◌, length}
use Rattle.first_form.specs.FirstForm.{numbers_differ}
use Rattle.first_form.proofs.main_body.numbers_differ.Given as goal

-- what is left differs just where all do
abbrev pub invariant-loop-first : goal.invariant-loop-first
invariant-loop-first l = numbers_differ l.rest ≡ numbers_differ l.numbers

abbrev pub decreases-loop-first : goal.decreases-loop-first
decreases-loop-first l = length l.rest
