use Rattle.std.proofs.Common.{◌≡◌, take, true}
use Rattle.first_form.specs.FirstForm.{all_differ}
use Rattle.first_form.specs.Sets.{texts, Knows}
use Rattle.first_form.proofs.names.distinct_names.Given as goal

-- the set has the names so far, and they differ
abbrev pub invariant-loop-name : goal.invariant-loop-name
invariant-loop-name l = Knows l.set (texts (take l.name-index l.names)) × (all_differ (texts (take l.name-index l.names)) ≡ true)
