use Rattle.std.proofs.Common.{◌≡◌, length}
use Rattle.parse_laws.specs.Sums.{tall}
use Rattle.parse_laws.specs.SumParser.{more_sums}
use Rattle.parse_laws.specs.Promise.{max_levels}
use Rattle.parse_laws.proofs.parse.more.Given as goal

abbrev pub invariant-turns : goal.invariant-turns
invariant-turns l = record {
  gives : more_sums max_levels l.fn.all l.tokens ≡ more_sums max_levels (tall l.tree l.height) l.rest;
}

abbrev pub decreases-turns : goal.decreases-turns
decreases-turns l = length l.rest
