use Rattle.std.proofs.Common.{length}
use Rattle.state_parts.proofs.arguments.+more_values.Given as goal

-- fewer expressions are left
abbrev pub decreases-more_values : goal.decreases-more_values
decreases-more_values l = length l.es.now
