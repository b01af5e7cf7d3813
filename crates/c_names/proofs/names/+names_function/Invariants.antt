use Rattle.std.proofs.Common.{length}
use Rattle.c_names.proofs.names.+names_function.Given as goal

abbrev pub decreases-names_function : goal.decreases-names_function
decreases-names_function l = length l.name.now
