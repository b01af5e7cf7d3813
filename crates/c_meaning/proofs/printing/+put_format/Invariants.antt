use Rattle.std.proofs.Common.{length}
use Rattle.c_meaning.proofs.printing.+put_format.Given as goal

-- what is left of the format gets shorter
abbrev pub decreases-put_format : goal.decreases-put_format
decreases-put_format l = length l.format.now
