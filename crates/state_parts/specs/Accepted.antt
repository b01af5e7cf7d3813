-- Programs that are accepted.
use Rattle.c_tree.specs.declared.program.Program.{Program}
use Rattle.c_tree.specs.declared.program.Mode.TheVariants.{Any}
use Rattle.c_tree.specs.Lined.{program_of}
use Rattle.c_rules.specs.Formed.{Formed}

-- no rule is broken, and each count is within its number
abbrev pub Accepted : Program → Type 0
Accepted p = Formed (program_of p) Any
