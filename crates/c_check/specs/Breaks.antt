-- All that is noted of a program.
use Rattle.std.specs.Prelude.{ℕ, List, ◌++◌, length, None}
use Rattle.std.specs.declared.option.Option.{Option}
use Rattle.std.specs.List.{enumerate_from}
use Rattle.c_tree.specs.declared.program.Mode.{Mode}
use Rattle.c_tree.specs.Lined.{Program}
use Rattle.c_rules.specs.Declarations.{Declaration, outer}
use Rattle.c_acts.specs.declared.first.Break.{Break}
use Rattle.c_check.specs.Functions.{functions_breaks}
use Rattle.c_check.specs.Outer.{all_joined, outer_breaks, part_breaks}

abbrev pub none_told : List ℕ → Option Declaration
none_told name = None

abbrev pub all_breaks : Program → Mode → List Break
all_breaks p mode =
    outer_breaks mode none_told (outer p)
    ++ (part_breaks mode p ++ functions_breaks (all_joined none_told (outer p)) mode (length p.monitors) (enumerate_from 0 p.functions))
