-- Samples in which several rules are broken.
use Rattle.std.specs.Prelude.{[], ◌∷◌, codes, None}
use Rattle.c_tree.specs.declared.program.Mode.TheVariants as mode
use Rattle.c_tree.specs.Lined.{Declare}
use Rattle.c_rules.specs.declared.rule.Rule.TheVariants.{WrongKind, Unknown, IndexRange}
use Rattle.c_rules.specs.Formed.{FirstBreak}
use Rattle.c_rules.specs.Samples.{array, value, set_x, with_run, with_main}
use Rattle.c_rules.specs.UsingSamples.{call}

pub record Firsts : Type 0 where
  -- main calls itself, which is recursion too
  pub at_one_line : FirstBreak (with_main (call 43 (codes "main") [] ∷ [])) mode.Source WrongKind 43
  pub at_two_lines : FirstBreak (with_run (set_x 31 (value (codes "y")) ∷ Declare 32 (codes "printf") None ∷ [])) mode.Source Unknown 31
  -- the line counts before the order of the rules
  pub by_line : FirstBreak (record (with_run (Declare 31 (codes "printf") None ∷ [])) { arrays = array (codes "q") 0 [] 3 ∷ [] }) mode.Any IndexRange 3
