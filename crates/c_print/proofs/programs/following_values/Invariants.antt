use Rattle.std.proofs.Common.{◌≡◌, ◌++◌, drop, map}
use Rattle.c_canonical.specs.Expressions.{followed}
use Rattle.c_canonical.specs.Programs.{value}
use Rattle.c_layout.specs.Layout.{text}
use Rattle.c_print.proofs.programs.following_values.Given as goal

-- what is added and what is left make the whole
abbrev pub invariant-loop-v : goal.invariant-loop-v
invariant-loop-v l = l.out.items ++ text (followed (map value (drop l.v-index l.vs))) ≡ l.fn.out.items ++ text (followed (map value l.vs))
