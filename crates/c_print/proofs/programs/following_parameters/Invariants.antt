use Rattle.std.proofs.Common.{◌≡◌, ◌++◌, drop, map}
use Rattle.c_canonical.specs.Expressions.{followed}
use Rattle.c_canonical.specs.Programs.{parameter}
use Rattle.c_layout.specs.Layout.{text}
use Rattle.c_print.proofs.programs.following_parameters.Given as goal

-- what is added and what is left make the whole
abbrev pub invariant-loop-name : goal.invariant-loop-name
invariant-loop-name l = l.out.items ++ text (followed (map (parameter l.kind) (drop l.name-index l.names))) ≡ l.fn.out.items ++ text (followed (map (parameter l.kind) l.names))
