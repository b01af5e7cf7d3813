use Rattle.std.proofs.Common.{◌≡◌, drop, map}
use Rattle.first_form.specs.FirstForm.{first_line}
use Rattle.c_tree.specs.Lined.{function_of}
use Rattle.first_form.specs.Shown.{shown}
use Rattle.first_form.proofs.first_nested.Given as goal

-- the line is looked for in what is left
abbrev pub invariant-loop-f : goal.invariant-loop-f
invariant-loop-f l = (l.scope.program.now ≡ l.p) × (first_line (shown l.p) (map function_of (drop l.f-index l.p.functions)) ≡ first_line (shown l.p) (map function_of l.p.functions))
