use Rattle.std.proofs.Common.{◌≡◌, ◌++◌, drop}
use Rattle.std.specs.List.{flat_map}
use Rattle.c_tree.specs.Lined.{bare_function, function_of}
use Rattle.c_canonical.specs.Programs.{function}
use Rattle.c_layout.specs.Layout.{text}
use Rattle.c_print.proofs.programs.functions.Given as goal

-- what is added and what is left make the whole
abbrev pub invariant-loop-f : goal.invariant-loop-f
invariant-loop-f l = l.out.items ++ text (flat_map (λ f. function (bare_function (function_of f))) (drop l.f-index l.fs)) ≡ l.fn.out.items ++ text (flat_map (λ f. function (bare_function (function_of f))) l.fs)
