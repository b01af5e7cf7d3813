use Rattle.std.proofs.Common.{◌≡◌, [], drop, map}
use Rattle.std.specs.List.{list_all}
use Rattle.first_form.specs.FirstForm.{is_balanced}
use Rattle.c_tree.specs.Lined.{function_of, bare_function}
use Rattle.first_form.specs.Shown.{shown}
use Rattle.first_form.proofs.form.has_balanced_locks.Given as goal

-- what is left is balanced just where all is
abbrev pub invariant-loop-f : goal.invariant-loop-f
invariant-loop-f l =
    list_all (λ f. is_balanced (shown l.scope.program.now) [] f.body) (map bare_function (map function_of (drop l.f-index l.functions)))
    ≡ list_all (λ f. is_balanced (shown l.scope.program.now) [] f.body) (map bare_function (map function_of l.functions))
