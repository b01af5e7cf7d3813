use Rattle.std.proofs.Common.{◌≡◌, ◌≤◌, ◌+◌, drop, map}
use Rattle.std.specs.Prelude.{min, sum}
use Rattle.c_tree.specs.Lined.{bare_function, function_of}
use Rattle.first_form.specs.Size.{function_tokens}
use Rattle.first_form.proofs.size.functions_tokens.Given as goal

-- the tokens so far, and those of what is left
abbrev pub invariant-functions : goal.invariant-functions
invariant-functions l = (l.tokens ≤ 65537) × (min (l.tokens + sum (map function_tokens (map bare_function (map function_of (drop l.f-index l.functions))))) 65537 ≡ min (sum (map function_tokens (map bare_function (map function_of l.functions)))) 65537)
