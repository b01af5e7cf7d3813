use Rattle.std.proofs.Common.{◌≡◌, drop, map}
use Rattle.c_tree.specs.Lined.{function_of, bare_function}
use Rattle.c_canonical.specs.Waits as spec
use Rattle.c_print.proofs.waits.some_waits.Given as goal

-- none so far has a wait that takes tokens
abbrev pub invariant-loop-f : goal.invariant-loop-f
invariant-loop-f l = spec.some_waits (map bare_function (map function_of (drop l.f-index l.fs))) ≡ spec.some_waits (map bare_function (map function_of l.fs))
