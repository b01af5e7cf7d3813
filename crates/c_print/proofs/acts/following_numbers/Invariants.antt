use Rattle.std.proofs.Common.{◌≡◌, ◌++◌, drop, map}
use Rattle.c_canonical.specs.Expressions.{followed, numeral}
use Rattle.c_layout.specs.Layout.{text}
use Rattle.c_print.proofs.acts.following_numbers.Given as goal

-- what is added and what is left make the whole
abbrev pub invariant-loop-n : goal.invariant-loop-n
invariant-loop-n l = l.out.items ++ text (followed (map numeral (drop l.n-index l.ns))) ≡ l.fn.out.items ++ text (followed (map numeral l.ns))
