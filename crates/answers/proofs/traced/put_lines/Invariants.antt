use Rattle.std.proofs.Common.{◌≡◌, ◌++◌, drop}
use Rattle.answers.specs.Traced.{lined}
use Rattle.answers.proofs.traced.put_lines.Given as goal

-- what was written so far, and the lines that are left, are all lines
abbrev pub invariant-loop-line : goal.invariant-loop-line
invariant-loop-line l = l.fn.out.items ++ lined l.lines ≡ l.out.items ++ lined (drop l.line-index l.lines)
