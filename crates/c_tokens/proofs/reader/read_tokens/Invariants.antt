use Rattle.std.proofs.Common.{◌≤◌, ◌-◌, length}
use Rattle.c_tokens.specs.Reader.{Stands}
use Rattle.c_tokens.proofs.reader.read_tokens.Given as goal

abbrev pub invariant-loop-token : goal.invariant-loop-token
invariant-loop-token l = Stands l.text l.reader × (length l.reader.marks.items ≤ 65536)

abbrev pub decreases-loop-token : goal.decreases-loop-token
decreases-loop-token l = length l.text - l.reader.at
