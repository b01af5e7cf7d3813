use Rattle.std.proofs.Common.{◌≡◌, ◌-◌, ◌^◌, take, min}
use Rattle.gadara_net.specs.Bounds.{point_sum}
use Rattle.gadara_net.proofs.bounds.sum_at.Given as goal

abbrev pub invariant-loop-part : goal.invariant-loop-part
invariant-loop-part l = l.sum ≡ min (point_sum l.point (take l.part-index l.parts)) (2 ^ 128 - 1)
