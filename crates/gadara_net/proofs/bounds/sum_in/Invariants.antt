use Rattle.std.proofs.Common.{◌≡◌, ◌-◌, ◌^◌, take, min}
use Rattle.net_laws.specs.Lines.{parts_of}
use Rattle.gadara_net.specs.Flows.{flow_net}
use Rattle.gadara_net.proofs.bounds.sum_in.Given as goal

abbrev pub invariant-loop-part : goal.invariant-loop-part
invariant-loop-part l = l.sum ≡ min (parts_of (flow_net l.flow) (take l.part-index l.parts)) (2 ^ 128 - 1)
