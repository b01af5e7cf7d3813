use Rattle.std.proofs.Common.{◌≡◌}
use Rattle.gadara_net.specs.Flows.{flow_net}
use Rattle.siphon_enum.specs.Rows.{place_count}
use Rattle.net_rows.proofs.siphons.minimal_time.Given as goal

abbrev pub invariant-loop : goal.invariant-loop
invariant-loop l = l.room.places ≡ place_count (flow_net l.net)
