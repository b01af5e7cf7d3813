use Rattle.std.proofs.Common.{Some}
use Rattle.std.proofs.lemmas.Map.Text.{hash_map_updates_str}
use Rattle.flow_graph.proofs.routes.put.Goals as goal

pub returns : goal.returns
returns c = hash_map_updates_str c.args.name.now c.args.places.now c.insert.new.self (Some c.args.k) c.in_ok-insert.ensures.updates
