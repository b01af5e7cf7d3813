-- The net of a program's flow.
use Rattle.std.specs.Prelude.{ℕ, List, ◌++◌, replicate}
use Rattle.c_tree.specs.Lined.{Program, bare_program}
use Rattle.c_tree.specs.Numbering.{mutex_count}
use Rattle.net_laws.specs.Net.{Net}
use Rattle.outline_pieces.specs.declared.flow_parts.FlowParts.{FlowParts}
use Rattle.outline_pieces.specs.Nets.{parts_net}

-- how many tokens each resource has, in order: each mutex one, and behind them each monitor its capacity
abbrev pub tokens_in : Program → List ℕ
tokens_in p = replicate (mutex_count (bare_program p)) 1 ++ p.monitors

-- the net of a flow, with these tokens
abbrev pub net_in : Program → FlowParts → Net
net_in p flow = parts_net (mutex_count (bare_program p)) (tokens_in p) flow
