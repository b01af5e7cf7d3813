use Rattle.std.proofs.Common.{map, drop}
use Rattle.c_places.proofs.Tables.{Leads}
use Rattle.c_places.proofs.table.table_of.Given as goal

-- what is left to number leads to all numbers
abbrev pub invariant-loop-thing : goal.invariant-loop-thing
invariant-loop-thing g l = Leads l.first (map g.T.HasName.named l.things) (map g.T.HasName.named (drop l.thing-index l.things)) l.thing-index l.table
