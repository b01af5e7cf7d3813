use Rattle.std.proofs.Common.{◌≡◌, length}
use Rattle.place_sets.specs.declared.row.BitRow.{BitRow}
use Rattle.siphon_enum.specs.Rows.{HaveSize}
use Rattle.siphon_enum.proofs.room.empty_rows.Given as goal

abbrev pub invariant-loop : goal.invariant-loop
invariant-loop l = record {
  count : length l.rows.items ≡ l.counter;
  sizes : HaveSize (λ (row : BitRow). row.size) l.places l.rows.items;
}
