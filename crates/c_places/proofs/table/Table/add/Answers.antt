use Rattle.std.proofs.Common.{◌≡◌, ◌∙◌, sym, ap, is_some, None, bytes_eq}
use Rattle.std.specs.Map.{lookup}
use Rattle.indexmap.proofs.CallerLemmas.{insert_entry-new}
use Rattle.c_places.specs.declared.table.Table.{Table}
use Rattle.c_places.specs.Tables.{range}
use Rattle.c_places.proofs.Tables.{found_behind, found_already, absent}
use Rattle.c_places.proofs.table.Table.add.Goals as goal
use Rattle.c_places.proofs.table.Table.add.Goals.{then-is_none+in_ok-from_slice+in_ok-insert, else-is_none}

pub returns-clause-found : goal.returns-clause-found
returns-clause-found c = λ n.
    let old = c.args.self.now.ranges in
    let name = c.args.name.now in
    let r = range c.args.self.now.next c.args.len in
    elim c.if-is_none.branch [
      | then-is_none+in_ok-from_slice+in_ok-insert w ↦ (
          let key = w.in_ok-from_slice.field-0 in
          let none : lookup (λ k. bytes_eq name k.items) old.entries ≡ None = sym c.range.ensures ∙ absent c.range.result w.if-is_none.ensures in
          let none_for_key : lookup (λ k. bytes_eq key.items k.items) old.entries ≡ None = ap (λ t. lookup (λ k. bytes_eq t k.items) old.entries) w.in_ok-from_slice.ensures.items ∙ none in
          ap (λ (t : Table). lookup (λ k. bytes_eq n k.items) t.ranges.entries) w.self-is
          ∙ ap (lookup (λ k. bytes_eq n k.items)) (w.in_ok-insert.ensures.entries ∙ insert_entry-new _ old key r none_for_key)
          ∙ found_behind old.entries (λ k. k.items) key r name n w.in_ok-from_slice.ensures.items
          )
      | else-is_none w ↦ (
          ap (λ (t : Table). lookup (λ k. bytes_eq n k.items) t.ranges.entries) w.self-is
          ∙ found_already old.entries (λ k. k.items) r name n (ap is_some (sym c.range.ensures) ∙ w.if-is_none.ensures)
          )
    ]
