use Rattle.std.proofs.Common.{◌≡◌, [], ◌∷◌, length, sym, ap, subst, arith}
use Rattle.std.proofs.lemmas.List.{length-append}
use Rattle.std.proofs.lemmas.List.Elements.{All-push}
use Rattle.place_sets.specs.declared.row.BitRow.{BitRow}
use Rattle.siphon_enum.specs.Rows.{HaveSize}
use Rattle.siphon_enum.proofs.room.empty_rows.Goals as goal

pub loop-preserved : goal.loop-preserved
loop-preserved c =
    let row = c.in_ok-empty.field-0 in
    let items = c.in_ok-push.ensures.items in
    record {
      count = omega (arith, ap length items, length-append c.loop.rows.items (row ∷ []), c.loop.invariant.count);
      sizes = subst (HaveSize (λ (x : BitRow). x.size) c.args.places) (sym items) (All-push (λ (x : BitRow). x.size ≡ c.args.places) c.loop.rows.items row c.loop.invariant.sizes c.in_ok-empty.ensures.bound);
    }
