use Rattle.std.proofs.Common.{arith}
use Rattle.place_sets.proofs.row.BitRowPlaceSet.count.Goals as goal

pub count_places-requires : goal.count_places-requires
count_places-requires c =
    let set = c.args.self.now in
    record {
      long = omega (arith, c.deref.ensures.len, set.long);
      within = λ place above. rw c.deref.ensures.value (set.within place above);
    }
