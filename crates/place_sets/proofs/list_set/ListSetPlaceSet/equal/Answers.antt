use Rattle.std.proofs.Common.{sym, ap, ◌∙◌}
use Rattle.place_sets.specs.Lists.{stands_in}
use Rattle.std.proofs.lemmas.Map.Keys.{sorted_from_strictly_increasing}
use Rattle.std.specs.Cmp.Lexicographic.{bytes_decides}
use Rattle.place_sets.proofs.ListLaws.{same_lists}
use Rattle.place_sets.proofs.list_set.ListSetPlaceSet.equal.Goals as goal

pub returns : goal.returns
returns c =
    let one = c.args.self.now in
    let other = c.args.other.now in
    let decides = bytes_decides one.places.items other.places.items in
    record {
      same = (
        λ t place. ap (λ places. stands_in places place) (decides.0 (sym c.eq.ensures ∙ t)),
        λ same. c.eq.ensures ∙ decides.1 (same_lists one.places.items other.places.items (sorted_from_strictly_increasing one.places.items one.ascending)
            (sorted_from_strictly_increasing other.places.items other.ascending) same),
      );
    }
