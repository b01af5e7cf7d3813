use Rattle.std.proofs.Common.{◌≤◌, sym, subst}
use Rattle.outline_pieces.specs.declared.course.Course.{Course}
use Rattle.outline_pieces.proofs.Taking.{stays_counted}
use Rattle.outline_pieces.proofs.builder.Builder.keep.Goals as goal

pub invariant_of-self-in-Some : goal.invariant_of-self-in-Some
invariant_of-self-in-Some c =
    let P : Course → Type 0 = λ z. z.thread ≤ z.next in
    record { counted = subst P (sym c.in_ok-place.ensures.step) (stays_counted c.args.self.now.course c.args.piece c.args.self.now.counted) }
