use Rattle.context_items.proofs.FlatProgram.{marks_flat}
use Rattle.context_items.proofs.items_give_the_marks.Goals as goal

pub returns : goal.returns
returns c = marks_flat
