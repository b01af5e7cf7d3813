use Rattle.context_items.proofs.Loops.{has_first_parts}
use Rattle.context_items.proofs.shaped_loops_have_first_parts.Goals as goal

pub returns : goal.returns
returns c = has_first_parts
