use Rattle.context_items.proofs.Scoped.{formed_unshadowed}
use Rattle.context_items.proofs.well_formed_programs_are_unshadowed.Goals as goal

pub returns : goal.returns
returns c = formed_unshadowed
