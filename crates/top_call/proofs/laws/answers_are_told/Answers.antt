use Rattle.top_call.proofs.laws.answers_are_told.Goals as goal

pub returns : goal.returns
returns c answer old new status ends = ends.told
