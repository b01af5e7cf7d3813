use Rattle.undefined_steps.proofs.Exact as proof
use Rattle.undefined_steps.proofs.causes_are_exact.Goals as goal

pub returns : goal.returns
returns c = proof.causes_are_exact
