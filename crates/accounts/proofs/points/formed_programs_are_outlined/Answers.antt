use Rattle.accounts.proofs.Outlined.{formed_outlined}
use Rattle.accounts.proofs.points.formed_programs_are_outlined.Goals as goal

pub returns : goal.returns
returns c = formed_outlined
