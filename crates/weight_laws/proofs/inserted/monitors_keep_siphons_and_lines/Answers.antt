use Rattle.weight_laws.proofs.Keeping.{same_siphons, to_old, to_new}
use Rattle.weight_laws.proofs.inserted.monitors_keep_siphons_and_lines.Goals as goal

pub returns-clause-siphons : goal.returns-clause-siphons
returns-clause-siphons c = same_siphons

pub returns-clause-lines : goal.returns-clause-lines
returns-clause-lines c n m entry capacity o new ins held Q kind is_old old =
    (to_old n m entry capacity o new ins held Q is_old kind old, to_new n m entry capacity o new ins held Q is_old kind old)
