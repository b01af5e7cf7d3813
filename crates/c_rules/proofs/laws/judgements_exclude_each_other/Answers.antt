use Rattle.c_rules.proofs.laws.judgements_exclude_each_other.Goals as goal

pub returns-clause-no_break : goal.returns-clause-no_break
returns-clause-no_break c = λ p mode rule line f b. f.keeps_rules rule line b.broken

pub returns-clause-keeps_or_breaks : goal.returns-clause-keeps_or_breaks
returns-clause-keeps_or_breaks c = λ p mode rule line k b. k rule line b.broken
