use Rattle.std.proofs.Common.{refl, ⊎_elim, inl, inr}
use Rattle.top_call.proofs.Followed.{refused_file, limited_file}
use Rattle.top_call.proofs.laws.instrument_says_why.Goals as goal

pub returns-clause-refused : goal.returns-clause-refused
returns-clause-refused c words old new file explains asks = refused_file words old new file asks (explains.refused refl)

pub returns-clause-limited : goal.returns-clause-limited
returns-clause-limited c words old new file explains asks =
    ⊎_elim (λ long. inl long) (λ complains. inr (limited_file words old new file asks complains)) (explains.limit refl)
