use Rattle.siphon_enum.specs.declared.minimal.EnumError.TheVariants as EnumError
use Rattle.coverage.proofs.First.{residual_is, same_error}
use Rattle.coverage.proofs.bad.first_bad_set.Goals as goal

pub returns-in_err-minimal_siphons-clause-too_many : goal.returns-in_err-minimal_siphons-clause-too_many
returns-in_err-minimal_siphons-clause-too_many g c = λ limit.
    same_error c.from_residual.result c.in_err-minimal_siphons.field-0.0 (EnumError.TooManySiphons limit) (residual_is c.from_residual.result c.in_err-minimal_siphons.field-0.0 c.from_residual.ensures) (c.in_err-minimal_siphons.ensures.too_many limit)

pub returns-clause-too_many : goal.returns-clause-too_many
returns-clause-too_many g c = λ limit. (λ e. absurd (cc e), λ many. absurd (let bad = (c.in_ok-minimal_siphons.ensures.too_many limit).1 many in cc bad))
