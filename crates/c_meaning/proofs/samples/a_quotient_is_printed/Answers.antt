use Rattle.std.proofs.Common.{◌++◌, [], ◌∷◌, Some, ap, arith}
use Rattle.std.proofs.lemmas.Fmt.{decimal_digit}
use Rattle.c_meaning.proofs.samples.a_quotient_is_printed.Goals as goal

pub returns-clause-bytes : goal.returns-clause-bytes
returns-clause-bytes c = ap (λ digits. Some (digits ++ 10 ∷ [])) (decimal_digit 2 (omega arith))
