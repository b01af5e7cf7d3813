-- What a check answers, and where.
use Rattle.std.specs.Prelude.{◌≡◌, ◌⊎◌, List, Result, Err, ⊤}
use Rattle.certificate.specs.declared.Line.{Line}
use Rattle.net_laws.specs.Net.{Net}
use Rattle.net_laws.specs.Lines.{IsValid}
use Rattle.candidates.specs.Components.{HasSmallComponents, IsFirstLarge}
use Rattle.certificate_check.specs.declared.verdict.Verdict.{Verdict}
use Rattle.certificate_check.specs.declared.verdict.Verdict.TheVariants.{LineFails, NotCovered, Valid}
use Rattle.certificate_check.specs.declared.verdict.CheckFault.{CheckFault}
use Rattle.certificate_check.specs.declared.verdict.CheckFault.TheVariants.{ComponentTooLarge, Memory}
use Rattle.certificate_check.specs.Judged.{AllHold, IsFirstFailing, IsFirstUncovered}

-- the verdict is right
abbrev pub IsVerdict : Net → List Line → Verdict → Type 0
IsVerdict n lines (LineFails index) = IsFirstFailing n lines index
IsVerdict n lines (NotCovered C) = AllHold n lines × HasSmallComponents n × IsFirstUncovered n lines C
IsVerdict n lines Valid = IsValid n lines × HasSmallComponents n

-- there is cause for the fault; want of memory needs none
abbrev pub IsFault : Net → List Line → CheckFault → Type 0
IsFault n lines (ComponentTooLarge C) = AllHold n lines × IsFirstLarge n C
IsFault n lines Memory = ⊤

-- the answer comes exactly where the fact holds, unless there isn't enough memory
abbrev pub ComesWhere : Result Verdict CheckFault → Result Verdict CheckFault → Type 0 → Type 0
ComesWhere result answer fact = (result ≡ answer → fact) × (fact → (result ≡ answer) ⊎ (result ≡ Err Memory))
