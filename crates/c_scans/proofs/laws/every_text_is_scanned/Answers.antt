use Rattle.c_scans.proofs.Scanned.{scanned}
use Rattle.c_scans.proofs.laws.every_text_is_scanned.Goals as goal

pub returns : goal.returns
returns c = scanned
