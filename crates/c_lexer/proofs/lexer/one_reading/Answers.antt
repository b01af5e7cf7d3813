use Rattle.c_lexer.proofs.Unique.{one_next, one_scan}
use Rattle.c_lexer.proofs.lexer.one_reading.Goals as goal

pub returns-clause-next : goal.returns-clause-next
returns-clause-next c = λ before all found other x y. one_next x y

pub returns-clause-scan : goal.returns-clause-scan
returns-clause-scan c = λ before all words others end last x y. one_scan x y
