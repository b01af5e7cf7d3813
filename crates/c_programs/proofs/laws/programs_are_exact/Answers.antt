use Rattle.parse_laws.proofs.Exact.{whole_is_exact}
use Rattle.c_programs.proofs.WordExact.{words_spelled}
use Rattle.c_programs.proofs.laws.programs_are_exact.Goals as goal

pub returns : goal.returns
returns c = λ end r words. whole_is_exact (words_spelled end) r words
