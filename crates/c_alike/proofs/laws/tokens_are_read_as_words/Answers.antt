use Rattle.c_alike.proofs.Programs.{programs_same}
use Rattle.c_alike.proofs.laws.tokens_are_read_as_words.Goals as goal

pub returns : goal.returns
returns c = λ text room end words tokens all small. programs_same text room end words tokens all small
