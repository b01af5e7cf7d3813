use Rattle.c_canonical.proofs.Canonical.{shape_is_what_words_spell}
use Rattle.c_canonical.proofs.laws.shape_is_what_words_spell.Goals as goal

pub returns : goal.returns
returns c = shape_is_what_words_spell
