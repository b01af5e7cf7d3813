use Rattle.std.proofs.Common.{take}
use Rattle.c_lexer.specs.Words.{number_of}
use Rattle.c_lexer.proofs.WordPieces.{number_cut}
use Rattle.c_lexer.proofs.words.number.Goals as goal

pub returns : goal.returns
returns c = λ first place.
    let n = c.word_len-len.result in
    let text = c.args.text.now in
    record {
      piece = number_of (take n text);
      begins = rw c.word_len-len.ensures.value (number_cut first text c.requires.some c.requires.letter c.requires.digit);
      shows = c.number_of.ensures place text;
    }
