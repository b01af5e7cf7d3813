use Rattle.c_lexer.specs.Words.{name_of}
use Rattle.c_lexer.proofs.WordPieces.{name_cut}
use Rattle.c_lexer.proofs.words.name.Goals as goal

pub returns : goal.returns
returns c = λ first place.
    let n = c.word_len-len.result in
    let text = c.args.text.now in
    record {
      piece = name_of n;
      begins = rw c.word_len-len.ensures.value (name_cut first text c.requires.some c.requires.letter);
      shows = c.name_of.ensures place text;
    }
