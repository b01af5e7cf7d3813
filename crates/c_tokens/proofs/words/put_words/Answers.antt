use Rattle.std.proofs.Common.{◌∙◌}
use Rattle.c_tokens.proofs.Tables.{put_word}
use Rattle.c_tokens.proofs.words.put_words.Goals as goal

pub loop-word-preserved : goal.loop-word-preserved
loop-word-preserved c = λ name. put_word _ _ _ c.loop-word.known c.insert.new.self _ c.loop-word-test.true c.spelling.ensures c.in_ok-insert.ensures.updates name ∙ c.loop-word.invariant name
