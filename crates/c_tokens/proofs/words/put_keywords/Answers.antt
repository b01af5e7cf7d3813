use Rattle.std.proofs.Common.{◌∙◌}
use Rattle.c_tokens.proofs.Tables.{put_keyword}
use Rattle.c_tokens.proofs.words.put_keywords.Goals as goal

pub loop-word-preserved : goal.loop-word-preserved
loop-word-preserved c = λ name. put_keyword _ _ _ c.loop-word.known c.insert.new.self c.loop-word-test.true c.in_ok-insert.ensures.updates name ∙ c.loop-word.invariant name
