use Rattle.std.proofs.Common.{◌≡◌, arith, sym, ◌∙◌}
use Rattle.c_lexer.proofs.PlaceSteps.{first_start}
use Rattle.c_lexer.proofs.places.is_first.Goals as goal

pub returns : goal.returns
returns c = let k : c.loop-place.place ≡ 0 = omega arith in sym (first_start c.args.text.now) ∙ (rw k at c.loop-place.invariant.1)
