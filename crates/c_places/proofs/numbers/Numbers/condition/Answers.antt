use Rattle.std.proofs.Common.{◌∙◌}
use Rattle.c_places.proofs.Numbering.{objects_numbered}
use Rattle.c_places.proofs.numbers.Numbers.condition.Goals as goal

pub returns : goal.returns
returns c = λ p h. c.number.ensures _ _ h.conditions ∙ objects_numbered 0 p.conds c.args.name.now c.args.index
