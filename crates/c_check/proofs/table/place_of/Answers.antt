use Rattle.std.proofs.Common.{sym, ap, ◌∙◌}
use Rattle.std.specs.Prelude.{unwrap_or}
use Rattle.c_check.proofs.Counted.{placed}
use Rattle.c_check.proofs.table.place_of.Goals as goal

pub returns : goal.returns
returns c = c.unwrap_or.ensures ∙ ap (λ o. unwrap_or o 0) (c.find_function.ensures.first ∙ sym (placed c.args.p.now c.args.name.now))
