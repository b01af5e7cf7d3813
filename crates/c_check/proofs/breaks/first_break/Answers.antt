use Rattle.c_tree.specs.Lined.{program_of}
use Rattle.c_check.proofs.Judging.{first_told}
use Rattle.c_check.proofs.breaks.first_break.Goals as goal

pub returns : goal.returns
returns c = first_told (program_of c.args.p.now) c.args.mode c.in_ok-first.first c.in_ok-first.ensures
