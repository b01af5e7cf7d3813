use Rattle.c_meaning.proofs.Unions.{ends_with_main}
use Rattle.c_meaning.proofs.laws.programs_end_with_main.Goals as goal

pub returns : goal.returns
returns c = ends_with_main
