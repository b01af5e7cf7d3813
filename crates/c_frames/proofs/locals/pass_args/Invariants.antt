use Rattle.std.proofs.Common.{◌≡◌, drop}
use Rattle.c_frames.specs.LocalValues.{locals_of}
use Rattle.c_frames.specs.Names.{names_in}
use Rattle.c_meaning.specs.Calls.{passed}
use Rattle.c_frames.proofs.locals.pass_args.Given as goal

-- the later parameters have their arguments
abbrev pub invariant-loop-k : goal.invariant-loop-k
invariant-loop-k l = locals_of (names_in l.names) l.values ≡ passed (drop l.k l.params) (drop l.k l.args)
