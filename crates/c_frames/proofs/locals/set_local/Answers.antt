use Rattle.std.proofs.Common.{sym}
use Rattle.c_frames.specs.Names.{names_in}
use Rattle.c_frames.proofs.LocalPlaces.{changes_there, not_nowhere}
use Rattle.c_frames.proofs.locals.set_local.Goals as goal

pub returns-in-Some : goal.returns-in-Some
returns-in-Some c =
    changes_there c.args.name.now (names_in c.args.names.now) c.args.values.now c.in-Some.place c.args.value (sym c.in-Some.ensures.place) c.requires.there c.requires.same

pub returns-in_default : goal.returns-in_default
returns-in_default c = absurd (not_nowhere c.args.name.now (names_in c.args.names.now) (sym c.in_default.ensures.place) c.requires.there)
