use Rattle.std.proofs.Common.{refl}
use Rattle.answers.specs.declared.status.Status.TheVariants.{HostFault}
use Rattle.top_call.proofs.Followed as followed
use Rattle.top_call.proofs.laws.the_status_says_where_something_is_told.Goals as goal

pub returns-clause-quiet : goal.returns-clause-quiet
returns-clause-quiet c words old new status ends = followed.quiet words old new status ends

pub returns-clause-unwritten : goal.returns-clause-unwritten
returns-clause-unwritten c words old new ends = followed.unwritten words old new HostFault ends refl

pub returns-clause-silent : goal.returns-clause-silent
returns-clause-silent c words old new status ends = followed.silent words old new status ends
