use Rattle.command_words.specs.Tasks.{texts, limit_of}
use Rattle.answers.specs.Commands.{contents_of}
use Rattle.top_call.specs.Fetching.{HasRead}
use Rattle.top_call.proofs.fetching.fetch_all.Given as goal

abbrev pub invariant-loop-name : goal.invariant-loop-name
invariant-loop-name g l = HasRead (limit_of l.command) (texts l.names) (g.H.Host.seen l.fn.host) (g.H.Host.seen l.host) (contents_of l.files.items) l.name-index
