use Rattle.std.proofs.Common.{◌≡◌, ◌++◌, map, replicate}
use Rattle.c_tree.specs.declared.program.Program.{Program}
use Rattle.c_meaning.specs.State as run
use Rattle.state_parts.specs.Valid.{AreThreadsIn}
use Rattle.state_parts.specs.Threads.{status_of}
use Rattle.state_parts.specs.declared.tables.Tables.{Tables}
use Rattle.state_parts.proofs.starting.push_threads.Given as goal

abbrev pub invariant-loop-thread : goal.invariant-loop-thread
invariant-loop-thread l = ((p : Program) (tables : Tables) → map (status_of p tables) l.threads.items ≡ map (status_of p tables) l.fn.threads.items ++ replicate l._thread run.NotBegun)
    × ((p : Program) (tables : Tables) → AreThreadsIn p tables l.fn.threads.items → AreThreadsIn p tables l.threads.items)
