use Rattle.std.proofs.Common.{◌≡◌, drop, map}
use Rattle.std.specs.List.{list_any}
use Rattle.c_tree.specs.declared.program.Program.{Program}
use Rattle.c_meaning.specs.Waits.{waits_on}
use Rattle.state_parts.specs.Threads.{status_of}
use Rattle.c_steps.proofs.state.State.is_awaited.Given as goal

-- what is left to ask tells what all threads do
abbrev pub invariant-loop-thread : goal.invariant-loop-thread
invariant-loop-thread l =
    (p : Program) → list_any (waits_on l.condition) (map (status_of p l.self.tables) (drop l.thread-index l.self.threads.items)) ≡ list_any (waits_on l.condition) (map (status_of p l.self.tables) l.self.threads.items)
