-- The state of a run that a state of the code stands for.
use Rattle.std.specs.Prelude.{map, drop}
use Rattle.c_tree.specs.declared.program.Program as tree
use Rattle.c_meaning.specs.State as run
use Rattle.state_parts.specs.Threads.{status_of}
use Rattle.c_steps.specs.declared.state.State.{State}

abbrev pub state_of : tree.Program → State → run.State
state_of p s = record {
  cells = s.cells.items;
  input = drop s.read s.input;
  output = s.output.items;
  main_ended = s.main_ended;
  owners = s.owners.items;
  tokens = map (λ row. row.items) s.tokens.items;
  threads = map (status_of p s.tables) s.threads.items;
}
