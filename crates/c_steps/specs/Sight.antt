-- What is seen from a frame.
use Rattle.std.specs.Prelude.{◌≡◌}
use Rattle.c_tree.specs.declared.program.Program.{Program}
use Rattle.c_meaning.specs.State.{Locals}
use Rattle.c_frames.specs.Frames.{locals_in}
use Rattle.c_steps.specs.declared.state.State.{State}
use Rattle.state_parts.specs.declared.view.View.{View}

-- a view is that of the state, with these locals
pub record Sees (p : Program) (s : State) (locals : Locals) (view : View) : Type 0 where
  pub program : view.program.now ≡ p
  pub cells : view.cells.now ≡ s.cells.items
  pub scope : locals_in view.names.now view.frame.now ≡ locals
