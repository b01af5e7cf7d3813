-- The net of a program, and the accounts of what is held.
use Rattle.std.specs.Prelude.{◌≡◌, ◌<◌, ℕ, List, Some, slice_get}
use Rattle.c_canonical.specs.ShapedPrograms.{ShapedProgram}
use Rattle.c_rules.specs.Formed.{Formed}
use Rattle.c_tree.specs.declared.program.Mode.{Mode}
use Rattle.c_tree.specs.Lined.{Program, bare_program}
use Rattle.c_tree.specs.Numbering.{mutex_count, resource_count}
use Rattle.c_meaning.specs.State.{State}
use Rattle.net_laws.specs.Net.{Net}
use Rattle.outlines.specs.Outline.{Thread}
use Rattle.contexts.specs.Walk.{Found}
use Rattle.contexts.specs.Outlines.{outlines}
use Rattle.contexts.specs.Threads.{code_of}
use Rattle.held_counts.specs.Nets.{IsHeldNetOf}
use Rattle.reached_states.specs.Counts.{tokens_of, tokens_held}
use Rattle.accounts.specs.Points.{AreAtPoints}

-- the net of a well-formed program: its points are those of the outlines that the walk through its contexts finds, what is held at them are the counts of the
-- walk through these outlines, and its resources are the program's
pub record IsNetOfProgram (p : Program) (mode : Mode) (es : List Thread) (places : List ℕ) (n : Net) (counts : ℕ → List ℕ) : Type 0 where
  pub formed : Formed p mode
  pub shaped : ShapedProgram (bare_program p)
  pub found : outlines p ≡ Found es places
  pub held : IsHeldNetOf n es counts
  pub mutexes : n.mutexes ≡ mutex_count (bare_program p)
  pub resources : n.resources ≡ resource_count (bare_program p)
  pub tokens : (r : ℕ) → r < n.resources → n.tokens r ≡ tokens_of (bare_program p) r

-- each thread of a state is at its point, and holds what is held there
pub record Accounts (p : Program) (es : List Thread) (places : List ℕ) (n : Net) (s : State) (points : ℕ → ℕ) : Type 0 where
  pub at_points : AreAtPoints (code_of p places) es s points
  pub holds : (u : ℕ) (th : Thread) → slice_get es u ≡ Some th → (r : ℕ) → tokens_held (bare_program p) s u r ≡ n.held (points u) r
