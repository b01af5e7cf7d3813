-- The points and edges of a program, and why it has none.
use Rattle.std.specs.Prelude.{◌≡◌, ℕ, ◌≤◌, List, length, replicate, None}
use Rattle.c_tree.specs.Bare as bare
use Rattle.c_tree.specs.Lined.{Program, bare_program}
use Rattle.c_tree.specs.Numbering.{mutex_count, resource_count}
use Rattle.outlines.specs.Outline.{Thread}
use Rattle.outlines.specs.Points.{all_rows}
use Rattle.held_counts.specs.Refusals.{refused_threads}
use Rattle.contexts.specs.Walk.{Found}
use Rattle.contexts.specs.Outlines.{outlines}
use Rattle.outline_pieces.specs.declared.error.FlowError.{FlowError}
use Rattle.outline_pieces.specs.declared.flow_parts.FlowParts.{FlowParts}
use Rattle.outline_pieces.specs.Found.{IsFlowOf, IsErrorFor}

-- no token of any resource
abbrev pub nothing_held : bare.Program → List ℕ
nothing_held p = replicate (resource_count p) 0

-- these are the points and edges of the threads of a program, with what is held there
pub record IsFlow (p : Program) (flow : FlowParts) : Type 0 where
  pub threads : List Thread
  pub places : List ℕ
  pub found : outlines p ≡ Found threads places
  pub parts : IsFlowOf (mutex_count (bare_program p)) (nothing_held (bare_program p)) threads flow

-- this is why the threads of a program have none
pub record IsFlowError (p : Program) (e : FlowError) : Type 0 where
  pub threads : List Thread
  pub places : List ℕ
  pub found : outlines p ≡ Found threads places
  pub error : IsErrorFor (mutex_count (bare_program p)) (nothing_held (bare_program p)) threads e

-- the threads of a program have points and edges
pub record HasFlow (p : Program) : Type 0 where
  pub threads : List Thread
  pub places : List ℕ
  pub found : outlines p ≡ Found threads places
  pub few : length (all_rows 0 threads 0) ≤ 4096
  pub accepted : refused_threads (mutex_count (bare_program p)) (nothing_held (bare_program p)) threads ≡ None
