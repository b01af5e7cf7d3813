-- What is found of threads.
use Rattle.std.specs.Prelude.{◌≡◌, ℕ, ◌<◌, ◌≤◌, List, length, Some, None, ⊤}
use Rattle.outlines.specs.Outline.{Thread}
use Rattle.outlines.specs.Rows.{edges_from}
use Rattle.outlines.specs.Points.{all_rows}
use Rattle.held_counts.specs.Counts.{all_counts}
use Rattle.held_counts.specs.Refusals.{refused_threads}
use Rattle.outline_pieces.specs.declared.error.FlowError.{FlowError}
use Rattle.outline_pieces.specs.declared.error.FlowError.TheVariants.{TooManyPoints, Held, Memory}
use Rattle.outline_pieces.specs.declared.flow_parts.FlowParts.{FlowParts}
use Rattle.outline_pieces.specs.Shown.{points_of}

-- 4,096 points at most, what is held isn't refused, and points and edges are those of the threads
pub record IsFlowOf (mutexes : ℕ) (nothing : List ℕ) (ths : List Thread) (flow : FlowParts) : Type 0 where
  pub few : length (all_rows 0 ths 0) ≤ 4096
  pub accepted : refused_threads mutexes nothing ths ≡ None
  pub threads : flow.threads ≡ length ths
  pub points : flow.points ≡ points_of (all_rows 0 ths 0) (all_counts nothing 0 ths)
  pub edges : flow.edges ≡ edges_from 0 (all_rows 0 ths 0)

-- more than 4,096 points, or else the first refusal
abbrev pub IsErrorFor : ℕ → List ℕ → List Thread → FlowError → Type 0
IsErrorFor mutexes nothing ths TooManyPoints = 4096 < length (all_rows 0 ths 0)
IsErrorFor mutexes nothing ths (Held kind line) =
    (length (all_rows 0 ths 0) ≤ 4096) × (refused_threads mutexes nothing ths ≡ Some (record { kind = kind; line = line }))
IsErrorFor mutexes nothing ths Memory = ⊤
