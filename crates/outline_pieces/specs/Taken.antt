-- What a builder has taken.
use Rattle.std.specs.Prelude.{◌≡◌, ℕ, ◌<◌, ◌≤◌, false, List, ◌++◌}
use Rattle.outline_pieces.specs.declared.pieces.Piece.{Piece}
use Rattle.outline_pieces.specs.declared.builder.Builder.{Builder}
use Rattle.outline_pieces.specs.declared.builder.TheConstants.{MOST_POINTS}
use Rattle.outline_pieces.specs.Courses.{start, mapped, run}

-- a builder for so many mutexes and resources has taken these pieces, unless it ran out of memory
pub record HasTaken (mutexes resources : ℕ) (b : Builder) (ps : List Piece) : Type 0 where
  pub mutexes_are : b.mutexes ≡ mutexes
  pub resources_are : b.resources ≡ resources
  pub kept : b.failed ≡ false → b.course.next ≤ MOST_POINTS → (rest : List Piece) → run start (ps ++ rest) ≡ mapped (λ l. b.kept ++ l) (run b.course rest)
  pub many : b.failed ≡ false → MOST_POINTS < b.course.next → (rest : List Piece) → MOST_POINTS < (run start (ps ++ rest)).last.next
