-- Where the threads stand when a program starts.
use Rattle.std.proofs.Common.{ℕ, zero, suc, [], ◌∷◌, replicate, length, refl, inl}
use Rattle.std.specs.Prelude.{slice_get}
use Rattle.c_tree.specs.Numbering.{creations}
use Rattle.c_tree.specs.Lined.{bare_program}
use Rattle.c_meaning.specs.State.{NotBegun}
use Rattle.outlines.specs.Moves.{Before}
use Rattle.contexts.specs.Outlined.{Code}
use Rattle.contexts.specs.Threads.{code_of}
use Rattle.outline_runs.specs.Standing.{StandsIf}
use Rattle.outline_runs.specs.Moving.{body_of}
use Rattle.outline_runs.specs.Laws.{ThreadsStart}
use Rattle.outline_runs.proofs.Fits.{main_begins}

not_begun : (code : Code) (n u : ℕ) → StandsIf code (slice_get (replicate n NotBegun) u) Before
not_begun code zero u = tt
not_begun code (suc n) zero = refl
not_begun code (suc n) (suc u) = not_begun code n u

pub threads_start : ThreadsStart
threads_start p es places input has zero =
    let first = main_begins p es places has in
    (body_of es 0 ∷ [], refl, inl (record { writes = first.0; xs = body_of es 0; lefts = []; left_is = refl; newest = first.1; callers = tt }))
threads_start p es places input has (suc u) = not_begun (code_of p places) (length (creations (bare_program p))) u
