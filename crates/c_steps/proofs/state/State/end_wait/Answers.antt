use Rattle.std.proofs.Common.{◌∷◌, Some, map, reverse, refl, sym, ap, ◌∙◌}
use Rattle.std.specs.Prelude.{slice_set}
use Rattle.c_meaning.specs.Shown.{shown_stmt}
use Rattle.c_meaning.specs.State as run
use Rattle.c_meaning.specs.Outcome.{Done}
use Rattle.c_meaning.specs.declared.Did.TheVariants as did
use Rattle.c_meaning.specs.Waits.{wait_ended, wait_ended_in}
use Rattle.c_frames.specs.Positions.{first_of}
use Rattle.c_steps.specs.Standing.{At}
use Rattle.state_parts.specs.Threads.{frame_in, frames_in}
use Rattle.c_steps.specs.Model.{state_of}
use Rattle.c_steps.proofs.Acquirings.{first_at, first_nothing, first_end}
use Rattle.c_steps.proofs.WaitsEnd.{wait_ends, no_wait_ends, runs_there, turned_goes}
use Rattle.c_steps.proofs.state.State.end_wait.Goals as goal

pub returns-then-not-is_wait-clause-is : goal.returns-then-not-is_wait-clause-is
returns-then-not-is_wait-clause-is c thread there =
    let p = c.args.p.now in let s = c.args.self.now in let S = state_of p s in
    let first = first_at p s.tables (reverse thread.frames.items) c.first.result c.in-At.s c.in-At.field-1 (c.first.ensures.is thread there) c.in-At.is in
    let act = shown_stmt c.in-At.s.now in
    let x = frame_in p s.tables first.0 in
    let more = map (frame_in p s.tables) first.1 in (
      ap (λ xs. wait_ended_in S c.args.t c.args.mutex (map (frame_in p s.tables) xs)) first.2
          ∙ ap (wait_ended S c.args.t c.args.mutex x.locals more) first.3.first
          ∙ no_wait_ends S c.args.t c.args.mutex x.locals more first.3.rest c.in-At.field-1 act (sym c.is_wait.ensures ∙ c.if-not-is_wait.true),
      refl,
    )

pub returns-else-not-is_wait-clause-is : goal.returns-else-not-is_wait-clause-is
returns-else-not-is_wait-clause-is c thread there =
    let p = c.args.p.now in let s = c.args.self.now in let S = state_of p s in
    let first = first_at p s.tables (reverse thread.frames.items) c.first.result c.in-At.s c.in-At.field-1 (c.first.ensures.is thread there) c.in-At.is in
    let act = shown_stmt c.in-At.s.now in
    let x = frame_in p s.tables first.0 in
    let more = map (frame_in p s.tables) first.1 in
    let mid = c.turn.new.self in
    let turned = c.turn.ensures.turns p thread there in
    let stands = ap (map (frame_in p s.tables)) first.2 ∙ ap (λ todo. run.frame x.locals todo ∷ more) first.3.first in
    let now = runs_there p s mid c.args.t thread (frames_in p s.tables thread.frames.items) there turned in
    let at : At p mid c.args.t (first_of c.in-At.field-1 act) = record { thread = now.0; there = now.1; runs = now.2; locals = x.locals; rest = first.3.rest; more = more; stands = now.3 ∙ stands } in
    let frames = run.frame x.locals first.3.rest ∷ more in
    ap (λ xs. wait_ended_in S c.args.t c.args.mutex (map (frame_in p s.tables) xs)) first.2
    ∙ ap (wait_ended S c.args.t c.args.mutex x.locals more) first.3.first
    ∙ wait_ends S c.args.t c.args.mutex x.locals more first.3.rest c.in-At.field-1 act (sym c.is_wait.ensures ∙ c.if-not-is_wait.false)
    ∙ ap (Done (did.Retake c.args.mutex)) (sym (c.go_on_owning.ensures.goes (first_of c.in-At.field-1 act) at
    ∙ ap (λ (before : run.State). record (run.goes_on before c.args.t frames) { owners = slice_set before.owners c.args.mutex (Some c.args.t) }) turned
    ∙ ap (λ (after : run.State). record after { owners = slice_set S.owners c.args.mutex (Some c.args.t) }) (turned_goes S c.args.t _ frames)))

pub returns-else-not-is_wait-clause-kept : goal.returns-else-not-is_wait-clause-kept
returns-else-not-is_wait-clause-kept c thread there =
    let p = c.args.p.now in let s = c.args.self.now in
    let first = first_at p s.tables (reverse thread.frames.items) c.first.result c.in-At.s c.in-At.field-1 (c.first.ensures.is thread there) c.in-At.is in
    let act = shown_stmt c.in-At.s.now in
    let x = frame_in p s.tables first.0 in
    let more = map (frame_in p s.tables) first.1 in
    let mid = c.turn.new.self in
    let now = runs_there p s mid c.args.t thread (frames_in p s.tables thread.frames.items) there (c.turn.ensures.turns p thread there) in
    let stands = ap (map (frame_in p s.tables)) first.2 ∙ ap (λ todo. run.frame x.locals todo ∷ more) first.3.first in
    let at : At p mid c.args.t (first_of c.in-At.field-1 act) = record { thread = now.0; there = now.1; runs = now.2; locals = x.locals; rest = first.3.rest; more = more; stands = now.3 ∙ stands } in
    c.go_on_owning.ensures.kept (first_of c.in-At.field-1 act) at refl

pub returns-in-Nothing-clause-is : goal.returns-in-Nothing-clause-is
returns-in-Nothing-clause-is c thread there =
    let p = c.args.p.now in let s = c.args.self.now in
    (ap (λ xs. wait_ended_in (state_of p s) c.args.t c.args.mutex (map (frame_in p s.tables) xs)) (first_nothing p s.tables (reverse thread.frames.items) c.first.result (c.first.ensures.is thread there) c.in-Nothing.is), refl)

pub returns-in-End-clause-is : goal.returns-in-End-clause-is
returns-in-End-clause-is c thread there =
    let p = c.args.p.now in let s = c.args.self.now in let S = state_of p s in
    let first = first_end p s.tables (reverse thread.frames.items) c.first.result (c.first.ensures.is thread there) c.in-End.is in (
      ap (λ xs. wait_ended_in S c.args.t c.args.mutex (map (frame_in p s.tables) xs)) first.2
          ∙ ap (wait_ended S c.args.t c.args.mutex (frame_in p s.tables first.0).locals (map (frame_in p s.tables) first.1)) first.3,
      refl,
    )
