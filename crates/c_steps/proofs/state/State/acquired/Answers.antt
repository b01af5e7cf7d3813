use Rattle.std.proofs.Common.{map, reverse, sym, ap, ◌∙◌}
use Rattle.std.specs.Prelude.{slice_get}
use Rattle.c_meaning.specs.Shown.{shown, shown_stmt}
use Rattle.c_meaning.specs.Stuck.{acquired, acquired_in}
use Rattle.c_frames.specs.Positions.{first_of}
use Rattle.state_parts.specs.Threads.{frame_in}
use Rattle.c_steps.specs.Model.{state_of}
use Rattle.c_steps.proofs.Wakings.{present}
use Rattle.c_steps.proofs.Acquirings.{first_at, first_nothing, first_end, stands_at, acquired_first}
use Rattle.c_steps.proofs.state.State.acquired.Goals as goal

pub acquired_by-requires-clause-small : goal.acquired_by-requires-clause-small
acquired_by-requires-clause-small c =
    let s = c.args.self.now in
    let found = present (λ thread. thread.doing) (slice_get s.threads.items c.args.t) c.in_ok-_doing._doing (sym c.doing.ensures ∙ c.in_ok-_doing.was) in
    let at = first_at c.args.p.now s.tables (reverse found.0.frames.items) c.first.result c.in-At.s c.in-At.field-1 (c.first.ensures.is found.0 found.1) c.in-At.is in
    at.3.small.0

pub returns-in-At : goal.returns-in-At
returns-in-At c thread there runs =
    let p = c.args.p.now in let s = c.args.self.now in
    let first = first_at p s.tables (reverse thread.frames.items) c.first.result c.in-At.s c.in-At.field-1 (c.first.ensures.is thread there) c.in-At.is in
    let act = shown_stmt c.in-At.s.now in
    let at = stands_at p s c.args.t thread first.0 first.1 act c.in-At.field-1 there runs first.2 first.3 in
    c.acquired_by.ensures (first_of c.in-At.field-1 act) at
    ∙ sym (acquired_first (shown p) (state_of p s) at.locals at.rest c.in-At.field-1 act)
    ∙ sym (ap (acquired_in (shown p) (state_of p s)) at.stands)

pub returns-in-Nothing : goal.returns-in-Nothing
returns-in-Nothing c thread there runs =
    let p = c.args.p.now in let s = c.args.self.now in
    sym (ap (λ xs. acquired_in (shown p) (state_of p s) (map (frame_in p s.tables) xs)) (first_nothing p s.tables (reverse thread.frames.items) c.first.result (c.first.ensures.is thread there) c.in-Nothing.is))

pub returns-in-End : goal.returns-in-End
returns-in-End c thread there runs =
    let p = c.args.p.now in let s = c.args.self.now in
    let first = first_end p s.tables (reverse thread.frames.items) c.first.result (c.first.ensures.is thread there) c.in-End.is in
    sym (ap (λ xs. acquired_in (shown p) (state_of p s) (map (frame_in p s.tables) xs)) first.2 ∙ ap (acquired (shown p) (state_of p s) (frame_in p s.tables first.0).locals) first.3)
