use Rattle.std.proofs.Common.{map, reverse, sym, ap, ◌∙◌}
use Rattle.std.specs.Prelude.{slice_get}
use Rattle.c_meaning.specs.Shown.{shown_stmt}
use Rattle.c_meaning.specs.Waits.{takes_of}
use Rattle.state_parts.specs.Threads.{frame_in}
use Rattle.c_steps.proofs.Acquirings.{first_at, first_nothing, first_end}
use Rattle.c_steps.proofs.Takes.{takes_at, takes_at_end, nothing_at}
use Rattle.c_steps.proofs.state.State.next_take.Goals as goal

pub returns-in-At-clause-is : goal.returns-in-At-clause-is
returns-in-At-clause-is c thread there =
    let p = c.args.p.now in let s = c.args.self.now in
    let xs = reverse thread.frames.items in
    let first = first_at p s.tables xs c.first.result c.in-At.s c.in-At.field-1 (c.first.ensures.is thread there) c.in-At.is in
    c.take_at.ensures.is ∙ ap (λ takes. slice_get takes c.args.taken) (sym (takes_at p s.tables first.0 xs first.1 (shown_stmt c.in-At.s.now) c.in-At.field-1 first.2 first.3))

pub returns-in-Nothing-clause-is : goal.returns-in-Nothing-clause-is
returns-in-Nothing-clause-is c thread there =
    let p = c.args.p.now in let s = c.args.self.now in
    sym (ap (λ xs. slice_get (takes_of (map (frame_in p s.tables) xs)) c.args.taken) (first_nothing p s.tables (reverse thread.frames.items) c.first.result (c.first.ensures.is thread there) c.in-Nothing.is)
    ∙ nothing_at c.args.taken)

pub returns-in-End-clause-is : goal.returns-in-End-clause-is
returns-in-End-clause-is c thread there =
    let p = c.args.p.now in let s = c.args.self.now in
    let xs = reverse thread.frames.items in
    let first = first_end p s.tables xs c.first.result (c.first.ensures.is thread there) c.in-End.is in
    sym (ap (λ takes. slice_get takes c.args.taken) (takes_at_end p s.tables first.0 xs first.1 first.2 first.3) ∙ nothing_at c.args.taken)
