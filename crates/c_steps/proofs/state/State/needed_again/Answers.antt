use Rattle.std.proofs.Common.{sym, ap, ◌∙◌}
use Rattle.c_meaning.specs.Shown.{shown}
use Rattle.c_meaning.specs.Stuck.{needed_again}
use Rattle.c_meaning.specs.Waits.{takes_of}
use Rattle.state_parts.specs.Threads.{frames_in}
use Rattle.c_steps.proofs.Takes.{next_left, none_left}
use Rattle.c_steps.proofs.state.State.needed_again.Goals as goal

pub returns-in-Some : goal.returns-in-Some
returns-in-Some c thread there =
    let p = c.args.p.now in
    let frames = frames_in p c.args.self.now.tables thread.frames.items in
    c.taken.ensures ∙ ap (needed_again (shown p) c.args.mutex) (sym (next_left (takes_of frames) c.args.taken c.in-Some.monitor c.next_take.result (c.next_take.ensures.is thread there) c.in-Some.is))

pub returns-in-None : goal.returns-in-None
returns-in-None c thread there =
    let p = c.args.p.now in
    let frames = frames_in p c.args.self.now.tables thread.frames.items in
    ap (needed_again (shown p) c.args.mutex) (sym (none_left (takes_of frames) c.args.taken c.next_take.result (c.next_take.ensures.is thread there) c.in-None.is))
