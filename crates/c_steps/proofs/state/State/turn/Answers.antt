use Rattle.std.proofs.Common.{◌≡◌, Some, sym, ap, ◌∙◌, refl, arith}
use Rattle.std.specs.Prelude.{slice_get, vec_len}
use Rattle.std.proofs.lemmas.Option.{slice_get_read, same_Some}
use Rattle.state_parts.specs.Threads.{frames_in, status_with}
use Rattle.c_steps.proofs.Changing.{new_status, thread_kept}
use Rattle.c_steps.proofs.state.State.turn.Goals as goal

pub returns-in-Some-clause-turns : goal.returns-in-Some-clause-turns
returns-in-Some-clause-turns c p thread e =
    let s = c.args.self.now in
    let v = c.in-Some.ensures.variant.0 refl in
    let there : slice_get s.threads.items c.args.t ≡ Some c.in-Some.thread.now = slice_get_read s.threads.items (vec_len s.threads) c.args.t c.in-Some.thread.now (omega arith) v c.in-Some.ensures.value in
    let same = same_Some thread c.in-Some.thread.now (sym e ∙ there) in
    new_status p s c.args.t (record { doing = c.args.doing; frames = c.in-Some.thread.now.frames }) (status_with c.args.doing (frames_in p s.tables thread.frames.items))
    (ap (λ x. status_with c.args.doing (frames_in p s.tables x.frames.items)) (sym same))

pub returns-in-Some-clause-kept : goal.returns-in-Some-clause-kept
returns-in-Some-clause-kept c p is =
    let s = c.args.self.now in
    let v = c.in-Some.ensures.variant.0 refl in
    let there : slice_get s.threads.items c.args.t ≡ Some c.in-Some.thread.now = slice_get_read s.threads.items (vec_len s.threads) c.args.t c.in-Some.thread.now (omega arith) v c.in-Some.ensures.value in
    thread_kept p s c.args.t (record { doing = c.args.doing; frames = c.in-Some.thread.now.frames }) is (is.threads c.args.t c.in-Some.thread.now there)
