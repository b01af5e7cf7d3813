use Rattle.std.proofs.Common.{◌≡◌, ◌∷◌, Some, sym, ap, ◌∙◌, refl, arith}
use Rattle.std.specs.Prelude.{slice_get, vec_len}
use Rattle.std.proofs.lemmas.Option.{slice_get_read}
use Rattle.c_meaning.specs.State as run
use Rattle.state_parts.specs.Threads.{frames_in, status_with}
use Rattle.state_parts.specs.declared.threads.Doing.TheVariants.{Running}
use Rattle.c_frames.specs.LocalValues.{changed}
use Rattle.state_parts.specs.Onward.{onward}
use Rattle.c_steps.proofs.Changing.{new_status, thread_kept, is_at}
use Rattle.c_steps.proofs.state.State.set_local.Goals as goal

pub returns-in-Some-clause-goes : goal.returns-in-Some-clause-goes
returns-in-Some-clause-goes c act at =
    let p = c.args.p.now in let s = c.args.self.now in
    let v = c.in-Some.ensures.variant.0 refl in
    let there : slice_get s.threads.items c.args.t ≡ Some c.in-Some.thread.now = slice_get_read s.threads.items (vec_len s.threads) c.args.t c.in-Some.thread.now (omega arith) v c.in-Some.ensures.value in
    let same = is_at p s c.args.t act at c.in-Some.thread.now there in
    let runs : c.set.new.self.doing ≡ Running = c.set.ensures.same ∙ ap (λ x. x.doing) (sym same) ∙ at.runs in
    let before = ap (λ x. frames_in p s.tables x.frames.items) (sym same) ∙ at.stands in
    new_status p s c.args.t c.set.new.self (run.Running (run.frame (changed at.locals c.args.name.now c.args.value) (onward c.args.to act at.rest) ∷ at.more))
    (ap (λ d. status_with d (frames_in p s.tables c.set.new.self.frames.items)) runs ∙ ap run.Running (c.set.ensures.goes at.locals act at.rest at.more before))

pub returns-in-Some-clause-kept : goal.returns-in-Some-clause-kept
returns-in-Some-clause-kept c = thread_kept c.args.p.now c.args.self.now c.args.t c.set.new.self c.requires.state c.set.ensures.valid
