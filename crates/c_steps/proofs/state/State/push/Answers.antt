use Rattle.std.proofs.Common.{◌≡◌, ◌∷◌, [], map, Some, sym, ap, ◌∙◌, refl, arith}
use Rattle.std.specs.Prelude.{slice_get, vec_len}
use Rattle.std.proofs.lemmas.Option.{slice_get_read, same_Some}
use Rattle.std.proofs.lemmas.List.{reverse-append}
use Rattle.c_meaning.specs.State as run
use Rattle.state_parts.specs.Threads.{frame_in, frames_in, status_with}
use Rattle.state_parts.specs.declared.threads.Doing.TheVariants.{Running}
use Rattle.c_steps.proofs.Changing.{new_status, thread_kept, same_status}
use Rattle.state_parts.proofs.Framing.{frames_more}
use Rattle.c_steps.proofs.state.State.push.Goals as goal

pub returns-in_err-push-clause-same : goal.returns-in_err-push-clause-same
returns-in_err-push-clause-same c err p =
    let s = c.args.self.now in let th = c.in-Some.thread.now in
    let v = c.in-Some.ensures.variant.0 refl in
    let there : slice_get s.threads.items c.args.t ≡ Some th = slice_get_read s.threads.items (vec_len s.threads) c.args.t th (omega arith) v c.in-Some.ensures.value in
    same_status p s c.args.t th (record { doing = th.doing; frames = c.push.new.self }) there (ap (λ l. status_with th.doing (frames_in p s.tables l)) c.in_err-push.ensures.items)

pub returns-in_err-push-clause-kept : goal.returns-in_err-push-clause-kept
returns-in_err-push-clause-kept c p is valid =
    let s = c.args.self.now in let th = c.in-Some.thread.now in
    let v = c.in-Some.ensures.variant.0 refl in
    let there : slice_get s.threads.items c.args.t ≡ Some th = slice_get_read s.threads.items (vec_len s.threads) c.args.t th (omega arith) v c.in-Some.ensures.value in
    thread_kept p s c.args.t (record { doing = th.doing; frames = c.push.new.self }) is (λ k x e. is.threads c.args.t th there k x (ap (λ l. slice_get l k) (sym c.in_err-push.ensures.items) ∙ e))

pub returns-in_ok-push-clause-pushes : goal.returns-in_ok-push-clause-pushes
returns-in_ok-push-clause-pushes c ok p f more r =
    let s = c.args.self.now in let th = c.in-Some.thread.now in
    let v = c.in-Some.ensures.variant.0 refl in
    let there : slice_get s.threads.items c.args.t ≡ Some th = slice_get_read s.threads.items (vec_len s.threads) c.args.t th (omega arith) v c.in-Some.ensures.value in
    let same = same_Some r.thread th (sym r.there ∙ there) in
    let runs : th.doing ≡ Running = ap (λ x. x.doing) (sym same) ∙ r.runs in
    let stands = ap (λ x. frames_in p s.tables x.frames.items) (sym same) ∙ r.stands in
    let frames : frames_in p s.tables c.push.new.self.items ≡ frame_in p s.tables c.args.x ∷ f ∷ more =
    ap (frames_in p s.tables) c.in_ok-push.ensures.items ∙ ap (map (frame_in p s.tables)) (reverse-append th.frames.items (c.args.x ∷ [])) ∙ ap (λ l. frame_in p s.tables c.args.x ∷ l) stands in
    new_status p s c.args.t (record { doing = th.doing; frames = c.push.new.self }) (run.Running (frame_in p s.tables c.args.x ∷ f ∷ more))
    (ap (λ d. status_with d (frames_in p s.tables c.push.new.self.items)) runs ∙ ap run.Running frames)

pub returns-in_ok-push-clause-kept : goal.returns-in_ok-push-clause-kept
returns-in_ok-push-clause-kept c p is valid =
    let s = c.args.self.now in let th = c.in-Some.thread.now in
    let v = c.in-Some.ensures.variant.0 refl in
    let there : slice_get s.threads.items c.args.t ≡ Some th = slice_get_read s.threads.items (vec_len s.threads) c.args.t th (omega arith) v c.in-Some.ensures.value in
    thread_kept p s c.args.t (record { doing = th.doing; frames = c.push.new.self }) is
    (λ k x e. frames_more p s.tables th.frames.items c.args.x (is.threads c.args.t th there) valid k x (ap (λ l. slice_get l k) (sym c.in_ok-push.ensures.items) ∙ e))
