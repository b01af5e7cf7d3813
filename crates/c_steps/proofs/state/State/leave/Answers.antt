use Rattle.std.proofs.Common.{◌≡◌, ◌-◌, ◌∷◌, ◌<◌, length, take, Some, sym, ap, ◌∙◌, refl, arith}
use Rattle.std.specs.Prelude.{slice_get, vec_len, reverse}
use Rattle.std.proofs.lemmas.Option.{slice_get_read, slice_get_within, same_Some}
use Rattle.c_meaning.specs.State as run
use Rattle.state_parts.specs.Threads.{frame_in, frames_in, status_with}
use Rattle.state_parts.specs.declared.threads.Doing.TheVariants.{Running}
use Rattle.state_parts.specs.declared.threads.Thread.{Thread}
use Rattle.c_steps.proofs.Changing.{new_status, thread_kept}
use Rattle.state_parts.proofs.Newest.{popped, second, get_front, get_set}
use Rattle.c_steps.proofs.state.State.leave.Goals as goal

pub returns-in-Some-clause-leaves : goal.returns-in-Some-clause-leaves
returns-in-Some-clause-leaves c p newest more r =
    let s = c.args.self.now in let th = c.in-Some.thread.now in
    let v = c.in-Some.ensures.variant.0 refl in
    let there : slice_get s.threads.items c.args.t ≡ Some th = slice_get_read s.threads.items (vec_len s.threads) c.args.t th (omega arith) v c.in-Some.ensures.value in
    let same = same_Some r.thread th (sym r.there ∙ there) in
    let runs : th.doing ≡ Running = ap (λ x. x.doing) (sym same) ∙ r.runs in
    let stands = ap (λ x. frames_in p s.tables x.frames.items) (sym same) ∙ r.stands in
    let last : vec_len th.frames - 1 ≡ length th.frames.items - 1 = omega arith in
    let rest = ap (λ xs. frames_in p s.tables xs) c.pop-newest.ensures.rest ∙ popped (frame_in p s.tables) th.frames.items (vec_len th.frames - 1) newest more last stands in
    new_status p s c.args.t (record { doing = th.doing; frames = c.pop-newest.new.self }) (run.Running more)
    (ap (λ d. status_with d (frames_in p s.tables c.pop-newest.new.self.items)) runs ∙ ap run.Running rest)

pub returns-in-Some-clause-runs : goal.returns-in-Some-clause-runs
returns-in-Some-clause-runs c p newest f more r =
    let s = c.args.self.now in let th = c.in-Some.thread.now in
    let v = c.in-Some.ensures.variant.0 refl in
    let there : slice_get s.threads.items c.args.t ≡ Some th = slice_get_read s.threads.items (vec_len s.threads) c.args.t th (omega arith) v c.in-Some.ensures.value in
    let within : c.args.t < length s.threads.items = omega arith in
    let same = same_Some r.thread th (sym r.there ∙ there) in
    let stands = ap (λ x. frames_in p s.tables x.frames.items) (sym same) ∙ r.stands in
    let last : vec_len th.frames - 1 ≡ length th.frames.items - 1 = omega arith in
    record {
      thread = record { doing = th.doing; frames = c.pop-newest.new.self };
      there = get_set s.threads.items c.args.t (record { doing = th.doing; frames = c.pop-newest.new.self }) within;
      runs = ap (λ x. x.doing) (sym same) ∙ r.runs;
      stands = ap (λ xs. frames_in p s.tables xs) c.pop-newest.ensures.rest ∙ popped (frame_in p s.tables) th.frames.items (vec_len th.frames - 1) newest (f ∷ more) last stands;
    }

pub returns-in-Some-clause-may : goal.returns-in-Some-clause-may
returns-in-Some-clause-may c name may thread x e ex =
    let s = c.args.self.now in let th = c.in-Some.thread.now in
    let v = c.in-Some.ensures.variant.0 refl in
    let there : slice_get s.threads.items c.args.t ≡ Some th = slice_get_read s.threads.items (vec_len s.threads) c.args.t th (omega arith) v c.in-Some.ensures.value in
    let within : c.args.t < length s.threads.items = omega arith in
    let last : vec_len th.frames - 1 ≡ length th.frames.items - 1 = omega arith in
    let same = same_Some thread (record { doing = th.doing; frames = c.pop-newest.new.self }) (sym e ∙ get_set s.threads.items c.args.t (record { doing = th.doing; frames = c.pop-newest.new.self }) within) in
    let here : slice_get (reverse (take (vec_len th.frames - 1) th.frames.items)) 0 ≡ Some x =
    ap (λ xs. slice_get (reverse xs) 0) (sym c.pop-newest.ensures.rest) ∙ ap {A = Thread} (λ x. slice_get (reverse x.frames.items) 0) (sym same) ∙ ex in
    may th x there (second th.frames.items (vec_len th.frames - 1) x last here)

pub returns-in-Some-clause-kept : goal.returns-in-Some-clause-kept
returns-in-Some-clause-kept c p is =
    let s = c.args.self.now in let th = c.in-Some.thread.now in
    let v = c.in-Some.ensures.variant.0 refl in
    let there : slice_get s.threads.items c.args.t ≡ Some th = slice_get_read s.threads.items (vec_len s.threads) c.args.t th (omega arith) v c.in-Some.ensures.value in
    thread_kept p s c.args.t (record { doing = th.doing; frames = c.pop-newest.new.self }) is
    (λ k x e. is.threads c.args.t th there k x (ap (λ xs. slice_get xs k) c.pop-newest.ensures.items ∙ get_front c.pop-newest.new.self.items _ k x e))

pub returns-in_default-clause-runs : goal.returns-in_default-clause-runs
returns-in_default-clause-runs c p newest f more r =
    let within : c.args.t < vec_len c.args.self.now.threads = omega (arith, slice_get_within c.args.self.now.threads.items c.args.t r.thread r.there) in absurd (cc (c.in_default.ensures.variant.1 within))

pub returns-in_default-clause-may : goal.returns-in_default-clause-may
returns-in_default-clause-may c name may thread x e =
    let within : c.args.t < vec_len c.args.self.now.threads = omega (arith, slice_get_within c.args.self.now.threads.items c.args.t thread e) in absurd (cc (c.in_default.ensures.variant.1 within))
