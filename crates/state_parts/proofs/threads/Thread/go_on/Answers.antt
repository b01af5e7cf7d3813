use Rattle.std.proofs.Common.{◌≡◌, ◌∷◌, ◌+◌, ◌-◌, length, Some, ap, ◌∙◌, arith}
use Rattle.std.specs.Prelude.{slice_get, vec_len}
use Rattle.std.proofs.lemmas.Option.{slice_get_read}
use Rattle.c_meaning.specs.State as run
use Rattle.state_parts.specs.Threads.{frame_in}
use Rattle.state_parts.specs.Onward.{onward}
use Rattle.state_parts.proofs.Newest.{newest_is, newest_set}
use Rattle.state_parts.proofs.Framing.{frames_set}
use Rattle.state_parts.proofs.threads.Thread.go_on.Goals as goal

pub returns-in-Some-clause-goes : goal.returns-in-Some-clause-goes
returns-in-Some-clause-goes c locals s rest more e =
    let h = c.in-Some.ensures.item in
    let frames = c.args.self.now.frames in
    let g = frame_in c.args.p.now c.args.tables.now in
    let last : vec_len frames - 1 + 1 ≡ length frames.items = omega arith in
    let there : slice_get frames.items (vec_len frames - 1) ≡ Some c.in-Some.x.now =
    slice_get_read frames.items (vec_len frames) (vec_len frames - 1) c.in-Some.x.now (omega arith) (omega arith) c.in-Some.ensures.value in
    let is = newest_is g frames.items (vec_len frames - 1) c.in-Some.x.now _ more last there e in
    newest_set g frames.items (vec_len frames - 1) c.in-Some.x.now c.go_on.new.x _ more last there e
    ∙ ap (λ f. f ∷ more) (c.go_on.ensures.goes s rest (ap (λ f. f.todo) is.0) ∙ ap (λ f. run.frame f.locals (onward c.args.to s rest)) is.0)

pub returns-in-Some-clause-valid : goal.returns-in-Some-clause-valid
returns-in-Some-clause-valid c = frames_set c.args.p.now c.args.tables.now c.args.self.now.frames.items (vec_len c.args.self.now.frames - 1) c.go_on.new.x c.requires c.go_on.ensures.valid
