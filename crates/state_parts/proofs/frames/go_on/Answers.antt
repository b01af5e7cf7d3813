use Rattle.std.proofs.Common.{sym, ap, ◌∙◌, refl}
use Rattle.c_meaning.specs.State.{frame}
use Rattle.state_parts.specs.Threads.{frame_in}
use Rattle.state_parts.specs.Onward.{onward}
use Rattle.state_parts.specs.declared.frames.Onward.TheVariants.{Past, Into, Loop}
use Rattle.state_parts.proofs.Framing.{goes, still_frame, no_function}
use Rattle.state_parts.proofs.frames.go_on.Goals as goal

pub returns-in-Past-clause-goes : goal.returns-in-Past-clause-goes
returns-in-Past-clause-goes c s rest e =
    goes c.args.p.now c.args.tables.now c.args.x.now c.pass.new.self c.in-Some.f.now (onward Past) c.requires c.in-Some.ensures.some c.pass.ensures.passes c.pass.ensures.values c.pass.ensures.function s rest e
    ∙ ap (λ to. frame (frame_in c.args.p.now c.args.tables.now c.args.x.now).locals (onward to s rest)) (sym c.in-Past.is)

pub returns-in-Past-clause-valid : goal.returns-in-Past-clause-valid
returns-in-Past-clause-valid c =
    still_frame c.args.p.now c.args.tables.now c.args.x.now c.pass.new.self c.in-Some.f.now c.requires c.in-Some.ensures.some c.pass.ensures.placed c.pass.ensures.values c.pass.ensures.function

pub returns-in-Into-clause-goes : goal.returns-in-Into-clause-goes
returns-in-Into-clause-goes c s rest e =
    goes c.args.p.now c.args.tables.now c.args.x.now c.enter.new.self c.in-Some.f.now (onward (Into c.in-Into.arm)) c.requires c.in-Some.ensures.some c.enter.ensures.enters c.enter.ensures.values c.enter.ensures.function s rest e
    ∙ ap (λ to. frame (frame_in c.args.p.now c.args.tables.now c.args.x.now).locals (onward to s rest)) (sym c.in-Into.is)

pub returns-in-Into-clause-valid : goal.returns-in-Into-clause-valid
returns-in-Into-clause-valid c =
    still_frame c.args.p.now c.args.tables.now c.args.x.now c.enter.new.self c.in-Some.f.now c.requires c.in-Some.ensures.some c.enter.ensures.placed c.enter.ensures.values c.enter.ensures.function

pub returns-in-Loop-clause-goes : goal.returns-in-Loop-clause-goes
returns-in-Loop-clause-goes c s rest e =
    goes c.args.p.now c.args.tables.now c.args.x.now c.begin.new.self c.in-Some.f.now (onward Loop) c.requires c.in-Some.ensures.some c.begin.ensures.begins c.begin.ensures.values c.begin.ensures.function s rest e
    ∙ ap (λ to. frame (frame_in c.args.p.now c.args.tables.now c.args.x.now).locals (onward to s rest)) (sym c.in-Loop.is)

pub returns-in-Loop-clause-valid : goal.returns-in-Loop-clause-valid
returns-in-Loop-clause-valid c =
    still_frame c.args.p.now c.args.tables.now c.args.x.now c.begin.new.self c.in-Some.f.now c.requires c.in-Some.ensures.some c.begin.ensures.placed c.begin.ensures.values c.begin.ensures.function

pub returns-in_default-clause-goes : goal.returns-in_default-clause-goes
returns-in_default-clause-goes c s rest e = absurd (no_function c.args.p.now c.args.tables.now c.args.x.now c.requires (c.in_default.ensures.none refl))
