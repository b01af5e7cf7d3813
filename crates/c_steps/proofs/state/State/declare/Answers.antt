use Rattle.std.proofs.Common.{◌∷◌, refl, sym, ap, ◌∙◌}
use Rattle.c_meaning.specs.Setting.{declared_local}
use Rattle.c_meaning.specs.Outcome.{Done}
use Rattle.c_meaning.specs.declared.Did.TheVariants.{Step}
use Rattle.c_meaning.specs.State.{frame, goes_on}
use Rattle.c_frames.specs.LocalValues.{changed}
use Rattle.state_parts.specs.Onward.{onward}
use Rattle.c_steps.specs.Model.{state_of}
use Rattle.c_steps.proofs.Rows.{declared}
use Rattle.c_steps.proofs.state.State.declare.Goals as goal

pub returns-in_default-clause-is : goal.returns-in_default-clause-is
returns-in_default-clause-is c act at =
    (ap (declared_local (state_of c.args.p.now c.args.self.now) c.args.t at.locals (onward c.args.to act at.rest) at.more c.args.name.now) (sym (c.in_default.ensures act at)), refl)

pub returns-clause-is : goal.returns-clause-is
returns-clause-is c act at =
    ap (declared_local (state_of c.args.p.now c.args.self.now) c.args.t at.locals (onward c.args.to act at.rest) at.more c.args.name.now) (sym (c.in-Some.ensures act at))
    ∙ declared (state_of c.args.p.now c.args.self.now) c.args.t at.locals (onward c.args.to act at.rest) at.more c.args.name.now c.in-Some.value
    ∙ ap (λ n. Done Step (goes_on (state_of c.args.p.now c.args.self.now) c.args.t (frame (changed at.locals n c.in-Some.value) (onward c.args.to act at.rest) ∷ at.more))) (sym c.as_slice.ensures)
    ∙ ap (λ x. Done Step x) (sym (c.set_local.ensures.goes act at))
