use Rattle.std.proofs.Common.{◌∙◌, sym, ap, not, arith}
use Rattle.first_form.specs.Shown.{shown}
use Rattle.first_form.specs.Sets.{texts}
use Rattle.first_form.specs.Locks.{above}
use Rattle.first_form.proofs.HeldNames.{balanced_step, balanced_end}
use Rattle.first_form.proofs.locks.is_balanced.Goals as goal

pub loop-s-preserved : goal.loop-s-preserved
loop-s-preserved c =
    let body = c.args.body.now in
    let i = c.loop-s.s-index in
    balanced_step body i c.s-item.result c.loop-s-test.true c.s-item.is (shown c.args.scope.now.program.now) (texts c.pass.new.self.names.items) _
    (sym c.if-not-allows.false ∙ c.allows.ensures (above body i) c.loop-s.invariant.0)
    (c.in_ok-pass.ensures (above body i) c.loop-s.invariant.0) c.loop-s.invariant.1

pub returns : goal.returns
returns c =
    let body = c.args.body.now in
    let i = c.loop-s.s-index in
    ap not (c.has_some.ensures (above body i) c.loop-s.invariant.0)
    ∙ balanced_end (shown c.args.scope.now.program.now) body i _ (omega (arith, c.loop-s-test.false)) c.loop-s.invariant.1
