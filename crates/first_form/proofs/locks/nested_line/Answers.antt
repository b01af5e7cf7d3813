use Rattle.std.proofs.Common.{◌∙◌, sym, ap, Some}
use Rattle.first_form.specs.Shown.{shown}
use Rattle.first_form.specs.Sets.{texts}
use Rattle.first_form.specs.Locks.{above}
use Rattle.first_form.proofs.HeldNames.{nested_step, nested_found}
use Rattle.first_form.proofs.locks.nested_line.Goals as goal

pub loop-s-preserved : goal.loop-s-preserved
loop-s-preserved c =
    let body = c.args.body.now in
    let i = c.loop-s.s-index in
    nested_step body i c.s-item.result c.loop-s-test.true c.s-item.is (shown c.args.scope.now.program.now) (texts c.pass.new.self.names.items) _
    (sym c.if-nests.false ∙ c.nests.ensures (above body i) c.loop-s.invariant.0)
    (c.in_ok-pass.ensures (above body i) c.loop-s.invariant.0) c.loop-s.invariant.1

pub returns-then-nests : goal.returns-then-nests
returns-then-nests c =
    let body = c.args.body.now in
    let i = c.loop-s.s-index in
    ap (λ n. Some n) c.line.ensures
    ∙ nested_found body i c.s-item.result c.loop-s-test.true c.s-item.is (shown c.args.scope.now.program.now) _
    (sym c.if-nests.true ∙ c.nests.ensures (above body i) c.loop-s.invariant.0) c.loop-s.invariant.1
