use Rattle.std.proofs.Common.{refl}
use Rattle.std.specs.Prelude.{◌||◌, ◌&&◌, not}
use Rattle.contexts.specs.Constants.{among}
use Rattle.context_locals.specs.Known.{is_in}
use Rattle.context_locals.specs.Writes.{writes_in}
use Rattle.context_locals.proofs.Collecting.{next_name, all_names}
use Rattle.context_locals.proofs.names.ConstantNames.add_all.Goals as goal

pub loop-name-init : goal.loop-name-init
loop-name-init c = λ q. refl

pub loop-name-preserved : goal.loop-name-preserved
loop-name-preserved c = λ q.
    let constant = not (writes_in c.args.writes.now q) in
    next_name c.args.names.now c.loop-name.name-index c.name-item.result c.as_slice.result.now q constant (is_in c.loop-name.self q) (is_in c.add.new.self q)
    (is_in c.args.self.now q || (among c.args.names.now q && constant)) c.loop-name-test.true c.name-item.is c.as_slice.ensures (c.in_ok-add.ensures q) (c.loop-name.invariant q)

pub returns : goal.returns
returns c = λ q.
    let constant = not (writes_in c.args.writes.now q) in
    all_names c.args.names.now c.loop-name.name-index q constant (is_in c.loop-name.self q) (is_in c.args.self.now q || (among c.args.names.now q && constant)) c.loop-name-test.false (c.loop-name.invariant q)
