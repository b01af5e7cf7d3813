use Rattle.std.proofs.Common.{ap}
use Rattle.std.specs.Prelude.{◌||◌, bytes_eq}
use Rattle.std.specs.List.{list_any}
use Rattle.c_names.specs.Tables.{in_scope}
use Rattle.contexts.specs.Constants.{among}
use Rattle.context_locals.specs.Writes.{int_texts}
use Rattle.context_locals.proofs.Collecting.{next_int, all_ints}
use Rattle.context_locals.proofs.written.int_names.Goals as goal

pub loop-c-init : goal.loop-c-init
loop-c-init c = λ q. ap (λ keys. list_any (λ key. bytes_eq q key.now) keys || among (int_texts c.args.ints.now) q) c.new-names.ensures.empty

pub loop-c-preserved : goal.loop-c-preserved
loop-c-preserved c = λ q.
    next_int c.args.ints.now c.loop-c.c-index c.c-item.result q c.as_slice.result.now (in_scope c.loop-c.names q) (in_scope c.enter.new.scope q) (among (int_texts c.args.ints.now) q)
    c.loop-c-test.true c.c-item.is c.as_slice.ensures (c.in_ok-enter.ensures.scoped q) (c.loop-c.invariant q)

pub returns : goal.returns
returns c = λ q. all_ints c.args.ints.now c.loop-c.c-index q (in_scope c.loop-c.names q) (among (int_texts c.args.ints.now) q) c.loop-c-test.false (c.loop-c.invariant q)
