use Rattle.std.proofs.Common.{◌-◌, arith, get_or, refl, None}
use Rattle.context_locals.proofs.Keeping.{begins, goes_on, all_passed}
use Rattle.context_locals.proofs.known.Known.new.Goals as goal

pub loop-k-init : goal.loop-k-init
loop-k-init c =
    begins c.args.names.now c.args.params.now c.args.args.now c.min-count.result c.in_ok-known.known c.in_ok-known.ensures.names c.in_ok-known.ensures.changes c.in_ok-known.ensures.kept c.in_ok-known.ensures.known
    c.min-count.ensures

pub loop-k-preserved : goal.loop-k-preserved
loop-k-preserved c =
    goes_on c.args.names.now c.args.params.now c.args.args.now c.loop-k.k c.loop-k.known c.pass.new.self c.index-params-k.result (get_or c.args.args.now (c.loop-k.k - 1) None) None c.loop-k.invariant
    c.loop-k-test.true (omega arith) (omega arith) c.index-params-k.is refl
    c.pass.ensures.known c.pass.ensures.names c.pass.ensures.changes c.pass.ensures.kept

pub returns-clause-known : goal.returns-clause-known
returns-clause-known c = all_passed c.args.names.now c.args.params.now c.args.args.now c.loop-k.k c.loop-k.known c.loop-k.invariant (omega (arith, c.loop-k-test.false))
