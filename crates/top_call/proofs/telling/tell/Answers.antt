use Rattle.std.proofs.Common.{◌≡◌, true, false, arith}
use Rattle.std.proofs.lemmas.Grind.{common_steps}
use Rattle.answers.specs.Statuses.{is_written}
use Rattle.top_call.proofs.Told.{refused_told, unwritten_told}
use Rattle.top_call.proofs.telling.tell.Goals as goal

pub returns-then-not-is_written-clause-tells : goal.returns-then-not-is_written-clause-tells
returns-then-not-is_written-clause-tells g c =
    let wants : is_written c.args.answer.now.status ≡ false = grind (arith, common_steps) in
    refused_told c.args.answer.now (g.H.Host.seen c.args.host.now) (g.H.Host.seen c.complain.new.host) _ _ wants
    c.status-then-not-is_written.ensures c.told.ensures c.complain.ensures.out c.complain.ensures.says

pub returns-in-Err-clause-tells : goal.returns-in-Err-clause-tells
returns-in-Err-clause-tells g c =
    let e = c.in-Err.ensures in
    let said = c.complain-in-Err.ensures in
    let wants : is_written c.args.answer.now.status ≡ true = grind (arith, common_steps) in
    unwritten_told c.args.answer.now (g.H.Host.seen c.args.host.now) (g.H.Host.seen c.emit.new.self) (g.H.Host.seen c.complain-in-Err.new.host) _ wants
    c.told-2.ensures e.added e.cause.failed e.err e.lost said.out said.write_faults said.says
