use Rattle.std.proofs.Common.{◌-◌, length, Some, None, ap, subst, arith}
use Rattle.gadara_net.specs.Into.{IsLastTo}
use Rattle.gadara_net.proofs.Leading.{no_last, some_last, last_at}
use Rattle.gadara_net.proofs.net.Net.last_edge_to.Goals as goal

pub returns-in-0 : goal.returns-in-0
returns-in-0 c =
    let f = c.self.inside.flow in
    let is = last_at f c.self.inside.into c.args.point c.index.result.now c.self.invariant.1 (omega (arith, c.requires, ap (λ x. length x.points) c.self.view_is)) c.index.ensures in
    subst (λ x. IsLastTo x.edges c.args.point (length x.edges) None) c.self.view_is (no_last f.edges c.args.point c.index.result.now (length f.edges) is c.in-0.is)

pub returns-in_default : goal.returns-in_default
returns-in_default c =
    let f = c.self.inside.flow in
    let is = last_at f c.self.inside.into c.args.point c.index.result.now c.self.invariant.1 (omega (arith, c.requires, ap (λ x. length x.points) c.self.view_is)) c.index.ensures in
    subst (λ x. IsLastTo x.edges c.args.point (length x.edges) (Some (c.index.result.now - 1))) c.self.view_is (some_last f.edges c.args.point c.index.result.now (length f.edges) is (omega arith))
