use Rattle.std.proofs.Common.{◌≡◌, ◌-◌, Some, None, ap, ◌∙◌, subst, arith}
use Rattle.std.specs.Prelude.{slice_get}
use Rattle.gadara_net.specs.Into.{IsLastTo}
use Rattle.gadara_net.proofs.Leading.{no_last, some_last, before_at}
use Rattle.gadara_net.proofs.net.Net.edge_before.Goals as goal

pub returns-in-0 : goal.returns-in-0
returns-in-0 c e at =
    let f = c.self.inside.flow in
    let there : slice_get f.edges c.args.n ≡ Some e = ap (λ x. slice_get x.edges c.args.n) c.self.view_is ∙ at in
    let is = before_at f c.self.inside.into c.args.n c.index.result.now e c.self.invariant.1 there c.index.ensures in
    subst (λ x. IsLastTo x.edges e.to c.args.n None) c.self.view_is (no_last f.edges e.to c.index.result.now c.args.n is c.in-0.is)

pub returns-in_default : goal.returns-in_default
returns-in_default c e at =
    let f = c.self.inside.flow in
    let there : slice_get f.edges c.args.n ≡ Some e = ap (λ x. slice_get x.edges c.args.n) c.self.view_is ∙ at in
    let is = before_at f c.self.inside.into c.args.n c.index.result.now e c.self.invariant.1 there c.index.ensures in
    subst (λ x. IsLastTo x.edges e.to c.args.n (Some (c.index.result.now - 1))) c.self.view_is (some_last f.edges e.to c.index.result.now c.args.n is (omega arith))
