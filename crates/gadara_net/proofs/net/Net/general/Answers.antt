use Rattle.std.proofs.Common.{length, sym, ap, ◌∙◌, subst}
use Rattle.std.specs.Prelude.{slice_index}
use Rattle.net_laws.specs.Candidates.{members}
use Rattle.net_laws.specs.Lines.{LineHolds, total}
use Rattle.gadara_net.specs.Flows.{IsFlow, flow_net}
use Rattle.gadara_net.specs.Bounds.{general_kind}
use Rattle.gadara_net.proofs.Generals.{general_holds}
use Rattle.gadara_net.proofs.net.Net.general.Goals as goal

pub returns-clause-holds : goal.returns-clause-holds
returns-clause-holds c =
    let n = flow_net c.args.self.now in
    let R = members c.args.line.now.resources in
    let tokens = c.sum_of-tokens.ensures.sum ∙ ap (λ xs. total (length xs) R (slice_index xs)) (c.as_slice.ensures ∙ ap (λ f. f.tokens) c.self.view_is) in
    let is = subst IsFlow c.self.view_is c.self.invariant.0 in
    subst (LineHolds n R) (sym (c.in_ok-kind.ensures ∙ ap (λ t. general_kind t c.args.line.now.kind) tokens)) (general_holds n R c.args.line.now.kind is.net c.requires)
