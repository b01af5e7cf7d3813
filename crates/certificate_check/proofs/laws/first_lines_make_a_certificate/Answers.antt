use Rattle.std.proofs.Common.{map}
use Rattle.gadara_net.specs.Flows.{flow_net}
use Rattle.gadara_net.specs.Bounds.{general_of}
use Rattle.certificate_check.proofs.Made.{first_hold, first_of_minimal, general_hold, general_of_minimal}
use Rattle.certificate_check.proofs.laws.first_lines_make_a_certificate.Goals as goal

pub returns-clause-first : goal.returns-clause-first
returns-clause-first c sets lines have are =
    let n = flow_net c.args.net.now in
    c.minimal_sets_give_lines.ensures.valid lines (first_hold n sets lines are) (first_of_minimal n sets lines have are)

pub returns-clause-general : goal.returns-clause-general
returns-clause-general c sets lines have are =
    let n = flow_net c.args.net.now in
    c.minimal_sets_give_lines.ensures.valid (map (general_of n) lines)
    (general_hold n lines c.keeps_flow.ensures.net (first_hold n sets lines are))
    (λ C minimal. general_of_minimal n lines C (first_of_minimal n sets lines have are C minimal))
