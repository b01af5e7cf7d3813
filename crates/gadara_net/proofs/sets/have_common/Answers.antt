use Rattle.std.proofs.Common.{sym, ◌∙◌}
use Rattle.std.proofs.lemmas.Bool.{and_from, and_parts}
use Rattle.net_laws.specs.Candidates.{members}
use Rattle.gadara_net.proofs.Bits.{members-common}
use Rattle.gadara_net.proofs.sets.have_common.Goals as goal

pub returns : goal.returns
returns c =
    let one = c.args.one in
    let other = c.args.other in
    let common = c.has_members.ensures in (
      λ on.
          let found = common.0 on in
          let each = and_parts (members one found.0) (members other found.0) (sym (members-common one other found.0) ∙ found.1) in
          (found.0, each.0, each.1),
      λ some. common.1 (some.0, members-common one other some.0 ∙ and_from (members one some.0) (members other some.0) some.1 some.2),
    )
