use Rattle.std.proofs.Common.{◌≡◌, ◌≤◌, length, subst, sym, ap, None, ◌∙◌, arith}
use Rattle.std.specs.Prelude.{MatchOption, Err}
use Rattle.c_tree.specs.Lined.{program_of}
use Rattle.net_laws.specs.Lines.{IsCovered}
use Rattle.candidates.specs.Components.{HasSmallComponents, IsFirstLarge}
use Rattle.coverage.specs.Bad.{IsFirstBad}
use Rattle.gadara_net.specs.declared.flow.Flow.{Flow}
use Rattle.gadara_net.specs.Flows.{flow_net}
use Rattle.siphon_enum.specs.Listed.{HasMoreMinimal}
use Rattle.siphon_enum.specs.Rooms.{Room}
use Rattle.program_nets.specs.Covered.{IsCoverageError}
use Rattle.flow_laws.specs.Nets.{net_in}
use Rattle.program_nets.proofs.covered.first_bad_set_of.Goals as goal

pub new-requires-clause-places : goal.new-requires-clause-places
new-requires-clause-places c =
    let few = c.flows_meet_the_nets_condition.ensures.places (program_of c.args.p.now) c.requires.formed.0 c.args.flow c.requires.formed.1 c.requires.shaped c.requires.flow in
    let points : length c.in_ok-net.net.points ≤ 4096 = subst (λ (f : Flow). length f.points ≤ 4096) (sym c.in_ok-net.ensures) few.0 in
    let tokens : length c.in_ok-net.net.tokens ≤ 64 = subst (λ (f : Flow). length f.tokens ≤ 64) (sym c.in_ok-net.ensures) few.1 in
    omega (arith, c.places.ensures)

pub returns-in-Ok-clause-first : goal.returns-in-Ok-clause-first
returns-in-Ok-clause-first c =
    subst (λ (f : Flow). MatchOption c.in-Ok.first (IsCovered (flow_net f)) (λ set. IsFirstBad (flow_net f) set)) c.in_ok-net.ensures c.in-Ok.ensures.first

pub returns-in-Ok-clause-never_stuck : goal.returns-in-Ok-clause-never_stuck
returns-in-Ok-clause-never_stuck c = λ is.
    let none : c.in-Ok.first ≡ None = cc is in
    c.programs_with_lines_never_get_stuck.ensures.covered (program_of c.args.p.now) c.requires.formed.0 c.args.flow c.requires.formed.1 c.requires.shaped c.requires.flow
    (subst (λ o. MatchOption o (IsCovered (net_in (program_of c.args.p.now) c.args.flow)) (λ set. IsFirstBad (net_in (program_of c.args.p.now) c.args.flow) set)) none
    (subst (λ (f : Flow). MatchOption c.in-Ok.first (IsCovered (flow_net f)) (λ set. IsFirstBad (flow_net f) set)) c.in_ok-net.ensures c.in-Ok.ensures.first))

pub returns-in-Err-ComponentTooLarge-clause-error : goal.returns-in-Err-ComponentTooLarge-clause-error
returns-in-Err-ComponentTooLarge-clause-error c =
    let large : IsFirstLarge (flow_net c.in_ok-net.net) c.in-Err-ComponentTooLarge.resources =
    (c.in-Err-ComponentTooLarge.ensures.too_large c.in-Err-ComponentTooLarge.resources c.too_large.ensures.mask).0 (ap Err c.in-Err-ComponentTooLarge.field-0-is) in
    subst (λ e. IsCoverageError (net_in (program_of c.args.p.now) c.args.flow) c.args.limit e) (sym c.too_large.ensures.error)
    (subst (λ (f : Flow). IsFirstLarge (flow_net f) c.in-Err-ComponentTooLarge.resources) c.in_ok-net.ensures large)

pub returns-clause-error : goal.returns-clause-error
returns-clause-error c =
    let told = (c.in-Err-TooManySiphons.ensures.too_many c.in-Err-TooManySiphons.limit).0 (ap Err c.in-Err-TooManySiphons.field-0-is) in
    let same : c.in-Err-TooManySiphons.limit ≡ c.args.limit = told.0 ∙ ap (λ (r : Room). r.limit) c.in_ok-room.ensures in (
      same,
      subst (λ (f : Flow). HasSmallComponents (flow_net f)) c.in_ok-net.ensures told.1,
      subst (λ (f : Flow). HasMoreMinimal (flow_net f) c.args.limit) c.in_ok-net.ensures (subst (HasMoreMinimal (flow_net c.in_ok-net.net)) same told.2),
    )
