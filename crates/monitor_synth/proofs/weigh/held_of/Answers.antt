use Rattle.std.proofs.Common.{◌<◌, ◌≤◌, ℕ, length, ◌∙◌, ⊎_elim, arith}
use Rattle.std.specs.Prelude.{slice_index_or}
use Rattle.std.proofs.lemmas.Bool.{cases_lt, lt-ltb, both_ways}
use Rattle.std.proofs.lemmas.List.Sums.{sum_by-le}
use Rattle.gadara_net.specs.Flows.{flow_net}
use Rattle.monitor_synth.proofs.weigh.held_of.Goals as goal

pub returns-then-not-have_common : goal.returns-then-not-have_common
returns-then-not-have_common c =
    let held = (flow_net c.args.n.now).held c.args.point in
    let list = c.args.list.now in
    let none : (k d : ℕ) → k < length list → held (slice_index_or list k d) ≤ 0 = λ k d lt.
    let r = slice_index_or list k d in
    ⊎_elim
    (λ some. absurd (both_ways _ (grind arith) (c.have_common.ensures.1 (r, c.held_set.ensures r ∙ lt-ltb 0 (held r) some, c.requires.named k d lt))))
    (λ le. le)
    (cases_lt 0 (held r)) in
    omega (arith, sum_by-le held 0 list none)
