use Rattle.std.proofs.Common.{◌<◌, length, sym, ◌∙◌, subst, arith}
use Rattle.std.specs.Prelude.{slice_index, slice_set, All, List, IsTrue, ℕ, ◌≤◌}
use Rattle.std.proofs.lemmas.List.Elements.{All-push}
use Rattle.gadara_net.specs.Flows.{flow_net}
use Rattle.weight_laws.specs.Weights.{follows}
use Rattle.monitor_synth.specs.Raised.{HaveRisen, work_left}
use Rattle.monitor_synth.proofs.Rising.{index_same, risen_one, reached_one, less_one}
use Rattle.monitor_synth.proofs.raise.raise.Goals as goal

pub returns-clause-source : goal.returns-clause-source
returns-clause-source c go =
    omega (arith, index_same c.args.moved.now c.args.edge.from c.args.level (omega (arith, c.requires.each, (c.keeps_flow.ensures.shaped.leads c.args.edge c.requires.edge).0)))

pub returns-clause-risen : goal.returns-clause-risen
returns-clause-risen c =
    let lt : c.args.edge.from < length c.args.moved.now = omega (arith, c.requires.each, (c.keeps_flow.ensures.shaped.leads c.args.edge c.requires.edge).0) in
    subst (HaveRisen (slice_index c.args.moved.now) (slice_index (slice_set c.args.moved.now c.args.edge.from c.args.level)) c.args.todo.now.items) (sym c.in_ok-push.ensures.items)
    (risen_one c.args.moved.now c.args.todo.now.items c.args.edge.from c.args.level lt (omega arith))

pub returns-clause-reached : goal.returns-clause-reached
returns-clause-reached c w reached =
    let n = flow_net c.args.n.now in
    let lt : c.args.edge.from < length c.args.moved.now = omega (arith, c.requires.each, (c.keeps_flow.ensures.shaped.leads c.args.edge c.requires.edge).0) in
    let go : IsTrue (follows n c.args.edge) = sym c.is_followed.ensures ∙ c.if-not-is_followed.false in
    reached_one n w c.args.moved.now c.args.edge c.args.level c.requires.edge go lt (omega arith) c.requires.level reached

pub returns-clause-below : goal.returns-clause-below
returns-clause-below c =
    let P : List ℕ → Type 0 = λ xs. All (λ p. p < length c.args.n.now.points) xs in
    subst P (sym c.in_ok-push.ensures.items) (All-push (λ p. p < length c.args.n.now.points) c.args.todo.now.items c.args.edge.from c.requires.below (c.keeps_flow.ensures.shaped.leads c.args.edge c.requires.edge).0)

pub returns-clause-less : goal.returns-clause-less
returns-clause-less c =
    let lt : c.args.edge.from < length c.args.moved.now = omega (arith, c.requires.each, (c.keeps_flow.ensures.shaped.leads c.args.edge c.requires.edge).0) in
    subst (λ xs. work_left (slice_set c.args.moved.now c.args.edge.from c.args.level) xs ≤ work_left c.args.moved.now c.args.todo.now.items) (sym c.in_ok-push.ensures.items)
    (less_one c.args.moved.now c.args.todo.now.items c.args.edge.from c.args.level lt (omega arith) (omega arith))
