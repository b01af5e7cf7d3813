use Rattle.gadara_net.specs.Flows.{flow_net}
use Rattle.candidates.proofs.Searching.{HasNoneOfSize, none_of_size_zero, next_by_size, some_size}
use Rattle.candidates.proofs.search.Candidates.next_after.Goals as goal
use Rattle.candidates.proofs.search.Candidates.next_after.Goals.{then-after-ne0+in_default, else-after-ne0}

pub next_of_size-requires-clause-size : goal.next_of_size-requires-clause-size
next_of_size-requires-clause-size c = some_size c.args.after c.if-after-ne0.true

pub returns : goal.returns
returns c =
    let n = flow_net c.args.self.now in
    let none : HasNoneOfSize n c.args.after = elim c.if-after-ne0.branch [ then-after-ne0+in_default w ↦ w.in_default.ensures | else-after-ne0 w ↦ none_of_size_zero n c.args.after w.if-after-ne0.false ] in
    next_by_size n c.args.after c.next_larger.result none c.next_larger.ensures
