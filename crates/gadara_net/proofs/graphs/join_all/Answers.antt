use Rattle.std.proofs.Common.{◌≡◌, ℕ, ◌<◌, sym, ◌∙◌, subst, arith}
use Rattle.std.specs.Prelude.{IsTrue}
use Rattle.gadara_net.specs.Graphs.{has_arc}
use Rattle.gadara_net.proofs.Reaching.{reached_from, reached_by}
use Rattle.gadara_net.proofs.graphs.join_all.Goals as goal

pub returns : goal.returns
returns c r s lt =
    let inv = c.loop-through.invariant r s lt in
    let rows = c.args.rows.now in
    let all : 64 ≡ c.loop-through.through = omega (arith, c.requires.rows, c.loop-through-test.false, c.loop-through.auto.through-end) in
    let below : (a b : ℕ) → a < c.loop-through.through → IsTrue (has_arc rows a b) → b < c.loop-through.through =
    λ a b le on. subst (λ n. b < n) all (c.requires.below a b (omega (arith, all, le)) on) in (
      λ on. reached_by rows c.loop-through.through r s (sym inv ∙ on),
      λ is. inv ∙ reached_from rows c.loop-through.through below r s (omega (arith, all, lt)) is,
    )
