use Rattle.std.proofs.Common.{get_or, ap, ◌∙◌}
use Rattle.std.specs.Prelude.{slice_set}
use Rattle.state_parts.specs.Waiting.{thread_awakened}
use Rattle.state_parts.proofs.Changed.{one_more_changed}
use Rattle.state_parts.proofs.waiting.awaken_all.Goals as goal

pub loop-thread-preserved : goal.loop-thread-preserved
loop-thread-preserved c =
    let i = c.loop-thread.thread-index in
    ap (λ doing. slice_set c.loop-thread.threads i (record (get_or c.loop-thread.threads i c.thread-item.result) { doing = doing })) c.awakened-thread.ensures
    ∙ one_more_changed (thread_awakened c.args.condition) c.args.threads.now c.loop-thread.threads i c.thread-item.result c.loop-thread.invariant c.loop-thread-test.true
