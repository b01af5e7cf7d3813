use Rattle.std.proofs.Common.{◌++◌, [], ◌∙◌, ap, refl, sym}
use Rattle.c_tree.specs.Expressions.{place_of}
use Rattle.c_tree.specs.Lined.{stmts_of}
use Rattle.context_items.specs.Items as spec
use Rattle.context_walk.specs.declared.items.Item.TheVariants as v
use Rattle.context_walk.specs.Shown.{shown_items, block_items, list_items}
use Rattle.context_locals.proofs.Shown as shown
use Rattle.context_walk.proofs.Pushes.{pushed, block_pushed, arms_pushed, tried_pushed, loop_pushed, turn, ended, left_items}
use Rattle.context_walk.proofs.items.+items.Goals as goal

pub push_block-returns : goal.push_block-returns
push_block-returns t c =
    block_pushed (shown_items c.args.out.now.items) (shown_items c.push.new.self.items) (shown_items c.push_items.new.out.items) (shown_items c.push-2.new.self.items) (stmts_of c.args.ss.now)
    (pushed c.args.out.now.items c.push.new.self.items v.Opens c.in_ok-push.ensures.items)
    c.in_ok-push_items.ensures
    (pushed c.push_items.new.out.items c.push-2.new.self.items v.Closes c.in_ok-push-2.ensures.items)

pub push_item-returns-in_ok-push_block-in-If-2 : goal.push_item-returns-in_ok-push_block-in-If-2
push_item-returns-in_ok-push_block-in-If-2 t c =
    arms_pushed (shown_items c.args.out.now.items) (shown_items c.push_block.new.out.items) (shown_items c.push_block-in-If.new.out.items) (stmts_of c.in-If.then_arm) (stmts_of c.in-If.else_arm)
    (c.in_ok-push_block-in-If.ensures ∙ ap (λ ss. shown_items c.args.out.now.items ++ block_items (stmts_of ss)) c.as_slice-in-If.ensures)
    (c.in_ok-push_block-in-If-2.ensures ∙ ap (λ ss. shown_items c.push_block.new.out.items ++ block_items (stmts_of ss)) c.as_slice-in-If-2.ensures)
    ∙ ap (λ s. shown_items c.args.out.now.items ++ spec.items s []) (sym (shown.if_of c.args.s.now c.in-If.test c.in-If.then_arm c.in-If.else_arm c.in-If.is))

pub push_item-returns-in_ok-push_block-in-While : goal.push_item-returns-in_ok-push_block-in-While
push_item-returns-in_ok-push_block-in-While t c =
    c.in_ok-push_block-in-While.ensures ∙ ap (λ ss. shown_items c.args.out.now.items ++ block_items (stmts_of ss)) c.as_slice-in-While.ensures
    ∙ ap (λ s. shown_items c.args.out.now.items ++ spec.items s []) (sym (shown.while_of c.args.s.now c.in-While.test c.in-While.body c.in-While.is))

pub push_item-returns-in_ok-push-in-For-2 : goal.push_item-returns-in_ok-push-in-For-2
push_item-returns-in_ok-push-in-For-2 t c =
    loop_pushed (shown_items c.args.out.now.items) (shown_items c.push-in-For.new.self.items) (shown_items c.push_items.new.out.items) (shown_items c.push_items-in-For.new.out.items)
    (shown_items c.push_items-in-For-2.new.out.items) (shown_items c.push-in-For-2.new.self.items) (stmts_of c.in-For.first) (stmts_of c.in-For.body) (stmts_of c.in-For.step)
    (pushed c.args.out.now.items c.push-in-For.new.self.items v.Opens c.in_ok-push-in-For.ensures.items)
    (c.in_ok-push_items-in-For.ensures ∙ ap (λ ss. shown_items c.push-in-For.new.self.items ++ list_items (stmts_of ss)) c.as_slice-in-For.ensures)
    (c.in_ok-push_items-in-For-2.ensures ∙ ap (λ ss. shown_items c.push_items.new.out.items ++ list_items (stmts_of ss)) c.as_slice-in-For-2.ensures)
    (c.in_ok-push_items-in-For-3.ensures ∙ ap (λ ss. shown_items c.push_items-in-For.new.out.items ++ list_items (stmts_of ss)) c.as_slice-in-For-3.ensures)
    (pushed c.push_items-in-For-2.new.out.items c.push-in-For-2.new.self.items v.Closes c.in_ok-push-in-For-2.ensures.items)
    ∙ ap (λ s. shown_items c.args.out.now.items ++ spec.items s []) (sym (shown.for_of c.args.s.now c.in-For.first c.in-For.test c.in-For.step c.in-For.body c.in-For.is))

pub push_item-returns-in_ok-push-in-Lock : goal.push_item-returns-in_ok-push-in-Lock
push_item-returns-in_ok-push-in-Lock t c =
    pushed c.args.out.now.items c.push-in-Lock.new.self.items _ c.in_ok-push-in-Lock.ensures.items
    ∙ ap (λ s. shown_items c.args.out.now.items ++ spec.items s []) (sym (shown.lock_of c.args.s.now c.in-Lock.place c.in-Lock.is))

pub push_item-returns-in_ok-push_block-in-TryLock-2 : goal.push_item-returns-in_ok-push_block-in-TryLock-2
push_item-returns-in_ok-push_block-in-TryLock-2 t c =
    tried_pushed (shown_items c.args.out.now.items) (shown_items c.push-in-TryLock.new.self.items) (shown_items c.push_block-in-TryLock.new.out.items) (shown_items c.push_block-in-TryLock-2.new.out.items)
    (spec.Locks c.args.s.now.line (place_of c.in-TryLock.place)) (stmts_of c.in-TryLock.taken) (stmts_of c.in-TryLock.busy)
    (pushed c.args.out.now.items c.push-in-TryLock.new.self.items _ c.in_ok-push-in-TryLock.ensures.items)
    (c.in_ok-push_block-in-TryLock.ensures ∙ ap (λ ss. shown_items c.push-in-TryLock.new.self.items ++ block_items (stmts_of ss)) c.as_slice-in-TryLock.ensures)
    (c.in_ok-push_block-in-TryLock-2.ensures ∙ ap (λ ss. shown_items c.push_block-in-TryLock.new.out.items ++ block_items (stmts_of ss)) c.as_slice-in-TryLock-2.ensures)
    ∙ ap (λ s. shown_items c.args.out.now.items ++ spec.items s []) (sym (shown.try_of c.args.s.now c.in-TryLock.place c.in-TryLock.taken c.in-TryLock.busy c.in-TryLock.is))

pub push_item-returns-in_ok-push-in-Unlock : goal.push_item-returns-in_ok-push-in-Unlock
push_item-returns-in_ok-push-in-Unlock t c =
    pushed c.args.out.now.items c.push-in-Unlock.new.self.items _ c.in_ok-push-in-Unlock.ensures.items
    ∙ ap (λ s. shown_items c.args.out.now.items ++ spec.items s []) (sym (shown.unlock_of c.args.s.now c.in-Unlock.place c.in-Unlock.is))

pub push_item-returns-in_ok-push-in-Wait : goal.push_item-returns-in_ok-push-in-Wait
push_item-returns-in_ok-push-in-Wait t c =
    pushed c.args.out.now.items c.push-in-Wait.new.self.items _ c.in_ok-push-in-Wait.ensures.items
    ∙ ap (λ s. shown_items c.args.out.now.items ++ spec.items s []) (sym (shown.wait_of c.args.s.now c.in-Wait.cond c.in-Wait.mutex c.in-Wait.takes c.in-Wait.is))

pub push_item-returns-in_ok-push-in-Take : goal.push_item-returns-in_ok-push-in-Take
push_item-returns-in_ok-push-in-Take t c =
    pushed c.args.out.now.items c.push-in-Take.new.self.items _ c.in_ok-push-in-Take.ensures.items
    ∙ ap (λ s. shown_items c.args.out.now.items ++ spec.items s []) (sym (shown.take_of c.args.s.now c.in-Take.monitor c.in-Take.is))

pub push_item-returns-in_ok-push-in-Give : goal.push_item-returns-in_ok-push-in-Give
push_item-returns-in_ok-push-in-Give t c =
    pushed c.args.out.now.items c.push-in-Give.new.self.items _ c.in_ok-push-in-Give.ensures.items
    ∙ ap (λ s. shown_items c.args.out.now.items ++ spec.items s []) (sym (shown.give_of c.args.s.now c.in-Give.monitor c.in-Give.is))

pub push_items-loop-s-init : goal.push_items-loop-s-init
push_items-loop-s-init t c = refl

pub push_items-loop-s-preserved : goal.push_items-loop-s-preserved
push_items-loop-s-preserved t c =
    turn c.args.ss.now c.loop-s.s-index c.s-item.result (shown_items c.args.out.now.items ++ left_items c.args.ss.now) (shown_items c.loop-s.out.items) (shown_items c.push_item.new.out.items)
    c.loop-s-test.true c.s-item.is c.in_ok-push_item.ensures c.loop-s.invariant

pub push_items-returns : goal.push_items-returns
push_items-returns t c =
    ended c.args.ss.now c.loop-s.s-index (shown_items c.args.out.now.items ++ left_items c.args.ss.now) (shown_items c.loop-s.out.items) c.loop-s-test.false c.loop-s.invariant
