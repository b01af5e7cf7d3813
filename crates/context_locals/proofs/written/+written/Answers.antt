use Rattle.std.proofs.Common.{◌≡◌, ℕ, List, refl, sym, ap, ◌∙◌}
use Rattle.std.specs.Prelude.{◌||◌, Bool}
use Rattle.std.proofs.lemmas.Result.{on_ok_weaker}
use Rattle.c_tree.specs.declared.stmt.Stmt as declared
use Rattle.c_names.specs.Tables.{in_scope}
use Rattle.contexts.specs.Constants.{among, written}
use Rattle.context_locals.proofs.Collecting.{left_written, two_lists, three_lists, next_written, all_written}
use Rattle.context_locals.proofs.Shown as shown
use Rattle.context_locals.proofs.written.+written.Goals as goal

-- what a list adds, where it is seen by another name
listed : (before now : Bool) (q : List ℕ) (ss list : List declared.Stmt) → ss ≡ list → now ≡ (before || among (left_written ss) q) → now ≡ (before || among (left_written list) q)
listed before now q ss list is grown = grown ∙ ap (λ l. before || among (left_written l) q) is

pub add_written-returns-in_ok-add_all_written-in-If : goal.add_written-returns-in_ok-add_all_written-in-If
add_written-returns-in_ok-add_all_written-in-If t c = on_ok_weaker c.add_all_written-in-If.result (λ grown q.
    let before = in_scope c.args.names.now q in
    let one = in_scope c.add_all_written.new.names q in
    let two = in_scope c.add_all_written-in-If.new.names q in
    two_lists q before one two (left_written c.in-If.then_arm) (left_written c.in-If.else_arm)
    (listed before one q _ _ c.as_slice-in-If.ensures (c.in_ok-add_all_written-in-If.ensures q)) (listed one two q _ _ c.as_slice-in-If-2.ensures (grown q))
    ∙ ap (λ s. before || among (written s) q) (sym (shown.if_of c.args.s.now c.in-If.test c.in-If.then_arm c.in-If.else_arm c.in-If.is))) c.add_all_written-in-If.ensures

pub add_written-returns-in-While : goal.add_written-returns-in-While
add_written-returns-in-While t c = on_ok_weaker c.add_all_written-in-While.result (λ grown q.
    let before = in_scope c.args.names.now q in
    listed before (in_scope c.add_all_written-in-While.new.names q) q _ _ c.as_slice-in-While.ensures (grown q)
    ∙ ap (λ s. before || among (written s) q) (sym (shown.while_of c.args.s.now c.in-While.test c.in-While.body c.in-While.is))) c.add_all_written-in-While.ensures

pub add_written-returns-in_ok-add_all_written-in-For-2 : goal.add_written-returns-in_ok-add_all_written-in-For-2
add_written-returns-in_ok-add_all_written-in-For-2 t c = on_ok_weaker c.add_all_written-in-For-3.result (λ grown q.
    let before = in_scope c.args.names.now q in
    let one = in_scope c.add_all_written-in-For.new.names q in
    let two = in_scope c.add_all_written-in-For-2.new.names q in
    let three = in_scope c.add_all_written-in-For-3.new.names q in
    three_lists q before one two three (left_written c.in-For.first) (left_written c.in-For.step) (left_written c.in-For.body)
    (listed before one q _ _ c.as_slice-in-For.ensures (c.in_ok-add_all_written-in-For.ensures q))
    (listed one two q _ _ c.as_slice-in-For-2.ensures (c.in_ok-add_all_written-in-For-2.ensures q))
    (listed two three q _ _ c.as_slice-in-For-3.ensures (grown q))
    ∙ ap (λ s. before || among (written s) q) (sym (shown.for_of c.args.s.now c.in-For.first c.in-For.test c.in-For.step c.in-For.body c.in-For.is))) c.add_all_written-in-For-3.ensures

pub add_written-returns-in_ok-add_all_written-in-TryLock : goal.add_written-returns-in_ok-add_all_written-in-TryLock
add_written-returns-in_ok-add_all_written-in-TryLock t c = on_ok_weaker c.add_all_written-in-TryLock-2.result (λ grown q.
    let before = in_scope c.args.names.now q in
    let one = in_scope c.add_all_written-in-TryLock.new.names q in
    let two = in_scope c.add_all_written-in-TryLock-2.new.names q in
    two_lists q before one two (left_written c.in-TryLock.taken) (left_written c.in-TryLock.busy)
    (listed before one q _ _ c.as_slice-in-TryLock.ensures (c.in_ok-add_all_written-in-TryLock.ensures q)) (listed one two q _ _ c.as_slice-in-TryLock-2.ensures (grown q))
    ∙ ap (λ s. before || among (written s) q) (sym (shown.try_of c.args.s.now c.in-TryLock.place c.in-TryLock.taken c.in-TryLock.busy c.in-TryLock.is))) c.add_all_written-in-TryLock-2.ensures

pub add_all_written-loop-s-init : goal.add_all_written-loop-s-init
add_all_written-loop-s-init t c q = refl

pub add_all_written-loop-s-preserved : goal.add_all_written-loop-s-preserved
add_all_written-loop-s-preserved t c q =
    next_written c.args.ss.now c.loop-s.s-index c.s-item.result q (in_scope c.loop-s.names q) (in_scope c.add_written.new.names q)
    (in_scope c.args.names.now q || among (left_written c.args.ss.now) q) c.loop-s-test.true c.s-item.is (c.in_ok-add_written.ensures q) (c.loop-s.invariant q)

pub add_all_written-returns : goal.add_all_written-returns
add_all_written-returns t c q =
    all_written c.args.ss.now c.loop-s.s-index q (in_scope c.loop-s.names q) (in_scope c.args.names.now q || among (left_written c.args.ss.now) q) c.loop-s-test.false (c.loop-s.invariant q)
