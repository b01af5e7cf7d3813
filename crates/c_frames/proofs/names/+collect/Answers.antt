use Rattle.std.proofs.Common.{◌≡◌, ℕ, List, refl, sym, ap, ◌∙◌}
use Rattle.std.specs.Prelude.{◌||◌, Bool}
use Rattle.std.proofs.lemmas.Result.{on_ok_weaker}
use Rattle.c_tree.specs.declared.stmt.Stmt as declared
use Rattle.c_frames.specs.Names.{is_among, is_set, is_set_inside, key_texts}
use Rattle.c_meaning.specs.Shown.{shown_body}
use Rattle.c_frames.proofs.Collecting.{next_target, all_targets, two_lists, three_lists}
use Rattle.c_frames.proofs.Shapes.{if_is, while_is, for_is, try_lock_is}
use Rattle.c_frames.proofs.names.+collect.Goals as goal

-- what a list adds, where it is seen by another name
listed : (before now : Bool) (q : List ℕ) (ss list : List declared.Stmt) → ss ≡ list → now ≡ (before || is_set q (shown_body ss)) → now ≡ (before || is_set q (shown_body list))
listed before now q ss list is grown = grown ∙ ap (λ l. before || is_set q (shown_body l)) is

pub add_inside-returns-in_ok-add_targets-in-If : goal.add_inside-returns-in_ok-add_targets-in-If
add_inside-returns-in_ok-add_targets-in-If t c = on_ok_weaker c.add_targets-in-If.result (λ grown q.
    let before = is_among (key_texts c.args.names.now) q in
    let one = is_among (key_texts c.add_targets.new.names) q in
    let two = is_among (key_texts c.add_targets-in-If.new.names) q in
    two_lists q before one two (shown_body c.in-If.then_arm) (shown_body c.in-If.else_arm)
    (listed before one q _ _ c.as_slice.ensures (c.in_ok-add_targets-in-If.ensures q)) (listed one two q _ _ c.as_slice-in-If.ensures (grown q))
    ∙ ap (λ s. before || is_set_inside q s) (sym (if_is c.args.s.now c.in-If.test c.in-If.then_arm c.in-If.else_arm c.in-If.is))) c.add_targets-in-If.ensures

pub add_inside-returns-in-While : goal.add_inside-returns-in-While
add_inside-returns-in-While t c = on_ok_weaker c.add_targets-in-While.result (λ grown q.
    let before = is_among (key_texts c.args.names.now) q in
    listed before (is_among (key_texts c.add_targets-in-While.new.names) q) q _ _ c.as_slice-in-While.ensures (grown q)
    ∙ ap (λ s. before || is_set_inside q s) (sym (while_is c.args.s.now c.in-While.test c.in-While.body c.in-While.is))) c.add_targets-in-While.ensures

pub add_inside-returns-in_ok-add_targets-in-For-2 : goal.add_inside-returns-in_ok-add_targets-in-For-2
add_inside-returns-in_ok-add_targets-in-For-2 t c = on_ok_weaker c.add_targets-in-For-3.result (λ grown q.
    let before = is_among (key_texts c.args.names.now) q in
    let one = is_among (key_texts c.add_targets-in-For.new.names) q in
    let two = is_among (key_texts c.add_targets-in-For-2.new.names) q in
    let three = is_among (key_texts c.add_targets-in-For-3.new.names) q in
    three_lists q before one two three (shown_body c.in-For.first) (shown_body c.in-For.step) (shown_body c.in-For.body)
    (listed before one q _ _ c.as_slice-in-For.ensures (c.in_ok-add_targets-in-For.ensures q))
    (listed one two q _ _ c.as_slice-in-For-2.ensures (c.in_ok-add_targets-in-For-2.ensures q))
    (listed two three q _ _ c.as_slice-in-For-3.ensures (grown q))
    ∙ ap (λ s. before || is_set_inside q s) (sym (for_is c.args.s.now c.in-For.first c.in-For.test c.in-For.step c.in-For.body c.in-For.is))) c.add_targets-in-For-3.ensures

pub add_inside-returns-in_ok-add_targets-in-TryLock : goal.add_inside-returns-in_ok-add_targets-in-TryLock
add_inside-returns-in_ok-add_targets-in-TryLock t c = on_ok_weaker c.add_targets-in-TryLock-2.result (λ grown q.
    let before = is_among (key_texts c.args.names.now) q in
    let one = is_among (key_texts c.add_targets-in-TryLock.new.names) q in
    let two = is_among (key_texts c.add_targets-in-TryLock-2.new.names) q in
    two_lists q before one two (shown_body c.in-TryLock.taken) (shown_body c.in-TryLock.busy)
    (listed before one q _ _ c.as_slice-in-TryLock.ensures (c.in_ok-add_targets-in-TryLock.ensures q)) (listed one two q _ _ c.as_slice-in-TryLock-2.ensures (grown q))
    ∙ ap (λ s. before || is_set_inside q s) (sym (try_lock_is c.args.s.now c.in-TryLock.place c.in-TryLock.taken c.in-TryLock.busy c.in-TryLock.is))) c.add_targets-in-TryLock-2.ensures

pub add_targets-loop-s-init : goal.add_targets-loop-s-init
add_targets-loop-s-init t c q = refl

pub add_targets-loop-s-preserved : goal.add_targets-loop-s-preserved
add_targets-loop-s-preserved t c q =
    next_target c.args.ss.now c.loop-s.s-index c.s-item.result q (is_among (key_texts c.loop-s.names) q) (is_among (key_texts c.add_target.new.names) q)
    (is_among (key_texts c.add_inside.new.names) q) (is_among (key_texts c.args.names.now) q || is_set q (shown_body c.args.ss.now)) c.loop-s-test.true c.s-item.is
    (c.in_ok-add_target.ensures q) (c.in_ok-add_inside.ensures q) (c.loop-s.invariant q)

pub add_targets-returns : goal.add_targets-returns
add_targets-returns t c q =
    all_targets c.args.ss.now c.loop-s.s-index q (is_among (key_texts c.loop-s.names) q) (is_among (key_texts c.args.names.now) q || is_set q (shown_body c.args.ss.now))
    c.loop-s-test.false (c.loop-s.invariant q)
