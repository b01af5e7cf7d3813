use Rattle.std.proofs.Common.{◌≡◌, ◌+◌, ℕ, max, IfOk, subst, sym, ap, ◌∙◌, arith}
use Rattle.c_frames.specs.Heights.{height, height_inside}
use Rattle.c_meaning.specs.Shown.{shown_stmt, shown_body}
use Rattle.c_frames.proofs.Lower.{next_height, whole_height}
use Rattle.c_frames.proofs.Shapes.{if_is, while_is, for_is, try_lock_is}
use Rattle.c_frames.proofs.heights.+height.Goals as goal

pub height-loop-s-init : goal.height-loop-s-init
height-loop-s-init t c = omega arith

pub height-loop-s-preserved : goal.height-loop-s-preserved
height-loop-s-preserved t c =
    let inside : c.in_ok-height_inside.field-0 ≡ height_inside (shown_stmt c.s-item.result) = c.in_ok-height_inside.ensures in
    let most : c.max-high.result ≡ max (height_inside (shown_stmt c.s-item.result) + 1) c.loop-s.high =
    c.max-high.ensures ∙ ap (λ h. max h c.loop-s.high) (c.in_ok-one_more.ensures ∙ ap (λ h. h + 1) inside) in
    next_height c.args.ss.now c.loop-s.s-index c.s-item.result c.loop-s.high c.max-high.result c.loop-s-test.true c.s-item.is most c.loop-s.invariant

pub height-returns : goal.height-returns
height-returns t c = whole_height c.args.ss.now c.loop-s.s-index c.loop-s.high c.loop-s-test.false c.loop-s.invariant

pub height_inside-returns-in_ok-height-in-If-2 : goal.height_inside-returns-in_ok-height-in-If-2
height_inside-returns-in_ok-height-in-If-2 t c =
    let shape = ap height_inside (if_is c.args.s.now c.in-If.test c.in-If.then_arm c.in-If.else_arm c.in-If.is) in
    let first : c.in_ok-height-in-If.field-0 ≡ height (shown_body c.in-If.then_arm) = c.in_ok-height-in-If.ensures ∙ ap (λ ss. height (shown_body ss)) c.as_slice.ensures in
    let second : c.in_ok-height-in-If-2.field-0 ≡ height (shown_body c.in-If.else_arm) = c.in_ok-height-in-If-2.ensures ∙ ap (λ ss. height (shown_body ss)) c.as_slice-in-If.ensures in
    omega (arith, shape, first, second)

pub height_inside-returns-in-While : goal.height_inside-returns-in-While
height_inside-returns-in-While t c =
    let shape = ap height_inside (while_is c.args.s.now c.in-While.test c.in-While.body c.in-While.is) in
    let AtHeight : ℕ → Type 0 = λ h. IfOk c.height-in-While.result (λ high. high ≡ h) in
    subst AtHeight (ap (λ ss. height (shown_body ss)) c.as_slice-in-While.ensures ∙ sym shape) c.height-in-While.ensures

pub height_inside-returns-in_ok-height-in-For-2 : goal.height_inside-returns-in_ok-height-in-For-2
height_inside-returns-in_ok-height-in-For-2 t c =
    let shape = ap height_inside (for_is c.args.s.now c.in-For.first c.in-For.test c.in-For.step c.in-For.body c.in-For.is) in
    let first : c.in_ok-height-in-For.field-0 ≡ height (shown_body c.in-For.step) = c.in_ok-height-in-For.ensures ∙ ap (λ ss. height (shown_body ss)) c.as_slice-in-For.ensures in
    let second : c.in_ok-height-in-For-2.field-0 ≡ height (shown_body c.in-For.body) = c.in_ok-height-in-For-2.ensures ∙ ap (λ ss. height (shown_body ss)) c.as_slice-in-For-2.ensures in
    omega (arith, shape, first, second)

pub height_inside-returns-in_ok-height-in-TryLock-2 : goal.height_inside-returns-in_ok-height-in-TryLock-2
height_inside-returns-in_ok-height-in-TryLock-2 t c =
    let shape = ap height_inside (try_lock_is c.args.s.now c.in-TryLock.place c.in-TryLock.taken c.in-TryLock.busy c.in-TryLock.is) in
    let first : c.in_ok-height-in-TryLock.field-0 ≡ height (shown_body c.in-TryLock.taken) = c.in_ok-height-in-TryLock.ensures ∙ ap (λ ss. height (shown_body ss)) c.as_slice-in-TryLock.ensures in
    let second : c.in_ok-height-in-TryLock-2.field-0 ≡ height (shown_body c.in-TryLock.busy) = c.in_ok-height-in-TryLock-2.ensures ∙ ap (λ ss. height (shown_body ss)) c.as_slice-in-TryLock-2.ensures in
    omega (arith, shape, first, second)
