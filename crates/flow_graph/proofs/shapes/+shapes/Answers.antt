use Rattle.std.proofs.Common.{◌++◌, ◌∙◌, ap, refl, sym}
use Rattle.c_tree.specs.Lined.{stmt_of, stmts_of}
use Rattle.flow_graph.specs.Shapes as spec
use Rattle.flow_graph.specs.declared.shapes.Shape.TheVariants as v
use Rattle.flow_graph.specs.Shown.{shown_shape, shown_shapes, list_shapes}
use Rattle.context_locals.proofs.Shown as shown
use Rattle.flow_graph.proofs.Pushed.{pushed, arms_pushed, body_pushed, for_pushed, all_pushed, turn, ended, left_shapes}
use Rattle.flow_graph.proofs.shapes.+shapes.Goals as goal

pub push_others-returns-in_ok-push-in-If-2 : goal.push_others-returns-in_ok-push-in-If-2
push_others-returns-in_ok-push-in-If-2 t c =
    arms_pushed (shown_shapes c.args.out.now.items) (shown_shapes c.push_shapes.new.out.items) (shown_shapes c.push.new.self.items) (shown_shapes c.push_shapes-in-If.new.out.items) (shown_shapes c.push-in-If.new.self.items)
    (stmts_of c.in-If.then_arm) (stmts_of c.in-If.else_arm)
    (c.in_ok-push_shapes-in-If.ensures ∙ ap (λ ss. shown_shapes c.args.out.now.items ++ list_shapes (stmts_of ss)) c.as_slice.ensures)
    (pushed c.push_shapes.new.out.items c.push.new.self.items v.Else c.in_ok-push-in-If.ensures.items)
    (c.in_ok-push_shapes-in-If-2.ensures ∙ ap (λ ss. shown_shapes c.push.new.self.items ++ list_shapes (stmts_of ss)) c.as_slice-in-If.ensures)
    (pushed c.push_shapes-in-If.new.out.items c.push-in-If.new.self.items v.ArmsEnd c.in_ok-push-in-If-2.ensures.items)
    ∙ ap (λ s. shown_shapes c.args.out.now.items ++ spec.other_shapes s) (sym (shown.if_of c.args.s.now c.in-If.test c.in-If.then_arm c.in-If.else_arm c.in-If.is))

pub push_others-returns-in_ok-push-in-While : goal.push_others-returns-in_ok-push-in-While
push_others-returns-in_ok-push-in-While t c =
    body_pushed (shown_shapes c.args.out.now.items) (shown_shapes c.push_shapes-in-While.new.out.items) (shown_shapes c.push-in-While.new.self.items) (stmts_of c.in-While.body)
    (c.in_ok-push_shapes-in-While.ensures ∙ ap (λ ss. shown_shapes c.args.out.now.items ++ list_shapes (stmts_of ss)) c.as_slice-in-While.ensures)
    (pushed c.push_shapes-in-While.new.out.items c.push-in-While.new.self.items v.LoopEnd c.in_ok-push-in-While.ensures.items)
    ∙ ap (λ s. shown_shapes c.args.out.now.items ++ spec.other_shapes s) (sym (shown.while_of c.args.s.now c.in-While.test c.in-While.body c.in-While.is))

pub push_others-returns-in_ok-push-in-For-2 : goal.push_others-returns-in_ok-push-in-For-2
push_others-returns-in_ok-push-in-For-2 t c =
    for_pushed (shown_shapes c.args.out.now.items) (shown_shapes c.push-in-For.new.self.items) (shown_shapes c.push_shapes-in-For.new.out.items) (shown_shapes c.push_shapes-in-For-2.new.out.items) (shown_shapes c.push-in-For-2.new.self.items)
    (spec.Shape.Loop c.args.s.now.line) (stmts_of c.in-For.body) (stmts_of c.in-For.step)
    (pushed c.args.out.now.items c.push-in-For.new.self.items (v.Loop c.args.s.now.line) c.in_ok-push-in-For.ensures.items)
    (c.in_ok-push_shapes-in-For.ensures ∙ ap (λ ss. shown_shapes c.push-in-For.new.self.items ++ list_shapes (stmts_of ss)) c.as_slice-in-For.ensures)
    (c.in_ok-push_shapes-in-For-2.ensures ∙ ap (λ ss. shown_shapes c.push_shapes-in-For.new.out.items ++ list_shapes (stmts_of ss)) c.as_slice-in-For-2.ensures)
    (pushed c.push_shapes-in-For-2.new.out.items c.push-in-For-2.new.self.items v.LoopEnd c.in_ok-push-in-For-2.ensures.items)
    ∙ ap (λ s. shown_shapes c.args.out.now.items ++ spec.other_shapes s) (sym (shown.for_of c.args.s.now c.in-For.first c.in-For.test c.in-For.step c.in-For.body c.in-For.is))

pub push_others-returns-in_ok-push-in-TryLock-2 : goal.push_others-returns-in_ok-push-in-TryLock-2
push_others-returns-in_ok-push-in-TryLock-2 t c =
    arms_pushed (shown_shapes c.args.out.now.items) (shown_shapes c.push_shapes-in-TryLock.new.out.items) (shown_shapes c.push-in-TryLock.new.self.items) (shown_shapes c.push_shapes-in-TryLock-2.new.out.items) (shown_shapes c.push-in-TryLock-2.new.self.items)
    (stmts_of c.in-TryLock.taken) (stmts_of c.in-TryLock.busy)
    (c.in_ok-push_shapes-in-TryLock.ensures ∙ ap (λ ss. shown_shapes c.args.out.now.items ++ list_shapes (stmts_of ss)) c.as_slice-in-TryLock.ensures)
    (pushed c.push_shapes-in-TryLock.new.out.items c.push-in-TryLock.new.self.items v.Else c.in_ok-push-in-TryLock.ensures.items)
    (c.in_ok-push_shapes-in-TryLock-2.ensures ∙ ap (λ ss. shown_shapes c.push-in-TryLock.new.self.items ++ list_shapes (stmts_of ss)) c.as_slice-in-TryLock-2.ensures)
    (pushed c.push_shapes-in-TryLock-2.new.out.items c.push-in-TryLock-2.new.self.items v.ArmsEnd c.in_ok-push-in-TryLock-2.ensures.items)
    ∙ ap (λ s. shown_shapes c.args.out.now.items ++ spec.other_shapes s) (sym (shown.try_of c.args.s.now c.in-TryLock.place c.in-TryLock.taken c.in-TryLock.busy c.in-TryLock.is))

pub push_shape-returns : goal.push_shape-returns
push_shape-returns t c =
    all_pushed (shown_shapes c.args.out.now.items) (shown_shapes c.push.new.self.items) (shown_shapes c.push_others.new.out.items) (shown_shape c.first_shape.result) (stmt_of c.args.s.now)
    (pushed c.args.out.now.items c.push.new.self.items c.first_shape.result c.in_ok-push.ensures.items) c.first_shape.ensures c.in_ok-push_others.ensures

pub push_shapes-loop-s-init : goal.push_shapes-loop-s-init
push_shapes-loop-s-init t c = refl

pub push_shapes-loop-s-preserved : goal.push_shapes-loop-s-preserved
push_shapes-loop-s-preserved t c =
    turn c.args.ss.now c.loop-s.s-index c.s-item.result (shown_shapes c.args.out.now.items ++ left_shapes c.args.ss.now) (shown_shapes c.loop-s.out.items) (shown_shapes c.push_shape.new.out.items)
    c.loop-s-test.true c.s-item.is c.in_ok-push_shape.ensures c.loop-s.invariant

pub push_shapes-returns : goal.push_shapes-returns
push_shapes-returns t c =
    ended c.args.ss.now c.loop-s.s-index (shown_shapes c.args.out.now.items ++ left_shapes c.args.ss.now) (shown_shapes c.loop-s.out.items) c.loop-s-test.false c.loop-s.invariant
