use Rattle.std.proofs.Common.{ap, ◌∙◌, subst}
use Rattle.c_tree.specs.Bare as bare
use Rattle.c_tree.specs.Bare.{Stmt}
use Rattle.c_tree.specs.Expressions.{expr_of, exprs_of, value_of, place_of, target_of}
use Rattle.c_frames.specs.Positions.{first_of}
use Rattle.c_meaning.specs.Shown.{shown_stmt, shown_body}
use Rattle.state_parts.specs.First.{OfEach}
use Rattle.c_steps.specs.Answers.{Answers}
use Rattle.c_steps.specs.Model.{state_of}
use Rattle.c_steps.specs.Standing.{does}
use Rattle.c_steps.specs.Setting.{MaySets}
use Rattle.c_steps.proofs.Rows.{carried, first_stays, no_for_asks}
use Rattle.c_steps.proofs.Shown.{declare_is, assign_is, call_is, if_is, while_is, return_is, read_is, print_is, create_is, join_is, init_mutex_is, init_cond_is, lock_is, try_lock_is, unlock_is, wait_is, signal_is, broadcast_is, take_is, give_is, for_is}
use Rattle.c_steps.proofs.state.State.act.Goals as goal

pub go_round-requires-clause-may : goal.go_round-requires-clause-may
go_round-requires-clause-may c =
    (subst (OfEach (MaySets c.args.self.now c.args.t)) (for_is c.args.s.now c.in-For.first c.in-For.test c.in-For.step c.in-For.body c.in-For.is) c.requires.may).1.0

pub returns-in-For-clause-is : goal.returns-in-For-clause-is
returns-in-For-clause-is c =
    let p = c.args.p.now in let s = c.args.self.now in
    let act : Stmt = bare.For (shown_body c.in-For.first) (expr_of c.in-For.test) (shown_body c.in-For.step) (shown_body c.in-For.body) in
    carried p s c.args.t (first_of c.args.begun (shown_stmt c.args.s.now)) (first_of c.args.begun act) c.go_round.result (state_of p s) (state_of p c.go_round.new.self)
    (ap (first_of c.args.begun) (for_is c.args.s.now c.in-For.first c.in-For.test c.in-For.step c.in-For.body c.in-For.is)) (λ at. subst (λ asks. Answers asks (does p s c.args.t (first_of c.args.begun act) at) c.go_round.result (state_of p s) (state_of p c.go_round.new.self))
    (no_for_asks c.args.begun (shown_body c.in-For.first) (expr_of c.in-For.test) (shown_body c.in-For.step) (shown_body c.in-For.body))
    (c.go_round.ensures.is (shown_body c.in-For.step) (shown_body c.in-For.body) at))

pub returns-in-Declare-clause-is : goal.returns-in-Declare-clause-is
returns-in-Declare-clause-is c =
    let p = c.args.p.now in let s = c.args.self.now in
    let act : Stmt = bare.Declare c.in-Declare.name (value_of c.in-Declare.value) in
    carried p s c.args.t (first_of c.args.begun (shown_stmt c.args.s.now)) act c.declare.result (state_of p s) (state_of p c.declare.new.self)
    (ap (first_of c.args.begun) (declare_is c.args.s.now c.in-Declare.name c.in-Declare.value c.in-Declare.is) ∙ first_stays act tt c.args.begun) (c.declare.ensures.is act)

pub returns-in-Assign-clause-is : goal.returns-in-Assign-clause-is
returns-in-Assign-clause-is c =
    let p = c.args.p.now in let s = c.args.self.now in
    let act : Stmt = bare.Assign (place_of c.in-Assign.target) (expr_of c.in-Assign.value) in
    carried p s c.args.t (first_of c.args.begun (shown_stmt c.args.s.now)) act c.assign.result (state_of p s) (state_of p c.assign.new.self)
    (ap (first_of c.args.begun) (assign_is c.args.s.now c.in-Assign.target c.in-Assign.value c.in-Assign.is) ∙ first_stays act tt c.args.begun) (c.assign.ensures.is act)

pub returns-in-Call-clause-is : goal.returns-in-Call-clause-is
returns-in-Call-clause-is c =
    let p = c.args.p.now in let s = c.args.self.now in
    let act : Stmt = bare.Call (target_of c.in-Call.target) c.in-Call.function (exprs_of c.in-Call.args) in
    carried p s c.args.t (first_of c.args.begun (shown_stmt c.args.s.now)) act c.call.result (state_of p s) (state_of p c.call.new.self)
    (ap (first_of c.args.begun) (call_is c.args.s.now c.in-Call.target c.in-Call.function c.in-Call.args c.in-Call.is) ∙ first_stays act tt c.args.begun) (c.call.ensures.is (target_of c.in-Call.target))

pub returns-in-If-clause-is : goal.returns-in-If-clause-is
returns-in-If-clause-is c =
    let p = c.args.p.now in let s = c.args.self.now in
    let act : Stmt = bare.If (expr_of c.in-If.test) (shown_body c.in-If.then_arm) (shown_body c.in-If.else_arm) in
    carried p s c.args.t (first_of c.args.begun (shown_stmt c.args.s.now)) act c.branch-self.result (state_of p s) (state_of p c.branch-self.new.self)
    (ap (first_of c.args.begun) (if_is c.args.s.now c.in-If.test c.in-If.then_arm c.in-If.else_arm c.in-If.is) ∙ first_stays act tt c.args.begun) (c.branch-self.ensures.is (shown_body c.in-If.then_arm) (shown_body c.in-If.else_arm))

pub returns-in-While-clause-is : goal.returns-in-While-clause-is
returns-in-While-clause-is c =
    let p = c.args.p.now in let s = c.args.self.now in
    let act : Stmt = bare.While (expr_of c.in-While.test) (shown_body c.in-While.body) in
    carried p s c.args.t (first_of c.args.begun (shown_stmt c.args.s.now)) act c.repeat.result (state_of p s) (state_of p c.repeat.new.self)
    (ap (first_of c.args.begun) (while_is c.args.s.now c.in-While.test c.in-While.body c.in-While.is) ∙ first_stays act tt c.args.begun) (c.repeat.ensures.is (shown_body c.in-While.body))

pub returns-in-Return-clause-is : goal.returns-in-Return-clause-is
returns-in-Return-clause-is c =
    let p = c.args.p.now in let s = c.args.self.now in
    let act : Stmt = bare.Return (value_of c.in-Return.value) in
    carried p s c.args.t (first_of c.args.begun (shown_stmt c.args.s.now)) act c.return_from.result (state_of p s) (state_of p c.return_from.new.self)
    (ap (first_of c.args.begun) (return_is c.args.s.now c.in-Return.value c.in-Return.is) ∙ first_stays act tt c.args.begun) c.return_from.ensures.is

pub returns-in-Read-clause-is : goal.returns-in-Read-clause-is
returns-in-Read-clause-is c =
    let p = c.args.p.now in let s = c.args.self.now in
    let act : Stmt = bare.Read (place_of c.in-Read.target) in
    carried p s c.args.t (first_of c.args.begun (shown_stmt c.args.s.now)) act c.read.result (state_of p s) (state_of p c.read.new.self)
    (ap (first_of c.args.begun) (read_is c.args.s.now c.in-Read.target c.in-Read.is) ∙ first_stays act tt c.args.begun) c.read.ensures.is

pub returns-in-Print-clause-is : goal.returns-in-Print-clause-is
returns-in-Print-clause-is c =
    let p = c.args.p.now in let s = c.args.self.now in
    let act : Stmt = bare.Print c.in-Print.format (exprs_of c.in-Print.args) in
    carried p s c.args.t (first_of c.args.begun (shown_stmt c.args.s.now)) act c.print.result (state_of p s) (state_of p c.print.new.self)
    (ap (first_of c.args.begun) (print_is c.args.s.now c.in-Print.format c.in-Print.args c.in-Print.is) ∙ first_stays act tt c.args.begun) c.print.ensures.is

pub returns-in-Create-clause-is : goal.returns-in-Create-clause-is
returns-in-Create-clause-is c =
    let p = c.args.p.now in let s = c.args.self.now in
    let act : Stmt = bare.Create (place_of c.in-Create.slot) c.in-Create.function (expr_of c.in-Create.arg) in
    carried p s c.args.t (first_of c.args.begun (shown_stmt c.args.s.now)) act c.create_here.result (state_of p s) (state_of p c.create_here.new.self)
    (ap (first_of c.args.begun) (create_is c.args.s.now c.in-Create.slot c.in-Create.function c.in-Create.arg c.in-Create.is) ∙ first_stays act tt c.args.begun) c.create_here.ensures.is

pub returns-in-Join-clause-is : goal.returns-in-Join-clause-is
returns-in-Join-clause-is c =
    let p = c.args.p.now in let s = c.args.self.now in
    let act : Stmt = bare.Join (place_of c.in-Join.slot) in
    carried p s c.args.t (first_of c.args.begun (shown_stmt c.args.s.now)) act c.join.result (state_of p s) (state_of p c.join.new.self)
    (ap (first_of c.args.begun) (join_is c.args.s.now c.in-Join.slot c.in-Join.is) ∙ first_stays act tt c.args.begun) c.join.ensures.is

pub returns-in-InitMutex-clause-is : goal.returns-in-InitMutex-clause-is
returns-in-InitMutex-clause-is c =
    let p = c.args.p.now in let s = c.args.self.now in
    let act : Stmt = bare.InitMutex (place_of c.in-InitMutex.place) in
    carried p s c.args.t (first_of c.args.begun (shown_stmt c.args.s.now)) act c.init_mutex.result (state_of p s) (state_of p c.init_mutex.new.self)
    (ap (first_of c.args.begun) (init_mutex_is c.args.s.now c.in-InitMutex.place c.in-InitMutex.is) ∙ first_stays act tt c.args.begun) c.init_mutex.ensures.is

pub returns-in-InitCond-clause-is : goal.returns-in-InitCond-clause-is
returns-in-InitCond-clause-is c =
    let p = c.args.p.now in let s = c.args.self.now in
    let act : Stmt = bare.InitCond (place_of c.in-InitCond.place) in
    carried p s c.args.t (first_of c.args.begun (shown_stmt c.args.s.now)) act c.init_condition.result (state_of p s) (state_of p c.init_condition.new.self)
    (ap (first_of c.args.begun) (init_cond_is c.args.s.now c.in-InitCond.place c.in-InitCond.is) ∙ first_stays act tt c.args.begun) c.init_condition.ensures.is

pub returns-in-Lock-clause-is : goal.returns-in-Lock-clause-is
returns-in-Lock-clause-is c =
    let p = c.args.p.now in let s = c.args.self.now in
    let act : Stmt = bare.Lock (place_of c.in-Lock.place) in
    carried p s c.args.t (first_of c.args.begun (shown_stmt c.args.s.now)) act c.lock.result (state_of p s) (state_of p c.lock.new.self)
    (ap (first_of c.args.begun) (lock_is c.args.s.now c.in-Lock.place c.in-Lock.is) ∙ first_stays act tt c.args.begun) c.lock.ensures.is

pub returns-in-TryLock-clause-is : goal.returns-in-TryLock-clause-is
returns-in-TryLock-clause-is c =
    let p = c.args.p.now in let s = c.args.self.now in
    let act : Stmt = bare.TryLock (place_of c.in-TryLock.place) (shown_body c.in-TryLock.taken) (shown_body c.in-TryLock.busy) in
    carried p s c.args.t (first_of c.args.begun (shown_stmt c.args.s.now)) act c.try_lock.result (state_of p s) (state_of p c.try_lock.new.self)
    (ap (first_of c.args.begun) (try_lock_is c.args.s.now c.in-TryLock.place c.in-TryLock.taken c.in-TryLock.busy c.in-TryLock.is) ∙ first_stays act tt c.args.begun) (c.try_lock.ensures.is (shown_body c.in-TryLock.taken) (shown_body c.in-TryLock.busy))

pub returns-in-Unlock-clause-is : goal.returns-in-Unlock-clause-is
returns-in-Unlock-clause-is c =
    let p = c.args.p.now in let s = c.args.self.now in
    let act : Stmt = bare.Unlock (place_of c.in-Unlock.place) in
    carried p s c.args.t (first_of c.args.begun (shown_stmt c.args.s.now)) act c.unlock.result (state_of p s) (state_of p c.unlock.new.self)
    (ap (first_of c.args.begun) (unlock_is c.args.s.now c.in-Unlock.place c.in-Unlock.is) ∙ first_stays act tt c.args.begun) c.unlock.ensures.is

pub returns-in-Wait-clause-is : goal.returns-in-Wait-clause-is
returns-in-Wait-clause-is c =
    let p = c.args.p.now in let s = c.args.self.now in
    let act : Stmt = bare.Wait (place_of c.in-Wait.cond) (place_of c.in-Wait.mutex) c.in-Wait.takes in
    carried p s c.args.t (first_of c.args.begun (shown_stmt c.args.s.now)) act c.wait.result (state_of p s) (state_of p c.wait.new.self)
    (ap (first_of c.args.begun) (wait_is c.args.s.now c.in-Wait.cond c.in-Wait.mutex c.in-Wait.takes c.in-Wait.is) ∙ first_stays act tt c.args.begun) (c.wait.ensures.is c.in-Wait.takes)

pub returns-in-Signal-clause-is : goal.returns-in-Signal-clause-is
returns-in-Signal-clause-is c =
    let p = c.args.p.now in let s = c.args.self.now in
    let act : Stmt = bare.Signal (place_of c.in-Signal.cond) in
    carried p s c.args.t (first_of c.args.begun (shown_stmt c.args.s.now)) act c.signal.result (state_of p s) (state_of p c.signal.new.self)
    (ap (first_of c.args.begun) (signal_is c.args.s.now c.in-Signal.cond c.in-Signal.is) ∙ first_stays act tt c.args.begun) c.signal.ensures.is

pub returns-in-Broadcast-clause-is : goal.returns-in-Broadcast-clause-is
returns-in-Broadcast-clause-is c =
    let p = c.args.p.now in let s = c.args.self.now in
    let act : Stmt = bare.Broadcast (place_of c.in-Broadcast.cond) in
    carried p s c.args.t (first_of c.args.begun (shown_stmt c.args.s.now)) act c.broadcast.result (state_of p s) (state_of p c.broadcast.new.self)
    (ap (first_of c.args.begun) (broadcast_is c.args.s.now c.in-Broadcast.cond c.in-Broadcast.is) ∙ first_stays act tt c.args.begun) c.broadcast.ensures.is

pub returns-in-Take-clause-is : goal.returns-in-Take-clause-is
returns-in-Take-clause-is c =
    let p = c.args.p.now in let s = c.args.self.now in
    let act : Stmt = bare.Take c.in-Take.monitor in
    carried p s c.args.t (first_of c.args.begun (shown_stmt c.args.s.now)) act c.take.result (state_of p s) (state_of p c.take.new.self)
    (ap (first_of c.args.begun) (take_is c.args.s.now c.in-Take.monitor c.in-Take.is) ∙ first_stays act tt c.args.begun) c.take.ensures.is

pub returns-in-Give-clause-is : goal.returns-in-Give-clause-is
returns-in-Give-clause-is c =
    let p = c.args.p.now in let s = c.args.self.now in
    let act : Stmt = bare.Give c.in-Give.monitor in
    carried p s c.args.t (first_of c.args.begun (shown_stmt c.args.s.now)) act c.give.result (state_of p s) (state_of p c.give.new.self)
    (ap (first_of c.args.begun) (give_is c.args.s.now c.in-Give.monitor c.in-Give.is) ∙ first_stays act tt c.args.begun) c.give.ensures.is

pub returns-in-Lock-clause-kept : goal.returns-in-Lock-clause-kept
returns-in-Lock-clause-kept c at = c.lock.ensures.kept (first_of c.args.begun (shown_stmt c.args.s.now)) at

pub returns-in-Unlock-clause-kept : goal.returns-in-Unlock-clause-kept
returns-in-Unlock-clause-kept c at = c.unlock.ensures.kept (first_of c.args.begun (shown_stmt c.args.s.now)) at

pub returns-in-TryLock-clause-kept : goal.returns-in-TryLock-clause-kept
returns-in-TryLock-clause-kept c at = c.try_lock.ensures.kept (first_of c.args.begun (shown_stmt c.args.s.now)) at
