use Rattle.std.proofs.Common.{◌∷◌, Option, ℕ, sym, ◌∙◌, subst, true}
use Rattle.c_tree.specs.Bare.{Create}
use Rattle.c_tree.specs.Expressions.{place_of, expr_of}
use Rattle.c_tree.specs.Numbering.{function_named}
use Rattle.c_tree.specs.Values.{constant}
use Rattle.c_meaning.specs.Shown.{shown}
use Rattle.c_meaning.specs.State.{frame}
use Rattle.c_meaning.specs.Threads.{created, first_frame}
use Rattle.c_steps.specs.Model.{state_of}
use Rattle.c_steps.specs.Answers.{Answers}
use Rattle.c_steps.proofs.state.State.create.Goals as goal

pub returns-in-Some-clause-is : goal.returns-in-Some-clause-is
returns-in-Some-clause-is c at =
    let s = state_of c.args.p.now c.args.self.now in
    let begin = first_frame (function_named (shown c.args.p.now) c.args.name.now) (constant (expr_of c.args.arg.now)) in
    let Comes : Option ℕ → Type 0 = λ u. Answers true (created s c.args.t (frame at.locals at.rest ∷ at.more) u begin) c.create_thread.result s (state_of c.args.p.now c.create_thread.new.self) in
    subst Comes (sym c.in-Some.is ∙ c.thread_in.ensures) (c.create_thread.ensures.is (Create (place_of c.args.slot.now) c.args.name.now (expr_of c.args.arg.now)) at)
