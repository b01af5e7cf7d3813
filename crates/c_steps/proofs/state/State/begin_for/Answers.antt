use Rattle.std.proofs.Common.{◌≡◌, ◌∷◌, [], List, refl, sym, ap, ◌∙◌, subst, false}
use Rattle.c_tree.specs.declared.stmt.Stmt as declared
use Rattle.c_tree.specs.Bare as bare
use Rattle.c_tree.specs.Bare.{Cons}
use Rattle.c_meaning.specs.Branching.{for_begun, loop_of}
use Rattle.c_meaning.specs.Shown.{shown, shown_body}
use Rattle.c_steps.specs.Answers.{Answers}
use Rattle.c_steps.specs.Model.{state_of}
use Rattle.c_steps.proofs.Rows.{one_of, more_of, two_parts}
use Rattle.c_steps.proofs.state.State.begin_for.Goals as goal

pub returns-in-len1-clause-is : goal.returns-in-len1-clause-is
returns-in-len1-clause-is c test step body at =
    let p = c.args.p.now in let s = c.args.self.now in
    let one : c.args.first.now ≡ c.s-item.result ∷ [] = sym c.as_slice.ensures ∙ one_of c.as_slice.result.now c.s-item.result c.in-len1.len_at_least c.in-len1.len_below c.s-item.is in
    subst (λ (xs : List declared.Stmt). Answers false (for_begun (shown p) (state_of p s) c.args.t at.locals (Cons (loop_of test step body) at.rest) at.more (shown_body xs))
    c.begin_by.result (state_of p s) (state_of p c.begin_by.new.self)) (sym one) (c.begin_by.ensures.is (bare.For (shown_body c.args.first.now) test step body) at)

pub returns-in_default-clause-is : goal.returns-in_default-clause-is
returns-in_default-clause-is c test step body at =
    let p = c.args.p.now in let s = c.args.self.now in
    let more = more_of c.as_slice.result.now c.in_default.len_at_least in (
      ap (λ xs. for_begun (shown p) (state_of p s) c.args.t at.locals (Cons (loop_of test step body) at.rest) at.more (shown_body xs)) (sym c.as_slice.ensures)
          ∙ ap (for_begun (shown p) (state_of p s) c.args.t at.locals (Cons (loop_of test step body) at.rest) at.more) more.is
          ∙ two_parts (shown p) (state_of p s) c.args.t at.locals (Cons (loop_of test step body) at.rest) at.more more.first more.next more.others,
      refl,
    )
