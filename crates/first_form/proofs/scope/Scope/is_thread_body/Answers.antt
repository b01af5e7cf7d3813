use Rattle.std.proofs.Common.{rules, tests}
use Rattle.std.specs.List.{list_all}
use Rattle.std.proofs.lemmas.Iterator.{YieldsList-from_slice}
use Rattle.std.proofs.lemmas.Iterator.Search.{all_from_yields_List}
use Rattle.c_tree.specs.declared.stmt.Stmt as declared
use Rattle.first_form.specs.FirstForm.{is_thread_body, is_first_act}
use Rattle.first_form.specs.Shown.{shown, shown_stmt, shown_body}
use Rattle.first_form.specs.Bodies.{returns_nothing}
use Rattle.first_form.proofs.Bodies.{thread_split, when_ends, unless_ends}
use Rattle.first_form.proofs.scope.Scope.is_thread_body.Goals as goal

pub returns-then-returns_nothing : goal.returns-then-returns_nothing
returns-then-returns_nothing c =
    let p = shown c.args.self.now.program.now in
    let acts = c.in-Some.acts.now in
    let last = c.in-Some.last.now in
    when_ends (λ ss. is_thread_body p (shown_body ss)) c.args.body.now acts last (returns_nothing (shown_stmt last)) (list_all (λ s. is_first_act p (shown_stmt s)) acts)
    (thread_split p acts last) c.in-Some.ensures.cases.0 _ c.returns_nothing.result c.if-returns_nothing.true c.returns_nothing.ensures
    (all_from_yields_List (λ (s : declared.Stmt). is_first_act p (shown_stmt s)) _ _ _ c.all.ensures.ran (YieldsList-from_slice acts cc) (λ x b q k. search (rules, tests)))

pub returns-else-returns_nothing : goal.returns-else-returns_nothing
returns-else-returns_nothing c =
    let p = shown c.args.self.now.program.now in
    let acts = c.in-Some.acts.now in
    let last = c.in-Some.last.now in
    unless_ends (λ ss. is_thread_body p (shown_body ss)) c.args.body.now acts last (returns_nothing (shown_stmt last)) (list_all (λ s. is_first_act p (shown_stmt s)) acts)
    (thread_split p acts last) c.in-Some.ensures.cases.0 c.returns_nothing.result c.if-returns_nothing.false c.returns_nothing.ensures
