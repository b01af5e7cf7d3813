use Rattle.std.proofs.Common.{rules, tests}
use Rattle.std.specs.List.{list_all}
use Rattle.std.proofs.lemmas.Iterator.{YieldsList-from_slice}
use Rattle.std.proofs.lemmas.Iterator.Search.{all_from_yields_List}
use Rattle.c_tree.specs.declared.stmt.Stmt as declared
use Rattle.first_form.specs.FirstForm.{is_joining}
use Rattle.first_form.specs.Shown.{shown, shown_stmt, shown_body}
use Rattle.first_form.specs.Bodies.{is_join, returns_null}
use Rattle.first_form.proofs.Bodies.{joining_split, when_ends, unless_ends}
use Rattle.first_form.proofs.main_body.is_joining.Goals as goal

pub returns-then-returns_null : goal.returns-then-returns_null
returns-then-returns_null c =
    let p = shown c.args.p.now in
    let joins = c.in-Some.joins.now in
    let last = c.in-Some.last.now in
    when_ends (λ ss. is_joining p (shown_body ss)) c.args.body.now joins last (returns_null (shown_stmt last)) (list_all (λ s. is_join p (shown_stmt s)) joins)
    (joining_split p joins last) c.in-Some.ensures.cases.0 _ c.returns_null.result c.if-returns_null.true c.returns_null.ensures
    (all_from_yields_List (λ (s : declared.Stmt). is_join p (shown_stmt s)) _ _ _ c.all.ensures.ran (YieldsList-from_slice joins cc) (λ x b q k. search (rules, tests)))

pub returns-else-returns_null : goal.returns-else-returns_null
returns-else-returns_null c =
    let p = shown c.args.p.now in
    let joins = c.in-Some.joins.now in
    let last = c.in-Some.last.now in
    unless_ends (λ ss. is_joining p (shown_body ss)) c.args.body.now joins last (returns_null (shown_stmt last)) (list_all (λ s. is_join p (shown_stmt s)) joins)
    (joining_split p joins last) c.in-Some.ensures.cases.0 c.returns_null.result c.if-returns_null.false c.returns_null.ensures
