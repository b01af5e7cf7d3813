use Rattle.std.proofs.Common.{◌≡◌, [], sym, subst, ap, ◌∙◌}
use Rattle.std.proofs.lemmas.Result.{on_ok_weaker}
use Rattle.c_tree.specs.Bare.{Stmts}
use Rattle.c_tree.specs.Lined.{Program, bare_program}
use Rattle.c_tree.specs.Numbering.{creations_of, main_body, main_name}
use Rattle.c_meaning.specs.Shown.{shown_body}
use Rattle.contexts.specs.Outlines.{starts}
use Rattle.rule_facts.specs.FromLast.{from_last, named_in, StartsNamed}
use Rattle.rule_facts.proofs.Behind.{regular_names}
use Rattle.context_walk.specs.Prepared.{program_in}
use Rattle.context_walk.specs.Found.{Finds}
use Rattle.context_walk.specs.Starts.{begins, begun_by}
use Rattle.context_walk.proofs.Beginning.{first_begun}
use Rattle.context_walk.proofs.Walking.{found_later}
use Rattle.context_walk.proofs.functions.Functions.begin_all.Goals as goal

pub begin-requires-clause-named : goal.begin-requires-clause-named
begin-requires-clause-named c = (regular_names (program_in c.args.self.now) c.requires.regular).main

pub begin_all_created-requires-clause-named : goal.begin_all_created-requires-clause-named
begin_all_created-requires-clause-named c =
    let p : Program = program_in c.args.self.now in
    let body : shown_body c.as_slice.result.now ≡ main_body (bare_program p) = ap shown_body c.as_slice.ensures ∙ c.main.ensures.body in
    subst (λ ss. StartsNamed (named_in (from_last p)) (creations_of ss)) (sym body) (regular_names p c.requires.regular).starts

pub returns-clause-found : goal.returns-clause-found
returns-clause-found c = on_ok_weaker c.begin_all_created.result (λ finds.
    let p : Program = program_in c.args.self.now in
    let body : shown_body c.as_slice.result.now ≡ main_body (bare_program p) = ap shown_body c.as_slice.ensures ∙ c.main.ensures.body in
    found_later (begins p (starts p) c.args.found.now) (begins p (begun_by (main_body (bare_program p))) c.begin.new.found) c.args.found.now c.begin.new.found c.begin_all_created.new.found
    (first_begun p (begun_by (main_body (bare_program p))) main_name [] c.args.found.now c.begin.new.found c.in_ok-begin.ensures.found)
    (subst (λ (ss : Stmts). Finds (begins p (begun_by ss) c.begin.new.found) c.begin.new.found c.begin_all_created.new.found) body finds)) c.begin_all_created.ensures.found
