use Rattle.std.proofs.Common.{◌≡◌, map, subst, IfOk, rules, tests}
use Rattle.std.specs.List.{list_all}
use Rattle.std.proofs.lemmas.Iterator.{YieldsList-from_slice}
use Rattle.std.proofs.lemmas.Iterator.Search.{all_from_yields_List}
use Rattle.c_tree.specs.declared.program.Function.{Function}
use Rattle.c_tree.specs.Lined.{bare_function, function_of}
use Rattle.first_form.specs.FirstForm.{has_first_functions, is_thread, is_main}
use Rattle.first_form.specs.Shown.{shown}
use Rattle.first_form.proofs.Bodies.{when_each, unless_each}
use Rattle.first_form.proofs.Heads.{functions_split}
use Rattle.first_form.proofs.form.has_first_functions.Goals as goal

pub returns-then-not-all : goal.returns-then-not-all
returns-then-not-all c =
    let p = shown c.args.scope.now.program.now in
    let threads = c.in-Some.threads.now in
    let last = c.in-Some.last.now in
    unless_each (λ fs. has_first_functions p (map bare_function (map function_of fs))) c.args.functions.now threads last
    (is_main p (bare_function (function_of last))) (list_all (λ f. is_thread p (bare_function (function_of f))) threads)
    (functions_split p threads last) c.in-Some.ensures.cases.0 c.all.result (search rules)
    (all_from_yields_List (λ (f : Function). is_thread p (bare_function (function_of f))) _ _ _ c.all.ensures.ran (YieldsList-from_slice threads cc) (λ x b q k. search (rules, tests)))

pub returns-else-not-all : goal.returns-else-not-all
returns-else-not-all c =
    let p = shown c.args.scope.now.program.now in
    let threads = c.in-Some.threads.now in
    let last = c.in-Some.last.now in
    let same = when_each (λ fs. has_first_functions p (map bare_function (map function_of fs))) c.args.functions.now threads last
    (is_main p (bare_function (function_of last))) (list_all (λ f. is_thread p (bare_function (function_of f))) threads)
    (functions_split p threads last) c.in-Some.ensures.cases.0 c.all.result (search rules)
    (all_from_yields_List (λ (f : Function). is_thread p (bare_function (function_of f))) _ _ _ c.all.ensures.ran (YieldsList-from_slice threads cc) (λ x b q k. search (rules, tests))) in
    subst (λ w. IfOk c.is_main.result (λ b. b ≡ w)) same c.is_main.ensures
