-- What waits of a well-formed program take are monitors that are there.
use Rattle.std.proofs.Common.{◌≡◌, ℕ, List, [], ◌∷◌, length, subst, Some, zero-add}
use Rattle.std.specs.Prelude.{All, slice_get}
use Rattle.std.specs.List.{enumerate_from}
use Rattle.std.proofs.lemmas.List.Elements.{All-nil, All-cons}
use Rattle.c_tree.specs.Everywhere.{Everywhere, EverywhereInside}
use Rattle.c_tree.specs.Lined as tree
use Rattle.c_tree.specs.Lined.{Stmt, Stmts, Function, Program, bare_stmt, bare_stmts}
use Rattle.c_rules.proofs.Members.{In, contains_of}
use Rattle.c_rules.specs.Formed.{Formed}
use Rattle.c_tree.specs.declared.program.Mode.{Mode}
use Rattle.rule_facts.specs.Statements.{WithinMonitors}
use Rattle.rule_facts.proofs.Places.{listed_at}
use Rattle.rule_facts.proofs.Ruled.{regular}
use Rattle.flow_graph.specs.Shapes.{Shape, shapes, shapes_all}
use Rattle.flow_graph.specs.Routes.{FitsShape}
use Rattle.flow_graph.specs.Weaving.{function_shapes}

put : (n : ℕ) (s : Shape) (more : List Shape) → FitsShape n s → All (FitsShape n) more → All (FitsShape n) (s ∷ more)
put n s more here later = All-cons (FitsShape n) s more here later

mutual
  fit_one : (n : ℕ) (s : Stmt) → WithinMonitors n (bare_stmt s) → EverywhereInside (WithinMonitors n) (bare_stmt s) → (more : List Shape) → All (FitsShape n) more → All (FitsShape n) (shapes s more)
  fit_one n (tree.Call line target name args) own inside more later = put n (Shape.Call line name) more tt later
  fit_one n (tree.If line test a b) own inside more later =
      put n (Shape.Branch line) (shapes_all a (Shape.Else ∷ shapes_all b (Shape.ArmsEnd ∷ more))) tt (fit_all n a inside.0 (Shape.Else ∷ shapes_all b (Shape.ArmsEnd ∷ more)) (put n Shape.Else (shapes_all b (Shape.ArmsEnd ∷ more)) tt (fit_all n b inside.1 (Shape.ArmsEnd ∷ more) (put n Shape.ArmsEnd more tt later))))
  fit_one n (tree.While line test body) own inside more later =
      put n (Shape.Loop line) (shapes_all body (Shape.LoopEnd ∷ more)) tt (fit_all n body inside (Shape.LoopEnd ∷ more) (put n Shape.LoopEnd more tt later))
  fit_one n (tree.For line first_part test step body) own inside more later =
      put n (Shape.Step line) (Shape.Loop line ∷ shapes_all body (shapes_all step (Shape.LoopEnd ∷ more))) tt
      (put n (Shape.Loop line) (shapes_all body (shapes_all step (Shape.LoopEnd ∷ more))) tt
      (fit_all n body inside.2 (shapes_all step (Shape.LoopEnd ∷ more)) (fit_all n step inside.1 (Shape.LoopEnd ∷ more) (put n Shape.LoopEnd more tt later))))
  fit_one n (tree.Return line value) own inside more later = put n (Shape.Leave line) more tt later
  fit_one n (tree.Join line slot) own inside more later = put n (Shape.Join line) more tt later
  fit_one n (tree.Lock line place) own inside more later = put n (Shape.Acquire line) more tt later
  fit_one n (tree.TryLock line place a b) own inside more later =
      put n (Shape.Try line) (shapes_all a (Shape.Else ∷ shapes_all b (Shape.ArmsEnd ∷ more))) tt (fit_all n a inside.0 (Shape.Else ∷ shapes_all b (Shape.ArmsEnd ∷ more)) (put n Shape.Else (shapes_all b (Shape.ArmsEnd ∷ more)) tt (fit_all n b inside.1 (Shape.ArmsEnd ∷ more) (put n Shape.ArmsEnd more tt later))))
  fit_one n (tree.Unlock line place) own inside more later = put n (Shape.Release line) more tt later
  fit_one n (tree.Wait line cond mutex takes) own inside more later = put n (Shape.Wait line takes) more own later
  fit_one n (tree.Take line monitor) own inside more later = put n (Shape.Acquire line) more tt later
  fit_one n (tree.Give line monitor) own inside more later = put n (Shape.Release line) more tt later
  fit_one n s own inside more later = put n (Shape.Step (tree.line_of s)) more tt later

  fit_all : (n : ℕ) (ss : Stmts) → Everywhere (WithinMonitors n) (bare_stmts ss) → (more : List Shape) → All (FitsShape n) more → All (FitsShape n) (shapes_all ss more)
  fit_all n tree.Nil all more later = later
  fit_all n (tree.Cons s rest) all more later = fit_one n s all.0 all.1 (shapes_all rest more) (fit_all n rest all.2 more later)

-- the shapes of each function fit
pub function_fits : (p : Program) (mode : Mode) → Formed p mode → (k : ℕ) (f : Function) → slice_get p.functions k ≡ Some f → All (FitsShape (length p.monitors)) (function_shapes f)
function_fits p mode formed k f at =
    let listed : In (k, f) (enumerate_from 0 p.functions) = subst (λ j. In (j, f) (enumerate_from 0 p.functions)) (zero-add k) (listed_at 0 k p.functions f at) in
    fit_all (length p.monitors) f.body ((regular p mode formed).monitors (k, f) (contains_of (enumerate_from 0 p.functions) (k, f) listed)) (Shape.Leave f.end_line ∷ [])
    (put (length p.monitors) (Shape.Leave f.end_line) [] tt (All-nil (FitsShape (length p.monitors))))
