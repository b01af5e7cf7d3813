-- In a program that a text spells, loops have their parts as the grammar has them.
use Rattle.std.specs.Prelude.{ℕ, List, [], ◌∷◌, Some, None}
use Rattle.std.specs.List.{enumerate_from}
use Rattle.std.proofs.Common.{ap, inl, inr, ◌+◌}
use Rattle.std.proofs.lemmas.List.Elements.{All-contains}
use Rattle.c_tree.specs.declared.program.Kind.{Kind}
use Rattle.c_tree.specs.Bare.{Stmt, Stmts, Nil, Cons, Declare, Assign, If, While, For, TryLock}
use Rattle.c_tree.specs.Everywhere.{Everywhere, EverywhereInside}
use Rattle.c_tree.specs.Lined.{Function, Program, bare_function, bare_program, bare_stmts}
use Rattle.c_rules.proofs.Members.{In, contains_of, in_map, in_of}
use Rattle.c_canonical.specs.Shaped.{ShapedFirst, ShapedStep, ShapedStmt, ShapedStmts}
use Rattle.c_canonical.specs.ShapedPrograms.{ShapedFunction, ShapedProgram}
use Rattle.rule_facts.specs.Apart.{Listed}
use Rattle.contexts.specs.Firsts.{FirstFits, ForFits, HasFirstParts}
use Rattle.context_items.specs.Unshadowed.{StepFits, ForSteps, HasSteps}

first_fits : (ss : Stmts) → ShapedFirst ss → FirstFits ss
first_fits Nil shape = tt
first_fits (Cons (Declare name value) Nil) shape = tt
first_fits (Cons (Declare name None) (Cons s rest)) shape = absurd shape
first_fits (Cons (Declare name (Some value)) (Cons s rest)) shape = absurd shape
first_fits (Cons (Assign target value) Nil) shape = tt
first_fits ss shape = absurd shape

step_fits : (ss : Stmts) → ShapedStep ss → StepFits ss
step_fits Nil shape = tt
step_fits (Cons (Assign target value) Nil) shape = tt
step_fits ss shape = absurd shape

own_fits : (kind : Kind) (s : Stmt) → ShapedStmt kind s → ForFits s
own_fits kind (For first_part test step body) shape = first_fits first_part shape.0
own_fits kind s shape = tt

own_steps : (kind : Kind) (s : Stmt) → ShapedStmt kind s → ForSteps s
own_steps kind (For first_part test step body) shape = step_fits step shape.2
own_steps kind s shape = tt

abbrev Fits : Stmt → Type 0
Fits s = ForFits s × ForSteps s

-- the first part of a `for` and its step hold no loops
first_everywhere : (ss : Stmts) → FirstFits ss → Everywhere Fits ss
first_everywhere Nil fits = tt
first_everywhere (Cons (Declare name value) Nil) fits = ((tt, tt), tt, tt)
first_everywhere (Cons (Assign target value) Nil) fits = ((tt, tt), tt, tt)
first_everywhere ss fits = absurd fits

step_everywhere : (ss : Stmts) → StepFits ss → Everywhere Fits ss
step_everywhere Nil fits = tt
step_everywhere (Cons (Assign target value) Nil) fits = ((tt, tt), tt, tt)
step_everywhere ss fits = absurd fits

mutual
  inside_fits : (kind : Kind) (s : Stmt) → ShapedStmt kind s → EverywhereInside Fits s
  inside_fits kind (If test a b) shape = (all_fit kind a shape.1, all_fit kind b shape.2)
  inside_fits kind (While test body) shape = all_fit kind body shape.1
  inside_fits kind (For first_part test step body) shape =
      (first_everywhere first_part (first_fits first_part shape.0), step_everywhere step (step_fits step shape.2), all_fit kind body shape.3)
  inside_fits kind (TryLock place a b) shape = (all_fit kind a shape.1, all_fit kind b shape.2)
  inside_fits kind s shape = tt

  all_fit : (kind : Kind) (ss : Stmts) → ShapedStmts kind ss → Everywhere Fits ss
  all_fit kind Nil shape = tt
  all_fit kind (Cons s rest) shape = ((own_fits kind s shape.0, own_steps kind s shape.0), inside_fits kind s shape.0, all_fit kind rest shape.1)

-- ---- a fact of both is each

mutual
  each_inside : (P Q : Stmt → Type 0) → ((s : Stmt) → P s → Q s) → (s : Stmt) → EverywhereInside P s → EverywhereInside Q s
  each_inside P Q make (If test a b) all = (each P Q make a all.0, each P Q make b all.1)
  each_inside P Q make (While test body) all = each P Q make body all
  each_inside P Q make (For first_part test step body) all = (each P Q make first_part all.0, each P Q make step all.1, each P Q make body all.2)
  each_inside P Q make (TryLock place a b) all = (each P Q make a all.0, each P Q make b all.1)
  each_inside P Q make s all = tt

  each : (P Q : Stmt → Type 0) → ((s : Stmt) → P s → Q s) → (ss : Stmts) → Everywhere P ss → Everywhere Q ss
  each P Q make Nil all = tt
  each P Q make (Cons s rest) all = (make s all.0, each_inside P Q make s all.1, each P Q make rest all.2)

in_functions : (fs : List Function) (k : ℕ) (f : ℕ × Function) → In f (enumerate_from k fs) → In f.1 fs
in_functions [] k f at = absurd at
in_functions (g ∷ fs) k f (inl e) = inl (ap (λ (h : ℕ × Function). h.1) e)
in_functions (g ∷ fs) k f (inr at) = inr (in_functions fs (k + 1) f at)

function_fits : (p : Program) → ShapedProgram (bare_program p) → (f : ℕ × Function) → Listed p f → Everywhere Fits (bare_stmts f.1.body)
function_fits p shape f at =
    let there : In f.1 p.functions = in_functions p.functions 0 f (in_of (enumerate_from 0 p.functions) f at) in
    let shaped : ShapedFunction (bare_function f.1) = All-contains ShapedFunction (bare_program p).functions (bare_function f.1) shape.functions
    (contains_of (bare_program p).functions (bare_function f.1) (in_map bare_function p.functions f.1 there)) in
    all_fit f.1.kind (bare_stmts f.1.body) shaped.1

pub has_first_parts : (p : Program) → ShapedProgram (bare_program p) → HasFirstParts p
has_first_parts p shape f at = each Fits ForFits (λ s both. both.0) (bare_stmts f.1.body) (function_fits p shape f at)

pub has_steps : (p : Program) → ShapedProgram (bare_program p) → HasSteps p
has_steps p shape f at = each Fits ForSteps (λ s both. both.1) (bare_stmts f.1.body) (function_fits p shape f at)
