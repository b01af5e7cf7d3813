-- Samples of how names are used: in scope, as what they are, with the right numbers of arguments, and without recursion.
use Rattle.std.specs.Prelude.{◌≡◌, ℕ, pos, List, [], ◌∷◌, codes, Some, None}
use Rattle.c_tree.specs.declared.program.Kind.TheVariants as kind
use Rattle.c_tree.specs.declared.program.Mode.TheVariants as mode
use Rattle.c_tree.specs.Expressions.{Expr, Number, Element, Arg, Minus}
use Rattle.c_tree.specs.Lined.{Stmt, Nil, Declare, Assign, Call, If, While, For, Read, Print, Create, InitCond, Lock, TryLock, Unlock, Wait, Signal, Broadcast}
use Rattle.c_rules.specs.declared.rule.Rule.TheVariants.{Unknown, WrongKind, WrongCount, Recursion, InitLate}
use Rattle.c_rules.specs.Samples.{Only, at, all_breaks, array, ready, single, member, statements, expressions, value, function, set_x, base, with_run, with_main, with_functions, with_monitors}

abbrev pub local : ℕ → List ℕ → Stmt
local line name = Declare line name None

-- `f(args);`
abbrev pub call : ℕ → List ℕ → List Expr → Stmt
call line name args = Call line None name (expressions args)

-- `x = f(args);`
abbrev pub call_into_x : ℕ → List ℕ → List Expr → Stmt
call_into_x line name args = Call line (Some (single (codes "x"))) name (expressions args)

-- names that are in scope, and names that aren't
pub record ScopedNames : Type 0 where
  pub read : Only (with_run (set_x 31 (value (codes "y")) ∷ [])) (at Unknown 31 ∷ [])
  pub written : Only (with_run (Assign 31 (single (codes "y")) (Number 0) ∷ [])) (at Unknown 31 ∷ [])
  pub index : Only (with_run (set_x 31 (Element (codes "q") (value (codes "y"))) ∷ [])) (at Unknown 31 ∷ [])
  pub cast : Only (with_run (set_x 31 (Arg (codes "y")) ∷ [])) (at Unknown 31 ∷ [])
  pub object : Only (with_run (Lock 31 (single (codes "y")) ∷ [])) (at Unknown 31 ∷ [])
  pub called : Only (with_run (call 31 (codes "f") [] ∷ [])) (at Unknown 31 ∷ [])
  pub called_above : Only (with_functions (function (codes "g") kind.Void [] (call 13 (codes "f") [] ∷ []) 12 ∷ function (codes "f") kind.Void [] [] 15 ∷ [])) (at Unknown 13 ∷ [])
  pub called_below : Only (with_functions (function (codes "f") kind.Void [] [] 12 ∷ function (codes "g") kind.Void [] (call 16 (codes "f") [] ∷ []) 15 ∷ [])) []
  pub before_it : Only (with_run (Assign 31 (single (codes "i")) (Number 0) ∷ local 32 (codes "i") ∷ [])) (at Unknown 31 ∷ [])
  pub in_its_value : Only (with_run (Declare 31 (codes "i") (Some (value (codes "i"))) ∷ [])) []
  pub behind_its_list : Only (with_run (If 31 (Number 1) (statements (local 32 (codes "i") ∷ [])) Nil ∷ set_x 33 (value (codes "i")) ∷ [])) (at Unknown 33 ∷ [])
  pub in_other_arm : Only (with_run (If 31 (Number 1) (statements (local 32 (codes "i") ∷ [])) (statements (set_x 33 (value (codes "i")) ∷ [])) ∷ [])) (at Unknown 33 ∷ [])
  pub in_busy_arm : Only (with_run (TryLock 31 (single (codes "a")) (statements (local 32 (codes "i") ∷ [])) (statements (set_x 33 (value (codes "i")) ∷ [])) ∷ [])) (at Unknown 33 ∷ [])
  pub in_inner_list : Only (with_run (local 31 (codes "i") ∷ While 32 (Number 1) (statements (set_x 33 (value (codes "i")) ∷ [])) ∷ [])) []
  pub of_loop : Only (with_run (For 31 (statements (Declare 31 (codes "i") (Some (Number 0)) ∷ [])) (value (codes "i")) (statements (Assign 31 (single (codes "i")) (Number 1) ∷ [])) (statements (set_x 32 (value (codes "i")) ∷ [])) ∷ [])) []
  pub behind_its_loop : Only (with_run (For 31 (statements (Declare 31 (codes "i") (Some (Number 0)) ∷ [])) (Number 1) Nil Nil ∷ set_x 33 (value (codes "i")) ∷ [])) (at Unknown 33 ∷ [])
  pub of_other_function : Only (with_run (set_x 31 (value (codes "n")) ∷ [])) (at Unknown 31 ∷ [])
  pub of_capacities : all_breaks (with_monitors (with_run (set_x 31 (value (codes "gd_cap")) ∷ [])) 1 (1 ∷ [])) mode.Any ≡ at Unknown 31 ∷ []

-- names that are used as what they aren't
pub record Misuses : Type 0 where
  pub index_on_scalar : Only (with_run (set_x 31 (Element (codes "x") (Number 0)) ∷ [])) (at WrongKind 31 ∷ [])
  pub index_on_local : Only (with_run (local 31 (codes "i") ∷ Assign 32 (member (codes "i") (Number 0)) (Number 0) ∷ [])) (at WrongKind 32 ∷ [])
  pub array_without_index : Only (with_run (set_x 31 (value (codes "q")) ∷ [])) (at WrongKind 31 ∷ [])
  pub mutex_as_int : Only (with_run (set_x 31 (value (codes "a")) ∷ [])) (at WrongKind 31 ∷ [])
  pub int_as_mutex : Only (with_run (Lock 31 (single (codes "x")) ∷ [])) (at WrongKind 31 ∷ [])
  pub mutexes_without_index : Only (with_run (Unlock 31 (single (codes "m")) ∷ [])) (at WrongKind 31 ∷ [])
  pub index_on_mutex : Only (with_run (Lock 31 (member (codes "a") (Number 0)) ∷ [])) (at WrongKind 31 ∷ [])
  pub mutex_as_condition : Only (with_run (Signal 31 (single (codes "a")) ∷ [])) (at WrongKind 31 ∷ [])
  pub condition_as_mutex : Only (with_run (Wait 31 (single (codes "c")) (single (codes "c")) [] ∷ [])) (at WrongKind 31 ∷ [])
  pub condition_as_mutex_tried : Only (with_run (TryLock 31 (single (codes "c")) Nil Nil ∷ [])) (at WrongKind 31 ∷ [])
  pub function_as_int : Only (with_run (set_x 31 (value (codes "add")) ∷ [])) (at WrongKind 31 ∷ [])
  pub int_as_function : Only (with_run (call 31 (codes "x") [] ∷ [])) (at WrongKind 31 ∷ [])
  pub call_of_thread : Only (with_main (call 43 (codes "run") (Number 0 ∷ []) ∷ [])) (at WrongKind 43 ∷ [])
  pub result_of_void : Only (with_main (call_into_x 43 (codes "clear") [] ∷ [])) (at WrongKind 43 ∷ [])
  pub start_of_other : Only (with_main (Create 43 (single (codes "u")) (codes "clear") (Number 0) ∷ [])) (at WrongKind 43 ∷ [])
  pub argument_without_cast : Only (with_run (set_x 31 (value (codes "arg")) ∷ [])) (at WrongKind 31 ∷ [])
  pub argument_written : Only (with_run (Read 31 (single (codes "arg")) ∷ [])) (at WrongKind 31 ∷ [])
  pub cast_of_int : Only (with_run (set_x 31 (Arg (codes "x")) ∷ [])) (at WrongKind 31 ∷ [])
  pub mutex_as_thread : Only (with_run (set_x 31 (Number 0) ∷ InitCond 32 (single (codes "a")) ∷ [])) (at WrongKind 32 ∷ at InitLate 32 ∷ [])

-- every use as what a name is
pub record Uses : Type 0 where
  pub of_ints : Only (with_run (Declare 31 (codes "i") (Some (Arg (codes "arg"))) ∷ Assign 32 (member (codes "q") (value (codes "i"))) (Minus (value (codes "x"))) ∷ Read 33 (single (codes "i")) ∷ [])) []
  pub of_objects : Only (with_run (Lock 31 (single (codes "a")) ∷ Wait 32 (single (codes "c")) (single (codes "a")) [] ∷ Unlock 33 (single (codes "a")) ∷ Lock 34 (member (codes "m") (value (codes "x"))) ∷ Signal 35 (single (codes "c")) ∷ Broadcast 36 (single (codes "c")) ∷ [])) []
  pub of_trylock : Only (with_run (TryLock 31 (single (codes "a")) (statements (Unlock 32 (single (codes "a")) ∷ [])) (statements (set_x 33 (Number 1) ∷ [])) ∷ [])) []
  pub of_functions : Only (with_run (call 31 (codes "clear") [] ∷ call_into_x 32 (codes "add") (Number 1 ∷ []) ∷ call 33 (codes "add") (Number 1 ∷ []) ∷ [])) []

-- numbers of arguments and of initial values
pub record Numbers : Type 0 where
  pub too_few : Only (with_run (call 31 (codes "add") [] ∷ [])) (at WrongCount 31 ∷ [])
  pub too_many : Only (with_run (call 31 (codes "clear") (Number 1 ∷ []) ∷ [])) (at WrongCount 31 ∷ [])
  pub formats : Only (with_run (Print 31 (codes "%d %%d %d") (expressions (Number 1 ∷ Number 2 ∷ [])) ∷ [])) []
  pub format_without : Only (with_run (Print 31 (codes "%%d") (expressions (Number 1 ∷ [])) ∷ [])) (at WrongCount 31 ∷ [])
  pub format_with : Only (with_run (Print 31 (codes "%d%d") (expressions (Number 1 ∷ [])) ∷ [])) (at WrongCount 31 ∷ [])
  pub values : Only (record base { arrays = array (codes "q") 2 (pos 1 ∷ pos 2 ∷ []) 3 ∷ [] }) []
  pub too_many_values : Only (record base { arrays = array (codes "q") 2 (pos 1 ∷ pos 2 ∷ pos 3 ∷ []) 3 ∷ [] }) (at WrongCount 3 ∷ [])
  pub initialisers : Only (record base { mutexes = ready (codes "m") (Some 2) 2 5 ∷ [] }) []
  pub too_few_initialisers : Only (record base { mutexes = ready (codes "m") (Some 2) 1 5 ∷ [] }) (at WrongCount 5 ∷ [])
  pub too_many_initialisers : Only (record base { conds = ready (codes "c") (Some 2) 3 6 ∷ [] }) (at WrongCount 6 ∷ [])
  pub too_few_capacities : all_breaks (with_monitors base 2 (1 ∷ [])) mode.Any ≡ at WrongCount 1 ∷ []
  pub too_many_capacities : all_breaks (with_monitors base 1 (1 ∷ 1 ∷ [])) mode.Any ≡ at WrongCount 1 ∷ []

-- functions that call themselves
pub record Recursions : Type 0 where
  pub direct : Only (with_functions (function (codes "f") kind.Void [] (call 13 (codes "f") [] ∷ []) 12 ∷ [])) (at Recursion 13 ∷ [])
  pub inside : Only (with_functions (function (codes "f") kind.Void [] (While 13 (Number 1) (statements (call 14 (codes "f") [] ∷ [])) ∷ []) 12 ∷ [])) (at Recursion 14 ∷ [])
  pub of_main : Only (with_main (call 43 (codes "main") [] ∷ [])) (at WrongKind 43 ∷ at Recursion 43 ∷ [])
