-- Samples of reserved, long and repeated names.
use Rattle.std.specs.Prelude.{◌≡◌, ℕ, List, [], ◌∷◌, ◌++◌, codes, replicate, Some, None}
use Rattle.c_tree.specs.declared.program.Kind.TheVariants as kind
use Rattle.c_tree.specs.declared.program.Mode.TheVariants as mode
use Rattle.c_tree.specs.Expressions.{Number}
use Rattle.c_tree.specs.Lined.{Stmt, Nil, Declare, While, For, Wait, Take, Give, Program}
use Rattle.c_rules.specs.declared.rule.Rule.TheVariants.{Reserved, LongName, Twice}
use Rattle.c_rules.specs.Samples.{Only, at, all_breaks, cell, statements, function, base, single, with_run, with_functions, with_monitors}

abbrev pub int_named : List ℕ → Program
int_named name = record base { ints = cell (codes "x") 2 ∷ cell name 8 ∷ [] }

-- a function of this name, which is called nowhere
abbrev pub function_named : List ℕ → Program
function_named name = with_functions (function name kind.Void [] [] 12 ∷ [])

-- names of ints that are reserved, and names that look like them
pub record KeptNames : Type 0 where
  pub of_tool : Only (int_named (codes "gd_x")) (at Reserved 8 ∷ [])
  pub of_threads : Only (int_named (codes "pthread_x")) (at Reserved 8 ∷ [])
  pub of_initialisers : Only (int_named (codes "PTHREAD_X")) (at Reserved 8 ∷ [])
  pub null : Only (int_named (codes "NULL")) (at Reserved 8 ∷ [])
  pub print : Only (int_named (codes "printf")) (at Reserved 8 ∷ [])
  pub scan : Only (int_named (codes "scanf")) (at Reserved 8 ∷ [])
  pub pointer : Only (int_named (codes "intptr_t")) (at Reserved 8 ∷ [])
  pub as_copy : Only (int_named (codes "x_gd1")) (at Reserved 8 ∷ [])
  pub local : Only (with_run (Declare 31 (codes "gd_x") None ∷ [])) (at Reserved 31 ∷ [])
  pub parameter : Only (with_functions (function (codes "f") kind.Void (codes "printf" ∷ []) [] 12 ∷ [])) (at Reserved 12 ∷ [])
  pub no_digits : Only (int_named (codes "x_gd")) []
  pub no_end : Only (int_named (codes "x_gd1_")) []
  pub no_front : Only (int_named (codes "gd")) []

-- names of functions that end as those of copies
pub record CopyNames : Type 0 where
  pub in_source : all_breaks (function_named (codes "f_gd1")) mode.Source ≡ at Reserved 12 ∷ []
  pub of_any : all_breaks (function_named (codes "f_gd1")) mode.Any ≡ []
  pub of_copy : all_breaks (function_named (codes "f_gd1_gd23")) mode.Any ≡ []
  pub of_main : Only (function_named (codes "main_gd1")) (at Reserved 12 ∷ [])
  pub of_copied_main : Only (function_named (codes "main_gd1_gd2")) (at Reserved 12 ∷ [])
  pub of_keyword : Only (function_named (codes "int_gd1")) (at Reserved 12 ∷ [])
  pub of_later_word : all_breaks (function_named (codes "bool_gd1")) mode.Any ≡ []
  pub of_long_name : all_breaks (function_named (replicate 64 120 ++ codes "_gd1")) mode.Any ≡ []
  pub of_library : Only (function_named (codes "printf_gd1")) (at Reserved 12 ∷ [])
  pub of_nothing : Only (function_named (codes "_gd1")) (at Reserved 12 ∷ [])

-- monitors belong to the tool
pub record KeptMonitors : Type 0 where
  pub capacities : all_breaks (with_monitors base 1 (2 ∷ [])) mode.Source ≡ at Reserved 1 ∷ []
  pub take : all_breaks (with_monitors (with_run (Take 31 0 ∷ [])) 1 (2 ∷ [])) mode.Source ≡ at Reserved 1 ∷ at Reserved 31 ∷ []
  pub give : all_breaks (with_monitors (with_run (Give 31 0 ∷ [])) 1 (2 ∷ [])) mode.Source ≡ at Reserved 1 ∷ at Reserved 31 ∷ []
  pub wait : all_breaks (with_run (Wait 31 (single (codes "c")) (single (codes "a")) [] ∷ [])) mode.Source ≡ []
  pub wait_with_takes : all_breaks (with_monitors (with_run (Wait 31 (single (codes "c")) (single (codes "a")) (0 ∷ []) ∷ [])) 1 (2 ∷ [])) mode.Source ≡ at Reserved 1 ∷ at Reserved 31 ∷ []
  pub of_any : all_breaks (with_monitors (with_run (Take 31 0 ∷ Give 32 0 ∷ [])) 1 (2 ∷ [])) mode.Any ≡ []

-- a function's name has at most 56 characters, in programs of users
pub record LongNames : Type 0 where
  pub fits : Only (function_named (replicate 56 120)) []
  pub in_source : all_breaks (function_named (replicate 57 120)) mode.Source ≡ at LongName 12 ∷ []
  pub of_any : all_breaks (function_named (replicate 57 120)) mode.Any ≡ []
  pub of_int : Only (int_named (replicate 57 120)) []

abbrev pub local : ℕ → List ℕ → Stmt
local line name = Declare line name None

-- `for (int i = 0; 1; ) { .. }`
abbrev pub loop : ℕ → List Stmt → Stmt
loop line body = For line (statements (Declare line (codes "i") (Some (Number 0)) ∷ [])) (Number 1) Nil (statements body)

-- names that are declared where they are in scope, and where they aren't
pub record RepeatedNames : Type 0 where
  pub outside : Only (int_named (codes "x")) (at Twice 8 ∷ [])
  pub other_kinds : Only (int_named (codes "q")) (at Twice 8 ∷ [])
  pub later_counts : Only (record base { ints = cell (codes "x") 2 ∷ cell (codes "a") 1 ∷ [] }) (at Twice 4 ∷ [])
  pub of_function : Only (int_named (codes "clear")) (at Twice 20 ∷ [])
  pub parameters : Only (with_functions (function (codes "f") kind.Void (codes "n" ∷ codes "n" ∷ []) [] 12 ∷ [])) (at Twice 12 ∷ [])
  pub parameter_of_function : Only (with_functions (function (codes "f") kind.Void (codes "f" ∷ []) [] 12 ∷ [])) (at Twice 12 ∷ [])
  pub local_of_outer : Only (with_run (local 31 (codes "x") ∷ [])) (at Twice 31 ∷ [])
  pub local_of_main : Only (with_run (local 31 (codes "main") ∷ [])) (at Twice 40 ∷ [])
  pub local_of_parameter : Only (with_run (local 31 (codes "arg") ∷ [])) (at Twice 31 ∷ [])
  pub local_of_local : Only (with_run (local 31 (codes "i") ∷ While 32 (Number 1) (statements (local 33 (codes "i") ∷ [])) ∷ [])) (at Twice 33 ∷ [])
  pub in_body_of_for : Only (with_run (loop 31 (local 32 (codes "i") ∷ []) ∷ [])) (at Twice 32 ∷ [])
  pub after_its_list : Only (with_run (While 31 (Number 1) (statements (local 32 (codes "i") ∷ [])) ∷ local 33 (codes "i") ∷ [])) []
  pub after_its_for : Only (with_run (loop 31 [] ∷ loop 32 [] ∷ local 33 (codes "i") ∷ [])) []
  pub in_two_functions : Only (with_run (local 31 (codes "n") ∷ [])) []
