-- Samples of threads and objects: fixed creation and joining, constant arguments, initialisation, ranges.
use Rattle.std.specs.Prelude.{◌≡◌, ℕ, List, [], ◌∷◌, codes, Some, None}
use Rattle.c_tree.specs.declared.program.Kind.TheVariants as kind
use Rattle.c_tree.specs.declared.program.Mode.TheVariants as mode
use Rattle.c_tree.specs.declared.expr.Op.TheVariants.{Add, And, Div}
use Rattle.c_tree.specs.Expressions.{Expr, Number, Minus, Binary, Place}
use Rattle.c_tree.specs.Lined.{Stmt, Nil, Call, If, While, Create, Join, InitMutex, InitCond, Lock, TryLock, Wait, Signal, Take, Give, Program}
use Rattle.c_rules.specs.declared.rule.Rule.TheVariants.{NoMain, CreateNotFixed, JoinNotFixed, ArgNotConstant, InitLate, IndexRange, WrongCount}
use Rattle.c_rules.specs.Samples.{Only, at, all_breaks, array, unready, slot, single, member, statements, expressions, value, function, set_x, add, clear, run_of, base, with_run, with_main, with_monitors}

abbrev pub t : Expr → Place
t index = member (codes "t") index

abbrev pub u : Place
u = single (codes "u")

-- `pthread_create` of the thread's function in this slot, with the argument 0
abbrev pub create : ℕ → Place → Stmt
create line slot = Create line slot (codes "run") (Number 0)

-- a thread in the slot `u` with this argument
abbrev pub with_argument : Expr → Program
with_argument e = with_main (Create 43 u (codes "run") e ∷ [])

abbrev pub sum : Expr
sum = Binary Add (Number 1) (Minus (Number 1))

abbrev pub zero_divided : Expr
zero_divided = Binary Div (Number 1) (Number 0)

pub record Mains : Type 0 where
  pub missing : Only (record base { functions = add ∷ clear ∷ run_of [] ∷ [] }) (at NoMain 61 ∷ [])
  pub there : Only base []

-- where threads are created; `t[0]` is created at 42
pub record Creations : Type 0 where
  pub fixed : Only (with_main (create 43 (t (Number 1)) ∷ create 44 u ∷ [])) []
  pub constant_sum : Only (with_main (create 43 (t (Binary Add (Number 0) (Number 1))) ∷ [])) []
  pub in_branch : Only (with_main (If 43 (Number 1) (statements (create 44 u ∷ [])) Nil ∷ [])) (at CreateNotFixed 44 ∷ [])
  pub in_loop : Only (with_main (While 43 (Number 1) (statements (create 44 u ∷ [])) ∷ [])) (at CreateNotFixed 44 ∷ [])
  pub in_thread : Only (with_run (create 31 u ∷ [])) (at CreateNotFixed 31 ∷ [])
  pub open_index : Only (with_main (create 43 (t (value (codes "x"))) ∷ [])) (at CreateNotFixed 43 ∷ [])
  pub name_unread : Only (with_main (create 43 (t (Binary And (Number 0) (value (codes "x")))) ∷ [])) (at CreateNotFixed 43 ∷ [])
  pub past_the_end : Only (with_main (create 43 (t (Number 2)) ∷ [])) (at CreateNotFixed 43 ∷ [])
  pub negative : Only (with_main (create 43 (t (Minus (Number 1))) ∷ [])) (at CreateNotFixed 43 ∷ [])
  pub undefined : Only (with_main (create 43 (t zero_divided) ∷ [])) (at CreateNotFixed 43 ∷ [])
  pub again : Only (with_main (create 43 (t (Number 0)) ∷ [])) (at CreateNotFixed 43 ∷ [])
  pub again_by_sum : Only (with_main (create 43 (t sum) ∷ [])) (at CreateNotFixed 43 ∷ [])
  pub alone_again : Only (with_main (create 43 u ∷ create 44 u ∷ [])) (at CreateNotFixed 44 ∷ [])

-- where threads are joined; `t[0]` is joined at 58
pub record Joins : Type 0 where
  pub fixed : Only (with_main (create 43 u ∷ Join 44 u ∷ [])) []
  pub by_sum : Only (with_main (create 43 (t (Number 1)) ∷ Join 44 (t (Binary Add (Number 1) (Number 0))) ∷ [])) []
  pub before_create : Only (with_main (Join 43 u ∷ create 44 u ∷ [])) (at JoinNotFixed 43 ∷ [])
  pub without_create : Only (with_main (Join 43 (t (Number 1)) ∷ [])) (at JoinNotFixed 43 ∷ [])
  pub again : Only (with_main (Join 43 (t (Number 0)) ∷ [])) (at JoinNotFixed 58 ∷ [])
  pub in_branch : Only (with_main (create 43 u ∷ If 44 (Number 1) (statements (Join 45 u ∷ [])) Nil ∷ [])) (at JoinNotFixed 45 ∷ [])
  pub in_thread : Only (with_run (Join 31 u ∷ [])) (at JoinNotFixed 31 ∷ [])
  pub open_index : Only (with_main (Join 43 (t (value (codes "x"))) ∷ [])) (at JoinNotFixed 43 ∷ [])

pub record Arguments : Type 0 where
  pub number : Only (with_argument sum) []
  pub negative : Only (with_argument (Minus (Number 1))) []
  pub unread : Only (with_argument (Binary And (Number 0) zero_divided)) []
  pub undefined : Only (with_argument zero_divided) (at ArgNotConstant 43 ∷ [])
  pub too_large : Only (with_argument (Binary Add (Number 2147483647) (Number 1))) (at ArgNotConstant 43 ∷ [])
  pub with_name : Only (with_argument (value (codes "x"))) (at ArgNotConstant 43 ∷ [])
  pub name_unread : Only (with_argument (Binary And (Number 0) (value (codes "x")))) (at ArgNotConstant 43 ∷ [])

-- main with these statements first
abbrev pub begins_with : List Stmt → Program
begins_with acts = record base { functions = add ∷ clear ∷ run_of [] ∷ function (codes "main") kind.Main [] acts 40 ∷ [] }

abbrev pub init : ℕ → Stmt
init line = InitMutex line (member (codes "m") (Number 1))

-- when objects are initialised
pub record Initialisations : Type 0 where
  pub first : Only (begins_with (init 41 ∷ InitCond 42 (single (codes "c")) ∷ [])) []
  pub in_loop : Only (begins_with (While 41 (Number 1) (statements (init 42 ∷ set_x 43 (Number 0) ∷ [])) ∷ Lock 44 (single (codes "a")) ∷ [])) []
  pub in_thread : Only (with_run (init 31 ∷ [])) (at InitLate 31 ∷ [])
  pub behind_lock : Only (begins_with (Lock 41 (single (codes "a")) ∷ init 42 ∷ [])) (at InitLate 42 ∷ [])
  pub behind_trylock : Only (begins_with (TryLock 41 (single (codes "a")) Nil Nil ∷ init 42 ∷ [])) (at InitLate 42 ∷ [])
  pub in_taken_arm : Only (begins_with (TryLock 41 (single (codes "a")) (statements (init 42 ∷ [])) Nil ∷ [])) (at InitLate 42 ∷ [])
  pub behind_create : Only (with_main (init 43 ∷ [])) (at InitLate 43 ∷ [])
  pub behind_call : Only (begins_with (Call 41 None (codes "clear") (expressions []) ∷ InitCond 42 (single (codes "c")) ∷ [])) (at InitLate 42 ∷ [])
  pub behind_inner : Only (begins_with (If 41 (Number 1) Nil (statements (Signal 42 (single (codes "c")) ∷ [])) ∷ init 43 ∷ [])) (at InitLate 43 ∷ [])
  pub beside_lock : Only (begins_with (While 41 (Number 1) (statements (init 42 ∷ Lock 43 (single (codes "a")) ∷ [])) ∷ [])) (at InitLate 42 ∷ [])

-- `gd_cond_wait(&c, &a, takes, -1);`
abbrev pub wait : ℕ → List ℕ → Stmt
wait line takes = Wait line (single (codes "c")) (single (codes "a")) takes

-- lengths, capacities and monitors
pub record Ranges : Type 0 where
  pub array_len : Only (record base { arrays = array (codes "q") 0 [] 3 ∷ [] }) (at IndexRange 3 ∷ [])
  pub mutex_len : Only (record base { mutexes = unready (codes "m") (Some 1) 4 ∷ unready (codes "a") (Some 0) 5 ∷ [] }) (at IndexRange 5 ∷ [])
  pub condition_len : Only (record base { conds = unready (codes "c") (Some 0) 6 ∷ [] }) (at IndexRange 6 ∷ [])
  pub slot_len : Only (record base { threads = slot (codes "t") (Some 2) 7 ∷ slot (codes "v") (Some 0) 8 ∷ [] }) (at IndexRange 8 ∷ [])
  pub capacity : all_breaks (with_monitors base 2 (1 ∷ 0 ∷ [])) mode.Any ≡ at IndexRange 1 ∷ []
  pub capacity_len : all_breaks (with_monitors base 0 (1 ∷ [])) mode.Any ≡ at WrongCount 1 ∷ at IndexRange 1 ∷ []
  pub take : all_breaks (with_monitors (with_run (Take 31 1 ∷ [])) 1 (1 ∷ [])) mode.Any ≡ at IndexRange 31 ∷ []
  pub give : all_breaks (with_monitors (with_run (Give 31 2 ∷ [])) 2 (1 ∷ 1 ∷ [])) mode.Any ≡ at IndexRange 31 ∷ []
  pub wait_takes : all_breaks (with_monitors (with_run (wait 31 (0 ∷ 1 ∷ []) ∷ [])) 1 (1 ∷ [])) mode.Any ≡ at IndexRange 31 ∷ []
  pub wait_of_last : all_breaks (with_monitors (with_run (wait 31 (1 ∷ 0 ∷ []) ∷ [])) 2 (1 ∷ 1 ∷ [])) mode.Any ≡ []
  pub without_monitors : all_breaks (with_run (wait 31 (0 ∷ []) ∷ [])) mode.Any ≡ at IndexRange 31 ∷ []
  pub last : all_breaks (with_monitors (with_run (Take 31 1 ∷ Give 32 1 ∷ [])) 2 (1 ∷ 1 ∷ [])) mode.Any ≡ []
