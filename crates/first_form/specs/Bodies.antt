-- Single statements of bodies of the first form.
use Rattle.std.specs.Prelude.{ℕ, Bool, false, Some, None, true}
use Rattle.std.specs.declared.option.Option.{Option}
use Rattle.c_tree.specs.Expressions.{Expr, Number}
use Rattle.c_tree.specs.Bare.{Stmt, Program, Create, Join, Return}
use Rattle.first_form.specs.FirstForm.{is_slot, is_null}

-- `return NULL`, as it stands last in a thread function
abbrev pub returns_nothing : Stmt → Bool
returns_nothing (Return None) = true
returns_nothing s = false

-- `return 0`, as it stands last in main
abbrev pub returns_null : Stmt → Bool
returns_null (Return (Some e)) = is_null e
returns_null s = false

-- a join of a member of the array of threads
abbrev pub is_join : Program → Stmt → Bool
is_join p (Join slot) = is_slot p slot
is_join p s = false

-- an index that is a number
abbrev pub number_of : Option Expr → Option ℕ
number_of (Some (Number k)) = Some k
number_of index = None

-- the index that a statement creates a thread at
abbrev pub created_by : Stmt → Option ℕ
created_by (Create slot function arg) = number_of slot.index
created_by s = None

-- the index that a statement joins
abbrev pub joined_by : Stmt → Option ℕ
joined_by (Join slot) = number_of slot.index
joined_by s = None
