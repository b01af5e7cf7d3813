-- Expressions and places of mutexes, of which what is the same in each context is found once.
use Rattle.std.specs.Prelude.{◌≡◌, ℕ, ℤ, ◌+◌, ◌^◌, ◌<◌, List, Some, None, option_map, option_and_then, unwrap_or, IfSome, ⊤}
use Rattle.std.specs.declared.option.Option.{Option}
use Rattle.c_tree.specs.Bare as bare
use Rattle.c_tree.specs.Expressions.{Expr, Place, expr_of}
use Rattle.c_tree.specs.Numbering.{member}
use Rattle.c_meaning.specs.Numbers.{HasSmallNumbers}
use Rattle.contexts.specs.Constants.{constant_in}
use Rattle.contexts.specs.Resolved.{resolved}
use Rattle.context_locals.specs.declared.names.ConstantNames.{ConstantNames}
use Rattle.context_locals.specs.declared.operands.Operand.{Operand}
use Rattle.context_locals.specs.declared.operands.Operand.TheVariants.{Fixed, Local, Other}
use Rattle.context_locals.specs.declared.mutexes.Mutexes.{Mutexes}
use Rattle.context_locals.specs.declared.mutexes.MutexPlace.{MutexPlace}
use Rattle.context_locals.specs.Known.{value_at, known_by}

-- ---- expressions

-- the value of an expression where the locals have these values
abbrev pub operand_value : ConstantNames → List (Option ℤ) → Operand → Option ℤ
operand_value names values (Fixed z) = z
operand_value names values (Local k) = value_at values (Some k)
operand_value names values (Other e) = constant_in (known_by names values) (expr_of e.now)

abbrev pub IsSmallOperand : Operand → Type 0
IsSmallOperand (Fixed z) = ⊤
IsSmallOperand (Local k) = ⊤
IsSmallOperand (Other e) = HasSmallNumbers (expr_of e.now)

-- it is the local of a name, where that can be constant
abbrev pub IsNamed : ConstantNames → List ℕ → Operand → Type 0
IsNamed names name operand = IsSmallOperand operand × ((values : List (Option ℤ)) → operand_value names values operand ≡ known_by names values name)

-- it has the value of this expression, whatever values the locals have
pub record IsOperandOf (names : ConstantNames) (e : Expr) (operand : Operand) : Type 0 where
  pub small : IsSmallOperand operand
  pub value : (values : List (Option ℤ)) → operand_value names values operand ≡ constant_in (known_by names values) e

-- an expression that may be missing
abbrev pub IsOperandIfAny : ConstantNames → Option Expr → Option Operand → Type 0
IsOperandIfAny names None None = ⊤
IsOperandIfAny names (Some e) (Some operand) = IsOperandOf names e operand
IsOperandIfAny names e operand = ⊥

-- ---- places

-- the index of a place, where it has a value; there may be none
abbrev pub index_value : ConstantNames → List (Option ℤ) → Option Operand → Option (Option ℤ)
index_value names values None = Some None
index_value names values (Some operand) = option_map (λ z. Some z) (operand_value names values operand)

-- the numbers of a declaration's mutexes fit a byte
abbrev pub Fits : Mutexes → Type 0
Fits m = m.first + unwrap_or m.len 1 < 2 ^ 8

-- the number of a mutex of a declaration, with an index or without
abbrev pub member_of : Option Mutexes → Option ℤ → Option ℕ
member_of mutexes index = option_and_then (λ m. member m.first m.len index) mutexes

-- the mutex at a place where the locals have these values
abbrev pub mutex_value : ConstantNames → List (Option ℤ) → MutexPlace → Option ℕ
mutex_value names values place = option_and_then (member_of place.mutexes) (index_value names values place.index)

abbrev pub IsSmallIndex : Option Operand → Type 0
IsSmallIndex None = ⊤
IsSmallIndex (Some operand) = IsSmallOperand operand

-- it names the mutex of this place, whatever values the locals have
pub record IsPlaceOf (p : bare.Program) (names : ConstantNames) (place : Place) (here : MutexPlace) : Type 0 where
  pub small : IsSmallIndex here.index
  pub fits : IfSome here.mutexes Fits
  pub mutex : (values : List (Option ℤ)) → mutex_value names values here ≡ resolved p (known_by names values) place
