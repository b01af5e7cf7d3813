-- What expressions and places stand for, in a frame of a state.
use Rattle.std.specs.Prelude.{ℕ, ℤ, List, [], ◌∷◌, Some, None, slice_get, option_map, option_and_then}
use Rattle.std.specs.declared.option.Option.{Option}
use Rattle.std.specs.FinMap as finite
use Rattle.c_tree.specs.Expressions as tree
use Rattle.c_tree.specs.Expressions.{Expr, Exprs, Place}
use Rattle.c_tree.specs.Values.{Values, value}
use Rattle.c_tree.specs.Bare.{Program}
use Rattle.c_tree.specs.Numbering.{mutex_of, condition_of, scalar_cell, element_cell}
use Rattle.c_meaning.specs.State.{Locals, State}

-- a scalar is a cell, or else a local; each name has one meaning
abbrev pub scalar_value : List ℤ → Option ℤ → Option ℕ → Option ℤ
scalar_value cells local (Some cell) = slice_get cells cell
scalar_value cells local None = local

-- what names stand for, where the cells and the locals have these values
abbrev pub values_of : Program → List ℤ → Locals → Values
values_of p cells locals = record {
  scalar = λ name. scalar_value cells (finite.get locals name) (scalar_cell p name);
  element = λ name index. option_and_then (slice_get cells) (element_cell p name index);
}

-- the value of an expression, and none where it is undefined
abbrev pub evaluated : Program → State → Locals → Expr → Option ℤ
evaluated p s locals e = value (values_of p s.cells locals) e

-- the value of an expression that may be left out, and none where it is undefined
abbrev pub evaluated_if_any : Program → State → Locals → Option Expr → Option (Option ℤ)
evaluated_if_any p s locals None = Some None
evaluated_if_any p s locals (Some e) = option_map (λ z. Some z) (evaluated p s locals e)

-- a value in front of others, where all are defined
abbrev pub in_front : Option ℤ → Option (List ℤ) → Option (List ℤ)
in_front z zs = option_and_then (λ first. option_map (λ rest. first ∷ rest) zs) z

-- the values of a list of expressions, and none where one of them is undefined
abbrev pub evaluated_all : Program → State → Locals → Exprs → Option (List ℤ)
evaluated_all p s locals tree.Nil = Some []
evaluated_all p s locals (tree.Cons e es) = in_front (evaluated p s locals e) (evaluated_all p s locals es)

-- the mutex at a place, and none where the place is undefined
abbrev pub mutex_at : Program → State → Locals → Place → Option ℕ
mutex_at p s locals place = option_and_then (mutex_of p place.name) (evaluated_if_any p s locals place.index)

-- the condition at a place, and none where the place is undefined
abbrev pub condition_at : Program → State → Locals → Place → Option ℕ
condition_at p s locals place = option_and_then (condition_of p place.name) (evaluated_if_any p s locals place.index)

-- what an assignment, a read or a call's result changes
pub data Target : Type 0 where
  Cell : (cell : ℕ) → Target
  Local : (name : List ℕ) → Target

abbrev pub scalar_target : List ℕ → Option ℕ → Target
scalar_target name (Some cell) = Cell cell
scalar_target name None = Local name

abbrev pub target_at_index : Program → List ℕ → Option ℤ → Option Target
target_at_index p name None = Some (scalar_target name (scalar_cell p name))
target_at_index p name (Some index) = option_map (λ cell. Cell cell) (element_cell p name index)

-- the target at a place, and none where the place is undefined
abbrev pub target_at : Program → State → Locals → Place → Option Target
target_at p s locals place = option_and_then (target_at_index p place.name) (evaluated_if_any p s locals place.index)
