-- Statements whose expressions have small numbers only.
use Rattle.std.specs.Prelude.{◌≡◌, ℕ, Some, slice_get}
use Rattle.c_tree.specs.declared.program.Program.{Program}
use Rattle.c_tree.specs.declared.program.Function.{Function}
use Rattle.c_frames.specs.Names.{shown_function}
use Rattle.c_tree.specs.Everywhere.{Everywhere}
use Rattle.std.specs.declared.option.Option.{Option}
use Rattle.c_tree.specs.Expressions.{Expr, Place}
use Rattle.c_tree.specs.Bare.{Stmt}
use Rattle.c_tree.specs.Leaves.{HasLeavesIfAny, PlaceLeaves, TargetLeaves, OwnLeaves}
use Rattle.c_meaning.specs.Numbers.{small_numbers}

-- an expression that may be missing, a place, a target that may be missing
abbrev pub IsSmallIfAny : Option Expr → Type 0
IsSmallIfAny e = HasLeavesIfAny small_numbers e

abbrev pub IsSmallPlace : Place → Type 0
IsSmallPlace place = PlaceLeaves small_numbers place

abbrev pub IsSmallTarget : Option Place → Type 0
IsSmallTarget target = TargetLeaves small_numbers target

-- a statement itself, without those in its parts
abbrev pub IsSmall : Stmt → Type 0
IsSmall s = OwnLeaves small_numbers s

-- the statements of all functions
abbrev pub AreSmall : Program → Type 0
AreSmall p = (k : ℕ) (f : Function) → slice_get p.functions k ≡ Some f → Everywhere IsSmall (shown_function f).body
