-- Expressions whose numbers fit 32 bits, as those of each program that is spelled do.
use Rattle.std.specs.Prelude.{ℤ, pos, ◌≤◌, if◌then◌else◌, Some, None, ⊤}
use Rattle.std.specs.declared.option.Option.{Option}
use Rattle.c_tree.specs.declared.expr.Op.{Op}
use Rattle.c_tree.specs.declared.expr.Op.TheVariants as op
use Rattle.c_tree.specs.Values.{is_true}
use Rattle.c_tree.specs.Expressions.{Expr, Exprs}
use Rattle.c_tree.specs.Leaves.{Leaves, HasLeaves, HaveLeaves}

-- each number is at most 2147483647; names and formats are any
abbrev pub small_numbers : Leaves
small_numbers = record { name = λ x. ⊤; number = λ n. n ≤ 2147483647; format = λ x. ⊤ }

abbrev pub HasSmallNumbers : Expr → Type 0
HasSmallNumbers e = HasLeaves small_numbers e

abbrev pub HaveSmallNumbers : Exprs → Type 0
HaveSmallNumbers es = HaveLeaves small_numbers es

-- what the left side of an operator alone decides
abbrev pub decided : Op → ℤ → Option ℤ
decided op.Or a = if is_true a then Some (pos 1) else None
decided op.And a = if is_true a then None else Some (pos 0)
decided o a = None
