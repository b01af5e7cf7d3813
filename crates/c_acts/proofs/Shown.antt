-- A declared expression of two operands, as the definitions see it.
use Rattle.std.proofs.Common.{◌≡◌, sym, ◌∙◌, ap}
use Rattle.c_tree.specs.declared.expr.Op.{Op}
use Rattle.c_tree.specs.declared.expr.Expr as declared
use Rattle.c_tree.specs.declared.expr.Expr.TheVariants as v
use Rattle.c_tree.specs.declared.expr.Expr.TheOpen as open_of
use Rattle.c_tree.specs.declared.expr.Expr.TheFolds.{fold-roll-Expr}
use Rattle.c_tree.specs.Expressions.{Expr, Binary, layer, expr_of}

pub binary_of : (op : Op) (left right : declared.Expr) → expr_of (v.Binary op left right) ≡ Binary op (expr_of left) (expr_of right)
binary_of op left right = ap expr_of (sym (v.rolls-Binary op left right)) ∙ fold-roll-Expr Expr layer (open_of.Binary op left right)
