-- Statements that are, or hold, a wait that takes tokens.
use Rattle.std.proofs.Common.{◌≡◌, Bool, ◌||◌, sym, ap, ◌∙◌}
use Rattle.c_tree.specs.Expressions.{Expr, Place}
use Rattle.c_tree.specs.Bare.{Stmt, Stmts, If, TryLock, While, For}
use Rattle.c_canonical.specs.Waits.{waits, any_waits}

arms_wait : (r x y : Bool) (a b : Stmts) → r ≡ (x || y) → x ≡ any_waits a → y ≡ any_waits b → r ≡ (any_waits a || any_waits b)
arms_wait r x y a b e p q = e ∙ ap (λ z. z || y) p ∙ ap (λ z. any_waits a || z) q

pub if_waits : (r x y : Bool) (s : Stmt) (test : Expr) (a b : Stmts) → s ≡ If test a b → r ≡ (x || y) → x ≡ any_waits a → y ≡ any_waits b → r ≡ waits s
if_waits r x y s test a b is e p q = arms_wait r x y a b e p q ∙ ap waits (sym is)

pub try_lock_waits : (r x y : Bool) (s : Stmt) (place : Place) (a b : Stmts) → s ≡ TryLock place a b → r ≡ (x || y) → x ≡ any_waits a → y ≡ any_waits b → r ≡ waits s
try_lock_waits r x y s place a b is e p q = arms_wait r x y a b e p q ∙ ap waits (sym is)

pub while_waits : (r : Bool) (s : Stmt) (test : Expr) (a : Stmts) → s ≡ While test a → r ≡ any_waits a → r ≡ waits s
while_waits r s test a is p = p ∙ ap waits (sym is)

pub for_waits : (r q x y z : Bool) (s : Stmt) (first : Stmts) (test : Expr) (step body : Stmts) → s ≡ For first test step body
    → q ≡ (y || z) → r ≡ (x || q) → x ≡ any_waits first → y ≡ any_waits step → z ≡ any_waits body → r ≡ waits s
for_waits r q x y z s first test step body is d e i j k =
    e ∙ ap (λ w. x || w) (arms_wait q y z step body d j k) ∙ ap (λ w. w || (any_waits step || any_waits body)) i ∙ ap waits (sym is)
