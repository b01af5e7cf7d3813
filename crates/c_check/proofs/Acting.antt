-- Statements that hold one that may use an object.
use Rattle.std.proofs.Common.{◌≡◌, ℕ, Bool, ◌||◌, sym, ap, ◌∙◌}
use Rattle.c_tree.specs.Expressions.{Expr}
use Rattle.c_tree.specs.Lined.{Stmt, Stmts, If, While, For}
use Rattle.c_check.specs.Own.{acts, list_acts}

pub if_acts : (r x y : Bool) (s : Stmt) (line : ℕ) (test : Expr) (a b : Stmts) → s ≡ If line test a b → r ≡ (x || y) → x ≡ list_acts a → y ≡ list_acts b → r ≡ acts s
if_acts r x y s line test a b is e p q = e ∙ ap (λ z. z || y) p ∙ ap (λ z. list_acts a || z) q ∙ ap acts (sym is)

pub while_acts : (r : Bool) (s : Stmt) (line : ℕ) (test : Expr) (a : Stmts) → s ≡ While line test a → r ≡ list_acts a → r ≡ acts s
while_acts r s line test a is p = p ∙ ap acts (sym is)

pub for_acts : (r q x y z : Bool) (s : Stmt) (line : ℕ) (first : Stmts) (test : Expr) (step body : Stmts) → s ≡ For line first test step body
    → q ≡ (y || z) → r ≡ (x || q) → x ≡ list_acts first → y ≡ list_acts step → z ≡ list_acts body → r ≡ acts s
for_acts r q x y z s line first test step body is d e i j k =
    e ∙ ap (λ w. x || w) (d ∙ ap (λ w. w || z) j ∙ ap (λ w. list_acts step || w) k) ∙ ap (λ w. w || (list_acts step || list_acts body)) i ∙ ap acts (sym is)
