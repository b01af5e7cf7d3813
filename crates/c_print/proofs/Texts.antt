-- The texts of expressions, part by part.
use Rattle.std.proofs.Common.{◌≡◌, ℕ, Bool, true, false, List, [], ◌∷◌, ◌++◌, codes, refl, sym, ◌∙◌, ap, append_assoc, append-nil}
use Rattle.std.specs.Prelude.{nat_lt, nat_le}
use Rattle.c_layout.specs.Layout.{Item, text}
use Rattle.c_layout.proofs.Readings.{text_append}
use Rattle.c_tree.specs.declared.expr.Op.{Op}
use Rattle.c_tree.specs.declared.expr.Expr as declared
use Rattle.c_tree.specs.declared.expr.Expr.TheVariants as v
use Rattle.c_tree.specs.declared.expr.Expr.TheOpen as open_of
use Rattle.c_tree.specs.declared.expr.Expr.TheFolds.{fold-roll-Expr}
use Rattle.c_tree.specs.Expressions.{Expr, layer, expr_of, Element, Arg, Not, Minus, Binary}
use Rattle.c_canonical.specs.Expressions.{expression, wrapped, spaced, is_binary, is_minus, strength, binding, operator}

-- ---- the declared expressions, as the definitions see them

pub element_of : (name : List ℕ) (index : declared.Expr) → expr_of (v.Element name index) ≡ Element name (expr_of index)
element_of name index = ap expr_of (sym (v.rolls-Element name index)) ∙ fold-roll-Expr Expr layer (open_of.Element name index)

pub arg_of : (name : List ℕ) → expr_of (v.Arg name) ≡ Arg name
arg_of name = ap expr_of (sym (v.rolls-Arg name)) ∙ fold-roll-Expr Expr layer (open_of.Arg name)

pub not_of : (a : declared.Expr) → expr_of (v.Not a) ≡ Not (expr_of a)
not_of a = ap expr_of (sym (v.rolls-Not a)) ∙ fold-roll-Expr Expr layer (open_of.Not a)

pub minus_of : (a : declared.Expr) → expr_of (v.Minus a) ≡ Minus (expr_of a)
minus_of a = ap expr_of (sym (v.rolls-Minus a)) ∙ fold-roll-Expr Expr layer (open_of.Minus a)

pub binary_of : (op : Op) (left right : declared.Expr) → expr_of (v.Binary op left right) ≡ Binary op (expr_of left) (expr_of right)
binary_of op left right = ap expr_of (sym (v.rolls-Binary op left right)) ∙ fold-roll-Expr Expr layer (open_of.Binary op left right)

-- ---- what is added

pub element_text : (old first second third fourth : List ℕ) (e : Expr) (name : List ℕ) (index : Expr) → e ≡ Element name index
    → first ≡ old ++ name → second ≡ first ++ codes "[" → third ≡ second ++ text (expression index) → fourth ≡ third ++ codes "]" → fourth ≡ old ++ text (expression e)
element_text old first second third fourth e name index is p q r s = rw (s, r, q, p, is) (simp (append_assoc, text_append))

pub arg_text : (old first second : List ℕ) (e : Expr) (name : List ℕ) → e ≡ Arg name
    → first ≡ old ++ codes "(int)(long)" → second ≡ first ++ name → second ≡ old ++ text (expression e)
arg_text old first second e name is p q = rw (q, p, is) (simp (append_assoc, append-nil))

pub not_text : (old first second : List ℕ) (e a : Expr) (binary : Bool) → e ≡ Not a → binary ≡ is_binary a
    → first ≡ old ++ codes "!" → second ≡ first ++ text (wrapped binary (expression a)) → second ≡ old ++ text (expression e)
not_text old first second e a binary is b p q = rw (q, p, is, b) (simp append_assoc)

spaced_text : (again : Bool) (items : List Item) → text (spaced again items) ≡ text (spaced again []) ++ text items
spaced_text true items = refl
spaced_text false items = refl

pub minus_text : (old first second : List ℕ) (e a : Expr) (binary again : Bool) → e ≡ Minus a → binary ≡ is_binary a → again ≡ is_minus a
    → first ≡ old ++ 45 ∷ text (spaced again []) → second ≡ first ++ text (wrapped binary (expression a)) → second ≡ old ++ text (expression e)
minus_text old first second e a binary again is b n p q =
    rw (q, p, is, b, n, spaced_text (is_minus a) (wrapped (is_binary a) (expression a))) (simp append_assoc)

pub binary_text : (old first second third : List ℕ) (e : Expr) (op : Op) (a b : Expr) (looser looser_or_equal : Bool) → e ≡ Binary op a b
    → looser ≡ nat_lt (strength a) (binding op) → looser_or_equal ≡ nat_le (strength b) (binding op)
    → first ≡ old ++ text (wrapped looser (expression a)) → second ≡ first ++ text (operator op) → third ≡ second ++ text (wrapped looser_or_equal (expression b))
    → third ≡ old ++ text (expression e)
binary_text old first second third e op a b looser looser_or_equal is l r p q s =
    let left = wrapped (nat_lt (strength a) (binding op)) (expression a) in
    let right = wrapped (nat_le (strength b) (binding op)) (expression b) in
    let parts : text (expression (Binary op a b)) ≡ text left ++ (text (operator op) ++ text right) =
    text_append left (operator op ++ right) ∙ ap (λ x. text left ++ x) (text_append (operator op) right) in
    rw is (rw (s, q, p, l, r) (append_assoc (old ++ text left) (text (operator op)) (text right)
    ∙ append_assoc old (text left) (text (operator op) ++ text right) ∙ ap (λ x. old ++ x) (sym parts)))

pub wrapped_text : (old first second third : List ℕ) (items : List Item) (parens : Bool) → parens ≡ true → first ≡ old ++ codes "(" → second ≡ first ++ text items
    → third ≡ second ++ codes ")" → third ≡ old ++ text (wrapped parens items)
wrapped_text old first second third items parens is p q r = rw (r, q, p, is) (simp (append_assoc, text_append))
