-- Breaks that are noted one list behind the other.
use Rattle.std.proofs.Common.{◌≡◌, ℕ, Bool, List, [], ◌∷◌, ◌++◌, refl, sym, ap, ◌∙◌, append_assoc, length, arith}
use Rattle.std.specs.Prelude.{flat_map}
use Rattle.std.specs.declared.option.Option.{Option}
use Rattle.c_tree.specs.declared.expr.Op.{Op}
use Rattle.c_tree.specs.declared.expr.Expr as declared
use Rattle.c_tree.specs.Expressions.{Expr, Binary, exprs_of}
use Rattle.c_rules.specs.Using.{count_of}
use Rattle.c_rules.specs.Uses.{Use, of_expr}
use Rattle.c_acts.specs.declared.first.Break.{Break}
use Rattle.c_acts.specs.First.{noted, noted_all}
use Rattle.c_acts.specs.Uses.{Around, use_breaks, uses_breaks}

pub noted_append : (f : Option Break) (xs ys : List Break) → noted_all f (xs ++ ys) ≡ noted_all (noted_all f xs) ys
noted_append f [] ys = refl
noted_append f (x ∷ xs) ys = noted_append (noted f x) xs ys

-- two lists that are noted in turn
pub noted_both : (f g h : Option Break) (xs ys : List Break) → g ≡ noted_all f xs → h ≡ noted_all g ys → h ≡ noted_all f (xs ++ ys)
noted_both f g h xs ys d e = e ∙ ap (λ x. noted_all x ys) d ∙ sym (noted_append f xs ys)

pub flat_append : {X Y : Type 0} (f : X → List Y) (us vs : List X) → flat_map f (us ++ vs) ≡ flat_map f us ++ flat_map f vs
flat_append f [] vs = refl
flat_append f (u ∷ us) vs = ap (λ ws. f u ++ ws) (flat_append f us vs) ∙ sym (append_assoc (f u) (flat_map f us) (flat_map f vs))

pub noted_uses : (a : Around) (inside : List ℕ → Bool) (line : ℕ) (f g h : Option Break) (us vs : List Use)
    → g ≡ noted_all f (uses_breaks a inside line us) → h ≡ noted_all g (uses_breaks a inside line vs) → h ≡ noted_all f (uses_breaks a inside line (us ++ vs))
noted_uses a inside line f g h us vs d e =
    noted_both f g h (uses_breaks a inside line us) (uses_breaks a inside line vs) d e
    ∙ ap (noted_all f) (sym (flat_append (use_breaks a inside line) us vs))

pub noted_binary : (a : Around) (inside : List ℕ → Bool) (line : ℕ) (f g h : Option Break) (e : Expr) (op : Op) (left right : Expr) → e ≡ Binary op left right
    → g ≡ noted_all f (uses_breaks a inside line (of_expr left)) → h ≡ noted_all g (uses_breaks a inside line (of_expr right)) → h ≡ noted_all f (uses_breaks a inside line (of_expr e))
noted_binary a inside line f g h e op left right is d k =
    noted_uses a inside line f g h (of_expr left) (of_expr right) d k ∙ ap (λ x. noted_all f (uses_breaks a inside line (of_expr x))) (sym is)

-- uses, one use and more uses, and then another list
pub noted_call : (a : Around) (inside : List ℕ → Bool) (line : ℕ) (f g h k l : Option Break) (us vs : List Use) (u : Use) (xs : List Break)
    → g ≡ noted_all f (uses_breaks a inside line us) → h ≡ noted_all g (use_breaks a inside line u) → k ≡ noted_all h (uses_breaks a inside line vs)
    → l ≡ noted_all k xs → l ≡ noted_all f (uses_breaks a inside line (us ++ u ∷ vs) ++ xs)
noted_call a inside line f g h k l us vs u xs p q r s =
    noted_both f k l (uses_breaks a inside line (us ++ u ∷ vs)) xs
    (noted_uses a inside line f g k us (u ∷ vs) p (noted_both g h k (use_breaks a inside line u) (uses_breaks a inside line vs) q r)) s

-- as many arguments as expressions
pub count_shown : (es : List declared.Expr) → count_of (exprs_of es) ≡ length es
count_shown [] = refl
count_shown (e ∷ es) = let h = count_shown es in omega (arith, h)
