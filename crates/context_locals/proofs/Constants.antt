-- The values of expressions, one after the other.
use Rattle.std.proofs.Common.{◌≡◌, ℕ, ◌+◌, ◌<◌, ◌≤◌, List, [], ◌∷◌, ◌++◌, length, get_or, drop, sym, ap, subst, ◌∙◌, Option, append_assoc, append-nil}
use Rattle.std.specs.Prelude.{ℤ}
use Rattle.std.proofs.lemmas.List.{drop_more, drop_all}
use Rattle.c_tree.specs.declared.expr.Expr.{Expr}
use Rattle.c_tree.specs.Expressions.{expr_of, exprs_of}
use Rattle.c_meaning.specs.Numbers.{HasSmallNumbers, HaveSmallNumbers}
use Rattle.contexts.specs.Constants.{Constants, constant_in}
use Rattle.contexts.specs.Resolved.{constants_of}
use Rattle.context_locals.specs.declared.known.Known.{Known}
use Rattle.context_locals.specs.Known.{known_of}

abbrev pub left_values : Constants → List Expr → List (Option ℤ)
left_values known es = constants_of known (exprs_of es)

-- the values so far and those that are left are all
pub record Left (k : Known) (rest whole : List Expr) (values : List (Option ℤ)) : Type 0 where
  pub small : HaveSmallNumbers (exprs_of rest)
  pub all : values ++ left_values (known_of k) rest ≡ left_values (known_of k) whole

module _ (es : List Expr) (i : ℕ) (e : Expr) (within : i < length es) (is : e ≡ get_or es i e) where
  here : drop i es ≡ e ∷ drop (i + 1) es
  here = drop_more es i e within ∙ ap (λ x. x ∷ drop (i + 1) es) (sym is)

  pub small_here : HaveSmallNumbers (exprs_of (drop i es)) → HasSmallNumbers (expr_of e) × HaveSmallNumbers (exprs_of (drop (i + 1) es))
  small_here small = let P : List Expr → Type 0 = λ xs. HaveSmallNumbers (exprs_of xs) in subst P here small

  pub next_value : (k : Known) (values now : List (Option ℤ)) (z : Option ℤ) → Left k (drop i es) es values → z ≡ constant_in (known_of k) (expr_of e) → now ≡ values ++ z ∷ [] → Left k (drop (i + 1) es) es now
  next_value k values now z so_far gives pushed = record {
    small = (small_here so_far.small).1;
    all =
        ap (λ vs. vs ++ left_values (known_of k) (drop (i + 1) es)) pushed ∙ append_assoc values (z ∷ []) (left_values (known_of k) (drop (i + 1) es))
        ∙ ap (λ v. values ++ v ∷ left_values (known_of k) (drop (i + 1) es)) gives ∙ ap (λ xs. values ++ left_values (known_of k) xs) (sym here) ∙ so_far.all;
  }

pub all_values : (es : List Expr) (i : ℕ) (k : Known) (values : List (Option ℤ)) → length es ≤ i → Left k (drop i es) es values → values ≡ left_values (known_of k) es
all_values es i k values past so_far = sym (append-nil values) ∙ ap (λ xs. values ++ left_values (known_of k) xs) (sym (drop_all i es past)) ∙ so_far.all
