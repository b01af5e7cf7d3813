-- An expression with a fault has no value, and a place that is out of range has no cell or object.
use Rattle.std.proofs.Common.{◌≡◌, ℕ, ◌+◌, Bool, true, false, List, [], ◌∷◌, length, Option, Some, None, option_map, cond, ◌⊎◌, inl, inr, refl, ap, ◌∙◌}
use Rattle.std.specs.Prelude.{ℤ, pos, neg_ℤ, not, bytes_eq, find, slice_get, option_and_then}
use Rattle.std.specs.FinMap as finite
use Rattle.std.proofs.lemmas.Option.{same_Some}
use Rattle.c_tree.specs.declared.expr.Op.{Op}
use Rattle.c_tree.specs.declared.expr.Op.TheVariants as op
use Rattle.c_tree.specs.Expressions.{Expr, Exprs, Binary}
use Rattle.c_tree.specs.Expressions as tree
use Rattle.c_tree.specs.Values.{is_true, truth, fitting, applied, combined}
use Rattle.c_tree.specs.Bare.{Array, Object, Program}
use Rattle.c_tree.specs.Numbering.{index_within, member, object_count, numbered, array_cell, element_cell}
use Rattle.c_meaning.specs.State.{Locals, State}
use Rattle.c_meaning.specs.Places.{Cell, scalar_value, target_at_index, evaluated, evaluated_if_any, evaluated_all, in_front}
use Rattle.c_meaning.specs.Numbers.{decided}
use Rattle.undefined_steps.specs.Faults.{OutsideArray, Fault, FaultIfAny, FaultAmong, BeyondArray, BeyondObjects}

-- ---- out of range

array_outside : (before : ℕ) (arrays : List Array) (name : List ℕ) (z : ℤ) (a : Array) → find (λ (x : Array). bytes_eq x.name name) arrays ≡ Some a → index_within a.len z ≡ None
    → array_cell before arrays name z ≡ None
array_outside before [] name z a found out = refl
array_outside before (x ∷ arrays) name z a found out = by (bytes_eq x.name name) (λ f. array_outside (before + x.len) arrays name z a f out) found
  where
    by : (b : Bool) → (find (λ (y : Array). bytes_eq y.name name) arrays ≡ Some a → array_cell (before + x.len) arrays name z ≡ None)
        → cond b (Some x) (find (λ (y : Array). bytes_eq y.name name) arrays) ≡ Some a
        → cond b (option_map (λ k. before + k) (index_within x.len z)) (array_cell (before + x.len) arrays name z) ≡ None
    by true later f = let same : x ≡ a = same_Some x a f in ap (option_map (λ k. before + k)) (ap (λ (y : Array). index_within y.len z) same ∙ out)
    by false later f = later f

object_outside : (before : ℕ) (objects : List Object) (name : List ℕ) (z : ℤ) (o : Object) (len : ℕ) → find (λ (x : Object). bytes_eq x.name name) objects ≡ Some o → o.len ≡ Some len
    → index_within len z ≡ None → numbered before objects name (Some z) ≡ None
object_outside before [] name z o len found is out = refl
object_outside before (x ∷ objects) name z o len found is out = by (bytes_eq x.name name) (λ f. object_outside (before + object_count x) objects name z o len f is out) found
  where
    by : (b : Bool) → (find (λ (y : Object). bytes_eq y.name name) objects ≡ Some o → numbered (before + object_count x) objects name (Some z) ≡ None)
        → cond b (Some x) (find (λ (y : Object). bytes_eq y.name name) objects) ≡ Some o
        → cond b (member before x.len (Some z)) (numbered (before + object_count x) objects name (Some z)) ≡ None
    by true later f =
        let same : x ≡ o = same_Some x o f in
        ap (λ (y : Object). member before y.len (Some z)) same ∙ ap (λ l. member before l (Some z)) is ∙ ap (option_map (λ k. before + k)) out
    by false later f = later f

element_outside : (p : Program) (name : List ℕ) (z : ℤ) → OutsideArray p name z → element_cell p name z ≡ None
element_outside p name z out = array_outside (length p.ints) p.arrays name z out.array out.named out.outside

-- ---- operators

left_none : (o : Op) (y : Option ℤ) → combined o None y ≡ None
left_none op.Or y = refl
left_none op.And y = refl
left_none o y = refl

right_none : (o : Op) (x : ℤ) → decided o x ≡ None → combined o (Some x) None ≡ None
right_none op.Or x free = by (is_true x) free
  where
    by : (b : Bool) → cond b (Some (pos 1)) None ≡ None → cond b (Some (pos 1)) (option_map (λ w. truth (is_true w)) None) ≡ None
    by true e = e
    by false e = refl
right_none op.And x free = by (is_true x) free
  where
    by : (b : Bool) → cond b None (Some (pos 0)) ≡ None → cond b (option_map (λ w. truth (is_true w)) None) (Some (pos 0)) ≡ None
    by true e = refl
    by false e = e
right_none o x free = refl

no_result : (o : Op) (x y : ℤ) → applied o x y ≡ None → combined o (Some x) (Some y) ≡ None
no_result op.Or x y none = absurd (cc none)
no_result op.And x y none = absurd (cc none)
no_result o x y none = none

-- ---- expressions

module _ (p : Program) (s : State) (l : Locals) where
  pub no_value : (e : Expr) → Fault p s l e → evaluated p s l e ≡ None
  no_value e (Fault.unset name scalar none) = ap (scalar_value s.cells (finite.get l name)) scalar ∙ none
  no_value e (Fault.unset_argument name scalar none) = ap (scalar_value s.cells (finite.get l name)) scalar ∙ none
  no_value e (Fault.outside name index z at out) =
      ap (option_and_then (λ w. option_and_then (slice_get s.cells) (element_cell p name w))) at ∙ ap (option_and_then (slice_get s.cells)) (element_outside p name z out)
  no_value e (Fault.too_large operand z at none) = ap (option_and_then (λ a. fitting (neg_ℤ a))) at ∙ none
  no_value e (Fault.no_result o a b x y at on none) =
      ap (λ v. combined o v (evaluated p s l b)) at ∙ ap (combined o (Some x)) on ∙ no_result o x y none
  no_value e (Fault.in_index name index fault) = ap (option_and_then (λ w. option_and_then (slice_get s.cells) (element_cell p name w))) (no_value index fault)
  no_value e (Fault.in_not operand fault) = ap (option_map (λ a. truth (not (is_true a)))) (no_value operand fault)
  no_value e (Fault.in_minus operand fault) = ap (option_and_then (λ a. fitting (neg_ℤ a))) (no_value operand fault)
  no_value e (Fault.in_left o a b fault) = ap (λ v. combined o v (evaluated p s l b)) (no_value a fault) ∙ left_none o (evaluated p s l b)
  no_value e (Fault.in_right o a b x at free fault) = ap (λ v. combined o v (evaluated p s l b)) at ∙ ap (combined o (Some x)) (no_value b fault) ∙ right_none o x free

  pub no_value_if_any : (e : Option Expr) → FaultIfAny p s l e → evaluated_if_any p s l e ≡ None
  no_value_if_any None fault = absurd fault
  no_value_if_any (Some e) fault = ap (option_map (λ z. Some z)) (no_value e fault)

  no_rest : (z : Option ℤ) → in_front z None ≡ None
  no_rest None = refl
  no_rest (Some z) = refl

  pub no_values : (es : Exprs) → FaultAmong p s l es → evaluated_all p s l es ≡ None
  no_values tree.Nil fault = absurd fault
  no_values (tree.Cons e es) (inl fault) = ap (λ z. in_front z (evaluated_all p s l es)) (no_value e fault)
  no_values (tree.Cons e es) (inr fault) = ap (in_front (evaluated p s l e)) (no_values es fault) ∙ no_rest (evaluated p s l e)

  -- ---- places

  pub no_cell : (name : List ℕ) (index : Option Expr) → FaultIfAny p s l index ⊎ BeyondArray p s l name index → option_and_then (target_at_index p name) (evaluated_if_any p s l index) ≡ None
  no_cell name index (inl fault) = ap (option_and_then (target_at_index p name)) (no_value_if_any index fault)
  no_cell name None (inr out) = absurd out
  no_cell name (Some e) (inr out) =
      ap (λ v. option_and_then (target_at_index p name) (option_map (λ z. Some z) v)) out.1 ∙ ap (option_map (λ cell. Cell cell)) (element_outside p name out.0 out.2)

  pub no_object : (objects : List Object) (name : List ℕ) (index : Option Expr) → FaultIfAny p s l index ⊎ BeyondObjects objects p s l name index
      → option_and_then (numbered 0 objects name) (evaluated_if_any p s l index) ≡ None
  no_object objects name index (inl fault) = ap (option_and_then (numbered 0 objects name)) (no_value_if_any index fault)
  no_object objects name None (inr out) = absurd out
  no_object objects name (Some e) (inr out) =
      let where_it_is = out.2 in
      ap (λ v. option_and_then (numbered 0 objects name) (option_map (λ z. Some z) v)) out.1
      ∙ object_outside 0 objects name out.0 where_it_is.object where_it_is.len where_it_is.named where_it_is.is_array where_it_is.outside
