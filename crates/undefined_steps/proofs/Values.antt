-- An expression without a value has a fault, and a place without a cell or an object has one or is out of range.
use Rattle.std.proofs.Common.{◌≡◌, ℕ, ◌<◌, ◌≤◌, Bool, true, false, List, length, Option, Some, None, option_map, cond, ◌⊎◌, inl, inr, refl, ap, arith}
use Rattle.std.specs.Prelude.{ℤ, pos, neg_ℤ, not, slice_get, option_and_then, is_some}
use Rattle.std.specs.FinMap as finite
use Rattle.c_tree.specs.declared.expr.Op.{Op}
use Rattle.c_tree.specs.declared.expr.Op.TheVariants as op
use Rattle.c_tree.specs.Expressions.{Expr, Exprs, Number, Name, Element, Arg, Not, Minus, Binary, Place}
use Rattle.c_tree.specs.Expressions as tree
use Rattle.c_tree.specs.Values.{is_true, truth, fitting, applied, combined}
use Rattle.c_tree.specs.Bare.{Object, Program}
use Rattle.c_tree.specs.Numbering.{scalar_cell, element_cell, numbered}
use Rattle.c_rules.specs.Uses.{is_indexed_so}
use Rattle.c_meaning.specs.State.{Locals, State}
use Rattle.c_meaning.specs.Places.{Cell, scalar_value, target_at_index, evaluated, evaluated_if_any, evaluated_all, in_front}
use Rattle.c_meaning.specs.Numbers.{decided}
use Rattle.reached_states.specs.Lengths.{cell_count}
use Rattle.undefined_steps.specs.Faults.{OutsideArray, Fault, FaultIfAny, FaultAmong, BeyondArray, BeyondObjects}
use Rattle.rule_facts.specs.Elements.{NamesArray, ElementsOf, ElementsOfAll, ElementsOfValue, MemberOf}
use Rattle.undefined_steps.specs.Proper.{IsObject}
use Rattle.undefined_steps.proofs.Lookups.{some_there, none_mapped, scalar_below, element_below, find_array, array_none, alone_there, member_outside}

module _ (p : Program) (s : State) (l : Locals) (cells : cell_count p ≤ length s.cells) where
  -- a cell has a value
  no_cell : (cell : ℕ) → cell < cell_count p → slice_get s.cells cell ≡ None → ⊥
  no_cell cell below none = some_there s.cells cell (pos 0) (omega (arith, below, cells)) none

  unset_local : (name : List ℕ) (o : Option ℕ) → scalar_cell p name ≡ o → scalar_value s.cells (finite.get l name) o ≡ None → (scalar_cell p name ≡ None) × (finite.get l name ≡ None)
  unset_local name (Some cell) at none = absurd (no_cell cell (scalar_below p name cell at) none)
  unset_local name None at none = (at, none)

  outside_array : (name : List ℕ) → NamesArray p.arrays name → (z : ℤ) → element_cell p name z ≡ None → OutsideArray p name z
  outside_array name is z none =
      let found = find_array p.arrays is.array name is.listed is.named in
      record { array = found.0; named = found.1; outside = array_none (length p.ints) p.arrays name z found.0 found.1 none }

  element_fault : (name : List ℕ) (index : Expr) → NamesArray p.arrays name → (evaluated p s l index ≡ None → Fault p s l index) → (o : Option ℤ) → evaluated p s l index ≡ o
      → option_and_then (λ z. option_and_then (slice_get s.cells) (element_cell p name z)) o ≡ None → Fault p s l (Element name index)
  element_fault name index is inner None at none = Fault.in_index name index (inner at)
  element_fault name index is inner (Some z) at none = by (element_cell p name z) refl none
    where
      by : (o : Option ℕ) → element_cell p name z ≡ o → option_and_then (slice_get s.cells) o ≡ None → Fault p s l (Element name index)
      by None there n = Fault.outside name index z at (outside_array name is z there)
      by (Some cell) there n = absurd (no_cell cell (element_below p name z cell there) n)

  not_fault : (e : Expr) → (evaluated p s l e ≡ None → Fault p s l e) → (o : Option ℤ) → evaluated p s l e ≡ o → option_map (λ a. truth (not (is_true a))) o ≡ None → Fault p s l (Not e)
  not_fault e inner None at none = Fault.in_not e (inner at)
  not_fault e inner (Some z) at none = absurd (cc none)

  minus_fault : (e : Expr) → (evaluated p s l e ≡ None → Fault p s l e) → (o : Option ℤ) → evaluated p s l e ≡ o → option_and_then (λ a. fitting (neg_ℤ a)) o ≡ None → Fault p s l (Minus e)
  minus_fault e inner None at none = Fault.in_minus e (inner at)
  minus_fault e inner (Some z) at none = Fault.too_large e z at none

  module _ (a b : Expr) (left : evaluated p s l a ≡ None → Fault p s l a) (right : evaluated p s l b ≡ None → Fault p s l b) where
    or_fault : (x : ℤ) (y : Option ℤ) → evaluated p s l a ≡ Some x → evaluated p s l b ≡ y → (c : Bool) → is_true x ≡ c
        → cond c (Some (pos 1)) (option_map (λ w. truth (is_true w)) y) ≡ None → Fault p s l (Binary op.Or a b)
    or_fault x y at on true is none = absurd (cc none)
    or_fault x None at on false is none = Fault.in_right op.Or a b x at (ap (λ c. cond c (Some (pos 1)) None) is) (right on)
    or_fault x (Some w) at on false is none = absurd (cc none)

    and_fault : (x : ℤ) (y : Option ℤ) → evaluated p s l a ≡ Some x → evaluated p s l b ≡ y → (c : Bool) → is_true x ≡ c
        → cond c (option_map (λ w. truth (is_true w)) y) (Some (pos 0)) ≡ None → Fault p s l (Binary op.And a b)
    and_fault x y at on false is none = absurd (cc none)
    and_fault x None at on true is none = Fault.in_right op.And a b x at (ap (λ c. cond c None (Some (pos 0))) is) (right on)
    and_fault x (Some w) at on true is none = absurd (cc none)

    strict_fault : (o : Op) → ((x : ℤ) → decided o x ≡ None) → (x : ℤ) (y : Option ℤ) → evaluated p s l a ≡ Some x → evaluated p s l b ≡ y → option_and_then (applied o x) y ≡ None → Fault p s l (Binary o a b)
    strict_fault o free x None at on none = Fault.in_right o a b x at (free x) (right on)
    strict_fault o free x (Some w) at on none = Fault.no_result o a b x w at on none

    binary_fault : (o : Op) (x y : Option ℤ) → evaluated p s l a ≡ x → evaluated p s l b ≡ y → combined o x y ≡ None → Fault p s l (Binary o a b)
    binary_fault o None y at on none = Fault.in_left o a b (left at)
    binary_fault op.Or (Some x) y at on none = or_fault x y at on (is_true x) refl none
    binary_fault op.And (Some x) y at on none = and_fault x y at on (is_true x) refl none
    binary_fault o (Some x) y at on none = strict_fault o (λ z. refl) x y at on none

  pub fault_of : (e : Expr) → ElementsOf p.arrays e → evaluated p s l e ≡ None → Fault p s l e
  fault_of (Number k) reads none = absurd (cc none)
  fault_of (Name name) reads none = let u = unset_local name (scalar_cell p name) refl none in Fault.unset name u.0 u.1
  fault_of (Element name index) reads none = element_fault name index reads.0 (fault_of index reads.1) (evaluated p s l index) refl none
  fault_of (Arg name) reads none = let u = unset_local name (scalar_cell p name) refl none in Fault.unset_argument name u.0 u.1
  fault_of (Not e) reads none = not_fault e (fault_of e reads) (evaluated p s l e) refl none
  fault_of (Minus e) reads none = minus_fault e (fault_of e reads) (evaluated p s l e) refl none
  fault_of (Binary o a b) reads none = binary_fault a b (fault_of a reads.0) (fault_of b reads.1) o (evaluated p s l a) (evaluated p s l b) refl refl none

  -- ---- several expressions, and none

  pub fault_if_any : (e : Option Expr) → ElementsOfValue p.arrays e → evaluated_if_any p s l e ≡ None → FaultIfAny p s l e
  fault_if_any None reads none = absurd (cc none)
  fault_if_any (Some e) reads none = fault_of e reads (none_mapped (λ z. Some z) (evaluated p s l e) none)

  pub fault_among : (es : Exprs) → ElementsOfAll p.arrays es → evaluated_all p s l es ≡ None → FaultAmong p s l es
  fault_among tree.Nil reads none = absurd (cc none)
  fault_among (tree.Cons e es) reads none = by (evaluated p s l e) (evaluated_all p s l es) refl refl (fault_among es reads.1) none
    where
      by : (z : Option ℤ) (zs : Option (List ℤ)) → evaluated p s l e ≡ z → evaluated_all p s l es ≡ zs → (evaluated_all p s l es ≡ None → FaultAmong p s l es) → in_front z zs ≡ None
          → Fault p s l e ⊎ FaultAmong p s l es
      by None zs at on more n = inl (fault_of e reads.0 at)
      by (Some z) None at on more n = inr (more on)
      by (Some z) (Some zs) at on more n = absurd (cc n)

  -- ---- places

  pub cell_fault : (name : List ℕ) (index : Option Expr) → MemberOf p.arrays name index → option_and_then (target_at_index p name) (evaluated_if_any p s l index) ≡ None
      → FaultIfAny p s l index ⊎ BeyondArray p s l name index
  cell_fault name None is none = absurd (cc none)
  cell_fault name (Some e) is none = by (evaluated p s l e) refl none
    where
      by : (o : Option ℤ) → evaluated p s l e ≡ o → option_and_then (target_at_index p name) (option_map (λ z. Some z) o) ≡ None → Fault p s l e ⊎ BeyondArray p s l name (Some e)
      by None at n = inl (fault_of e is.1 at)
      by (Some z) at n = inr (z, at, outside_array name is.0 z (none_mapped (λ cell. Cell cell) (element_cell p name z) n))

  pub object_fault : (objects : List Object) (place : Place) → IsObject p objects place → option_and_then (numbered 0 objects place.name) (evaluated_if_any p s l place.index) ≡ None
      → FaultIfAny p s l place.index ⊎ BeyondObjects objects p s l place.name place.index
  object_fault objects place is none = by place.index is.indexed is.reads none
    where
      by : (index : Option Expr) → is_indexed_so is.object.len (is_some index) ≡ true → ElementsOfValue p.arrays index → option_and_then (numbered 0 objects place.name) (evaluated_if_any p s l index) ≡ None
          → FaultIfAny p s l index ⊎ BeyondObjects objects p s l place.name index
      by None indexed reads n = absurd (alone_there objects place.name is.object is.named indexed n)
      by (Some e) indexed reads n = at (evaluated p s l e) refl n
        where
          at : (o : Option ℤ) → evaluated p s l e ≡ o → option_and_then (numbered 0 objects place.name) (option_map (λ z. Some z) o) ≡ None
              → Fault p s l e ⊎ BeyondObjects objects p s l place.name (Some e)
          at None value m = inl (fault_of e reads value)
          at (Some z) value m =
              let out = member_outside objects place.name z is.object is.named indexed m in
              inr (z, value, record { object = is.object; named = is.named; len = out.len; is_array = out.is_array; outside = out.outside })
