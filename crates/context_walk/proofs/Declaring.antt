-- What a declaration makes known, by its number.
use Rattle.std.proofs.Common.{◌≡◌, ℕ, Bool, true, false, List, refl, ap, ◌∙◌, Some, None, if◌then◌else◌}
use Rattle.std.specs.Prelude.{ℤ, not, is_some, option_and_then}
use Rattle.std.specs.declared.option.Option.{Option}
use Rattle.c_tree.specs.Expressions.{Expr}
use Rattle.contexts.specs.Constants.{among, constant_in, known_declared}
use Rattle.context_locals.specs.declared.names.ConstantNames.{ConstantNames}
use Rattle.context_locals.specs.declared.operands.Operand.{Operand}
use Rattle.context_locals.specs.Known.{is_in, known_by, place_of}
use Rattle.context_locals.specs.Operands.{operand_value, IsOperandIfAny}
use Rattle.context_locals.proofs.Keeping.{place_in}

pub declared_known : (names : ConstantNames) (values : List (Option ℤ)) (writes : List (List ℕ)) (name : List ℕ) (value : Option Expr) (operand : Option Operand) → IsOperandIfAny names value operand
    → is_in names name ≡ not (among writes name)
    → (if is_some (place_of names name) then option_and_then (operand_value names values) operand else None) ≡ known_declared writes (known_by names values) name value
declared_known names values writes name None None is fit = both (is_some (place_of names name))
  where
    both : (b : Bool) → ◌≡◌ {A = Option ℤ} (if b then None else None) None
    both true = refl
    both false = refl
declared_known names values writes name (Some e) (Some operand) is fit =
    ap (λ z. if is_some (place_of names name) then z else None) (is.value values)
    ∙ ap (λ b. if b then constant_in (known_by names values) e else None) (place_in names name ∙ fit)
    ∙ turned (among writes name)
  where
    turned : (b : Bool) → (if not b then constant_in (known_by names values) e else None) ≡ (if b then None else constant_in (known_by names values) e)
    turned true = refl
    turned false = refl
declared_known names values writes name None (Some operand) is fit = absurd is
declared_known names values writes name (Some e) None is fit = absurd is
