-- Names of an edited program aren't reserved.
use Rattle.std.proofs.Common.{List, ap, false, inl, inr, not, sym, true, ℕ, ◌++◌, ◌∙◌, ◌≡◌}
use Rattle.std.specs.Prelude.{Contains, filter, map}
use Rattle.std.specs.List.{enumerate_from}
use Rattle.c_tree.specs.declared.program.Mode.{Mode}
use Rattle.c_tree.specs.Lined.{Program}
use Rattle.c_rules.specs.Formed.{KeepsRules}
use Rattle.c_rules.specs.Names.{is_function_name, is_reserved}
use Rattle.c_rules.specs.Naming.{Inner, inner, is_taken_for, monitor_lines, reserved}
use Rattle.c_rules.specs.Declarations.{Declaration, of_function, outer}
use Rattle.c_rules.proofs.Members.{Image, contains_of, from_filter, from_map, image, in_append_cases, in_of}
use Rattle.rule_facts.proofs.Fixed.{fixed, fixed_other, functions_of, not_reserved, taken}
use Rattle.rule_facts.proofs.Inner.{inner_not_reserved}
use Rattle.rule_facts.proofs.Places.{in_functions}
use Rattle.rule_facts.proofs.Tests.{both, no_lines}
use Rattle.kept_rules.proofs.Heads.{Twin, heads_same, twin, twin_of}
use Rattle.kept_rules.proofs.Twice.{Local, inner_twin}
use Rattle.kept_rules.proofs.Twice as twice
use Rattle.kept_rules.specs.Edit.{Way}
use Rattle.kept_rules.specs.Programs.{IsEditOf, KeepsOwn}

pub kept_reserved : (r : Way) (place : ℕ → ℕ) (n : Mode) (q p : Program) (mode : Mode) → IsEditOf r place q p → KeepsOwn n q → KeepsRules p mode
    → (line : ℕ) → Contains (reserved n q) line → ⊥
kept_reserved r place n q p mode e own keeps line at =
    both (outside ++ inside) (monitor_lines n q) (both outside inside (λ l h. of_outer (from_map (λ (d : Declaration). d.line) (filter (λ (d : Declaration). is_taken_for n d.name d.thing) (outer q)) l h))
    (λ l h. of_inner (from_map (λ (l : Inner). l.line) (filter (λ (l : Inner). is_reserved l.name) (inner q)) l h)))
    (no_lines (monitor_lines n q) own.monitors) line (in_of (reserved n q) line at)
  where
    outside : List ℕ
    outside = map (λ (d : Declaration). d.line) (filter (λ (d : Declaration). is_taken_for n d.name d.thing) (outer q))

    inside : List ℕ
    inside = map (λ (l : Inner). l.line) (filter (λ (l : Inner). is_reserved l.name) (inner q))

    of_twin : (d : Declaration) → is_reserved d.name ≡ true → Twin (fixed p) d → ⊥
    of_twin d is (twin y among name thing) = not_reserved p mode keeps y among (ap is_reserved name ∙ is)

    of_function_name : (d : Declaration) → is_taken_for n d.name d.thing ≡ true → Image of_function (enumerate_from 0 q.functions) d → ⊥
    of_function_name d is (image g among same) =
        let a = own.allowed g.1 (contains_of q.functions g.1 (in_functions 0 q.functions g among)) in
        let k : not (is_function_name n g.1.name) ≡ true = ap (λ (x : Declaration). is_taken_for n x.name x.thing) same ∙ is in
        let f : false ≡ true = ap not (sym a) ∙ k in absurd (cc f)

    of_outer : {l : ℕ} → Image (λ (d : Declaration). d.line) (filter (λ (d : Declaration). is_taken_for n d.name d.thing) (outer q)) l → ⊥
    of_outer (image d among same) =
        let k = from_filter (λ (d : Declaration). is_taken_for n d.name d.thing) (outer q) d among in
        elim (in_append_cases (fixed q) (functions_of q) d k.0) [
          | inl h ↦ of_twin d (sym (taken n d.name d.thing (fixed_other q d h)) ∙ k.1) (twin_of (fixed q) (fixed p) d (heads_same r place q p e) h)
          | inr h ↦ of_function_name d k.1 (from_map of_function (enumerate_from 0 q.functions) d h)
        ]

    of_inner_twin : (l : Inner) → is_reserved l.name ≡ true → twice.Twin p l → ⊥
    of_inner_twin l is (twice.Twin.twin m among same) = inner_not_reserved p mode keeps m among (ap (λ (x : twice.Local). is_reserved x.name) same ∙ is)

    of_inner : {l : ℕ} → Image (λ (l : Inner). l.line) (filter (λ (l : Inner). is_reserved l.name) (inner q)) l → ⊥
    of_inner (image l among same) =
        let k = from_filter (λ (l : Inner). is_reserved l.name) (inner q) l among in of_inner_twin l k.1 (inner_twin r place q p e l k.0)
