-- Names of parameters and of locals aren't those of others in scope, nor of what is declared outside functions, nor reserved.
use Rattle.std.proofs.Common.{Bool, List, [], false, inl, refl, subst, sym, true, ℕ, ◌++◌, ◌∷◌, ◌≡◌}
use Rattle.std.specs.Prelude.{bytes_eq, filter, flat_map, if◌then◌else◌, map, max}
use Rattle.std.proofs.lemmas.Slice.Eq.{bytes_eq-Decides}
use Rattle.c_tree.specs.declared.program.Mode.{Mode}
use Rattle.c_tree.specs.Lined.{Program}
use Rattle.c_rules.specs.declared.rule.Rule.TheVariants as rule
use Rattle.c_rules.specs.Formed.{KeepsRules}
use Rattle.c_rules.specs.Names.{is_reserved, mentions}
use Rattle.c_rules.specs.Naming.{Inner, declared_twice, inner, inner_pairs, is_taken_for, monitor_lines, outer_pairs, reserved}
use Rattle.c_rules.specs.Declarations.{Declaration, named, outer}
use Rattle.c_rules.proofs.Members.{Image, In, contains_of, from_map, image, in_append_left, in_append_right, in_filter, in_flat_map, in_map}
use Rattle.rule_facts.proofs.Apart.{names}

-- it has no name of one in scope, nor of one outside functions
pub inner_free : (p : Program) (mode : Mode) → KeepsRules p mode → (l : Inner) → In l (inner p) → (line : ℕ) → In line (inner_pairs p l) → ⊥
inner_free p mode keeps l at line h =
    keeps rule.Twice line (contains_of (declared_twice p) line
    (in_append_right (outer_pairs (outer p)) (flat_map (inner_pairs p) (inner p)) line (in_flat_map (inner_pairs p) (inner p) l line at h)))

abbrev pub scope_lines : Inner → List ℕ
scope_lines l = if mentions l.scope l.name then l.line ∷ [] else []

abbrev pub outer_lines : Program → Inner → List ℕ
outer_lines p l = map (λ (d : Declaration). max d.line l.line) (named l.name (outer p))

pub not_in_scope : (p : Program) (l : Inner) → ((line : ℕ) → In line (inner_pairs p l) → ⊥) → mentions l.scope l.name ≡ false
not_in_scope p l free = go (mentions l.scope l.name) refl (λ h. free l.line (in_append_left (scope_lines l) (outer_lines p l) l.line h))
  where
    go : (b : Bool) → mentions l.scope l.name ≡ b → (In l.line (scope_lines l) → ⊥) → mentions l.scope l.name ≡ false
    go false e h = e
    go true e h = absurd (h (subst (λ b. In l.line (if b then l.line ∷ [] else [])) (sym e) (inl refl)))

pub not_outside : (p : Program) (l : Inner) → ((line : ℕ) → In line (inner_pairs p l) → ⊥) → In l.name (names (outer p)) → ⊥
not_outside p l free at = of (from_map (λ (d : Declaration). d.name) (outer p) l.name at)
  where
    of : Image (λ (d : Declaration). d.name) (outer p) l.name → ⊥
    of (image d among e) =
        free (max d.line l.line) (in_append_right (scope_lines l) (outer_lines p l) (max d.line l.line)
        (in_map (λ (d : Declaration). max d.line l.line) (named l.name (outer p)) d (in_filter (λ (d : Declaration). bytes_eq d.name l.name) (outer p) d among ((bytes_eq-Decides d.name l.name).1 e))))

pub inner_not_reserved : (p : Program) (mode : Mode) → KeepsRules p mode → (l : Inner) → In l (inner p) → is_reserved l.name ≡ true → ⊥
inner_not_reserved p mode keeps l at e =
    keeps rule.Reserved l.line (contains_of (reserved mode p) l.line
    (in_append_left (map (λ (d : Declaration). d.line) (filter (λ (d : Declaration). is_taken_for mode d.name d.thing) (outer p)) ++ map (λ (l : Inner). l.line) (filter (λ (l : Inner). is_reserved l.name) (inner p))) (monitor_lines mode p) l.line
    (in_append_right (map (λ (d : Declaration). d.line) (filter (λ (d : Declaration). is_taken_for mode d.name d.thing) (outer p))) (map (λ (l : Inner). l.line) (filter (λ (l : Inner). is_reserved l.name) (inner p))) l.line
    (in_map (λ (l : Inner). l.line) (filter (λ (l : Inner). is_reserved l.name) (inner p)) l (in_filter (λ (l : Inner). is_reserved l.name) (inner p) l at e)))))
