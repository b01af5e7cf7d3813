-- No name is declared twice in an edited program.
use Rattle.std.proofs.Common.{List, [], ap, false, inl, inr, refl, subst, sym, ℕ, ◌++◌, ◌∙◌, ◌∷◌, ◌≡◌}
use Rattle.std.specs.Prelude.{Contains, IsTrue, bytes_eq, flat_map, if◌then◌else◌, map, max}
use Rattle.std.specs.List.{enumerate_from}
use Rattle.std.proofs.lemmas.Slice.Eq.{bytes_eq-Decides}
use Rattle.c_tree.specs.declared.program.Mode.{Mode}
use Rattle.c_tree.specs.Bare as bare
use Rattle.c_tree.specs.Lined.{Function, Give, Program, Stmt, Take}
use Rattle.c_rules.specs.Sites.{Site, sites}
use Rattle.c_rules.specs.Formed.{KeepsRules}
use Rattle.c_rules.specs.Names.{is_reserved, mentions}
use Rattle.c_rules.specs.Naming.{Inner, declared_twice, inner, inner_pairs, local_in, outer_pairs, parameters, parameters_from}
use Rattle.c_rules.specs.Declarations.{Declaration, named, outer}
use Rattle.c_rules.proofs.Members.{From, Image, In, contains_of, from, from_filter, from_flat_map, from_map, image, in_append_cases, in_append_left, in_append_right, in_flat_map, in_map, in_of}
use Rattle.rule_facts.proofs.Apart.{names, pairs_of_apart}
use Rattle.rule_facts.proofs.Fixed.{fixed, names_split}
use Rattle.rule_facts.proofs.Inner.{inner_free, inner_not_reserved, not_in_scope, not_outside, outer_lines, scope_lines}
use Rattle.rule_facts.proofs.Places.{Placed, in_functions, place_in}
use Rattle.rule_facts.specs.Apart.{function_names}
use Rattle.kept_rules.proofs.Heads.{apart_edited, fixed_names}
use Rattle.kept_rules.proofs.Like.{monitor_of}
use Rattle.kept_rules.proofs.Lines.{by_lines, put_on}
use Rattle.kept_rules.proofs.Origin.{Origin, origin}
use Rattle.kept_rules.specs.Edit.{EditOf, Way, is_monitor_call}
use Rattle.kept_rules.specs.Programs.{IsEditOf}

-- what is declared inside functions, but for lines
pub record Local : Type 0 where
  pub name : List ℕ
  pub scope : List (List ℕ)

abbrev pub local : Inner → Local
local l = record { name = l.name; scope = l.scope }

-- a parameter or a local of p with this name and scope
pub data Twin (p : Program) (l : Inner) : Type 0 where
  twin : (m : Inner) → In m (inner p) → local m ≡ local l → Twin p l

-- ---- parameters

parameters_same : (a b : ℕ) (before ps : List (List ℕ)) → map local (parameters_from a before ps) ≡ map local (parameters_from b before ps)
parameters_same a b before [] = refl
parameters_same a b before (n ∷ ns) = ap (λ ls. record { name = n; scope = before } ∷ ls) (parameters_same a b (n ∷ before) ns)

parameter_twin : (r : Way) (place : ℕ → ℕ) (q p : Program) → IsEditOf r place q p → (g : Function) (l : Inner) → In l (parameters g) → Placed (enumerate_from 0 q.functions) g → Twin p l
parameter_twin r place q p e g l at (Placed.placed j among) =
    let s = e.functions (j, g) (contains_of (enumerate_from 0 q.functions) (j, g) among) in
    let f = s.function in
    let in_p = in_functions 0 p.functions (place j, f) (in_of (enumerate_from 0 p.functions) (place j, f) s.listed) in
    let eq : map local (parameters g) ≡ map local (parameters f) = parameters_same g.line f.line [] g.params ∙ ap (λ ps. map local (parameters_from f.line [] ps)) s.edit.params in
    of f in_p (from_map local (parameters f) (local l) (subst (In (local l)) eq (in_map local (parameters g) l at)))
  where
    of : (f : Function) → In f p.functions → Image local (parameters f) (local l) → Twin p l
    of f in_p (image m in_f is) =
        Twin.twin m (in_append_left (flat_map parameters p.functions) (flat_map (λ (site : Site). local_in site.scope site.stmt) (sites p)) m (in_flat_map parameters p.functions f m in_p in_f)) is

-- ---- locals

locals_on : (scope : List (List ℕ)) (l m : ℕ) (b : bare.Stmt) → map local (local_in scope (put_on l b)) ≡ map local (local_in scope (put_on m b))
locals_on scope l m (bare.Declare name value) = refl
locals_on scope l m b = refl

locals_same_at : (r : Way) (scope : List (List ℕ)) (s t : Stmt) → EditOf r s t → map local (local_in scope s) ≡ map local (local_in scope t)
locals_same_at r scope s t (EditOf.same u v a b e) = by_lines (λ x. map local (local_in scope x)) (locals_on scope) s t a b e
locals_same_at r scope s t e = refl

none_local : (scope : List (List ℕ)) (s : Stmt) → IsTrue (is_monitor_call s) → local_in scope s ≡ []
none_local scope (Take line monitor) is = refl
none_local scope (Give line monitor) is = refl
none_local scope s is = cc is

local_twin : (r : Way) (place : ℕ → ℕ) (p : Program) (x : Site) (l : Inner) → In l (local_in x.scope x.stmt) → Origin r place p x → Twin p l
local_twin r place p x l at (Origin.put is) = absurd (subst (In l) (none_local x.scope x.stmt (monitor_of r x.stmt is)) at)
local_twin r place p x l at (Origin.like g f y among fe in_p like) =
    let eq : map local (local_in x.scope x.stmt) ≡ map local (local_in y.scope y.stmt) = locals_same_at r x.scope x.stmt y.stmt like.stmt ∙ ap (λ scope. map local (local_in scope y.stmt)) like.scope in
    of y in_p (from_map local (local_in y.scope y.stmt) (local l) (subst (In (local l)) eq (in_map local (local_in x.scope x.stmt) l at)))
  where
    of : (y : Site) → In y (sites p) → Image local (local_in y.scope y.stmt) (local l) → Twin p l
    of y in_p (image m in_y is) =
        Twin.twin m (in_append_right (flat_map parameters p.functions) (flat_map (λ (site : Site). local_in site.scope site.stmt) (sites p)) m
        (in_flat_map (λ (site : Site). local_in site.scope site.stmt) (sites p) y m in_p in_y)) is

pub inner_twin : (r : Way) (place : ℕ → ℕ) (q p : Program) → IsEditOf r place q p → (l : Inner) → In l (inner q) → Twin p l
inner_twin r place q p e l at = elim (in_append_cases (flat_map parameters q.functions) (flat_map (λ (site : Site). local_in site.scope site.stmt) (sites q)) l at) [
  | inl h ↦ of_parameter (from_flat_map parameters q.functions l h)
  | inr h ↦ of_local (from_flat_map (λ (site : Site). local_in site.scope site.stmt) (sites q) l h)
]
  where
    of_parameter : From parameters q.functions l → Twin p l
    of_parameter (from g among here) = parameter_twin r place q p e g l here (place_in 0 q.functions g among)

    of_local : From (λ (site : Site). local_in site.scope site.stmt) (sites q) l → Twin p l
    of_local (from x among here) = local_twin r place p x l here (origin r place q p x e.functions among)

-- ---- names of parameters and locals

-- no name outside functions of q is that of a parameter or a local of p
pub apart_from_inner : (r : Way) (place : ℕ → ℕ) (q p : Program) (mode : Mode) → IsEditOf r place q p → KeepsRules p mode → (m : Inner) → In m (inner p) → In m.name (names (outer q)) → ⊥
apart_from_inner r place q p mode e keeps m at h =
    elim (in_append_cases (names (fixed q)) (function_names q) m.name (subst (In m.name) (names_split q) h)) [
      | inl k ↦ outside (in_append_left (names (fixed p)) (function_names p) m.name (subst (In m.name) (fixed_names r place q p e) k))
      | inr k ↦ of (from_map (λ (f : Function). f.name) q.functions m.name k)
    ]
  where
    outside : In m.name (names (fixed p) ++ function_names p) → ⊥
    outside k = not_outside p m (inner_free p mode keeps m at) (subst (In m.name) (sym (names_split p)) k)

    of : Image (λ (f : Function). f.name) q.functions m.name → ⊥
    of (image g among is) = elim (e.fresh g (contains_of q.functions g among)) [
      | inl k ↦ outside (in_append_right (names (fixed p)) (function_names p) m.name (subst (λ n. In n (function_names p)) is (in_of (function_names p) g.name k)))
      | inr k ↦ inner_not_reserved p mode keeps m at (ap is_reserved (sym is) ∙ k)
    ]

pub kept_twice : (r : Way) (place : ℕ → ℕ) (q p : Program) (mode : Mode) → IsEditOf r place q p → KeepsRules p mode
    → (line : ℕ) → Contains (declared_twice q) line → ⊥
kept_twice r place q p mode e keeps line at =
    elim (in_append_cases (outer_pairs (outer q)) (flat_map (inner_pairs q) (inner q)) line (in_of (declared_twice q) line at)) [
      | inl h ↦ pairs_of_apart (outer q) (apart_edited r place q p mode e keeps) line h
      | inr h ↦ of_inner (from_flat_map (inner_pairs q) (inner q) line h)
    ]
  where
    of_outer : (l m : Inner) → In m (inner p) → m.name ≡ l.name → Image (λ (d : Declaration). max d.line l.line) (named l.name (outer q)) line → ⊥
    of_outer l m in_p name (image d among is) =
        let k = from_filter (λ (d : Declaration). bytes_eq d.name l.name) (outer q) d among in
        let n : d.name ≡ m.name = (bytes_eq-Decides d.name l.name).0 k.1 ∙ sym name in
        apart_from_inner r place q p mode e keeps m in_p (subst (λ x. In x (names (outer q))) n (in_map (λ (d : Declaration). d.name) (outer q) d k.0))

    of_twin : (l : Inner) → In line (inner_pairs q l) → Twin p l → ⊥
    of_twin l here (Twin.twin m in_p is) =
        let name : m.name ≡ l.name = ap (λ (x : Local). x.name) is in
        let scope : mentions l.scope l.name ≡ false = ap (λ (x : Local). mentions x.scope x.name) (sym is) ∙ not_in_scope p m (inner_free p mode keeps m in_p) in
        elim (in_append_cases (scope_lines l) (outer_lines q l) line here) [
          | inl h ↦ subst (λ b. In line (if b then l.line ∷ [] else [])) scope h
          | inr h ↦ of_outer l m in_p name (from_map (λ (d : Declaration). max d.line l.line) (named l.name (outer q)) line h)
        ]

    of_inner : From (inner_pairs q) (inner q) line → ⊥
    of_inner (from l among here) = of_twin l here (inner_twin r place q p e l among)
