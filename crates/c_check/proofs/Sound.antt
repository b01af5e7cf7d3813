-- All that is noted is broken.
use Rattle.std.proofs.Common.{◌≡◌, ℕ, ◌+◌, Bool, true, false, cond, List, [], ◌∷◌, ◌++◌, inl, inr, length, map, refl, ap, subst, max}
use Rattle.std.specs.Prelude.{flat_map, filter}
use Rattle.std.specs.List.{enumerate_from}
use Rattle.c_tree.specs.declared.program.Mode.{Mode}
use Rattle.c_tree.specs.Lined.{Program, Function}
use Rattle.c_rules.specs.declared.rule.Rule.TheVariants as rule
use Rattle.c_rules.specs.Names.{mentions, is_reserved}
use Rattle.c_rules.specs.Declarations.{Declaration, outer, named, declaration_of}
use Rattle.c_rules.specs.Sites.{Site, sites, sites_in}
use Rattle.c_rules.specs.Naming.{Inner, inner, inner_pairs, local_in, parameters, parameters_from, monitor_lines, is_taken_for, outer_pairs}
use Rattle.c_rules.proofs.Members.{In, in_append_left, in_append_right, in_append_cases, in_map, in_flat_map, from_flat_map, From, from}
use Rattle.c_acts.specs.declared.first.Break.{Break}
use Rattle.c_acts.specs.First.{break_if}
use Rattle.c_acts.specs.Acts.{outer_clash}
use Rattle.c_check.specs.Functions.{parameter_breaks, none_inside, function_breaks, functions_breaks}
use Rattle.c_check.specs.Outer.{outer_breaks, part_breaks, all_joined}
use Rattle.c_check.specs.Breaks.{none_told, all_breaks}
use Rattle.c_check.proofs.Where.{from_if, in_lines}
use Rattle.c_check.proofs.Sited.{around_at, site_breaks, function_eq}
use Rattle.c_check.proofs.Uniform.{inner_breaks, act_rules, use_rules, by_rules, ruled}
use Rattle.c_check.proofs.SoundSites.{Broken, broken_so, acts_sound, uses_sound}
use Rattle.c_check.proofs.SoundParts.{kept_names, parts_sound}
use Rattle.c_check.proofs.Earliest.{Clash, clash, clash_of}
use Rattle.c_check.proofs.OuterNames.{all_told, OuterBreak, kept, twice, outer_sound}

module _ (p : Program) (m : Mode) where
  -- ---- parameters and locals

  abbrev inner_lines : List ℕ
  inner_lines = flat_map (inner_pairs p) (inner p)

  clash_sound : (l : Inner) (b : Break) → In l (inner p) → Clash (named l.name (outer p)) l.line b → Broken p m b
  clash_sound l b i (clash d j e) =
      broken_so p m rule.Twice (max d.line l.line) b e
      (in_append_right (outer_pairs (outer p)) inner_lines (max d.line l.line)
      (in_flat_map (inner_pairs p) (inner p) l (max d.line l.line) i
      (in_append_right (cond (mentions l.scope l.name) (l.line ∷ []) []) (map (λ (x : Declaration). max x.line l.line) (named l.name (outer p))) (max d.line l.line)
      (in_map (λ (x : Declaration). max x.line l.line) (named l.name (outer p)) d j))))

  one_line : (t : Bool) (n : ℕ) → t ≡ true → In n (cond t (n ∷ []) [])
  one_line true n e = inl refl
  one_line false n e = absurd (cc e)

  inner_sound : (l : Inner) (b : Break) → In l (inner p) → In b (inner_breaks p m l) → Broken p m b
  inner_sound l b i h = elim (in_append_cases (break_if (is_reserved l.name) rule.Reserved l.line ++ break_if (mentions l.scope l.name) rule.Twice l.line) (outer_clash (declaration_of p l.name) l.line) b h) [
    | inl k ↦ elim (in_append_cases (break_if (is_reserved l.name) rule.Reserved l.line) (break_if (mentions l.scope l.name) rule.Twice l.line) b k) [
      | inl x ↦ let q = from_if _ rule.Reserved l.line b x in broken_so p m rule.Reserved l.line b q.1
          (in_append_left (kept_names p m) (monitor_lines m p) l.line (in_append_right (map (λ (d : Declaration). d.line) (filter (λ d. is_taken_for m d.name d.thing) (outer p))) (map (λ (x : Inner). x.line) (filter (λ x. is_reserved x.name) (inner p))) l.line
          (in_lines (λ (x : Inner). x.line) (λ x. is_reserved x.name) (inner p) l i q.0)))
      | inr x ↦ let q = from_if _ rule.Twice l.line b x in broken_so p m rule.Twice l.line b q.1
          (in_append_right (outer_pairs (outer p)) inner_lines l.line (in_flat_map (inner_pairs p) (inner p) l l.line i
          (in_append_left (cond (mentions l.scope l.name) (l.line ∷ []) []) (map (λ (d : Declaration). max d.line l.line) (named l.name (outer p))) l.line (one_line (mentions l.scope l.name) l.line q.0))))
    ]
    | inr k ↦ clash_sound l b i (clash_of (named l.name (outer p)) l.line b k)
  ]

  pub parameters_eq : (f : ℕ × Function) (line : ℕ) (before names : List (List ℕ)) → parameter_breaks (around_at p m f) line (mentions before) names ≡ flat_map (inner_breaks p m) (parameters_from line before names)
  parameters_eq f line before [] = refl
  parameters_eq f line before (name ∷ names) =
      ap (λ z. inner_breaks p m (record { name = name; line = line; scope = before }) ++ z) (parameters_eq f line (name ∷ before) names)

  -- ---- statements

  local_sound : (site : Site) (b : Break) → In site (sites p) → From (inner_breaks p m) (local_in site.scope site.stmt) b → Broken p m b
  local_sound site b at (from l i h) =
      inner_sound l b (in_append_right (flat_map parameters p.functions) (flat_map (λ (s : Site). local_in s.scope s.stmt) (sites p)) l (in_flat_map (λ (s : Site). local_in s.scope s.stmt) (sites p) site l at i)) h

  site_sound : (site : Site) (b : Break) → In site (sites p) → In b (site_breaks p m site) → Broken p m b
  site_sound site b at h =
      let k : In b (by_rules p m site) = subst (In b) (ruled p m site site.stmt) h in
      elim (in_append_cases (flat_map (inner_breaks p m) (local_in site.scope site.stmt)) (use_rules p m site ++ act_rules p m site) b k) [
        | inl x ↦ local_sound site b at (from_flat_map (inner_breaks p m) (local_in site.scope site.stmt) b x)
        | inr y ↦ elim (in_append_cases (use_rules p m site) (act_rules p m site) b y) [
          | inl x ↦ uses_sound p m site b at x
          | inr x ↦ acts_sound p m site b at x
        ]
      ]

  -- ---- functions

  function_in : (n : ℕ) (fs : List Function) (f : ℕ × Function) → In f (enumerate_from n fs) → In f.1 fs
  function_in n [] f h = absurd h
  function_in n (x ∷ fs) f (inl e) = inl (ap (λ z. z.1) e)
  function_in n (x ∷ fs) f (inr h) = inr (function_in (n + 1) fs f h)

  in_parameters : (f : ℕ × Function) (b : Break) → In f (enumerate_from 0 p.functions) → From (inner_breaks p m) (parameters f.1) b → Broken p m b
  in_parameters f b at (from l i h) =
      inner_sound l b (in_append_left (flat_map parameters p.functions) (flat_map (λ (s : Site). local_in s.scope s.stmt) (sites p)) l (in_flat_map parameters p.functions f.1 l (function_in 0 p.functions f at) i)) h

  in_sites : (f : ℕ × Function) (b : Break) → In f (enumerate_from 0 p.functions) → From (site_breaks p m) (sites_in f) b → Broken p m b
  in_sites f b at (from site i h) = site_sound site b (in_flat_map sites_in (enumerate_from 0 p.functions) f site at i) h

  function_sound : (b : Break) → From (λ f. function_breaks (around_at p m f)) (enumerate_from 0 p.functions) b → Broken p m b
  function_sound b (from f at h) =
      let k = subst (In b) (function_eq p m f) h in
      elim (in_append_cases (parameter_breaks (around_at p m f) f.1.line none_inside f.1.params) (flat_map (site_breaks p m) (sites_in f)) b k) [
        | inl x ↦ in_parameters f b at (from_flat_map (inner_breaks p m) (parameters f.1) b (subst (In b) (parameters_eq f f.1.line [] f.1.params) x))
        | inr x ↦ in_sites f b at (from_flat_map (site_breaks p m) (sites_in f) b x)
      ]

  -- ---- all

  outer_broken : (b : Break) → OuterBreak m (outer p) b → Broken p m b
  outer_broken b (kept d i t e) =
      broken_so p m rule.Reserved d.line b e
      (in_append_left (kept_names p m) (monitor_lines m p) d.line (in_append_left (map (λ (x : Declaration). x.line) (filter (λ x. is_taken_for m x.name x.thing) (outer p))) (map (λ (x : Inner). x.line) (filter (λ x. is_reserved x.name) (inner p))) d.line
      (in_lines (λ (x : Declaration). x.line) (λ x. is_taken_for m x.name x.thing) (outer p) d i t)))
  outer_broken b (twice line i e) = broken_so p m rule.Twice line b e (in_append_left (outer_pairs (outer p)) inner_lines line i)

  pub functions_told : functions_breaks (all_joined none_told (outer p)) m (length p.monitors) (enumerate_from 0 p.functions) ≡ flat_map (λ f. function_breaks (around_at p m f)) (enumerate_from 0 p.functions)
  functions_told = ap (λ t. functions_breaks t m (length p.monitors) (enumerate_from 0 p.functions)) (all_told [] (outer p))

  pub all_sound : (b : Break) → In b (all_breaks p m) → Broken p m b
  all_sound b h = elim (in_append_cases (outer_breaks m none_told (outer p)) _ b h) [
    | inl k ↦ outer_broken b (outer_sound m [] (outer p) b k)
    | inr h1 ↦ elim (in_append_cases (part_breaks m p) _ b h1) [
      | inl k ↦ parts_sound p m b k
      | inr k ↦ function_sound b (from_flat_map (λ f. function_breaks (around_at p m f)) (enumerate_from 0 p.functions) b (subst (In b) functions_told k))
    ]
  ]
