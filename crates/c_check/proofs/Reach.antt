-- What a part of a program breaks is noted of the program.
use Rattle.std.proofs.Common.{◌≡◌, ℕ, ◌+◌, true, ◌&&◌, List, [], ◌∷◌, ◌++◌, inl, inr, length, sym, subst}
use Rattle.std.specs.Prelude.{flat_map}
use Rattle.std.specs.List.{enumerate_from}
use Rattle.c_tree.specs.declared.program.Mode.{Mode}
use Rattle.c_tree.specs.Lined.{Program, Function, line_of}
use Rattle.c_rules.specs.declared.rule.Rule.TheVariants as rule
use Rattle.c_rules.specs.Declarations.{outer}
use Rattle.c_rules.specs.Sites.{Site, sites, sites_in}
use Rattle.c_rules.specs.Naming.{Inner, inner, local_in, parameters, calls_monitor}
use Rattle.c_rules.specs.Using.{is_miscounted, calls}
use Rattle.c_rules.specs.Threads.{is_unfixed_create, is_unfixed_join, has_open_argument}
use Rattle.c_rules.specs.Objects.{is_init, is_beyond}
use Rattle.c_rules.proofs.Members.{In, in_append_left, in_append_right, in_append_cases, in_flat_map, from_flat_map, From, from}
use Rattle.c_acts.specs.declared.first.Break.{Break}
use Rattle.c_acts.specs.First.{break, break_if}
use Rattle.c_acts.specs.Acts.{is_source}
use Rattle.c_check.specs.Functions.{parameter_breaks, none_inside, function_breaks, functions_breaks}
use Rattle.c_check.specs.Outer.{outer_breaks, part_breaks, all_joined}
use Rattle.c_check.specs.Breaks.{none_told, all_breaks}
use Rattle.c_check.proofs.Firsts.{before_itself}
use Rattle.c_check.proofs.Where.{in_if}
use Rattle.c_check.proofs.Sited.{around_at, late_at, site_breaks, function_eq}
use Rattle.c_check.proofs.Uniform.{inner_breaks, act_rules, use_rules, by_rules, ruled}
use Rattle.c_check.proofs.OuterNames.{Covered, covered, covered_left}
use Rattle.c_check.proofs.Sound.{functions_told, parameters_eq}

pub at_itself : (w : List Break) (b : Break) → In b w → Covered w b
at_itself w b i = covered b i (before_itself b)

-- the numbered function
data Numbered (n : ℕ) (fs : List Function) (f : Function) : Type 0 where
  numbered : (k : ℕ) → In (k, f) (enumerate_from n fs) → Numbered n fs f

number_more : (n : ℕ) (x : Function) (fs : List Function) (f : Function) → Numbered (n + 1) fs f → Numbered n (x ∷ fs) f
number_more n x fs f (numbered k i) = numbered k (inr i)

number_of : (n : ℕ) (fs : List Function) (f : Function) → In f fs → Numbered n fs f
number_of n [] f i = absurd i
number_of n (x ∷ fs) f (inl e) = numbered n (inl (λ j. (n, e j)))
number_of n (x ∷ fs) f (inr i) = number_more n x fs f (number_of (n + 1) fs f i)

module _ (p : Program) (m : Mode) where
  abbrev tail : List Break
  tail = part_breaks m p ++ functions_breaks (all_joined none_told (outer p)) m (length p.monitors) (enumerate_from 0 p.functions)

  pub outer_noted : (b : Break) → Covered (outer_breaks m none_told (outer p)) b → Covered (all_breaks p m) b
  outer_noted b c = covered_left (outer_breaks m none_told (outer p)) tail b c

  pub part_noted : (b : Break) → In b (part_breaks m p) → Covered (all_breaks p m) b
  part_noted b i =
      at_itself (all_breaks p m) b (in_append_right (outer_breaks m none_told (outer p)) tail b
      (in_append_left (part_breaks m p) (functions_breaks (all_joined none_told (outer p)) m (length p.monitors) (enumerate_from 0 p.functions)) b i))

  -- of a function
  noted_in : (f : ℕ × Function) (b : Break) → In f (enumerate_from 0 p.functions)
      → In b (parameter_breaks (around_at p m f) f.1.line none_inside f.1.params ++ flat_map (site_breaks p m) (sites_in f)) → In b (all_breaks p m)
  noted_in f b at i =
      in_append_right (outer_breaks m none_told (outer p)) tail b
      (in_append_right (part_breaks m p) (functions_breaks (all_joined none_told (outer p)) m (length p.monitors) (enumerate_from 0 p.functions)) b
      (subst (In b) (sym (functions_told p m)) (in_flat_map (λ g. function_breaks (around_at p m g)) (enumerate_from 0 p.functions) f b at (subst (In b) (sym (function_eq p m f)) i))))

  site_in : (site : Site) (b : Break) → From sites_in (enumerate_from 0 p.functions) site → In b (by_rules p m site) → In b (all_breaks p m)
  site_in site b (from f at i) h =
      noted_in f b at (in_append_right (parameter_breaks (around_at p m f) f.1.line none_inside f.1.params) (flat_map (site_breaks p m) (sites_in f)) b
      (in_flat_map (site_breaks p m) (sites_in f) site b i (subst (In b) (sym (ruled p m site site.stmt)) h)))

  pub site_noted : (site : Site) (b : Break) → In site (sites p) → In b (by_rules p m site) → In b (all_breaks p m)
  site_noted site b at h = site_in site b (from_flat_map sites_in (enumerate_from 0 p.functions) site at) h

  parameter_at : (f : Function) (l : Inner) (b : Break) → Numbered 0 p.functions f → In l (parameters f) → In b (inner_breaks p m l) → In b (all_breaks p m)
  parameter_at f l b (numbered k at) i h =
      noted_in (k, f) b at (in_append_left (parameter_breaks (around_at p m (k, f)) f.line none_inside f.params) (flat_map (site_breaks p m) (sites_in (k, f))) b
      (subst (In b) (sym (parameters_eq p m (k, f) f.line [] f.params)) (in_flat_map (inner_breaks p m) (parameters f) l b i h)))

  parameter_in : (l : Inner) (b : Break) → From parameters p.functions l → In b (inner_breaks p m l) → In b (all_breaks p m)
  parameter_in l b (from f at i) h = parameter_at f l b (number_of 0 p.functions f at) i h

  local_at : (l : Inner) (b : Break) → From (λ (s : Site). local_in s.scope s.stmt) (sites p) l → In b (inner_breaks p m l) → In b (all_breaks p m)
  local_at l b (from site at i) h =
      site_noted site b at (in_append_left (flat_map (inner_breaks p m) (local_in site.scope site.stmt)) (use_rules p m site ++ act_rules p m site) b
      (in_flat_map (inner_breaks p m) (local_in site.scope site.stmt) l b i h))

  pub inner_noted : (l : Inner) (b : Break) → In l (inner p) → In b (inner_breaks p m l) → In b (all_breaks p m)
  inner_noted l b at h = elim (in_append_cases (flat_map parameters p.functions) (flat_map (λ (s : Site). local_in s.scope s.stmt) (sites p)) l at) [
    | inl i ↦ parameter_in l b (from_flat_map parameters p.functions l i) h
    | inr i ↦ local_at l b (from_flat_map (λ (s : Site). local_in s.scope s.stmt) (sites p) l i) h
  ]

  -- ---- the rules at a statement

  pub by_use : (site : Site) (b : Break) → In b (use_rules p m site) → In b (by_rules p m site)
  by_use site b i = in_append_right (flat_map (inner_breaks p m) (local_in site.scope site.stmt)) (use_rules p m site ++ act_rules p m site) b (in_append_left (use_rules p m site) (act_rules p m site) b i)

  by_act : (site : Site) (b : Break) → In b (act_rules p m site) → In b (by_rules p m site)
  by_act site b i = in_append_right (flat_map (inner_breaks p m) (local_in site.scope site.stmt)) (use_rules p m site ++ act_rules p m site) b (in_append_right (use_rules p m site) (act_rules p m site) b i)

  abbrev line : Site → ℕ
  line site = line_of site.stmt

  abbrev a8 : Site → List Break
  a8 site = break_if (is_beyond p site.stmt) rule.IndexRange (line site)

  abbrev a7 : Site → List Break
  a7 site = break_if (calls_monitor site.stmt && is_source m) rule.Reserved (line site) ++ a8 site

  abbrev a6 : Site → List Break
  a6 site = break_if (is_init site.stmt && late_at site) rule.InitLate (line site) ++ a7 site

  abbrev a5 : Site → List Break
  a5 site = break_if (has_open_argument site.stmt) rule.ArgNotConstant (line site) ++ a6 site

  abbrev a4 : Site → List Break
  a4 site = break_if (is_unfixed_join p site site.stmt) rule.JoinNotFixed (line site) ++ a5 site

  abbrev a3 : Site → List Break
  a3 site = break_if (is_unfixed_create p site site.stmt) rule.CreateNotFixed (line site) ++ a4 site

  abbrev a2 : Site → List Break
  a2 site = break_if (calls site.function.name site.stmt) rule.Recursion (line site) ++ a3 site

  behind1 : (site : Site) (b : Break) → In b (a2 site) → In b (by_rules p m site)
  behind1 site b i = by_act site b (in_append_right (break_if (is_miscounted p site site.stmt) rule.WrongCount (line site)) (a2 site) b i)

  behind2 : (site : Site) (b : Break) → In b (a3 site) → In b (by_rules p m site)
  behind2 site b i = behind1 site b (in_append_right (break_if (calls site.function.name site.stmt) rule.Recursion (line site)) (a3 site) b i)

  behind3 : (site : Site) (b : Break) → In b (a4 site) → In b (by_rules p m site)
  behind3 site b i = behind2 site b (in_append_right (break_if (is_unfixed_create p site site.stmt) rule.CreateNotFixed (line site)) (a4 site) b i)

  behind4 : (site : Site) (b : Break) → In b (a5 site) → In b (by_rules p m site)
  behind4 site b i = behind3 site b (in_append_right (break_if (is_unfixed_join p site site.stmt) rule.JoinNotFixed (line site)) (a5 site) b i)

  behind5 : (site : Site) (b : Break) → In b (a6 site) → In b (by_rules p m site)
  behind5 site b i = behind4 site b (in_append_right (break_if (has_open_argument site.stmt) rule.ArgNotConstant (line site)) (a6 site) b i)

  behind6 : (site : Site) (b : Break) → In b (a7 site) → In b (by_rules p m site)
  behind6 site b i = behind5 site b (in_append_right (break_if (is_init site.stmt && late_at site) rule.InitLate (line site)) (a7 site) b i)

  pub by_count : (site : Site) → is_miscounted p site site.stmt ≡ true → In (break rule.WrongCount (line_of site.stmt)) (by_rules p m site)
  by_count site e = by_act site _ (in_append_left (break_if (is_miscounted p site site.stmt) rule.WrongCount (line site)) (a2 site) _ (in_if _ rule.WrongCount (line site) e))

  pub by_recursion : (site : Site) → calls site.function.name site.stmt ≡ true → In (break rule.Recursion (line_of site.stmt)) (by_rules p m site)
  by_recursion site e = behind1 site _ (in_append_left (break_if (calls site.function.name site.stmt) rule.Recursion (line site)) (a3 site) _ (in_if _ rule.Recursion (line site) e))

  pub by_create : (site : Site) → is_unfixed_create p site site.stmt ≡ true → In (break rule.CreateNotFixed (line_of site.stmt)) (by_rules p m site)
  by_create site e = behind2 site _ (in_append_left (break_if (is_unfixed_create p site site.stmt) rule.CreateNotFixed (line site)) (a4 site) _ (in_if _ rule.CreateNotFixed (line site) e))

  pub by_join : (site : Site) → is_unfixed_join p site site.stmt ≡ true → In (break rule.JoinNotFixed (line_of site.stmt)) (by_rules p m site)
  by_join site e = behind3 site _ (in_append_left (break_if (is_unfixed_join p site site.stmt) rule.JoinNotFixed (line site)) (a5 site) _ (in_if _ rule.JoinNotFixed (line site) e))

  pub by_argument : (site : Site) → has_open_argument site.stmt ≡ true → In (break rule.ArgNotConstant (line_of site.stmt)) (by_rules p m site)
  by_argument site e = behind4 site _ (in_append_left (break_if (has_open_argument site.stmt) rule.ArgNotConstant (line site)) (a6 site) _ (in_if _ rule.ArgNotConstant (line site) e))

  pub by_init : (site : Site) → (is_init site.stmt && late_at site) ≡ true → In (break rule.InitLate (line_of site.stmt)) (by_rules p m site)
  by_init site e = behind5 site _ (in_append_left (break_if (is_init site.stmt && late_at site) rule.InitLate (line site)) (a7 site) _ (in_if _ rule.InitLate (line site) e))

  pub by_monitor : (site : Site) → (calls_monitor site.stmt && is_source m) ≡ true → In (break rule.Reserved (line_of site.stmt)) (by_rules p m site)
  by_monitor site e = behind6 site _ (in_append_left (break_if (calls_monitor site.stmt && is_source m) rule.Reserved (line site)) (a8 site) _ (in_if _ rule.Reserved (line site) e))

  pub by_range : (site : Site) → is_beyond p site.stmt ≡ true → In (break rule.IndexRange (line_of site.stmt)) (by_rules p m site)
  by_range site e = behind6 site _ (in_append_right (break_if (calls_monitor site.stmt && is_source m) rule.Reserved (line site)) (a8 site) _ (in_if _ rule.IndexRange (line site) e))
