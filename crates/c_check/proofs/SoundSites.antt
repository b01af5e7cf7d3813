-- What is noted at a statement is broken there.
use Rattle.std.proofs.Common.{◌≡◌, ℕ, Bool, true, false, ◌&&◌, ◌++◌, inl, inr, map, refl, subst}
use Rattle.std.specs.Prelude.{filter}
use Rattle.std.specs.List.{list_any}
use Rattle.c_tree.specs.declared.program.Mode.{Mode}
use Rattle.c_tree.specs.declared.program.Mode.TheVariants as mode
use Rattle.c_tree.specs.Lined.{Program, line_of}
use Rattle.c_rules.specs.declared.rule.Rule.{Rule}
use Rattle.c_rules.specs.declared.rule.Rule.TheVariants as rule
use Rattle.c_rules.specs.Names.{mentions, is_reserved}
use Rattle.c_rules.specs.Declarations.{outer}
use Rattle.c_rules.specs.Sites.{Site, sites, lines_where}
use Rattle.c_rules.specs.Uses.{uses_of}
use Rattle.c_rules.specs.Meaning.{meaning, visible, is_out_of_reach}
use Rattle.c_rules.specs.Naming.{inner, calls_monitor, monitor_lines, capacity_lines, is_taken_for}
use Rattle.c_rules.specs.Using.{is_misused, is_miscounted, calls, has_too_many_values, has_other_initialisers, capacity_count_lines}
use Rattle.c_rules.specs.Threads.{is_unfixed_create, is_unfixed_join, has_open_argument}
use Rattle.c_rules.specs.Objects.{is_init, is_beyond, has_no_member, has_no_object, has_no_slot, empty_capacity_lines}
use Rattle.c_rules.specs.Formed.{broken_lines}
use Rattle.c_rules.proofs.Members.{In, in_append_right, in_append_cases, from_flat_map, From, from, any_of}
use Rattle.c_acts.specs.declared.first.Break.{Break}
use Rattle.c_acts.specs.First.{break, break_if}
use Rattle.c_acts.specs.Uses.{use_breaks}
use Rattle.c_acts.specs.Acts.{is_source}
use Rattle.c_check.proofs.Where.{from_if, in_where}
use Rattle.c_check.proofs.Sited.{around_at, late_at}
use Rattle.c_check.proofs.Uniform.{act_rules, use_rules}

-- a rule is broken at the line of a break
abbrev pub Broken : Program → Mode → Break → Type 0
Broken p mode b = In b.line (broken_lines b.rule p mode)

pub broken_so : (p : Program) (mode : Mode) (r : Rule) (line : ℕ) (b : Break) → break r line ≡ b → In line (broken_lines r p mode) → Broken p mode b
broken_so p mode r line b e h = subst (Broken p mode) e h

module _ (p : Program) where
  -- the last lists of rules that have several
  count_site : (mode : Mode) (line : ℕ) → In line (lines_where (λ site. is_miscounted p site site.stmt) p) → In line (broken_lines rule.WrongCount p mode)
  count_site mode line h = in_append_right (map (λ a. a.line) (filter has_too_many_values p.arrays) ++ map (λ o. o.line) (filter has_other_initialisers (p.mutexes ++ p.conds)) ++ capacity_count_lines p) _ line h

  range_site : (mode : Mode) (line : ℕ) → In line (lines_where (λ site. is_beyond p site.stmt) p) → In line (broken_lines rule.IndexRange p mode)
  range_site mode line h = in_append_right (map (λ a. a.line) (filter has_no_member p.arrays) ++ map (λ o. o.line) (filter has_no_object (p.mutexes ++ p.conds)) ++ map (λ t. t.line) (filter has_no_slot p.threads) ++ empty_capacity_lines p) _ line h

  kept_site : (mode : Mode) (site : Site) → In site (sites p) → (calls_monitor site.stmt && is_source mode) ≡ true → In (line_of site.stmt) (broken_lines rule.Reserved p mode)
  kept_site mode.Source site h e =
      in_append_right (map (λ d. d.line) (filter (λ d. is_taken_for mode.Source d.name d.thing) (outer p)) ++ map (λ l. l.line) (filter (λ l. is_reserved l.name) (inner p))) (monitor_lines mode.Source p) (line_of site.stmt)
      (in_append_right (capacity_lines p) (lines_where (λ s. calls_monitor s.stmt) p) (line_of site.stmt) (in_where p (λ s. calls_monitor s.stmt) site h (both (calls_monitor site.stmt) e)))
    where
      both : (b : Bool) → (b && true) ≡ true → b ≡ true
      both true f = refl
      both false f = absurd (cc f)
  kept_site mode.Any site h e = absurd (never (calls_monitor site.stmt) e)
    where
      never : (b : Bool) → (b && false) ≡ true → ⊥
      never true f = cc f
      never false f = cc f

  pub acts_sound : (mode : Mode) (site : Site) (b : Break) → In site (sites p) → In b (act_rules p mode site) → Broken p mode b
  acts_sound mode site b at h =
      let line = line_of site.stmt in
      elim (in_append_cases (break_if (is_miscounted p site site.stmt) rule.WrongCount line) _ b h) [
        | inl k ↦ let q = from_if _ rule.WrongCount line b k in broken_so p mode rule.WrongCount line b q.1 (count_site mode line (in_where p (λ s. is_miscounted p s s.stmt) site at q.0))
        | inr h1 ↦ elim (in_append_cases (break_if (calls site.function.name site.stmt) rule.Recursion line) _ b h1) [
          | inl k ↦ let q = from_if _ rule.Recursion line b k in broken_so p mode rule.Recursion line b q.1 (in_where p (λ s. calls s.function.name s.stmt) site at q.0)
          | inr h2 ↦ elim (in_append_cases (break_if (is_unfixed_create p site site.stmt) rule.CreateNotFixed line) _ b h2) [
            | inl k ↦ let q = from_if _ rule.CreateNotFixed line b k in broken_so p mode rule.CreateNotFixed line b q.1 (in_where p (λ s. is_unfixed_create p s s.stmt) site at q.0)
            | inr h3 ↦ elim (in_append_cases (break_if (is_unfixed_join p site site.stmt) rule.JoinNotFixed line) _ b h3) [
              | inl k ↦ let q = from_if _ rule.JoinNotFixed line b k in broken_so p mode rule.JoinNotFixed line b q.1 (in_where p (λ s. is_unfixed_join p s s.stmt) site at q.0)
              | inr h4 ↦ elim (in_append_cases (break_if (has_open_argument site.stmt) rule.ArgNotConstant line) _ b h4) [
                | inl k ↦ let q = from_if _ rule.ArgNotConstant line b k in broken_so p mode rule.ArgNotConstant line b q.1 (in_where p (λ s. has_open_argument s.stmt) site at q.0)
                | inr h5 ↦ elim (in_append_cases (break_if (is_init site.stmt && late_at site) rule.InitLate line) _ b h5) [
                  | inl k ↦ let q = from_if _ rule.InitLate line b k in broken_so p mode rule.InitLate line b q.1 (in_where p (λ s. is_init s.stmt && late_at s) site at q.0)
                  | inr h6 ↦ elim (in_append_cases (break_if (calls_monitor site.stmt && is_source mode) rule.Reserved line) _ b h6) [
                    | inl k ↦ let q = from_if _ rule.Reserved line b k in broken_so p mode rule.Reserved line b q.1 (kept_site mode site at q.0)
                    | inr k ↦ let q = from_if _ rule.IndexRange line b k in broken_so p mode rule.IndexRange line b q.1 (range_site mode line (in_where p (λ s. is_beyond p s.stmt) site at q.0))
                  ]
                ]
              ]
            ]
          ]
        ]
      ]

  uses_sound_at : (mode : Mode) (site : Site) (b : Break) → In site (sites p)
      → From (use_breaks (around_at p mode (site.place, site.function)) (mentions (visible site)) (line_of site.stmt)) (uses_of site.stmt) b → Broken p mode b
  uses_sound_at mode site b at (from u i h) =
      let line = line_of site.stmt in
      elim (in_append_cases (break_if (is_out_of_reach site.place (meaning p site u.name)) rule.Unknown line) _ b h) [
        | inl k ↦ let q = from_if _ rule.Unknown line b k in
            broken_so p mode rule.Unknown line b q.1 (in_where p (λ s. list_any (λ v. is_out_of_reach s.place (meaning p s v.name)) (uses_of s.stmt)) site at
            (any_of (λ v. is_out_of_reach site.place (meaning p site v.name)) (uses_of site.stmt) u i q.0))
        | inr k ↦ let q = from_if _ rule.WrongKind line b k in
            broken_so p mode rule.WrongKind line b q.1 (in_where p (λ s. list_any (λ v. is_misused v (meaning p s v.name)) (uses_of s.stmt)) site at
            (any_of (λ v. is_misused v (meaning p site v.name)) (uses_of site.stmt) u i q.0))
      ]

  pub uses_sound : (mode : Mode) (site : Site) (b : Break) → In site (sites p) → In b (use_rules p mode site) → Broken p mode b
  uses_sound mode site b at h = uses_sound_at mode site b at (from_flat_map _ (uses_of site.stmt) b h)
