-- What is noted of a program is its first break.
use Rattle.std.proofs.Common.{◌≡◌, ℕ, Bool, true, ◌&&◌, nat_lt, [], inl, inr, length, map, refl, sym, ap, subst, Some, None}
use Rattle.std.specs.Prelude.{flat_map, filter, MatchOption}
use Rattle.std.specs.declared.option.Option.{Option}
use Rattle.c_tree.specs.declared.program.Mode.{Mode}
use Rattle.c_tree.specs.declared.program.Mode.TheVariants as mode
use Rattle.c_tree.specs.Lined.{Program, Function}
use Rattle.c_rules.specs.declared.rule.Rule.{Rule}
use Rattle.c_rules.specs.declared.rule.Rule.TheVariants as rule
use Rattle.c_rules.specs.Declarations.{Declaration, outer}
use Rattle.c_rules.specs.Names.{is_reserved}
use Rattle.c_rules.specs.Sites.{lines_where}
use Rattle.c_rules.specs.Naming.{Inner, inner, is_taken_for, calls_monitor, capacity_lines, monitor_lines}
use Rattle.c_rules.specs.Threads.{is_unfixed_create, is_unfixed_join, has_open_argument}
use Rattle.c_rules.specs.Using.{calls}
use Rattle.c_rules.specs.Objects.{is_init}
use Rattle.c_rules.specs.Formed.{broken_lines, KeepsRules, FirstBreak}
use Rattle.c_rules.proofs.Members.{In, in_of, contains_of, in_append_left, in_append_cases, in_flat_map}
use Rattle.c_acts.specs.declared.first.Break.{Break}
use Rattle.c_acts.specs.First.{break, noted_all}
use Rattle.c_check.specs.Outer.{length_breaks}
use Rattle.c_check.specs.Breaks.{all_breaks}
use Rattle.c_check.proofs.Firsts.{Led, none, one, led, Before, before_third}
use Rattle.c_check.proofs.Where.{Item, item, from_lines, in_if}
use Rattle.c_check.proofs.Sited.{late_at}
use Rattle.c_check.proofs.SoundParts.{kept_names}
use Rattle.c_check.proofs.OuterNames.{Covered, covered}
use Rattle.c_check.proofs.Reach.{by_recursion, by_create, by_join, by_argument, by_init, by_monitor}
use Rattle.c_check.proofs.Complete.{sited, unknown_noted, kind_noted, count_noted, range_noted, main_noted, twice_noted, kept_outer, kept_inner, cap_kept, part5, c6}
use Rattle.c_check.proofs.Sound.{all_sound}

and_true : (b : Bool) → b ≡ true → (b && true) ≡ true
and_true b e = ap (λ x. x && true) e

monitor_noted : (p : Program) (m : Mode) (n : ℕ) → In n (monitor_lines m p) → Covered (all_breaks p m) (break rule.Reserved n)
monitor_noted p mode.Any n h = absurd h
monitor_noted p mode.Source n h = elim (in_append_cases (capacity_lines p) (lines_where (λ s. calls_monitor s.stmt) p) n h) [
  | inl k ↦ cap_kept p mode.Source n refl k
  | inr k ↦ sited p mode.Source rule.Reserved (λ s. calls_monitor s.stmt) n (λ site e. by_monitor p mode.Source site (and_true (calls_monitor site.stmt) e)) k
]

long_item : (p : Program) (n : ℕ) → Item (λ (f : Function). f.line) (λ f. nat_lt 56 (length f.name)) p.functions n → Covered (all_breaks p mode.Source) (break rule.LongName n)
long_item p n (item f i e is) =
    subst (λ x. Covered (all_breaks p mode.Source) (break rule.LongName x)) is
    (part5 p mode.Source _ (in_append_left (flat_map (length_breaks mode.Source) p.functions) (c6 p mode.Source) _ (in_flat_map (length_breaks mode.Source) p.functions f _ i (in_if _ rule.LongName f.line e))))

long_noted : (p : Program) (m : Mode) (n : ℕ) → In n (broken_lines rule.LongName p m) → Covered (all_breaks p m) (break rule.LongName n)
long_noted p mode.Any n h = absurd h
long_noted p mode.Source n h = long_item p n (from_lines (λ (f : Function). f.line) (λ f. nat_lt 56 (length f.name)) p.functions n h)

module _ (p : Program) (m : Mode) where
  reserved_noted : (n : ℕ) → In n (broken_lines rule.Reserved p m) → Covered (all_breaks p m) (break rule.Reserved n)
  reserved_noted n h = elim (in_append_cases (kept_names p m) (monitor_lines m p) n h) [
    | inr k ↦ monitor_noted p m n k
    | inl h1 ↦ elim (in_append_cases (map (λ (d : Declaration). d.line) (filter (λ d. is_taken_for m d.name d.thing) (outer p))) (map (λ (l : Inner). l.line) (filter (λ l. is_reserved l.name) (inner p))) n h1) [
      | inl k ↦ kept_outer p m n (from_lines (λ (d : Declaration). d.line) (λ d. is_taken_for m d.name d.thing) (outer p) n k)
      | inr k ↦ kept_inner p m n (from_lines (λ (l : Inner). l.line) (λ l. is_reserved l.name) (inner p) n k)
    ]
  ]

  pub complete : (r : Rule) (n : ℕ) → In n (broken_lines r p m) → Covered (all_breaks p m) (break r n)
  complete rule.Reserved n h = reserved_noted n h
  complete rule.LongName n h = long_noted p m n h
  complete rule.Twice n h = twice_noted p m n h
  complete rule.Unknown n h = unknown_noted p m n h
  complete rule.WrongKind n h = kind_noted p m n h
  complete rule.WrongCount n h = count_noted p m n h
  complete rule.Recursion n h = sited p m rule.Recursion (λ s. calls s.function.name s.stmt) n (by_recursion p m) h
  complete rule.NoMain n h = main_noted p m n _ refl h
  complete rule.CreateNotFixed n h = sited p m rule.CreateNotFixed (λ s. is_unfixed_create p s s.stmt) n (by_create p m) h
  complete rule.JoinNotFixed n h = sited p m rule.JoinNotFixed (λ s. is_unfixed_join p s s.stmt) n (by_join p m) h
  complete rule.ArgNotConstant n h = sited p m rule.ArgNotConstant (λ s. has_open_argument s.stmt) n (by_argument p m) h
  complete rule.InitLate n h = sited p m rule.InitLate (λ s. is_init s.stmt && late_at s) n (by_init p m) h
  complete rule.IndexRange n h = range_noted p m n h

  none_broken : (r : Rule) (n : ℕ) → all_breaks p m ≡ [] → Covered (all_breaks p m) (break r n) → ⊥
  none_broken r n e (covered c i h) = subst (In c) e i

  behind_first : (b : Break) (r : Rule) (n : ℕ) → ((c : Break) → In c (all_breaks p m) → Before b c) → Covered (all_breaks p m) (break r n) → Before b (break r n)
  behind_first b r n first (covered c i h) = before_third b c (break r n) (first c i) h

  -- nothing is noted where no rule is broken, and else the first break
  pub data Found : Option Break → Type 0 where
    nothing : KeepsRules p m → Found None
    found : (b : Break) → FirstBreak p m b.rule b.line → Found (Some b)

  found_so : (o : Option Break) → Led (all_breaks p m) o → Found o
  found_so None (none e) = nothing (λ r n h. none_broken r n e (complete r n (in_of (broken_lines r p m) n h)))
  found_so (Some b) (one c i first) = found c (record {
    broken = contains_of (broken_lines c.rule p m) c.line (all_sound p m c i);
    first = λ r n h. behind_first c r n first (complete r n (in_of (broken_lines r p m) n h));
  })

  pub judged : Found (noted_all None (all_breaks p m))
  judged = found_so (noted_all None (all_breaks p m)) (led (all_breaks p m))

  told_so : (o : Option Break) → Found o → MatchOption o (KeepsRules p m) (λ b. FirstBreak p m b.rule b.line)
  told_so None (nothing k) = k
  told_so (Some b) (found c f) = f

  pub first_told : (o : Option Break) → o ≡ noted_all None (all_breaks p m) → MatchOption o (KeepsRules p m) (λ b. FirstBreak p m b.rule b.line)
  first_told o e = told_so o (subst Found (sym e) judged)
