-- What is noted of lengths, values, capacities and main is broken.
use Rattle.std.proofs.Common.{◌≡◌, ℕ, Bool, true, false, not, ◌||◌, ◌==◌, nat_lt, List, ◌++◌, inl, inr, length, map, refl}
use Rattle.std.specs.Prelude.{flat_map, filter}
use Rattle.std.specs.List.{list_any}
use Rattle.c_tree.specs.declared.program.Mode.{Mode}
use Rattle.c_tree.specs.declared.program.Mode.TheVariants as mode
use Rattle.c_tree.specs.declared.program.Array as declared_array
use Rattle.c_tree.specs.declared.program.Object.{Object}
use Rattle.c_tree.specs.declared.program.Slot.{Slot}
use Rattle.c_tree.specs.Lined.{Program, Function}
use Rattle.c_rules.specs.declared.rule.Rule.TheVariants as rule
use Rattle.c_rules.specs.Names.{is_reserved}
use Rattle.c_rules.specs.Declarations.{outer}
use Rattle.c_rules.specs.Sites.{is_main, lines_where}
use Rattle.c_rules.specs.Naming.{inner, is_taken_for, capacity_lines, monitor_lines, calls_monitor}
use Rattle.c_rules.specs.Using.{has_too_many_values, has_other_initialisers, capacity_count_lines, is_miscounted}
use Rattle.c_rules.specs.Objects.{has_no_member, has_no_object, has_no_slot, empty_capacity_lines, is_beyond}
use Rattle.c_rules.specs.Formed.{broken_lines}
use Rattle.c_rules.proofs.Members.{In, in_append_left, in_append_right, in_append_cases, from_flat_map, From, from}
use Rattle.c_acts.specs.declared.first.Break.{Break}
use Rattle.c_acts.specs.First.{break_if}
use Rattle.c_acts.specs.Acts.{is_source}
use Rattle.c_check.specs.Outer.{array_breaks, object_breaks, slot_breaks, length_breaks, capacity_breaks, part_breaks}
use Rattle.c_check.proofs.Where.{from_if, in_lines}
use Rattle.c_check.proofs.SoundSites.{Broken, broken_so}

abbrev pub count_arrays : Program → List ℕ
count_arrays p = map (λ a. a.line) (filter has_too_many_values p.arrays)

abbrev pub count_objects : Program → List ℕ
count_objects p = map (λ o. o.line) (filter has_other_initialisers (p.mutexes ++ p.conds))

abbrev pub count_sites : Program → List ℕ
count_sites p = lines_where (λ site. is_miscounted p site site.stmt) p

abbrev pub range_arrays : Program → List ℕ
range_arrays p = map (λ a. a.line) (filter has_no_member p.arrays)

abbrev pub range_objects : Program → List ℕ
range_objects p = map (λ o. o.line) (filter has_no_object (p.mutexes ++ p.conds))

abbrev pub range_slots : Program → List ℕ
range_slots p = map (λ t. t.line) (filter has_no_slot p.threads)

abbrev pub range_sites : Program → List ℕ
range_sites p = lines_where (λ site. is_beyond p site.stmt) p

abbrev pub kept_names : Program → Mode → List ℕ
kept_names p mode = map (λ d. d.line) (filter (λ d. is_taken_for mode d.name d.thing) (outer p)) ++ map (λ l. l.line) (filter (λ l. is_reserved l.name) (inner p))

module _ (p : Program) (m : Mode) where
  -- ---- where the lines stand in the lists of a rule

  count1 : (n : ℕ) → In n (count_arrays p) → In n (broken_lines rule.WrongCount p m)
  count1 n h = in_append_left (count_arrays p ++ count_objects p ++ capacity_count_lines p) (count_sites p) n (in_append_left (count_arrays p ++ count_objects p) (capacity_count_lines p) n (in_append_left (count_arrays p) (count_objects p) n h))

  count2 : (n : ℕ) → In n (count_objects p) → In n (broken_lines rule.WrongCount p m)
  count2 n h = in_append_left (count_arrays p ++ count_objects p ++ capacity_count_lines p) (count_sites p) n (in_append_left (count_arrays p ++ count_objects p) (capacity_count_lines p) n (in_append_right (count_arrays p) (count_objects p) n h))

  count3 : (n : ℕ) → In n (capacity_count_lines p) → In n (broken_lines rule.WrongCount p m)
  count3 n h = in_append_left (count_arrays p ++ count_objects p ++ capacity_count_lines p) (count_sites p) n (in_append_right (count_arrays p ++ count_objects p) (capacity_count_lines p) n h)

  range1 : (n : ℕ) → In n (range_arrays p) → In n (broken_lines rule.IndexRange p m)
  range1 n h = in_append_left (range_arrays p ++ range_objects p ++ range_slots p ++ empty_capacity_lines p) (range_sites p) n (in_append_left (range_arrays p ++ range_objects p ++ range_slots p) (empty_capacity_lines p) n
      (in_append_left (range_arrays p ++ range_objects p) (range_slots p) n (in_append_left (range_arrays p) (range_objects p) n h)))

  range2 : (n : ℕ) → In n (range_objects p) → In n (broken_lines rule.IndexRange p m)
  range2 n h = in_append_left (range_arrays p ++ range_objects p ++ range_slots p ++ empty_capacity_lines p) (range_sites p) n (in_append_left (range_arrays p ++ range_objects p ++ range_slots p) (empty_capacity_lines p) n
      (in_append_left (range_arrays p ++ range_objects p) (range_slots p) n (in_append_right (range_arrays p) (range_objects p) n h)))

  range3 : (n : ℕ) → In n (range_slots p) → In n (broken_lines rule.IndexRange p m)
  range3 n h = in_append_left (range_arrays p ++ range_objects p ++ range_slots p ++ empty_capacity_lines p) (range_sites p) n (in_append_left (range_arrays p ++ range_objects p ++ range_slots p) (empty_capacity_lines p) n
      (in_append_right (range_arrays p ++ range_objects p) (range_slots p) n h))

  range4 : (n : ℕ) → In n (empty_capacity_lines p) → In n (broken_lines rule.IndexRange p m)
  range4 n h = in_append_left (range_arrays p ++ range_objects p ++ range_slots p ++ empty_capacity_lines p) (range_sites p) n (in_append_right (range_arrays p ++ range_objects p ++ range_slots p) (empty_capacity_lines p) n h)

  -- ---- the parts

  arrays_sound : (b : Break) → From array_breaks p.arrays b → Broken p m b
  arrays_sound b (from a i h) = elim (in_append_cases (break_if (has_too_many_values a) rule.WrongCount a.line) _ b h) [
    | inl k ↦ let q = from_if _ rule.WrongCount a.line b k in broken_so p m rule.WrongCount a.line b q.1 (count1 a.line (in_lines (λ (x : declared_array.Array). x.line) has_too_many_values p.arrays a i q.0))
    | inr k ↦ let q = from_if _ rule.IndexRange a.line b k in broken_so p m rule.IndexRange a.line b q.1 (range1 a.line (in_lines (λ (x : declared_array.Array). x.line) has_no_member p.arrays a i q.0))
  ]

  object_sound : (b : Break) (o : Object) → In o (p.mutexes ++ p.conds) → In b (object_breaks o) → Broken p m b
  object_sound b o i h = elim (in_append_cases (break_if (has_other_initialisers o) rule.WrongCount o.line) _ b h) [
    | inl k ↦ let q = from_if _ rule.WrongCount o.line b k in broken_so p m rule.WrongCount o.line b q.1 (count2 o.line (in_lines (λ (x : Object). x.line) has_other_initialisers (p.mutexes ++ p.conds) o i q.0))
    | inr k ↦ let q = from_if _ rule.IndexRange o.line b k in broken_so p m rule.IndexRange o.line b q.1 (range2 o.line (in_lines (λ (x : Object). x.line) has_no_object (p.mutexes ++ p.conds) o i q.0))
  ]

  mutexes_sound : (b : Break) → From object_breaks p.mutexes b → Broken p m b
  mutexes_sound b (from o i h) = object_sound b o (in_append_left p.mutexes p.conds o i) h

  conds_sound : (b : Break) → From object_breaks p.conds b → Broken p m b
  conds_sound b (from o i h) = object_sound b o (in_append_right p.mutexes p.conds o i) h

  slots_sound : (b : Break) → From slot_breaks p.threads b → Broken p m b
  slots_sound b (from t i h) = let q = from_if _ rule.IndexRange t.line b h in broken_so p m rule.IndexRange t.line b q.1 (range3 t.line (in_lines (λ (x : Slot). x.line) has_no_slot p.threads t i q.0))

  main_sound : (b : Break) (t : Bool) → list_any is_main p.functions ≡ t → In b (break_if (not t) rule.NoMain p.end_line) → Broken p m b
  main_sound b true e h = absurd h
  main_sound b false e h = let q = from_if true rule.NoMain p.end_line b h in broken_so p m rule.NoMain p.end_line b q.1 (rw e (inl refl))

long_sound : (p : Program) (m : Mode) (b : Break) → From (length_breaks m) p.functions b → Broken p m b
long_sound p mode.Source b (from f i h) = let q = from_if _ rule.LongName f.line b h in broken_so p mode.Source rule.LongName f.line b q.1 (in_lines (λ (x : Function). x.line) (λ x. nat_lt 56 (length x.name)) p.functions f i q.0)
long_sound p mode.Any b (from f i h) = absurd h

-- ---- capacities

abbrev pub there : Program → Bool
there p = nat_lt 0 (length p.monitors) || nat_lt 0 p.cap_len

line_there : (p : Program) → there p ≡ true → In p.cap_line (capacity_lines p)
line_there p e = rw e (inl refl)

kept_there : (p : Program) (m : Mode) → there p ≡ true → is_source m ≡ true → In p.cap_line (broken_lines rule.Reserved p m)
kept_there p mode.Source e s = in_append_right (kept_names p mode.Source) (monitor_lines mode.Source p) p.cap_line (in_append_left (capacity_lines p) (lines_where (λ s. calls_monitor s.stmt) p) p.cap_line (line_there p e))
kept_there p mode.Any e s = absurd (cc s)

count_there : (p : Program) (m : Mode) (t : Bool) → (p.cap_len == length p.monitors) ≡ t → there p ≡ true → not t ≡ true → In p.cap_line (broken_lines rule.WrongCount p m)
count_there p m true e h n = absurd (cc n)
count_there p m false e h n = count3 p m p.cap_line (rw e (line_there p h))

range_there : (p : Program) (m : Mode) → there p ≡ true → ((p.cap_len == 0) || list_any (λ capacity. capacity == 0) p.monitors) ≡ true → In p.cap_line (broken_lines rule.IndexRange p m)
range_there p m h e = range4 p m p.cap_line (rw e (line_there p h))

capacities_sound : (p : Program) (m : Mode) (b : Break) (t : Bool) → there p ≡ t → In b (capacity_breaks m p) → Broken p m b
capacities_sound p m b false e h = absurd (rw e at h)
capacities_sound p m b true e h =
    let k : In b (break_if (is_source m) rule.Reserved p.cap_line ++ (break_if (not (p.cap_len == length p.monitors)) rule.WrongCount p.cap_line ++ break_if ((p.cap_len == 0) || list_any (λ capacity. capacity == 0) p.monitors) rule.IndexRange p.cap_line)) = rw e at h in
    elim (in_append_cases (break_if (is_source m) rule.Reserved p.cap_line) _ b k) [
      | inl x ↦ let q = from_if _ rule.Reserved p.cap_line b x in broken_so p m rule.Reserved p.cap_line b q.1 (kept_there p m e q.0)
      | inr y ↦ elim (in_append_cases (break_if (not (p.cap_len == length p.monitors)) rule.WrongCount p.cap_line) _ b y) [
        | inl x ↦ let q = from_if _ rule.WrongCount p.cap_line b x in broken_so p m rule.WrongCount p.cap_line b q.1 (count_there p m (p.cap_len == length p.monitors) refl e q.0)
        | inr x ↦ let q = from_if _ rule.IndexRange p.cap_line b x in broken_so p m rule.IndexRange p.cap_line b q.1 (range_there p m e q.0)
      ]
    ]

pub parts_sound : (p : Program) (m : Mode) (b : Break) → In b (part_breaks m p) → Broken p m b
parts_sound p m b h = elim (in_append_cases (flat_map array_breaks p.arrays) _ b h) [
  | inl k ↦ arrays_sound p m b (from_flat_map array_breaks p.arrays b k)
  | inr h1 ↦ elim (in_append_cases (flat_map object_breaks p.mutexes) _ b h1) [
    | inl k ↦ mutexes_sound p m b (from_flat_map object_breaks p.mutexes b k)
    | inr h2 ↦ elim (in_append_cases (flat_map object_breaks p.conds) _ b h2) [
      | inl k ↦ conds_sound p m b (from_flat_map object_breaks p.conds b k)
      | inr h3 ↦ elim (in_append_cases (flat_map slot_breaks p.threads) _ b h3) [
        | inl k ↦ slots_sound p m b (from_flat_map slot_breaks p.threads b k)
        | inr h4 ↦ elim (in_append_cases (flat_map (length_breaks m) p.functions) _ b h4) [
          | inl k ↦ long_sound p m b (from_flat_map (length_breaks m) p.functions b k)
          | inr h5 ↦ elim (in_append_cases (capacity_breaks m p) _ b h5) [
            | inl k ↦ capacities_sound p m b (there p) refl k
            | inr k ↦ main_sound p m b (list_any is_main p.functions) refl k
          ]
        ]
      ]
    ]
  ]
]
