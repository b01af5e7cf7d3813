-- All that is broken is noted, or something before it.
use Rattle.std.proofs.Common.{◌≡◌, ℕ, Bool, true, false, not, cond, ◌||◌, ◌==◌, List, [], ◌∷◌, ◌++◌, inl, inr, length, map, refl, ap, subst, max}
use Rattle.std.specs.Prelude.{flat_map}
use Rattle.std.specs.List.{list_any}
use Rattle.c_tree.specs.declared.program.Mode.{Mode}
use Rattle.c_tree.specs.declared.program.Array as declared_array
use Rattle.c_tree.specs.declared.program.Object.{Object}
use Rattle.c_tree.specs.declared.program.Slot.{Slot}
use Rattle.c_tree.specs.Lined.{Program, line_of}
use Rattle.c_rules.specs.declared.rule.Rule.{Rule}
use Rattle.c_rules.specs.declared.rule.Rule.TheVariants as rule
use Rattle.c_rules.specs.Names.{mentions, is_reserved}
use Rattle.c_rules.specs.Declarations.{Declaration, outer, named, declaration_of}
use Rattle.c_rules.specs.Sites.{Site, lines_where, is_main}
use Rattle.c_rules.specs.Uses.{Use, uses_of}
use Rattle.c_rules.specs.Meaning.{meaning, visible, is_out_of_reach}
use Rattle.c_rules.specs.Naming.{Inner, inner, inner_pairs, outer_pairs, is_taken_for, capacity_lines}
use Rattle.c_rules.specs.Using.{is_misused, is_miscounted, has_too_many_values, has_other_initialisers, capacity_count_lines}
use Rattle.c_rules.specs.Objects.{is_beyond, has_no_member, has_no_object, has_no_slot, empty_capacity_lines}
use Rattle.c_rules.specs.Formed.{broken_lines}
use Rattle.c_rules.proofs.Members.{In, in_append_left, in_append_right, in_append_cases, in_flat_map, from_flat_map, From, from, from_map, Image, image, from_any, Passing, passing}
use Rattle.c_acts.specs.declared.first.Break.{Break}
use Rattle.c_acts.specs.First.{break, break_if}
use Rattle.c_acts.specs.Uses.{use_breaks}
use Rattle.c_acts.specs.Acts.{outer_clash, is_source}
use Rattle.c_check.specs.Outer.{array_breaks, object_breaks, slot_breaks, length_breaks, capacity_breaks, outer_breaks}
use Rattle.c_check.specs.Breaks.{none_told, all_breaks}
use Rattle.c_check.proofs.Where.{in_if, Stands, stands, from_where, Item, item, from_lines}
use Rattle.c_check.proofs.Sited.{around_at}
use Rattle.c_check.proofs.Uniform.{by_rules}
use Rattle.c_check.proofs.SoundParts.{count_arrays, count_objects, count_sites, range_arrays, range_objects, range_slots, range_sites, there}
use Rattle.c_check.proofs.Earliest.{Noted, noted, noted_of}
use Rattle.c_check.proofs.OuterNames.{Covered, covered, kept_noted, pairs_noted, sooner}
use Rattle.c_check.proofs.Reach.{at_itself, outer_noted, part_noted, site_noted, inner_noted, by_use, by_count, by_range}

module _ (p : Program) (m : Mode) where
  abbrev All : Rule → ℕ → Type 0
  All r n = Covered (all_breaks p m) (break r n)

  -- ---- statements

  at_line : (r : Rule) (test : Site → Bool) (n : ℕ) → ((site : Site) → test site ≡ true → In (break r (line_of site.stmt)) (by_rules p m site)) → Stands p test n → All r n
  at_line r test n shows (stands site at e is) = subst (All r) is (at_itself (all_breaks p m) (break r (line_of site.stmt)) (site_noted p m site _ at (shows site e)))

  pub sited : (r : Rule) (test : Site → Bool) (n : ℕ) → ((site : Site) → test site ≡ true → In (break r (line_of site.stmt)) (by_rules p m site)) → In n (lines_where test p) → All r n
  sited r test n shows h = at_line r test n shows (from_where p test n h)

  unknown_use : (site : Site) → Passing (λ (u : Use). is_out_of_reach site.place (meaning p site u.name)) (uses_of site.stmt) → In (break rule.Unknown (line_of site.stmt)) (by_rules p m site)
  unknown_use site (passing u i e) =
      by_use p m site _ (in_flat_map (use_breaks (around_at p m (site.place, site.function)) (mentions (visible site)) (line_of site.stmt)) (uses_of site.stmt) u _ i
      (in_append_left (break_if (is_out_of_reach site.place (meaning p site u.name)) rule.Unknown (line_of site.stmt)) (break_if (is_misused u (meaning p site u.name)) rule.WrongKind (line_of site.stmt)) _
      (in_if _ rule.Unknown (line_of site.stmt) e)))

  wrong_use : (site : Site) → Passing (λ (u : Use). is_misused u (meaning p site u.name)) (uses_of site.stmt) → In (break rule.WrongKind (line_of site.stmt)) (by_rules p m site)
  wrong_use site (passing u i e) =
      by_use p m site _ (in_flat_map (use_breaks (around_at p m (site.place, site.function)) (mentions (visible site)) (line_of site.stmt)) (uses_of site.stmt) u _ i
      (in_append_right (break_if (is_out_of_reach site.place (meaning p site u.name)) rule.Unknown (line_of site.stmt)) (break_if (is_misused u (meaning p site u.name)) rule.WrongKind (line_of site.stmt)) _
      (in_if _ rule.WrongKind (line_of site.stmt) e)))

  pub unknown_noted : (n : ℕ) → In n (broken_lines rule.Unknown p m) → All rule.Unknown n
  unknown_noted n h = sited rule.Unknown (λ s. list_any (λ u. is_out_of_reach s.place (meaning p s u.name)) (uses_of s.stmt)) n
      (λ site e. unknown_use site (from_any (λ (u : Use). is_out_of_reach site.place (meaning p site u.name)) (uses_of site.stmt) e)) h

  pub kind_noted : (n : ℕ) → In n (broken_lines rule.WrongKind p m) → All rule.WrongKind n
  kind_noted n h = sited rule.WrongKind (λ s. list_any (λ u. is_misused u (meaning p s u.name)) (uses_of s.stmt)) n
      (λ site e. wrong_use site (from_any (λ (u : Use). is_misused u (meaning p site u.name)) (uses_of site.stmt) e)) h

  -- ---- parts

  abbrev p2 : List Break
  p2 = flat_map object_breaks p.mutexes

  abbrev c7 : List Break
  c7 = break_if (not (list_any is_main p.functions)) rule.NoMain p.end_line

  abbrev pub c6 : List Break
  c6 = capacity_breaks m p ++ c7

  abbrev c5 : List Break
  c5 = flat_map (length_breaks m) p.functions ++ c6

  abbrev c4 : List Break
  c4 = flat_map slot_breaks p.threads ++ c5

  abbrev c3 : List Break
  c3 = flat_map object_breaks p.conds ++ c4

  abbrev c2 : List Break
  c2 = flat_map object_breaks p.mutexes ++ c3

  part2 : (b : Break) → In b c2 → Covered (all_breaks p m) b
  part2 b i = part_noted p m b (in_append_right (flat_map array_breaks p.arrays) c2 b i)

  part3 : (b : Break) → In b c3 → Covered (all_breaks p m) b
  part3 b i = part2 b (in_append_right (flat_map object_breaks p.mutexes) c3 b i)

  part4 : (b : Break) → In b c4 → Covered (all_breaks p m) b
  part4 b i = part3 b (in_append_right (flat_map object_breaks p.conds) c4 b i)

  pub part5 : (b : Break) → In b c5 → Covered (all_breaks p m) b
  part5 b i = part4 b (in_append_right (flat_map slot_breaks p.threads) c5 b i)

  part6 : (b : Break) → In b c6 → Covered (all_breaks p m) b
  part6 b i = part5 b (in_append_right (flat_map (length_breaks m) p.functions) c6 b i)

  array_noted : (a : declared_array.Array) (b : Break) → In a p.arrays → In b (array_breaks a) → Covered (all_breaks p m) b
  array_noted a b i h = part_noted p m b (in_append_left (flat_map array_breaks p.arrays) c2 b (in_flat_map array_breaks p.arrays a b i h))

  object_noted : (o : Object) (b : Break) → In o (p.mutexes ++ p.conds) → In b (object_breaks o) → Covered (all_breaks p m) b
  object_noted o b i h = elim (in_append_cases p.mutexes p.conds o i) [
    | inl k ↦ part2 b (in_append_left (flat_map object_breaks p.mutexes) c3 b (in_flat_map object_breaks p.mutexes o b k h))
    | inr k ↦ part3 b (in_append_left (flat_map object_breaks p.conds) c4 b (in_flat_map object_breaks p.conds o b k h))
  ]

  count_array : (n : ℕ) → Item (λ (a : declared_array.Array). a.line) has_too_many_values p.arrays n → All rule.WrongCount n
  count_array n (item a i e is) = subst (All rule.WrongCount) is (array_noted a _ i (in_append_left (break_if (has_too_many_values a) rule.WrongCount a.line) _ _ (in_if _ rule.WrongCount a.line e)))

  range_array : (n : ℕ) → Item (λ (a : declared_array.Array). a.line) has_no_member p.arrays n → All rule.IndexRange n
  range_array n (item a i e is) = subst (All rule.IndexRange) is (array_noted a _ i (in_append_right (break_if (has_too_many_values a) rule.WrongCount a.line) _ _ (in_if _ rule.IndexRange a.line e)))

  count_object : (n : ℕ) → Item (λ (o : Object). o.line) has_other_initialisers (p.mutexes ++ p.conds) n → All rule.WrongCount n
  count_object n (item o i e is) = subst (All rule.WrongCount) is (object_noted o _ i (in_append_left (break_if (has_other_initialisers o) rule.WrongCount o.line) _ _ (in_if _ rule.WrongCount o.line e)))

  range_object : (n : ℕ) → Item (λ (o : Object). o.line) has_no_object (p.mutexes ++ p.conds) n → All rule.IndexRange n
  range_object n (item o i e is) = subst (All rule.IndexRange) is (object_noted o _ i (in_append_right (break_if (has_other_initialisers o) rule.WrongCount o.line) _ _ (in_if _ rule.IndexRange o.line e)))

  range_slot : (n : ℕ) → Item (λ (t : Slot). t.line) has_no_slot p.threads n → All rule.IndexRange n
  range_slot n (item t i e is) = subst (All rule.IndexRange) is (part4 _ (in_append_left (flat_map slot_breaks p.threads) c5 _ (in_flat_map slot_breaks p.threads t _ i (in_if _ rule.IndexRange t.line e))))

  -- ---- capacities

  abbrev caps : List Break
  caps = break_if (is_source m) rule.Reserved p.cap_line ++ (break_if (not (p.cap_len == length p.monitors)) rule.WrongCount p.cap_line ++ break_if ((p.cap_len == 0) || list_any (λ capacity. capacity == 0) p.monitors) rule.IndexRange p.cap_line)

  cap_noted : (b : Break) → there p ≡ true → In b caps → Covered (all_breaks p m) b
  cap_noted b e h = part6 b (in_append_left (capacity_breaks m p) c7 b (rw e h))

  cap_line : (n : ℕ) (t : Bool) → there p ≡ t → In n (capacity_lines p) → (there p ≡ true) × (p.cap_line ≡ n)
  cap_line n true e h = (e, one (rw e at h))
    where
      one : In n (p.cap_line ∷ []) → p.cap_line ≡ n
      one (inl s) = s
      one (inr k) = absurd k
  cap_line n false e h = absurd (rw e at h)

  pub cap_kept : (n : ℕ) → is_source m ≡ true → In n (capacity_lines p) → All rule.Reserved n
  cap_kept n s h = let k = cap_line n (there p) refl h in
      subst (All rule.Reserved) k.1 (cap_noted _ k.0 (in_append_left (break_if (is_source m) rule.Reserved p.cap_line) _ _ (in_if _ rule.Reserved p.cap_line s)))

  cap_count : (n : ℕ) (t : Bool) → (p.cap_len == length p.monitors) ≡ t → In n (capacity_count_lines p) → All rule.WrongCount n
  cap_count n true e h = absurd (rw e at h)
  cap_count n false e h = let k = cap_line n (there p) refl (rw e at h) in
      subst (All rule.WrongCount) k.1 (cap_noted _ k.0 (in_append_right (break_if (is_source m) rule.Reserved p.cap_line) _ _
      (in_append_left (break_if (not (p.cap_len == length p.monitors)) rule.WrongCount p.cap_line) _ _ (in_if _ rule.WrongCount p.cap_line (ap not e)))))

  cap_range : (n : ℕ) (t : Bool) → ((p.cap_len == 0) || list_any (λ capacity. capacity == 0) p.monitors) ≡ t → In n (empty_capacity_lines p) → All rule.IndexRange n
  cap_range n false e h = absurd (rw e at h)
  cap_range n true e h = let k = cap_line n (there p) refl (rw e at h) in
      subst (All rule.IndexRange) k.1 (cap_noted _ k.0 (in_append_right (break_if (is_source m) rule.Reserved p.cap_line) _ _
      (in_append_right (break_if (not (p.cap_len == length p.monitors)) rule.WrongCount p.cap_line) _ _ (in_if _ rule.IndexRange p.cap_line e))))

  -- ---- rules with several lists

  pub count_noted : (n : ℕ) → In n (broken_lines rule.WrongCount p m) → All rule.WrongCount n
  count_noted n h = elim (in_append_cases (count_arrays p ++ count_objects p ++ capacity_count_lines p) (count_sites p) n h) [
    | inr k ↦ sited rule.WrongCount (λ s. is_miscounted p s s.stmt) n (by_count p m) k
    | inl h1 ↦ elim (in_append_cases (count_arrays p ++ count_objects p) (capacity_count_lines p) n h1) [
      | inr k ↦ cap_count n (p.cap_len == length p.monitors) refl k
      | inl h2 ↦ elim (in_append_cases (count_arrays p) (count_objects p) n h2) [
        | inl k ↦ count_array n (from_lines (λ (a : declared_array.Array). a.line) has_too_many_values p.arrays n k)
        | inr k ↦ count_object n (from_lines (λ (o : Object). o.line) has_other_initialisers (p.mutexes ++ p.conds) n k)
      ]
    ]
  ]

  pub range_noted : (n : ℕ) → In n (broken_lines rule.IndexRange p m) → All rule.IndexRange n
  range_noted n h = elim (in_append_cases (range_arrays p ++ range_objects p ++ range_slots p ++ empty_capacity_lines p) (range_sites p) n h) [
    | inr k ↦ sited rule.IndexRange (λ s. is_beyond p s.stmt) n (by_range p m) k
    | inl h1 ↦ elim (in_append_cases (range_arrays p ++ range_objects p ++ range_slots p) (empty_capacity_lines p) n h1) [
      | inr k ↦ cap_range n ((p.cap_len == 0) || list_any (λ capacity. capacity == 0) p.monitors) refl k
      | inl h2 ↦ elim (in_append_cases (range_arrays p ++ range_objects p) (range_slots p) n h2) [
        | inr k ↦ range_slot n (from_lines (λ (t : Slot). t.line) has_no_slot p.threads n k)
        | inl h3 ↦ elim (in_append_cases (range_arrays p) (range_objects p) n h3) [
          | inl k ↦ range_array n (from_lines (λ (a : declared_array.Array). a.line) has_no_member p.arrays n k)
          | inr k ↦ range_object n (from_lines (λ (o : Object). o.line) has_no_object (p.mutexes ++ p.conds) n k)
        ]
      ]
    ]
  ]

  pub main_noted : (n : ℕ) (t : Bool) → list_any is_main p.functions ≡ t → In n (broken_lines rule.NoMain p m) → All rule.NoMain n
  main_noted n true e h = absurd (rw e at h)
  main_noted n false e h = subst (All rule.NoMain) (one (rw e at h)) (part6 _ (in_append_right (capacity_breaks m p) c7 _ (in_if _ rule.NoMain p.end_line (ap not e))))
    where
      one : In n (p.end_line ∷ []) → p.end_line ≡ n
      one (inl s) = s
      one (inr k) = absurd k

  -- ---- names that are declared twice

  twice_outer : (l : Inner) (n : ℕ) → In l (inner p) → Noted (named l.name (outer p)) l.line n → All rule.Twice n
  twice_outer l n i (noted d h le) = before_line (inner_noted p m l _ i (in_append_right (break_if (is_reserved l.name) rule.Reserved l.line ++ break_if (mentions l.scope l.name) rule.Twice l.line) (outer_clash (declaration_of p l.name) l.line) _ h))
    where
      before_line : In (break rule.Twice (max d.line l.line)) (all_breaks p m) → All rule.Twice n
      before_line j = covered (break rule.Twice (max d.line l.line)) j (sooner (max d.line l.line) n le)

  twice_image : (l : Inner) (n : ℕ) → In l (inner p) → Image (λ (d : Declaration). max d.line l.line) (named l.name (outer p)) n → All rule.Twice n
  twice_image l n i (image d j is) = subst (All rule.Twice) is (twice_outer l (max d.line l.line) i (noted_of (named l.name (outer p)) d l.line j))

  twice_scope : (l : Inner) (n : ℕ) (t : Bool) → mentions l.scope l.name ≡ t → In l (inner p) → In n (cond t (l.line ∷ []) []) → All rule.Twice n
  twice_scope l n false e i h = absurd h
  twice_scope l n true e i (inr k) = absurd k
  twice_scope l n true e i (inl is) =
      subst (All rule.Twice) is (at_itself (all_breaks p m) (break rule.Twice l.line) (inner_noted p m l _ i
      (in_append_left (break_if (is_reserved l.name) rule.Reserved l.line ++ break_if (mentions l.scope l.name) rule.Twice l.line) (outer_clash (declaration_of p l.name) l.line) _
      (in_append_right (break_if (is_reserved l.name) rule.Reserved l.line) (break_if (mentions l.scope l.name) rule.Twice l.line) _ (in_if _ rule.Twice l.line e)))))

  twice_inner : (n : ℕ) → From (inner_pairs p) (inner p) n → All rule.Twice n
  twice_inner n (from l i h) = elim (in_append_cases (cond (mentions l.scope l.name) (l.line ∷ []) []) (map (λ (d : Declaration). max d.line l.line) (named l.name (outer p))) n h) [
    | inl k ↦ twice_scope l n (mentions l.scope l.name) refl i k
    | inr k ↦ twice_image l n i (from_map (λ (d : Declaration). max d.line l.line) (named l.name (outer p)) n k)
  ]

  pub twice_noted : (n : ℕ) → In n (broken_lines rule.Twice p m) → All rule.Twice n
  twice_noted n h = elim (in_append_cases (outer_pairs (outer p)) (flat_map (inner_pairs p) (inner p)) n h) [
    | inl k ↦ outer_noted p m _ (pairs_noted m [] (outer p) n k)
    | inr k ↦ twice_inner n (from_flat_map (inner_pairs p) (inner p) n k)
  ]

  -- ---- reserved names

  pub kept_outer : (n : ℕ) → Item (λ (d : Declaration). d.line) (λ d. is_taken_for m d.name d.thing) (outer p) n → All rule.Reserved n
  kept_outer n (item d i e is) = subst (All rule.Reserved) is (outer_noted p m _ (at_itself (outer_breaks m none_told (outer p)) (break rule.Reserved d.line) (kept_noted m none_told (outer p) d i e)))

  pub kept_inner : (n : ℕ) → Item (λ (l : Inner). l.line) (λ l. is_reserved l.name) (inner p) n → All rule.Reserved n
  kept_inner n (item l i e is) = subst (All rule.Reserved) is (at_itself (all_breaks p m) (break rule.Reserved l.line) (inner_noted p m l _ i
      (in_append_left (break_if (is_reserved l.name) rule.Reserved l.line ++ break_if (mentions l.scope l.name) rule.Twice l.line) (outer_clash (declaration_of p l.name) l.line) _
      (in_append_left (break_if (is_reserved l.name) rule.Reserved l.line) (break_if (mentions l.scope l.name) rule.Twice l.line) _ (in_if _ rule.Reserved l.line e)))))
