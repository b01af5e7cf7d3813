-- The first place of a name, and the values beside it.
use Rattle.std.proofs.Common.{◌≡◌, ◌<◌, ◌≤◌, ◌+◌, ℕ, zero, suc, Bool, true, false, cond, List, [], ◌∷◌, length, take, drop, replicate, get_or, ◌++◌, slice_index_or, Option, Some, None, refl, sym, ap, ◌∙◌, inl, inr, ◌⊎◌, min, ◌-◌, arith}
use Rattle.std.proofs.Math.Seq.{take-append_seam}
use Rattle.std.proofs.lemmas.Bool.{cases_lt}
use Rattle.std.specs.Prelude.{ℤ, if◌then◌else◌, bytes_eq, slice_set, slice_get, nat_lt, position, unwrap_or, ◌||◌}
use Rattle.std.specs.List.{position_or_len}
use Rattle.std.specs.FinMap as finite
use Rattle.std.specs.Cmp.Lexicographic.{slice_cmp, nat_list_cmp_total}
use Rattle.std.specs.Ordering.{nat_cmp}
use Rattle.std.specs.FinMap.{slice_cmp-IsAntisymmetric, nat_cmp-IsAntisymmetric}
use Rattle.std.proofs.lemmas.Bool.Decides.{nat_tests}
use Rattle.std.proofs.lemmas.List.{drop_more, drop_all}
use Rattle.std.proofs.lemmas.List.Quantifiers.{position-Some}
use Rattle.std.proofs.lemmas.List.Sums.{fails_before_first}
use Rattle.c_meaning.specs.State.{Locals}
use Rattle.c_meaning.specs.Calls.{passed}
use Rattle.c_frames.specs.LocalValues.{locals_of, changed}
use Rattle.c_frames.specs.Names.{is_among}
use Rattle.c_frames.proofs.LocalMaps.{local_value, with_first, get_locals, changed_locals}

not_less : (a b : ℕ) → nat_lt a b ≡ false → b ≤ a
not_less a b e = grind (arith, nat_tests)

-- where a test has no first place, it fails everywhere
nowhere : {X : Type 0} (test : X → Bool) (xs : List X) → position test xs ≡ None → (k : ℕ) (d : X) → k < length xs → test (get_or xs k d) ≡ false
nowhere {X} test xs none = by (nat_lt (position_or_len test xs) (length xs)) refl none
  where
    by : (b : Bool) → nat_lt (position_or_len test xs) (length xs) ≡ b → cond b (Some (position_or_len test xs)) None ≡ None → (k : ℕ) (d : X) → k < length xs → test (get_or xs k d) ≡ false
    by true e clash k d within = absurd (cc clash)
    by false e same k d within = fails_before_first test xs k d (omega (arith, within, not_less (position_or_len test xs) (length xs) e))

module _ (q : List ℕ) where
  read_first : (names : List (List ℕ)) (values : List (Option ℤ)) (k : ℕ) (d : List ℕ) → k < length names → bytes_eq q (get_or names k d) ≡ true
      → ((j : ℕ) → j < k → bytes_eq q (get_or names j d) ≡ false) → local_value names values q ≡ unwrap_or (slice_get values k) None
  read_first [] values k d within here before = absurd (omega (arith, within))
  read_first (name ∷ names) [] k d within here before = refl
  read_first (name ∷ names) (value ∷ values) zero d within here before = ap (λ b. if b then value else local_value names values q) here
  read_first (name ∷ names) (value ∷ values) (suc k) d within here before =
      ap (λ b. if b then value else local_value names values q) (before zero (omega arith))
      ∙ read_first names values k d (omega (arith, within)) here (λ j less. before (suc j) (omega (arith, less)))

  write_first : (names : List (List ℕ)) (values : List (Option ℤ)) (v : Option ℤ) (k : ℕ) (d : List ℕ) → k < length names → bytes_eq q (get_or names k d) ≡ true
      → ((j : ℕ) → j < k → bytes_eq q (get_or names j d) ≡ false) → with_first names values q v ≡ slice_set values k v
  write_first [] values v k d within here before = absurd (omega (arith, within))
  write_first (name ∷ names) [] v k d within here before = refl
  write_first (name ∷ names) (value ∷ values) v zero d within here before = ap (λ b. if b then v ∷ values else value ∷ with_first names values q v) here
  write_first (name ∷ names) (value ∷ values) v (suc k) d within here before =
      ap (λ b. if b then v ∷ values else value ∷ with_first names values q v) (before zero (omega arith))
      ∙ ap (λ vs. value ∷ vs) (write_first names values v k d (omega (arith, within)) here (λ j less. before (suc j) (omega (arith, less))))

  read_nowhere : (names : List (List ℕ)) (values : List (Option ℤ)) (d : List ℕ) → ((j : ℕ) → j < length names → bytes_eq q (get_or names j d) ≡ false) → local_value names values q ≡ None
  read_nowhere [] values d fails = refl
  read_nowhere (name ∷ names) [] d fails = refl
  read_nowhere (name ∷ names) (value ∷ values) d fails =
      ap (λ b. if b then value else local_value names values q) (fails zero (omega arith)) ∙ read_nowhere names values d (λ j less. fails (suc j) (omega (arith, less)))

  among_nowhere : (names : List (List ℕ)) (d : List ℕ) → ((j : ℕ) → j < length names → bytes_eq q (get_or names j d) ≡ false) → is_among names q ≡ false
  among_nowhere [] d fails = refl
  among_nowhere (name ∷ names) d fails = ap (λ b. b || is_among names q) (fails zero (omega arith)) ∙ among_nowhere names d (λ j less. fails (suc j) (omega (arith, less)))

  -- the value of a name that is there
  pub value_there : (names : List (List ℕ)) (values : List (Option ℤ)) (k : ℕ) (r : Option ℤ) → position (bytes_eq q) names ≡ Some k → unwrap_or (slice_get values k) None ≡ r
      → r ≡ finite.get (locals_of names values) q
  value_there names values k r place is =
      let first = position-Some (bytes_eq q) names k [] place in
      sym is ∙ sym (read_first names values k [] first.0 first.1 first.2) ∙ sym (get_locals names values q)

  -- and of one that isn't
  pub value_nowhere : (names : List (List ℕ)) (values : List (Option ℤ)) → position (bytes_eq q) names ≡ None → finite.get (locals_of names values) q ≡ None
  value_nowhere names values none = get_locals names values q ∙ read_nowhere names values [] (λ j. nowhere (bytes_eq q) names none j [])

  -- a name that is there changes at its place
  pub changes_there : (names : List (List ℕ)) (values : List (Option ℤ)) (k : ℕ) (v : Option ℤ) → position (bytes_eq q) names ≡ Some k → is_among names q ≡ true → length values ≡ length names
      → locals_of names (slice_set values k v) ≡ changed (locals_of names values) q v
  changes_there names values k v place among same =
      let first = position-Some (bytes_eq q) names k [] place in
      ap (locals_of names) (sym (write_first names values v k [] first.0 first.1 first.2)) ∙ changed_locals names values q v among same

  pub not_nowhere : (names : List (List ℕ)) → position (bytes_eq q) names ≡ None → is_among names q ≡ true → ⊥
  not_nowhere names none among = cc (among_nowhere names [] (λ j. nowhere (bytes_eq q) names none j []), among)

-- ---- the arguments

pub passed_none : (params : List (List ℕ)) (args : List ℤ) (k : ℕ) → k ≡ min (length params) (length args) → passed (drop k params) (drop k args) ≡ finite.empty
passed_none params args k is = by (cases_lt (length params) (length args))
  where
    no_values : (names : List (List ℕ)) → passed names [] ≡ finite.empty
    no_values [] = refl
    no_values (name ∷ names) = refl

    by : (length params < length args) ⊎ (length args ≤ length params) → passed (drop k params) (drop k args) ≡ finite.empty
    by (inl less) = ap (λ names. passed names (drop k args)) (drop_all k params (omega (arith, is, less)))
    by (inr more) = ap (passed (drop k params)) (drop_all k args (omega (arith, is, more))) ∙ no_values (drop k params)

pub passed_more : (params : List (List ℕ)) (args : List ℤ) (k : ℕ) (name : List ℕ) (z d : ℤ) (before now : Locals) → 0 < k → k ≤ length params → k ≤ length args
    → name ≡ slice_index_or params (k - 1) name → z ≡ slice_index_or args (k - 1) d → before ≡ passed (drop k params) (drop k args) → now ≡ finite.insert before name z
    → now ≡ passed (drop (k - 1) params) (drop (k - 1) args)
passed_more params args k name z d before now some in_params in_args is_name is_value so_far sets =
    let next : (k - 1) + 1 ≡ k = omega (arith, some) in
    let names : drop (k - 1) params ≡ name ∷ drop k params =
    drop_more params (k - 1) name (omega (arith, some, in_params)) ∙ ap (λ n. n ∷ drop ((k - 1) + 1) params) (sym is_name) ∙ ap (λ j. name ∷ drop j params) next in
    let values : drop (k - 1) args ≡ z ∷ drop k args =
    drop_more args (k - 1) d (omega (arith, some, in_args)) ∙ ap (λ n. n ∷ drop ((k - 1) + 1) args) (sym is_value) ∙ ap (λ j. z ∷ drop j args) next in
    sets ∙ ap (λ m. finite.insert m name z) so_far ∙ ap (λ ns. passed ns (z ∷ drop k args)) (sym names) ∙ ap (passed (drop (k - 1) params)) (sym values)

none_either : (b : Bool) (x : Option ℤ) → x ≡ None → cond b None x ≡ None
none_either true x none = refl
none_either false x none = none

none_removed : (name : List ℕ) → finite.remove (finite.empty {X = ℤ} {R = slice_cmp nat_cmp}) name ≡ finite.empty
none_removed name = finite.same_map nat_list_cmp_total (slice_cmp-IsAntisymmetric nat_cmp-IsAntisymmetric) _ _ (λ r.
    finite.get-remove nat_list_cmp_total finite.empty name r ∙ none_either _ _ (finite.get-empty (slice_cmp nat_cmp) r) ∙ sym (finite.get-empty (slice_cmp nat_cmp) r))

-- no local has a value at first
pub locals_none : (names : List (List ℕ)) (n : ℕ) → locals_of names (replicate n None) ≡ finite.empty
locals_none [] n = refl
locals_none (name ∷ names) zero = refl
locals_none (name ∷ names) (suc n) = ap (λ m. finite.remove m name) (locals_none names n) ∙ none_removed name

-- all of a list was written again
pub written : {X : Type 0} (n : ℕ) (xs ws : List X) → n ≡ length ws → take n (ws ++ drop (length ws) xs) ≡ ws
written n xs ws same = ap (λ k. take k (ws ++ drop (length ws) xs)) same ∙ take-append_seam ws (drop (length ws) xs)
