-- What is known after a change.
use Rattle.std.proofs.Common.{◌≡◌, ◌≢◌, ℕ, zero, suc, ◌+◌, ◌-◌, ◌<◌, ◌≤◌, Bool, true, false, List, [], ◌∷◌, ◌++◌, length, get_or, drop, reverse, refl, sym, ap, ◌∙◌, Option, Some, None, arith, if◌then◌else◌, cond, subst, min, inl, inr, ◌⊎◌}
use Rattle.std.specs.Prelude.{ℤ, ◌&&◌, not, nat_lt, bytes_eq, is_some, position, slice_get, slice_set, unwrap_or, All}
use Rattle.std.specs.List.{list_any, position_or_len}
use Rattle.std.proofs.lemmas.List.Folds.{list_any_at, list_any_none}
use Rattle.std.proofs.lemmas.List.Elements.{All-from_get_or}
use Rattle.std.proofs.lemmas.List.Sums.{fails_before_first}
use Rattle.std.proofs.lemmas.Bool.Decides.{nat_tests}
use Rattle.std.proofs.lemmas.List.{reverse-append, drop_more, drop_all}
use Rattle.std.proofs.lemmas.List.Quantifiers.{position-Some}
use Rattle.std.proofs.lemmas.Bool.{cases_lt}
use Rattle.std.proofs.lemmas.Slice.Eq.{bytes_eq-Decides}
use denote.Ref.{Bor}
use Rattle.c_meaning.proofs.Reading.{unwritten, same_bytes, bytes_eq_itself}
use Rattle.contexts.specs.Constants.{Constants, among, none_known, with_value}
use Rattle.contexts.specs.Resolved.{passed}
use Rattle.context_locals.specs.declared.names.ConstantNames.{ConstantNames}
use Rattle.context_locals.specs.declared.known.Known.{Known}
use Rattle.context_locals.specs.declared.known.Change.{Change}
use Rattle.context_locals.specs.declared.known.Change.TheVariants.{Opens, Sets}
use Rattle.context_locals.specs.Known.{is_in, place_of, count_of, value_at, known_by, outers, known_of, IsBased, IsKept, AreConstantNames, AreWithin}

pub same_constants : (a b : Constants) → ((q : List ℕ) → a q ≡ b q) → a ≡ b
same_constants a b same = λ i q. same q i

-- ---- places of names

-- two names at one place are one
one_name : (keys : List (Bor (List ℕ))) (a b : List ℕ) (k : ℕ) → position (λ key. bytes_eq a key.now) keys ≡ Some k → position (λ key. bytes_eq b key.now) keys ≡ Some k → a ≡ b
one_name [] a b k first second = absurd (cc first)
one_name (d ∷ keys) a b k first second =
    same_bytes a (get_or (d ∷ keys) k d).now (position-Some (λ key. bytes_eq a key.now) (d ∷ keys) k d first).1
    ∙ sym (same_bytes b (get_or (d ∷ keys) k d).now (position-Some (λ key. bytes_eq b key.now) (d ∷ keys) k d second).1)

-- where a test has no first place, it fails everywhere
nowhere : {X : Type 0} (test : X → Bool) (xs : List X) → position test xs ≡ None → list_any test xs ≡ false
nowhere test [] none = refl
nowhere test (d ∷ xs) none = list_any_none test (d ∷ xs) (all_fail (nat_lt (position_or_len test (d ∷ xs)) (length (d ∷ xs))) refl none)
  where
    not_less : (a b : ℕ) → nat_lt a b ≡ false → b ≤ a
    not_less a b e = grind (arith, nat_tests)

    all_fail : (b : Bool) → nat_lt (position_or_len test (d ∷ xs)) (length (d ∷ xs)) ≡ b → cond b (Some (position_or_len test (d ∷ xs))) None ≡ None → All (λ x. test x ≡ false) (d ∷ xs)
    all_fail true e clash = absurd (cc clash)
    all_fail false e same = All-from_get_or (λ x. test x ≡ false) (d ∷ xs) d (λ k within. fails_before_first test (d ∷ xs) k d (omega (arith, within, not_less (position_or_len test (d ∷ xs)) (length (d ∷ xs)) e)))

-- a place is there where the name is
pub place_in : (names : ConstantNames) (q : List ℕ) → is_some (place_of names q) ≡ is_in names q
place_in names q = by names.names.keys (place_of names q) refl
  where
    by : (keys : List (Bor (List ℕ))) (o : Option ℕ) → position (λ key. bytes_eq q key.now) keys ≡ o → is_some o ≡ list_any (λ key. bytes_eq q key.now) keys
    by keys None at = sym (nowhere (λ key. bytes_eq q key.now) keys at)
    by [] (Some k) at = absurd (cc at)
    by (d ∷ keys) (Some k) at =
        let first = position-Some (λ key. bytes_eq q key.now) (d ∷ keys) k d at in sym (list_any_at (λ key. bytes_eq q key.now) (d ∷ keys) k d first.0 first.1)

pub place_within : (names : ConstantNames) (q : List ℕ) (k : ℕ) → place_of names q ≡ Some k → k < count_of names
place_within names q k at = by names.names.keys at
  where
    by : (keys : List (Bor (List ℕ))) → position (λ key. bytes_eq q key.now) keys ≡ Some k → k < length keys
    by [] at = absurd (cc at)
    by (d ∷ keys) at = (position-Some (λ key. bytes_eq q key.now) (d ∷ keys) k d at).0

read_written : (values : List (Option ℤ)) (k : ℕ) (z : Option ℤ) → k < length values → unwrap_or (slice_get (slice_set values k z) k) None ≡ z
read_written [] k z within = absurd (omega (arith, within))
read_written (value ∷ values) zero z within = refl
read_written (value ∷ values) (suc k) z within = read_written values k z (omega (arith, within))

module _ (names : ConstantNames) (values : List (Option ℤ)) where
  -- a value that is set is known under its name, and nothing else changes
  pub set_known : (k : ℕ) (name : List ℕ) (z : Option ℤ) → place_of names name ≡ Some k → k < length values → known_by names (slice_set values k z) ≡ with_value (known_by names values) name z
  set_known k name z here within = same_constants (known_by names (slice_set values k z)) (with_value (known_by names values) name z) (λ q. by q (bytes_eq q name) refl (place_of names q) refl)
    where
      elsewhere : (q : List ℕ) (o : Option ℕ) → bytes_eq q name ≡ false → place_of names q ≡ o → value_at (slice_set values k z) o ≡ value_at values o
      elsewhere q None other at = refl
      elsewhere q (Some j) other at = ap (λ o. unwrap_or o None) (unwritten values k j z (λ same. absurd (
          let one : q ≡ name = one_name names.names.keys q name k (at ∙ ap Some same) here in
          let bad : true ≡ false = sym ((bytes_eq-Decides q name).1 one) ∙ other in cc bad)))

      by : (q : List ℕ) (b : Bool) → bytes_eq q name ≡ b → (o : Option ℕ) → place_of names q ≡ o → value_at (slice_set values k z) (place_of names q) ≡ (if b then z else value_at values (place_of names q))
      by q true same o at =
          ap (value_at (slice_set values k z)) (ap (place_of names) (same_bytes q name same) ∙ here) ∙ read_written values k z within
      by q false other o at = ap (value_at (slice_set values k z)) at ∙ elsewhere q o other at ∙ ap (value_at values) (sym at)

  -- a name without a place stays unknown
  pub unset_known : (name : List ℕ) → place_of names name ≡ None → known_by names values ≡ with_value (known_by names values) name None
  unset_known name none = same_constants (known_by names values) (with_value (known_by names values) name None) (λ q. by q (bytes_eq q name) refl)
    where
      by : (q : List ℕ) (b : Bool) → bytes_eq q name ≡ b → value_at values (place_of names q) ≡ (if b then None else value_at values (place_of names q))
      by q true same = ap (value_at values) (ap (place_of names) (same_bytes q name same) ∙ none)
      by q false other = refl

-- what a declaration makes known
pub now_known : (before names : ConstantNames) (values given new : List (Option ℤ)) (local : Option ℕ) (k : ℕ) (name : List ℕ) (z : Option ℤ) → length values ≡ count_of before
    → names ≡ before → given ≡ values → new ≡ slice_set given k z → local ≡ Some k → place_of before name ≡ local
    → known_by names new ≡ with_value (known_by before values) name (if is_some local then z else None)
now_known before names values given new local k name z full same_names same_values sets is at =
    ap (λ ns. known_by ns new) same_names ∙ ap (known_by before) (sets ∙ ap (λ vs. slice_set vs k z) same_values)
    ∙ set_known before values k name z (at ∙ is) (subst (λ n. k < n) (sym full) (place_within before name k (at ∙ is)))
    ∙ ap (λ o. with_value (known_by before values) name (if is_some o then z else None)) (sym is)

-- ---- arguments

passed_start : (writes params : List (List ℕ)) (args : List (Option ℤ)) (k : ℕ) → k ≡ min (length params) (length args) → passed writes (drop k params) (drop k args) ≡ none_known
passed_start writes params args k is = by (cases_lt (length params) (length args))
  where
    no_values : (names : List (List ℕ)) → passed writes names [] ≡ none_known
    no_values [] = refl
    no_values (name ∷ names) = refl

    by : (length params < length args) ⊎ (length args ≤ length params) → passed writes (drop k params) (drop k args) ≡ none_known
    by (inl less) = ap (λ names. passed writes names (drop k args)) (drop_all k params (omega (arith, is, less)))
    by (inr more) = ap (passed writes (drop k params)) (drop_all k args (omega (arith, is, more))) ∙ no_values (drop k params)

-- a parameter has a number exactly where nothing writes into it
param_place : (names : ConstantNames) (writes locals params : List (List ℕ)) (k : ℕ) (name : List ℕ) (z : Option ℤ) → AreConstantNames writes locals names → AreWithin params locals → k < length params
    → name ≡ get_or params k name → (if is_some (place_of names name) then z else None) ≡ (if among writes name then None else z)
param_place names writes locals params k name z are inside within is =
    ap (λ b. if b then z else None) (place_in names name ∙ are name ∙ ap (λ b. b && not (among writes name)) (inside name there)) ∙ turned (among writes name)
  where
    there : among params name ≡ true
    there = list_any_at (bytes_eq name) params k name within (ap (bytes_eq name) (sym is) ∙ bytes_eq_itself name)

    turned : (b : Bool) → (if true && not b then z else None) ≡ (if b then None else z)
    turned true = refl
    turned false = refl

passed_turn : (names : ConstantNames) (writes locals params : List (List ℕ)) (args : List (Option ℤ)) (k : ℕ) (name : List ℕ) (z d : Option ℤ) (before now : Constants) → AreConstantNames writes locals names
    → AreWithin params locals → 0 < k → k ≤ length params → k ≤ length args → name ≡ get_or params (k - 1) name → z ≡ get_or args (k - 1) d → before ≡ passed writes (drop k params) (drop k args)
    → now ≡ with_value before name (if is_some (place_of names name) then z else None) → now ≡ passed writes (drop (k - 1) params) (drop (k - 1) args)
passed_turn names writes locals params args k name z d before now are inside some in_params in_args is_name is_value so_far sets =
    let next : (k - 1) + 1 ≡ k = omega (arith, some) in
    let text : drop (k - 1) params ≡ name ∷ drop k params =
    drop_more params (k - 1) name (omega (arith, some, in_params)) ∙ ap (λ n. n ∷ drop ((k - 1) + 1) params) (sym is_name) ∙ ap (λ j. name ∷ drop j params) next in
    let values : drop (k - 1) args ≡ z ∷ drop k args =
    drop_more args (k - 1) d (omega (arith, some, in_args)) ∙ ap (λ n. n ∷ drop ((k - 1) + 1) args) (sym is_value) ∙ ap (λ j. z ∷ drop j args) next in
    sets ∙ ap (with_value before name) (param_place names writes locals params (k - 1) name z are inside (omega (arith, some, in_params)) is_name)
    ∙ ap (λ m. with_value m name (if among writes name then None else z)) so_far ∙ ap (λ ns. passed writes ns (z ∷ drop k args)) (sym text) ∙ ap (passed writes (drop (k - 1) params)) (sym values)

-- the later parameters have their arguments
pub record Passing (names : ConstantNames) (params : List (List ℕ)) (args : List (Option ℤ)) (k : ℕ) (now : Known) : Type 0 where
  pub names_are : now.names.now ≡ names
  pub changes : now.changes.items ≡ []
  pub kept : IsKept now
  pub known : (writes locals : List (List ℕ)) → AreConstantNames writes locals names → AreWithin params locals → known_of now ≡ passed writes (drop k params) (drop k args)

pub begins : (names : ConstantNames) (params : List (List ℕ)) (args : List (Option ℤ)) (k : ℕ) (now : Known) → now.names.now ≡ names → now.changes.items ≡ [] → IsKept now → known_of now ≡ none_known
    → k ≡ min (length params) (length args) → Passing names params args k now
begins names params args k now names_are changes kept none is = record {
  names_are = names_are;
  changes = changes;
  kept = kept;
  known = λ writes locals are inside. none ∙ sym (passed_start writes params args k is);
}

pub goes_on : (names : ConstantNames) (params : List (List ℕ)) (args : List (Option ℤ)) (k : ℕ) (before now : Known) (name : List ℕ) (z d : Option ℤ) → Passing names params args k before
    → 0 < k → k ≤ length params → k ≤ length args → name ≡ get_or params (k - 1) name → z ≡ get_or args (k - 1) d
    → known_of now ≡ with_value (known_of before) name (if is_some (place_of before.names.now name) then z else None) → now.names ≡ before.names → now.changes ≡ before.changes → IsKept now
    → Passing names params args (k - 1) now
goes_on names params args k before now name z d so_far some in_params in_args is_name is_value sets same_names same_changes kept = record {
  names_are = ap (λ n. n.now) same_names ∙ so_far.names_are;
  changes = ap (λ c. c.items) same_changes ∙ so_far.changes;
  kept = kept;
  known = λ writes locals are inside. passed_turn names writes locals params args k name z d (known_of before) (known_of now) are inside some in_params in_args is_name is_value
      (so_far.known writes locals are inside) (sets ∙ ap (λ ns. with_value (known_of before) name (if is_some (place_of ns name) then z else None)) so_far.names_are);
}

pub all_passed : (names : ConstantNames) (params : List (List ℕ)) (args : List (Option ℤ)) (k : ℕ) (now : Known) → Passing names params args k now → k ≡ 0
    → (writes locals : List (List ℕ)) → AreConstantNames writes locals names → AreWithin params locals → known_of now ≡ passed writes params args
all_passed names params args k now so_far none writes locals are inside = so_far.known writes locals are inside ∙ ap (λ j. passed writes (drop j params) (drop j args)) none

-- ---- changes, the last of which is taken back

reversed : (rest items : List Change) (change : Change) → items ≡ rest ++ change ∷ [] → reverse items ≡ change ∷ reverse rest
reversed rest items change e = ap reverse e ∙ reverse-append rest (change ∷ [])

pub based_rest : (rest : List Change) (change : Change) → IsBased (rest ++ change ∷ []) → IsBased rest
based_rest [] change based = tt
based_rest (c ∷ rest) change based = based

pub based_more : (rest : List Change) (change : Change) → rest ≢ [] → IsBased rest → IsBased (rest ++ change ∷ [])
based_more [] change some based = absurd (some refl)
based_more (c ∷ rest) change some based = based

pub based_sets : (rest : List Change) (k : ℕ) (z : Option ℤ) → IsBased (rest ++ Sets k z ∷ []) → rest ≢ []
based_sets [] k z based none = cc based
based_sets (c ∷ rest) k z based none = cc none

-- what is taken back: a value that was set
pub taken_back : (names : ConstantNames) (values : List (Option ℤ)) (rest items : List Change) (k : ℕ) (z : Option ℤ) → items ≡ rest ++ Sets k z ∷ []
    → outers names values (reverse items) ≡ outers names (slice_set values k z) (reverse rest)
taken_back names values rest items k z e = ap (outers names values) (reversed rest items (Sets k z) e)

-- or the beginning of a block
pub begun : (names : ConstantNames) (values : List (Option ℤ)) (rest items : List Change) → items ≡ rest ++ Opens ∷ []
    → outers names values (reverse items) ≡ known_by names values ∷ outers names values (reverse rest)
begun names values rest items e = ap (outers names values) (reversed rest items Opens e)

-- setting a value and taking it back changes nothing
pub set_back : (values : List (Option ℤ)) (k : ℕ) (z : Option ℤ) → slice_set (slice_set values k z) k (unwrap_or (slice_get values k) None) ≡ values
set_back [] k z = refl
set_back (value ∷ values) zero z = refl
set_back (value ∷ values) (suc k) z = ap (λ vs. value ∷ vs) (set_back values k z)

-- what was known around blocks stays, where the change is kept
pub outers_kept : (before names : ConstantNames) (values given new : List (Option ℤ)) (old changes : List Change) (k : ℕ) (z kept : Option ℤ) → names ≡ before → given ≡ values
    → new ≡ slice_set given k z → changes ≡ old ++ Sets k kept ∷ [] → kept ≡ value_at values (Some k) → outers names new (reverse changes) ≡ outers before values (reverse old)
outers_kept before names values given new old changes k z kept same_names same_values sets pushed is =
    ap (λ ns. outers ns new (reverse changes)) same_names ∙ taken_back before new old changes k kept pushed
    ∙ ap (λ vs. outers before vs (reverse old)) (ap (λ o. slice_set new k o) is ∙ ap (λ vs. slice_set vs k (value_at values (Some k))) (sets ∙ ap (λ vs. slice_set vs k z) same_values) ∙ set_back values k z)

-- or where there is none
pub outers_none : (before names : ConstantNames) (values new : List (Option ℤ)) (old changes : List Change) → changes ≡ old → old ≡ [] → outers names new (reverse changes) ≡ outers before values (reverse old)
outers_none before names values new old changes same none =
    ap (λ cs. outers names new (reverse cs)) (same ∙ none) ∙ sym (ap (λ cs. outers before values (reverse cs)) none)

pub no_items : {X : Type 0} (xs : List X) → length xs ≡ 0 → xs ≡ []
no_items [] none = refl
no_items (x ∷ xs) none = absurd (omega (arith, none))
