-- Sets of names that grow, and names that differ so far.
use Rattle.std.proofs.Common.{◌≡◌, ℕ, ◌+◌, ◌<◌, Bool, true, false, not, ◌&&◌, ◌||◌, List, [], ◌∷◌, ◌++◌, length, get_or, take, drop, refl, sym, ap, ◌∙◌, bytes_eq}
use Rattle.std.specs.HashSet.{HashSet, PutsKey}
use Rattle.std.specs.List.{list_any}
use Rattle.std.proofs.Math.Bool.{or-false, or_comm, and-false}
use Rattle.std.proofs.lemmas.List.{map_more, take-append-drop, map-append}
use Rattle.std.proofs.lemmas.List.Folds.{list_any-append}
use Rattle.std.proofs.lemmas.List.Sorted.{list_any-IsPermutation}
use Rattle.std.proofs.lemmas.Bool.{not-true}
use Rattle.std.proofs.lemmas.Slice.Eq.{bytes_eq-Decides}
use Rattle.c_rules.specs.Names.{mentions}
use Rattle.first_form.specs.FirstForm.{all_differ}
use Rattle.first_form.specs.Sets.{texts, knows, Knows}
use denote.Ref.{Bor}

pub true_from_not : (b : Bool) → false ≡ not b → b ≡ true
true_from_not true e = refl
true_from_not false e = absurd (cc e)

-- bytes that compare as equal are equal
pub same_bytes : (a b : List ℕ) → bytes_eq a b ≡ true → a ≡ b
same_bytes a b e = (bytes_eq-Decides a b).0 e

pub bytes_eq_self : (a : List ℕ) → bytes_eq a a ≡ true
bytes_eq_self a = (bytes_eq-Decides a a).1 refl

-- a name that is in a list adds nothing to it
kept : (known : List ℕ → Bool) (q k : List ℕ) → known k ≡ true → (b : Bool) → bytes_eq q k ≡ b → known q ≡ (known q || b)
kept known q k has false e = sym (or-false (known q))
kept known q k has true e = let same : known q ≡ true = ap known (same_bytes q k e) ∙ has in rw same refl

-- what a set has once a name is put into it
pub knows_more : {S : Type 0} (s n : HashSet (Bor (List ℕ)) S) (k : Bor (List ℕ)) (added : Bool)
    → PutsKey s n k added → added ≡ not (knows s k.now) → (q : List ℕ) → knows n q ≡ (knows s q || bytes_eq q k.now)
knows_more s n k true h e q = sym (list_any-IsPermutation (λ key. bytes_eq q key.now) (k ∷ s.keys) n.keys h) ∙ or_comm (bytes_eq q k.now) (knows s q)
knows_more s n k false h e q =
    ap (λ ks. list_any (λ (key : Bor (List ℕ)). bytes_eq q key.now) ks) h
    ∙ kept (knows s) q k.now (true_from_not (knows s k.now) e) (bytes_eq q k.now) refl

-- one more name at the end of a list
pub mentions_push : (names : List (List ℕ)) (k q : List ℕ) → mentions (names ++ k ∷ []) q ≡ (mentions names q || bytes_eq q k)
mentions_push names k q = list_any-append (bytes_eq q) names (k ∷ []) ∙ ap (λ b. mentions names q || b) (or-false (bytes_eq q k))

-- a loop's step: the set has the names so far, and then one more
pub knows_step : {S : Type 0} (s n : HashSet (Bor (List ℕ)) S) (k : Bor (List ℕ)) (added : Bool)
    → PutsKey s n k added → added ≡ not (knows s k.now)
    → (names more : List (List ℕ)) → more ≡ names ++ k.now ∷ [] → Knows s names → Knows n more
knows_step s n k added puts is names more e known = λ q.
    knows_more s n k added puts is q ∙ ap (λ b. b || bytes_eq q k.now) (known q)
    ∙ sym (ap (λ xs. mentions xs q) e ∙ mentions_push names k.now q)

-- names that differ, and one more
pub symmetric : (a b : List ℕ) → bytes_eq a b ≡ bytes_eq b a
symmetric a b = by (bytes_eq a b) (bytes_eq b a) refl refl
  where
    by : (x y : Bool) → bytes_eq a b ≡ x → bytes_eq b a ≡ y → bytes_eq a b ≡ bytes_eq b a
    by true true e f = e ∙ sym f
    by false false e f = e ∙ sym f
    by true false e f = ap (λ z. bytes_eq z b) (same_bytes a b e) ∙ ap (λ z. bytes_eq b z) (sym (same_bytes a b e))
    by false true e f = ap (λ z. bytes_eq z b) (sym (same_bytes b a f)) ∙ ap (λ z. bytes_eq b z) (same_bytes b a f)

regroup : (m e d n : Bool) → (not (m || e) && (d && not n)) ≡ ((not m && d) && not (e || n))
regroup true e d n = refl
regroup false true true n = refl
regroup false true false n = refl
regroup false false true n = refl
regroup false false false n = refl

pub differ_push : (names : List (List ℕ)) (k : List ℕ) → all_differ (names ++ k ∷ []) ≡ (all_differ names && not (mentions names k))
differ_push [] k = refl
differ_push (name ∷ names) k =
    rw (mentions_push names k name, differ_push names k, symmetric k name)
    (regroup (mentions names name) (bytes_eq name k) (all_differ names) (mentions names k))

-- names that don't differ so far don't differ
and_false_right : (a b : Bool) → (a && b) ≡ false → a ≡ true → b ≡ false
and_false_right true b e f = e
and_false_right false b e f = absurd (cc f)

front_by : (x : List ℕ) (xs ys : List (List ℕ)) → (all_differ xs ≡ false → all_differ (xs ++ ys) ≡ false)
    → (m : Bool) → mentions xs x ≡ m → (not m && all_differ xs) ≡ false → all_differ (x ∷ xs ++ ys) ≡ false
front_by x xs ys below true f e = rw (list_any-append (bytes_eq x) xs ys, f) refl
front_by x xs ys below false f e = rw (below e) (and-false (not (mentions (xs ++ ys) x)))

pub differ_front : (xs ys : List (List ℕ)) → all_differ xs ≡ false → all_differ (xs ++ ys) ≡ false
differ_front [] ys e = absurd (cc e)
differ_front (x ∷ xs) ys e = front_by x xs ys (differ_front xs ys) (mentions xs x) refl e

-- the next name is one of those before it
pub differ_stops : (all before rest : List (List ℕ)) (k : List ℕ) → all ≡ (before ++ k ∷ []) ++ rest → mentions before k ≡ true → all_differ all ≡ false
differ_stops all before rest k e has =
    ap all_differ e
    ∙ differ_front (before ++ k ∷ []) rest (differ_push before k ∙ rw has (and-false (all_differ before)))

-- the next name is none of those before it
pub differ_step : (before more : List (List ℕ)) (k : List ℕ) → more ≡ before ++ k ∷ [] → mentions before k ≡ false → all_differ before ≡ true → all_differ more ≡ true
differ_step before more k e has differ = ap all_differ e ∙ differ_push before k ∙ rw (has, differ) refl

-- a loop's step where the name is new
pub distinct_step : {S : Type 0} (s n : HashSet (Bor (List ℕ)) S) (k : Bor (List ℕ)) (added : Bool)
    → PutsKey s n k added → added ≡ not (knows s k.now) → added ≡ true
    → (names more : List (List ℕ)) → more ≡ names ++ k.now ∷ [] → Knows s names × (all_differ names ≡ true) → Knows n more × (all_differ more ≡ true)
distinct_step s n k added puts is new names more e known = (
  knows_step s n k added puts is names more e known.0,
  differ_step names more k.now e (sym (known.0 k.now) ∙ not-true (knows s k.now) (sym is ∙ new)) known.1,
)

-- a loop's end where it isn't
pub distinct_stops : {S : Type 0} (s : HashSet (Bor (List ℕ)) S) (k : List ℕ) (added : Bool)
    → added ≡ not (knows s k) → added ≡ false
    → (names : List (Bor (List ℕ))) (i : ℕ) (d : Bor (List ℕ)) → i < length names → k ≡ (get_or names i d).now → Knows s (texts (take i names)) → false ≡ all_differ (texts names)
distinct_stops s k added is old names i d l e known =
    sym (differ_stops (texts names) (texts (take i names)) (texts (drop (i + 1) names)) k
    (sym (ap texts (take-append-drop (i + 1) names)) ∙ map-append (λ r. r.now) (take (i + 1) names) (drop (i + 1) names)
    ∙ ap (λ xs. xs ++ texts (drop (i + 1) names)) (map_more (λ (r : Bor (List ℕ)). r.now) names i d l ∙ ap (λ x. texts (take i names) ++ x ∷ []) (sym e)))
    (sym (known k) ∙ true_from_not (knows s k) (sym old ∙ is)))

-- the same names, written otherwise
pub knows_at : {S : Type 0} (s : HashSet (Bor (List ℕ)) S) (names others : List (List ℕ)) → names ≡ others → Knows s names → Knows s others
knows_at s names others e known = λ q. known q ∙ ap (λ xs. mentions xs q) e
