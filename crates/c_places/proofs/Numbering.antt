-- What a table of names finds is the numbering of a program.
use Rattle.std.proofs.Common.{◌≡◌, ℕ, ℤ, ◌+◌, ◌^◌, ◌<◌, Bool, true, false, cond, nat_lt, List, [], ◌∷◌, length, map, sum_by, bytes_eq, position, find, slice_get, Option, Some, None, option_map, refl, sym, ap, subst, ◌∙◌, arith}
use Rattle.std.specs.Option.{option_and_then}
use Rattle.std.specs.List.{position_from, position_or_len}
use Rattle.std.proofs.lemmas.Iterator.Adapters.{position_from-zero}
use Rattle.std.proofs.lemmas.List.{length-map}
use Rattle.std.proofs.lemmas.List.Folds.{find_at}
use Rattle.std.proofs.lemmas.Option.{slice_get_past}
use Rattle.std.proofs.lemmas.List.Sums.{sum_by-cons}
use Rattle.c_tree.specs.declared.program.Cell as declared_cell
use Rattle.c_tree.specs.declared.program.Array as declared_array
use Rattle.c_tree.specs.declared.program.Function as declared_function
use Rattle.c_tree.specs.Lined.{function_of, bare_cell, bare_array, bare_function}
use Rattle.c_tree.specs.Bare.{Cell, Array, Object, Function, Program}
use Rattle.c_tree.specs.Numbering.{index_within, member, object_count, numbered, array_cell, function_named}
use Rattle.c_places.specs.declared.table.Table.{Table}
use Rattle.c_places.specs.Tables.{IsTableOf, Named, size, sizes, range, ranged, number_in, of_cell, of_array, of_object, of_function}

-- objects, as mutexes and conditions are
pub objects_numbered : (first : ℕ) (os : List Object) (name : List ℕ) (index : Option ℤ) → number_in first (map of_object os) name index ≡ numbered first os name index
objects_numbered first [] name index = refl
objects_numbered first (o ∷ os) name index = go (bytes_eq o.name name) (objects_numbered (first + object_count o) os name index)
  where
    go : (b : Bool) → number_in (first + object_count o) (map of_object os) name index ≡ numbered (first + object_count o) os name index
        → option_and_then (λ r. member r.first r.len index) (cond b (Some (range first o.len)) (ranged (first + object_count o) (map of_object os) name)) ≡ cond b (member first o.len index) (numbered (first + object_count o) os name index)
    go true e = refl
    go false e = e

-- the members of arrays
pub arrays_numbered : (first : ℕ) (arrays : List Array) (name : List ℕ) (index : ℤ) → number_in first (map of_array arrays) name (Some index) ≡ array_cell first arrays name index
arrays_numbered first [] name index = refl
arrays_numbered first (a ∷ arrays) name index = go (bytes_eq a.name name) (arrays_numbered (first + a.len) arrays name index)
  where
    go : (b : Bool) → number_in (first + a.len) (map of_array arrays) name (Some index) ≡ array_cell (first + a.len) arrays name index
        → option_and_then (λ r. member r.first r.len (Some index)) (cond b (Some (range first (Some a.len))) (ranged (first + a.len) (map of_array arrays) name))
        ≡ cond b (option_map (λ k. first + k) (index_within a.len index)) (array_cell (first + a.len) arrays name index)
    go true e = refl
    go false e = e

-- things of one number each, as ints and functions are, are numbered by their places
places_from : {X : Type 0} (name_of : X → List ℕ) (first : ℕ) (xs : List X) (name : List ℕ)
    → number_in first (map (λ x. record { name = name_of x; len = None }) xs) name None ≡ position_from (λ x. bytes_eq (name_of x) name) first xs
places_from name_of first [] name = refl
places_from {X} name_of first (x ∷ xs) name = go (bytes_eq (name_of x) name) (places_from name_of (first + 1) xs name)
  where
    of_one : X → Named
    of_one y = record { name = name_of y; len = None }

    go : (b : Bool) → number_in (first + 1) (map of_one xs) name None ≡ position_from (λ y. bytes_eq (name_of y) name) (first + 1) xs
        → option_and_then (λ r. member r.first r.len None) (cond b (Some (range first None)) (ranged (first + 1) (map of_one xs) name)) ≡ cond b (Some first) (position_from (λ y. bytes_eq (name_of y) name) (first + 1) xs)
    go true e = refl
    go false e = e

pub places : {X : Type 0} (name_of : X → List ℕ) (xs : List X) (name : List ℕ)
    → number_in 0 (map (λ x. record { name = name_of x; len = None }) xs) name None ≡ position (λ x. bytes_eq (name_of x) name) xs
places name_of xs name = places_from name_of 0 xs name ∙ sym (position_from-zero (λ x. bytes_eq (name_of x) name) xs)

sum_by_map : {X Y : Type 0} (f : Y → ℕ) (g : X → Y) (xs : List X) → sum_by f (map g xs) ≡ sum_by (λ x. f (g x)) xs
sum_by_map f g [] = refl
sum_by_map f g (x ∷ xs) = sum_by-cons f (g x) (map g xs) ∙ ap (λ n. f (g x) + n) (sum_by_map f g xs) ∙ sym (sum_by-cons (λ y. f (g y)) x xs)

-- how many numbers things take
sizes_are : {X : Type 0} (f : X → Named) (xs : List X) → sizes (map f xs) ≡ sum_by (λ x. size (f x).len) xs
sizes_are f xs = sum_by_map (λ x. size x.len) f xs

pub objects_take : (os : List Object) → sizes (map of_object os) ≡ sum_by object_count os
objects_take os = sizes_are of_object os

pub arrays_take : (arrays : List Array) → sizes (map of_array arrays) ≡ sum_by (λ a. a.len) arrays
arrays_take arrays = sizes_are of_array arrays

ones : {X : Type 0} (xs : List X) → sum_by (λ x. 1) xs ≡ length xs
ones [] = refl
ones (x ∷ xs) = let e = ones xs in let s = sum_by-cons (λ y. 1) x xs in omega (arith, e, s)

pub ints_take : (cells : List Cell) → sizes (map of_cell cells) ≡ length cells
ints_take cells = sizes_are of_cell cells ∙ ones cells

pub functions_take : (fs : List Function) → sizes (map of_function fs) ≡ length fs
functions_take fs = sizes_are of_function fs ∙ ones fs

pub map_twice : {X Y Z : Type 0} (f : Y → Z) (g : X → Y) (xs : List X) → map (λ x. f (g x)) xs ≡ map f (map g xs)
map_twice f g [] = refl
map_twice f g (x ∷ xs) = ap (λ ys. f (g x) ∷ ys) (map_twice f g xs)

-- how things that are seen through a function are numbered
pub seen : {X Y : Type 0} (f : Y → Named) (g : X → Y) (first n : ℕ) (ys xs : List X) (table : Table) → first ≡ n → ys ≡ xs → IsTableOf first (map (λ x. f (g x)) ys) table → IsTableOf n (map f (map g xs)) table
seen f g first n ys xs table d e h = subst (λ m. IsTableOf m (map f (map g xs)) table) d (subst (λ things. IsTableOf first things table) (ap (map (λ x. f (g x))) e ∙ map_twice f g xs) h)

-- how many cells there are, and how many functions
pub cells_are : (ints : List declared_cell.Cell) (arrays : List declared_array.Array) → length ints + sum_by (λ a. a.len) arrays < 2 ^ 64 → length (map bare_cell ints) + sum_by (λ a. a.len) (map bare_array arrays) < 2 ^ 64
cells_are ints arrays h =
    let e = length-map ints bare_cell in
    let s = sum_by_map (λ a. a.len) bare_array arrays in
    omega (arith, h, e, s)

pub functions_are : (fs : List declared_function.Function) → length fs < 2 ^ 64 → length (map bare_function (map function_of fs)) < 2 ^ 64
functions_are fs h = let e = length-map fs function_of in let d = length-map (map function_of fs) bare_function in omega (arith, h, e, d)

-- the first function of a name stands at its number
pub function_at : (p : Program) (name : List ℕ) → function_named p name ≡ option_and_then (slice_get p.functions) (position (λ f. bytes_eq f.name name) p.functions)
function_at p name = go (λ f. bytes_eq f.name name) p.functions
  where
    within : {X : Type 0} (xs : List X) (n : ℕ) (b : Bool) → nat_lt n (length xs) ≡ b → slice_get xs n ≡ option_and_then (slice_get xs) (cond b (Some n) None)
    within xs n true e = refl
    within xs n false e = slice_get_past xs n (grind (arith, e))

    go : {X : Type 0} (test : X → Bool) (xs : List X) → find test xs ≡ option_and_then (slice_get xs) (position test xs)
    go test xs = find_at test xs ∙ within xs (position_or_len test xs) (nat_lt (position_or_len test xs) (length xs)) refl

pub position_map : {X Y : Type 0} (f : X → Y) (test : Y → Bool) (xs : List X) → position (λ x. test (f x)) xs ≡ position test (map f xs)
position_map {X} {Y} f test xs = position_from-zero (λ x. test (f x)) xs ∙ from 0 xs ∙ sym (position_from-zero test (map f xs))
  where
    from : (n : ℕ) (ys : List X) → position_from (λ x. test (f x)) n ys ≡ position_from test n (map f ys)
    from n [] = refl
    from n (y ∷ ys) = ap (λ (o : Option ℕ). cond (test (f y)) (Some n) o) (from (n + 1) ys)

pub find_map : {X Y : Type 0} (f : X → Y) (test : Y → Bool) (xs : List X) → find test (map f xs) ≡ option_map f (find (λ x. test (f x)) xs)
find_map f test [] = refl
find_map f test (x ∷ xs) = go (test (f x)) (find_map f test xs)
  where
    go : (b : Bool) → find test (map f xs) ≡ option_map f (find (λ y. test (f y)) xs) → cond b (Some (f x)) (find test (map f xs)) ≡ option_map f (cond b (Some x) (find (λ y. test (f y)) xs))
    go true e = refl
    go false e = e
