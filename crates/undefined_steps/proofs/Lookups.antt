-- What look-ups of cells and objects that give nothing say.
use Rattle.std.proofs.Common.{◌≡◌, ℕ, ◌+◌, ◌<◌, Bool, true, false, List, [], ◌∷◌, length, Option, Some, None, option_map, cond, inl, inr, refl, ap, ◌∙◌, subst, arith}
use Rattle.std.specs.Prelude.{ℤ, pos, negsuc, Contains, nat_lt, bytes_eq, find, position, slice_get, sum_by}
use Rattle.std.specs.List.{position_or_len}
use Rattle.std.proofs.lemmas.Bool.{ltb-true}
use Rattle.std.proofs.lemmas.Option.{same_Some, slice_get-get_or}
use Rattle.std.proofs.lemmas.List.Sums.{sum_by-cons}
use Rattle.std.proofs.lemmas.Slice.Eq.{bytes_eq-Decides}
use Rattle.c_tree.specs.Bare.{Array, Object, Program}
use Rattle.c_tree.specs.Numbering.{index_within, member, object_count, numbered, array_cell, scalar_cell, element_cell}
use Rattle.c_rules.specs.Uses.{is_indexed_so}
use Rattle.c_rules.proofs.Members.{In, in_of}
use Rattle.reached_states.specs.Lengths.{cell_count}

-- something stands at each place of a list
pub some_there : {X : Type 0} (xs : List X) (k : ℕ) (x : X) → k < length xs → slice_get xs k ≡ None → ⊥
some_there xs k x within e = cc (e, slice_get-get_or xs k x within)

-- a mapped option that is none comes from none
pub none_mapped : {A B : Type 0} (f : A → B) (o : Option A) → option_map f o ≡ None → o ≡ None
none_mapped f None e = refl
none_mapped f (Some x) e = absurd (cc e)

-- ---- positions

pub position_below : {X : Type 0} (test : X → Bool) (xs : List X) (k : ℕ) → position test xs ≡ Some k → k < length xs
position_below test xs k e = by (nat_lt (position_or_len test xs) (length xs)) refl e
  where
    by : (b : Bool) → nat_lt (position_or_len test xs) (length xs) ≡ b → cond b (Some (position_or_len test xs)) None ≡ Some k → k < length xs
    by true less same =
        let is : position_or_len test xs ≡ k = same_Some (position_or_len test xs) k same in
        let below = ltb-true (position_or_len test xs) (length xs) less in omega (arith, is, below)
    by false less same = absurd (cc same)

-- ---- cells

within_below : (len : ℕ) (z : ℤ) (k : ℕ) → index_within len z ≡ Some k → k < len
within_below len (pos j) k e = by (nat_lt j len) refl e
  where
    by : (b : Bool) → nat_lt j len ≡ b → cond b (Some j) None ≡ Some k → k < len
    by true less same = let is : j ≡ k = same_Some j k same in let below = ltb-true j len less in omega (arith, is, below)
    by false less same = absurd (cc same)
within_below len (negsuc j) k e = absurd (cc e)

array_cell_below : (before : ℕ) (arrays : List Array) (name : List ℕ) (z : ℤ) (cell : ℕ) → array_cell before arrays name z ≡ Some cell
    → cell < before + sum_by (λ (a : Array). a.len) arrays
array_cell_below before [] name z cell e = absurd (cc e)
array_cell_below before (a ∷ arrays) name z cell e = by (bytes_eq a.name name) (λ more. array_cell_below (before + a.len) arrays name z cell more) e
  where
    all : sum_by (λ (x : Array). x.len) (a ∷ arrays) ≡ a.len + sum_by (λ (x : Array). x.len) arrays
    all = sum_by-cons (λ (x : Array). x.len) a arrays

    here : (o : Option ℕ) → index_within a.len z ≡ o → option_map (λ k. before + k) o ≡ Some cell → cell < before + sum_by (λ (x : Array). x.len) (a ∷ arrays)
    here None at same = absurd (cc same)
    here (Some k) at same = let is : before + k ≡ cell = same_Some (before + k) cell same in let below = within_below a.len z k at in omega (arith, is, below, all)

    by : (b : Bool) → (array_cell (before + a.len) arrays name z ≡ Some cell → cell < before + a.len + sum_by (λ (x : Array). x.len) arrays)
        → cond b (option_map (λ k. before + k) (index_within a.len z)) (array_cell (before + a.len) arrays name z) ≡ Some cell
        → cell < before + sum_by (λ (x : Array). x.len) (a ∷ arrays)
    by true later same = here (index_within a.len z) refl same
    by false later same = let more = later same in omega (arith, more, all)

pub scalar_below : (p : Program) (name : List ℕ) (cell : ℕ) → scalar_cell p name ≡ Some cell → cell < cell_count p
scalar_below p name cell e = let below = position_below (λ c. bytes_eq c.name name) p.ints cell e in omega (arith, below)

pub element_below : (p : Program) (name : List ℕ) (z : ℤ) (cell : ℕ) → element_cell p name z ≡ Some cell → cell < cell_count p
element_below p name z cell e = let below = array_cell_below (length p.ints) p.arrays name z cell e in omega (arith, below)

-- an array is found where one has the name
find_in : (arrays : List Array) (a : Array) (name : List ℕ) → In a arrays → a.name ≡ name → (b : Array) × (find (λ (x : Array). bytes_eq x.name name) arrays ≡ Some b)
find_in [] a name at named = absurd at
find_in (x ∷ arrays) a name (inl same) named =
    (x, ap (λ b. cond b (Some x) (find (λ (y : Array). bytes_eq y.name name) arrays)) ((bytes_eq-Decides x.name name).1 (ap (λ (y : Array). y.name) same ∙ named)))
find_in (x ∷ arrays) a name (inr at) named = by (bytes_eq x.name name) (find_in arrays a name at named)
  where
    by : (b : Bool) → (z : Array) × (find (λ (y : Array). bytes_eq y.name name) arrays ≡ Some z)
        → (z : Array) × (cond b (Some x) (find (λ (y : Array). bytes_eq y.name name) arrays) ≡ Some z)
    by true later = (x, refl)
    by false later = later

pub find_array : (arrays : List Array) (a : Array) (name : List ℕ) → Contains arrays a → a.name ≡ name → (b : Array) × (find (λ (x : Array). bytes_eq x.name name) arrays ≡ Some b)
find_array arrays a name at named = find_in arrays a name (in_of arrays a at) named

-- the first array of a name decides
pub array_none : (before : ℕ) (arrays : List Array) (name : List ℕ) (z : ℤ) (a : Array) → find (λ (x : Array). bytes_eq x.name name) arrays ≡ Some a → array_cell before arrays name z ≡ None
    → index_within a.len z ≡ None
array_none before [] name z a found none = absurd (cc found)
array_none before (x ∷ arrays) name z a found none = by (bytes_eq x.name name) (λ f n. array_none (before + x.len) arrays name z a f n) found none
  where
    by : (b : Bool) → (find (λ (y : Array). bytes_eq y.name name) arrays ≡ Some a → array_cell (before + x.len) arrays name z ≡ None → index_within a.len z ≡ None)
        → cond b (Some x) (find (λ (y : Array). bytes_eq y.name name) arrays) ≡ Some a
        → cond b (option_map (λ k. before + k) (index_within x.len z)) (array_cell (before + x.len) arrays name z) ≡ None → index_within a.len z ≡ None
    by true later f n = let same : x ≡ a = same_Some x a f in subst (λ (y : Array). index_within y.len z ≡ None) same (none_mapped (λ k. before + k) (index_within x.len z) n)
    by false later f n = later f n

-- ---- objects

-- the first object of a name decides
record IsMember (o : Object) (index : Option ℤ) : Type 0 where
  place : ℕ
  none : member place o.len index ≡ None

object_none : (before : ℕ) (objects : List Object) (name : List ℕ) (index : Option ℤ) (o : Object) → find (λ (x : Object). bytes_eq x.name name) objects ≡ Some o
    → numbered before objects name index ≡ None → IsMember o index
object_none before [] name index o found none = absurd (cc found)
object_none before (x ∷ objects) name index o found none = by (bytes_eq x.name name) (λ f n. object_none (before + object_count x) objects name index o f n) found none
  where
    by : (b : Bool) → (find (λ (y : Object). bytes_eq y.name name) objects ≡ Some o → numbered (before + object_count x) objects name index ≡ None → IsMember o index)
        → cond b (Some x) (find (λ (y : Object). bytes_eq y.name name) objects) ≡ Some o
        → cond b (member before x.len index) (numbered (before + object_count x) objects name index) ≡ None → IsMember o index
    by true later f n = let same : x ≡ o = same_Some x o f in subst (λ (y : Object). IsMember y index) same (record { place = before; none = n })
    by false later f n = later f n

-- an object that stands alone has a number
pub alone_there : (objects : List Object) (name : List ℕ) (o : Object) → find (λ (x : Object). bytes_eq x.name name) objects ≡ Some o → is_indexed_so o.len false ≡ true
    → numbered 0 objects name None ≡ None → ⊥
alone_there objects name o found indexed none = let m = object_none 0 objects name None o found none in by o.len indexed m.place m.none
  where
    by : (len : Option ℕ) → is_indexed_so len false ≡ true → (place : ℕ) → member place len None ≡ None → ⊥
    by None i place n = cc n
    by (Some len) i place n = cc i

-- where a member has no number, its index is out of range
pub record Outside (o : Object) (z : ℤ) : Type 0 where
  pub len : ℕ
  pub is_array : o.len ≡ Some len
  pub outside : index_within len z ≡ None

pub member_outside : (objects : List Object) (name : List ℕ) (z : ℤ) (o : Object) → find (λ (x : Object). bytes_eq x.name name) objects ≡ Some o → is_indexed_so o.len true ≡ true
    → numbered 0 objects name (Some z) ≡ None → Outside o z
member_outside objects name z o found indexed none = let m = object_none 0 objects name (Some z) o found none in by o.len refl indexed m.place m.none
  where
    by : (len : Option ℕ) → o.len ≡ len → is_indexed_so len true ≡ true → (place : ℕ) → member place len (Some z) ≡ None → Outside o z
    by None e i place n = absurd (cc i)
    by (Some len) e i place n = record { len = len; is_array = e; outside = none_mapped (λ k. place + k) (index_within len z) n }
