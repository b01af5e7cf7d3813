-- What is written for a resource names it.
use Rattle.std.proofs.Common.{◌≡◌, ◌∙◌, ℕ, ◌+◌, ◌-◌, ◌<◌, ◌≤◌, Bool, true, false, ◌&&◌, List, [], ◌∷◌, ◌++◌, inl, inr, refl, sym, ap, subst, arith}
use Rattle.std.specs.Prelude.{map, find, nat_le, nat_lt, pos, codes, bytes_eq, sum_by, option_map, unwrap_or, Some, None, if◌then◌else◌}
use Rattle.std.specs.declared.option.Option.{Option}
use Rattle.std.proofs.lemmas.List.Sums.{sum_by-cons}
use Rattle.std.proofs.lemmas.Slice.Eq.{bytes_eq-Decides}
use Rattle.c_tree.specs.declared.program.Mode.{Mode}
use Rattle.c_tree.specs.Bare as bare
use Rattle.c_tree.specs.Lined.{Program, bare_object, bare_program}
use Rattle.c_tree.specs.Numbering.{object_count, member, mutex_count, monitor_resource}
use Rattle.c_rules.specs.Formed.{Formed}
use Rattle.c_rules.proofs.Members.{In, contains_of}
use Rattle.rule_facts.specs.Apart.{Apart}
use Rattle.rule_facts.specs.Regular.{Regular}
use Rattle.rule_facts.proofs.Ruled.{regular}
use Rattle.rule_facts.proofs.Counted.{member_offset, bounds_of, bounds_later}
use Rattle.c_check.specs.Tables.{Numbered, numbered_from, resource_in, numbers_of}
use Rattle.c_check.specs.Written.{bracketed, with_index, holds, name_by, name_of}
use Rattle.table_facts.specs.Named.{written, NamesMutex}
use Rattle.table_facts.proofs.Mutexes.{object_names, mutexes_apart}

-- the mutex, or the array, that has a resource, and the index of it
record HasResource (ms : List Numbered) (os : List bare.Object) (r : ℕ) : Type 0 where
  pub mutex : Numbered
  pub is : find (holds r) ms ≡ Some mutex
  pub among : In mutex.name (object_names os)
  pub index : Option ℕ
  pub text : with_index mutex.len (r - mutex.first) ≡ written index
  pub resource : resource_in ms mutex.name index ≡ Some r

-- the index of the resource behind so many others
abbrev offset : Option ℕ → ℕ → Option ℕ
offset None k = None
offset (Some len) k = Some k

offset_written : (len : Option ℕ) (k : ℕ) → with_index len k ≡ written (offset len k)
offset_written None k = refl
offset_written (Some len) k = refl

lt_is : (a b : ℕ) → a < b → nat_lt a b ≡ true
lt_is a b h = grind arith

offset_member : (before r : ℕ) (len : Option ℕ) → before ≤ r → r < before + unwrap_or len 1 → member before len (option_map (λ k. pos k) (offset len (r - before))) ≡ Some r
offset_member before r None h l = let e : before ≡ r = omega arith in ap (λ n. Some n) e
offset_member before r (Some len) h l =
    let within : nat_lt (r - before) len ≡ true = lt_is (r - before) len (omega arith) in
    let e : before + (r - before) ≡ r = omega arith in
    ap (λ b. option_map (λ k. before + k) (if b then Some (r - before) else None)) within ∙ ap (λ n. Some n) e

held : (before count r : ℕ) → (nat_le before r && nat_lt r (before + count)) ≡ true → (before ≤ r) × (r < before + count)
held before count r e = go (nat_le before r) (nat_lt r (before + count)) refl refl e
  where
    le_of : (a b : ℕ) → nat_le a b ≡ true → a ≤ b
    le_of a b e = grind arith

    lt_of : (a b : ℕ) → nat_lt a b ≡ true → a < b
    lt_of a b e = grind arith

    go : (a b : Bool) → nat_le before r ≡ a → nat_lt r (before + count) ≡ b → (a && b) ≡ true → (before ≤ r) × (r < before + count)
    go true true x y e = (le_of before r x, lt_of r (before + count) y)
    go true false x y e = absurd (cc e)
    go false b x y e = absurd (cc e)

not_held : (before count r : ℕ) → before ≤ r → (nat_le before r && nat_lt r (before + count)) ≡ false → before + count ≤ r
not_held before count r h e = go (nat_le before r) (nat_lt r (before + count)) refl refl e
  where
    not_le : (a b : ℕ) → a ≤ b → nat_le a b ≡ false → ⊥
    not_le a b h e = grind arith

    not_lt : (a b : ℕ) → nat_lt a b ≡ false → b ≤ a
    not_lt a b e = grind arith

    go : (a b : Bool) → nat_le before r ≡ a → nat_lt r (before + count) ≡ b → (a && b) ≡ false → before + count ≤ r
    go true true x y e = absurd (cc e)
    go true false x y e = not_lt r (before + count) y
    go false b x y e = absurd (not_le before r h x)

has_resource : (before : ℕ) (os : List bare.Object) (r : ℕ) → Apart (object_names os) → before ≤ r → r < before + sum_by object_count os → HasResource (numbered_from before os) os r
has_resource before [] r apart h l = absurd (omega arith)
has_resource before (o ∷ os) r apart h l =
    go (holds r (record { name = o.name; len = o.len; first = before })) refl
    (λ k. has_resource (before + object_count o) os r apart.1 k (within before (object_count o) (sum_by object_count os) (sum_by object_count (o ∷ os)) r (sum_by-cons object_count o os) l))
  where
    within : (before a b n r : ℕ) → n ≡ a + b → r < before + n → r < before + a + b
    within before a b n r e l = omega arith

    self : Numbered
    self = record { name = o.name; len = o.len; first = before }

    later : holds r self ≡ false → HasResource (numbered_from (before + object_count o) os) os r → HasResource (numbered_from before (o ∷ os)) (o ∷ os) r
    later other m = record {
      mutex = m.mutex;
      is = ap (λ b. if b then Some self else find (holds r) (numbered_from (before + object_count o) os)) other ∙ m.is;
      among = inr m.among;
      index = m.index;
      text = m.text;
      resource = by (bytes_eq o.name m.mutex.name) refl;
    }
      where
        by : (b : Bool) → bytes_eq o.name m.mutex.name ≡ b
            → (if bytes_eq o.name m.mutex.name then member before o.len (option_map (λ k. pos k) m.index) else resource_in (numbered_from (before + object_count o) os) m.mutex.name m.index) ≡ Some r
        by true e = absurd (apart.0 (contains_of (object_names os) o.name (subst (λ n. In n (object_names os)) (sym ((bytes_eq-Decides o.name m.mutex.name).0 e)) m.among)))
        by false e = ap (λ b. if b then member before o.len (option_map (λ k. pos k) m.index) else resource_in (numbered_from (before + object_count o) os) m.mutex.name m.index) e ∙ m.resource

    here : holds r self ≡ true → HasResource (numbered_from before (o ∷ os)) (o ∷ os) r
    here e =
        let k = held before (unwrap_or o.len 1) r e in
        record {
          mutex = self;
          is = ap (λ b. if b then Some self else find (holds r) (numbered_from (before + object_count o) os)) e;
          among = inl refl;
          index = offset o.len (r - before);
          text = offset_written o.len (r - before);
          resource =
              ap (λ b. if b then member before o.len (option_map (λ k. pos k) (offset o.len (r - before))) else resource_in (numbered_from (before + object_count o) os) o.name (offset o.len (r - before)))
              ((bytes_eq-Decides o.name o.name).1 refl)
              ∙ offset_member before r o.len k.0 k.1;
        }

    go : (b : Bool) → holds r self ≡ b → (before + object_count o ≤ r → HasResource (numbered_from (before + object_count o) os) os r) → HasResource (numbered_from before (o ∷ os)) (o ∷ os) r
    go true e rest = here e
    go false e rest = later e (rest (not_held before (unwrap_or o.len 1) r h e))

pub names_mutex : (p : Program) (mode : Mode) (r : ℕ) → Formed p mode → r < mutex_count (bare_program p) → NamesMutex (bare_program p) (name_of (numbers_of (bare_program p)) r) r
names_mutex p mode r formed l =
    let rules : Regular p = regular p mode formed in
    let m = has_resource 0 (map bare_object p.mutexes) r (mutexes_apart p rules.apart) (omega arith) (from_zero r (mutex_count (bare_program p)) l) in
    record {
      name = m.mutex.name;
      index = m.index;
      is = ap (λ o. name_by o (mutex_count (bare_program p)) r) m.is ∙ ap (λ t. m.mutex.name ++ t) m.text;
      resource = m.resource;
    }
  where
    from_zero : (a b : ℕ) → a < b → a < 0 + b
    from_zero a b h = omega arith

-- ---- monitors

none_holds : (before : ℕ) (os : List bare.Object) (r : ℕ) → before + sum_by object_count os ≤ r → find (holds r) (numbered_from before os) ≡ None
none_holds before [] r h = refl
none_holds before (o ∷ os) r h = go (holds r self) refl (none_holds (before + object_count o) os r (rest before (object_count o) (sum_by object_count os) (sum_by object_count (o ∷ os)) r (sum_by-cons object_count o os) h))
  where
    rest : (before a b n r : ℕ) → n ≡ a + b → before + n ≤ r → before + a + b ≤ r
    rest before a b n r e l = omega arith

    self : Numbered
    self = record { name = o.name; len = o.len; first = before }

    too_far : (a b n count r : ℕ) → n ≡ count + b → a + n ≤ r → r < a + count → ⊥
    too_far a b n count r e l k = omega arith

    go : (b : Bool) → holds r self ≡ b → find (holds r) (numbered_from (before + object_count o) os) ≡ None
        → (if b then Some self else find (holds r) (numbered_from (before + object_count o) os)) ≡ None
    go true e less =
        absurd (too_far before (sum_by object_count os) (sum_by object_count (o ∷ os)) (object_count o) r (sum_by-cons object_count o os) h (held before (unwrap_or o.len 1) r e).1)
    go false e less = less

pub names_monitor : (p : bare.Program) (k : ℕ) → name_of (numbers_of p) (monitor_resource p k) ≡ codes "gd" ++ bracketed k
names_monitor p k =
    ap (λ o. name_by o (mutex_count p) (mutex_count p + k)) (none_holds 0 p.mutexes (mutex_count p + k) (omega arith))
    ∙ ap (λ n. codes "gd" ++ bracketed n) (back (mutex_count p) k)
  where
    back : (a k : ℕ) → a + k - a ≡ k
    back a k = omega arith

-- ---- the number of a mutex

resource_bounds : (before : ℕ) (os : List bare.Object) (name : List ℕ) (index : Option ℕ) (r : ℕ) → resource_in (numbered_from before os) name index ≡ Some r
    → (before ≤ r) × (r < before + sum_by object_count os)
resource_bounds before [] name index r e = absurd (cc e)
resource_bounds before (o ∷ os) name index r e =
    subst (λ n. (before ≤ r) × (r < before + n)) (sym (sum_by-cons object_count o os))
    (go (bytes_eq o.name name) e (resource_bounds (before + object_count o) os name index r))
  where
    go : (b : Bool) → (if b then member before o.len (option_map (λ k. pos k) index) else resource_in (numbered_from (before + object_count o) os) name index) ≡ Some r
        → (resource_in (numbered_from (before + object_count o) os) name index ≡ Some r → (before + object_count o ≤ r) × (r < before + object_count o + sum_by object_count os))
        → (before ≤ r) × (r < before + (object_count o + sum_by object_count os))
    go true h later = bounds_of before (object_count o) (sum_by object_count os) r (member_offset before o.len (option_map (λ k. pos k) index) r h)
    go false h later = bounds_later before (object_count o) (sum_by object_count os) r (later h)

pub resource_below : (p : bare.Program) (name : List ℕ) (index : Option ℕ) (r : ℕ) → resource_in (numbers_of p).mutexes name index ≡ Some r → r < mutex_count p
resource_below p name index r e = let k = (resource_bounds 0 p.mutexes name index r e).1 in omega (arith, k)
