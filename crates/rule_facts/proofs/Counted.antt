-- Numbers of objects are below how many there are.
use Rattle.std.proofs.Common.{Bool, List, [], arith, false, refl, subst, sym, true, ℕ, ℤ, ◌+◌, ◌<◌, ◌∷◌, ◌≡◌, ◌≤◌}
use Rattle.std.specs.Prelude.{None, Some, bytes_eq, if◌then◌else◌, nat_lt, negsuc, option_map, pos, sum_by, unwrap_or}
use Rattle.std.specs.declared.option.Option.{Option}
use Rattle.std.proofs.lemmas.List.Sums.{sum_by-cons}
use Rattle.c_tree.specs.Bare as bare
use Rattle.c_tree.specs.Numbering.{index_within, member, mutex_count, mutex_of, numbered, object_count}

within_len : (len k r : ℕ) (b : Bool) → nat_lt k len ≡ b → (if b then Some k else None) ≡ Some r → r < len
within_len len k r true e h = let same_one : k ≡ r = cc h in subst (λ n. n < len) same_one (lt_from k len e)
  where
    lt_from : (a b : ℕ) → nat_lt a b ≡ true → a < b
    lt_from a b e = grind arith
within_len len k r false e h = absurd (cc h)

index_bound : (len : ℕ) (index : ℤ) (r : ℕ) → index_within len index ≡ Some r → r < len
index_bound len (pos k) r e = within_len len k r (nat_lt k len) refl e
index_bound len (negsuc k) r e = absurd (cc e)

-- an offset within a length
pub data Offset (before len r : ℕ) : Type 0 where
  offset : (k : ℕ) → k < len → before + k ≡ r → Offset before len r

offset_of : (before len r : ℕ) (o : Option ℕ) → ((k : ℕ) → o ≡ Some k → k < len) → option_map (λ k. before + k) o ≡ Some r → Offset before len r
offset_of before len r None bound e = absurd (cc e)
offset_of before len r (Some k) bound e = Offset.offset k (bound k refl) (cc e)

pub member_offset : (before : ℕ) (len : Option ℕ) (index : Option ℤ) (r : ℕ) → member before len index ≡ Some r → Offset before (unwrap_or len 1) r
member_offset before None None r e = let same_one : before ≡ r = cc e in Offset.offset 0 (omega arith) (omega arith)
member_offset before None (Some z) r e = absurd (cc e)
member_offset before (Some len) None r e = absurd (cc e)
member_offset before (Some len) (Some z) r e = offset_of before len r (index_within len z) (λ k h. index_bound len z k h) e

pub bounds_of : (before count rest r : ℕ) → Offset before count r → (before ≤ r) × (r < before + (count + rest))
bounds_of before count rest r (Offset.offset k less e) = (omega arith, omega arith)

pub bounds_later : (before count rest r : ℕ) → (before + count ≤ r) × (r < before + count + rest) → (before ≤ r) × (r < before + (count + rest))
bounds_later before count rest r h = let a = h.0 in let b = h.1 in (omega arith, omega arith)

pub numbered_bounds : (before : ℕ) (os : List bare.Object) (name : List ℕ) (index : Option ℤ) (r : ℕ) → numbered before os name index ≡ Some r → (before ≤ r) × (r < before + sum_by object_count os)
numbered_bounds before [] name index r e = absurd (cc e)
numbered_bounds before (o ∷ os) name index r e =
    subst (λ n. (before ≤ r) × (r < before + n)) (sym (sum_by-cons object_count o os))
    (go (bytes_eq o.name name) e (numbered_bounds (before + object_count o) os name index r))
  where
    go : (b : Bool) → (if b then member before o.len index else numbered (before + object_count o) os name index) ≡ Some r
        → (numbered (before + object_count o) os name index ≡ Some r → (before + object_count o ≤ r) × (r < before + object_count o + sum_by object_count os))
        → (before ≤ r) × (r < before + (object_count o + sum_by object_count os))
    go true h later = bounds_of before (object_count o) (sum_by object_count os) r (member_offset before o.len index r h)
    go false h later = bounds_later before (object_count o) (sum_by object_count os) r (later h)

pub mutex_below : (p : bare.Program) (name : List ℕ) (index : Option ℤ) (r : ℕ) → mutex_of p name index ≡ Some r → r < mutex_count p
mutex_below p name index r e = let k = (numbered_bounds 0 p.mutexes name index r e).1 in omega (arith, k)
