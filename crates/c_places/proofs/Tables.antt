-- What a table of names finds.
use Rattle.std.proofs.Common.{◌≡◌, ℕ, ℤ, pos, negsuc, ◌+◌, ◌*◌, ◌^◌, ◌<◌, ◌≤◌, Bool, true, false, cond, nat_lt, List, [], ◌∷◌, ◌++◌, bytes_eq, Option, Some, None, is_some, option_map, refl, sym, ap, ◌∙◌, arith}
use Rattle.std.specs.Option.{option_or, option_and_then, option_map_or}
use Rattle.std.specs.Map.{lookup}
use Rattle.std.proofs.lemmas.List.Sums.{sum_by-cons}
use Rattle.std.proofs.lemmas.Slice.Eq.{bytes_eq-Decides}
use Rattle.std.proofs.lemmas.Bool.{false≢true}
use Rattle.c_tree.specs.Numbering.{index_within, member}
use Rattle.c_places.specs.declared.table.Range.{Range}
use Rattle.c_places.specs.declared.table.Table.{Table}
use Rattle.c_places.specs.Tables.{Named, size, sizes, found, range, ranged, number_in, IsTableOf}

-- bytes compare alike either way
either_way : (a b : List ℕ) → bytes_eq a b ≡ bytes_eq b a
either_way a b = go (bytes_eq a b) (bytes_eq b a) refl refl
  where
    go : (x y : Bool) → bytes_eq a b ≡ x → bytes_eq b a ≡ y → bytes_eq a b ≡ bytes_eq b a
    go true true e f = e ∙ sym f
    go false false e f = e ∙ sym f
    go true false e f = e ∙ sym ((bytes_eq-Decides b a).1 (sym ((bytes_eq-Decides a b).0 e)))
    go false true e f = (bytes_eq-Decides a b).1 (sym ((bytes_eq-Decides b a).0 f)) ∙ sym f

lookup_last : {K X : Type 0} (test : K → Bool) (es : List (K × X)) (k : K) (x : X) → lookup test (es ++ (k, x) ∷ []) ≡ option_or (lookup test es) (cond (test k) (Some x) None)
lookup_last test [] k x = refl
lookup_last {K} {X} test (e ∷ es) k x = ap (λ (o : Option X). cond (test e.0) (Some e.1) o) (lookup_last test es k x) ∙ go (test e.0)
  where
    go : (b : Bool) → cond b (Some e.1) (option_or (lookup test es) (cond (test k) (Some x) None)) ≡ option_or (cond b (Some e.1) (lookup test es)) (cond (test k) (Some x) None)
    go true = refl
    go false = refl

-- the first number of a thing that is found isn't past the numbers that are given
pub first_within : (first : ℕ) (things : List Named) (name : List ℕ) (r : Range) → ranged first things name ≡ Some r → r.first ≤ first + sizes things
first_within first [] name r e = absurd cc
first_within first (x ∷ xs) name r e = go (bytes_eq x.name name) e (λ f. first_within (first + size x.len) xs name r f)
  where
    go : (b : Bool) → cond b (Some (range first x.len)) (ranged (first + size x.len) xs name) ≡ Some r → (ranged (first + size x.len) xs name ≡ Some r → r.first ≤ first + size x.len + sizes xs) → r.first ≤ first + sizes (x ∷ xs)
    go true f further =
        let g : first ≡ r.first = ap (λ (o : Option Range). option_map_or (λ s. s.first) o 0) f in
        let s : sizes (x ∷ xs) ≡ size x.len + sizes xs = sum_by-cons (λ y. size y.len) x xs in
        omega (arith, g, s)
    go false f further =
        let g = further f in
        let s : sizes (x ∷ xs) ≡ size x.len + sizes xs = sum_by-cons (λ y. size y.len) x xs in
        omega (arith, g, s)

index_below : (len k : ℕ) (index : ℤ) → index_within len index ≡ Some k → k < len
index_below len k (negsuc n) e = absurd cc
index_below len k (pos n) e = go (nat_lt n len) refl e
  where
    go : (b : Bool) → nat_lt n len ≡ b → cond b (Some n) None ≡ Some k → k < len
    go true f g = let h : n ≡ k = ap (λ (o : Option ℕ). option_map_or (λ m. m) o 0) g in grind (arith, f, h)
    go false f g = absurd cc

member_within : (first k : ℕ) (len : Option ℕ) (index : Option ℤ) → member first len index ≡ Some k → k < first + size len
member_within first k None None e = let g : first ≡ k = ap (λ (o : Option ℕ). option_map_or (λ n. n) o 0) e in omega (arith, g)
member_within first k None (Some index) e = absurd cc
member_within first k (Some len) None e = absurd cc
member_within first k (Some len) (Some index) e = go (index_within len index) refl e
  where
    go : (o : Option ℕ) → index_within len index ≡ o → option_map (λ n. first + n) o ≡ Some k → k < first + len
    go None f g = absurd cc
    go (Some n) f g =
        let l = index_below len n index f in
        let h : first + n ≡ k = ap (λ (o : Option ℕ). option_map_or (λ m. m) o 0) g in
        omega (arith, l, h)

-- each number of a thing that is found is among the numbers that are given
pub number_within : (first : ℕ) (things : List Named) (name : List ℕ) (index : Option ℤ) (k : ℕ) → number_in first things name index ≡ Some k → k < first + sizes things
number_within first [] name index k e = absurd cc
number_within first (x ∷ xs) name index k e = go (bytes_eq x.name name) e (λ f. number_within (first + size x.len) xs name index k f)
  where
    go : (b : Bool) → option_and_then (λ r. member r.first r.len index) (cond b (Some (range first x.len)) (ranged (first + size x.len) xs name)) ≡ Some k
        → (number_in (first + size x.len) xs name index ≡ Some k → k < first + size x.len + sizes xs) → k < first + sizes (x ∷ xs)
    go true f further =
        let g = member_within first k x.len index f in
        let s : sizes (x ∷ xs) ≡ size x.len + sizes xs = sum_by-cons (λ y. size y.len) x xs in
        omega (arith, g, s)
    go false f further =
        let g = further f in
        let s : sizes (x ∷ xs) ≡ size x.len + sizes xs = sum_by-cons (λ y. size y.len) x xs in
        omega (arith, g, s)

-- one more thing behind others
pub one_more : (o : Option Range) (b : Bool) (r : Range) (rest : Option Range) → option_or (option_or o (cond b (Some r) None)) rest ≡ option_or o (cond b (Some r) rest)
one_more None true r rest = refl
one_more None false r rest = refl
one_more (Some s) b r rest = refl

pub or_none : (o : Option Range) → option_or o None ≡ o
or_none None = refl
or_none (Some r) = refl

-- what a table finds where one more entry is behind the others
pub found_behind : {X : Type 0} (es : List (X × Range)) (text : X → List ℕ) (key : X) (r : Range) (name n : List ℕ) → text key ≡ name
    → lookup (λ k. bytes_eq n (text k)) (es ++ (key, r) ∷ []) ≡ option_or (lookup (λ k. bytes_eq n (text k)) es) (cond (bytes_eq name n) (Some r) None)
found_behind es text key r name n e =
    lookup_last (λ k. bytes_eq n (text k)) es key r ∙ ap (λ b. option_or (lookup (λ k. bytes_eq n (text k)) es) (cond b (Some r) None)) (either_way n (text key) ∙ ap (λ t. bytes_eq t n) e)

pub absent : (o : Option Range) → is_some o ≡ false → o ≡ None
absent None e = refl
absent (Some r) e = absurd (false≢true (sym e))

-- what it finds where the name was there
pub found_already : {X : Type 0} (es : List (X × Range)) (text : X → List ℕ) (r : Range) (name n : List ℕ) → is_some (lookup (λ k. bytes_eq name (text k)) es) ≡ true
    → lookup (λ k. bytes_eq n (text k)) es ≡ option_or (lookup (λ k. bytes_eq n (text k)) es) (cond (bytes_eq name n) (Some r) None)
found_already es text r name n e = go (bytes_eq name n) refl
  where
    present : (o : Option Range) → is_some o ≡ true → o ≡ option_or o (Some r)
    present None f = absurd (false≢true f)
    present (Some s) f = refl

    go : (b : Bool) → bytes_eq name n ≡ b → lookup (λ k. bytes_eq n (text k)) es ≡ option_or (lookup (λ k. bytes_eq n (text k)) es) (cond b (Some r) None)
    go true f = present (lookup (λ k. bytes_eq n (text k)) es) (ap (λ t. is_some (lookup (λ k. bytes_eq t (text k)) es)) (sym ((bytes_eq-Decides name n).0 f)) ∙ e)
    go false f = sym (or_none (lookup (λ k. bytes_eq n (text k)) es))

-- what is left to number leads to all numbers
pub record Leads (first : ℕ) (all rest : List Named) (done : ℕ) (table : Table) : Type 0 where
  pub finds : (name : List ℕ) → option_or (found table name) (ranged table.next rest name) ≡ ranged first all name
  pub adds : table.next + sizes rest ≡ first + sizes all
  pub small : table.next ≤ first + done * 2 ^ 32

-- one more thing is numbered
pub leads_on : (first : ℕ) (all rest : List Named) (done : ℕ) (x : Named) (old new : Table) → Leads first all (x ∷ rest) done old → size x.len ≤ 2 ^ 32
    → ((name : List ℕ) → found new name ≡ option_or (found old name) (cond (bytes_eq x.name name) (Some (range old.next x.len)) None)) → new.next ≡ old.next + size x.len
    → Leads first all rest (done + 1) new
leads_on first all rest done x old new h len finds next = record {
  finds = λ name.
      ap (λ o. option_or o (ranged new.next rest name)) (finds name) ∙ ap (λ n. option_or (option_or (found old name) (cond (bytes_eq x.name name) (Some (range old.next x.len)) None)) (ranged n rest name)) next
      ∙ one_more (found old name) (bytes_eq x.name name) (range old.next x.len) (ranged (old.next + size x.len) rest name) ∙ h.finds name;
  adds = let s : sizes (x ∷ rest) ≡ size x.len + sizes rest = sum_by-cons (λ y. size y.len) x rest in omega (arith, h.adds, s, next);
  small = omega (arith, h.small, next, len);
}

-- all things are numbered
pub all_found : (first : ℕ) (all : List Named) (done : ℕ) (table : Table) → Leads first all [] done table → first < 2 ^ 64 → done < 2 ^ 64 → IsTableOf first all table
all_found first all done table h small few = record {
  finds = λ name. sym (or_none (found table name)) ∙ h.finds name;
  next = omega (arith, h.adds);
  fits = omega (arith, h.adds, h.small, small, few);
}
