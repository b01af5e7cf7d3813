-- What the rows of clap hold of an argument, and how a use of it changes that.
use Rattle.std.proofs.Common.{◌≡◌, Bool, true, false, ◌||◌, List, [], ◌∷◌, ◌++◌, refl, sym, ap, ◌∙◌, bytes_eq}
use Rattle.std.specs.Prelude.{if◌then◌else◌}
use Rattle.clap.specs.declared.builder.value_parser.Reading.{Reading}
use Rattle.clap.specs.declared.parser.matches.ValueSource.{ValueSource}
use Rattle.clap.specs.Walk.{Row, Text, more_values, with_values, without, has_row}

-- the values of the first row of this id, or none where there is no such row
abbrev pub listed : Text → List Row → List Text
listed id [] = []
listed id (r ∷ rs) = if bytes_eq r.id id then r.values else listed id rs

module _ (id : Text) (how : Reading) (s : ValueSource) (vs : List Text) where
  abbrev more : List Row → List Row
  more = with_values id how s vs

  abbrev changed : Row → List Row
  changed = more_values s vs

  -- ---- the id that is used

  pub listed_same : bytes_eq id id ≡ true → (rows : List Row) → listed id (more rows) ≡ listed id rows ++ vs
  listed_same same [] = ap (λ (b : Bool). if b then vs else []) same
  listed_same same (r ∷ rs) = by (bytes_eq r.id id) refl (listed_same same rs)
    where
      by : (b : Bool) → bytes_eq r.id id ≡ b → listed id (more rs) ≡ listed id rs ++ vs
          → listed id (if b then changed r ++ rs else r ∷ more rs) ≡ (if b then r.values else listed id rs) ++ vs
      by true e rest = ap (λ (b : Bool). if b then r.values ++ vs else listed id rs) e
      by false e rest = ap (λ (b : Bool). if b then r.values else listed id (more rs)) e ∙ rest

  pub has_same : bytes_eq id id ≡ true → (rows : List Row) → has_row id (more rows) ≡ true
  has_same same [] = ap (λ (b : Bool). b || false) same
  has_same same (r ∷ rs) = by (bytes_eq r.id id) refl (has_same same rs)
    where
      by : (b : Bool) → bytes_eq r.id id ≡ b → has_row id (more rs) ≡ true → has_row id (if b then changed r ++ rs else r ∷ more rs) ≡ true
      by true e rest = ap (λ (b : Bool). b || has_row id rs) e
      by false e rest = ap (λ (b : Bool). b || has_row id (more rs)) e ∙ rest

  -- ---- another id

  module _ (other : Text) (differs : bytes_eq id other ≡ false) (same_id : (x : Text) → bytes_eq x id ≡ true → x ≡ id) where
    pub listed_other : (rows : List Row) → listed other (more rows) ≡ listed other rows
    listed_other [] = ap (λ (b : Bool). if b then vs else []) differs
    listed_other (r ∷ rs) = by (bytes_eq r.id id) refl (listed_other rs)
      where
        by : (b : Bool) → bytes_eq r.id id ≡ b → listed other (more rs) ≡ listed other rs
            → listed other (if b then changed r ++ rs else r ∷ more rs) ≡ listed other (r ∷ rs)
        by true e rest =
            let no : bytes_eq r.id other ≡ false = ap (λ (x : Text). bytes_eq x other) (same_id r.id e) ∙ differs in
            ap (λ (b : Bool). if b then r.values ++ vs else listed other rs) no ∙ sym (ap (λ (b : Bool). if b then r.values else listed other rs) no)
        by false e rest = ap (λ (xs : List Text). if bytes_eq r.id other then r.values else xs) rest

    pub has_other : (rows : List Row) → has_row other (more rows) ≡ has_row other rows
    has_other [] = ap (λ (b : Bool). b || false) differs
    has_other (r ∷ rs) = by (bytes_eq r.id id) refl (has_other rs)
      where
        by : (b : Bool) → bytes_eq r.id id ≡ b → has_row other (more rs) ≡ has_row other rs
            → has_row other (if b then changed r ++ rs else r ∷ more rs) ≡ has_row other (r ∷ rs)
        by true e rest = refl
        by false e rest = ap (λ (b : Bool). bytes_eq r.id other || b) rest

-- ---- no row of the id

pub none_listed : (id : Text) (rows : List Row) → has_row id rows ≡ false → listed id rows ≡ []
none_listed id [] none = refl
none_listed id (r ∷ rs) none = by (bytes_eq r.id id) none (none_listed id rs)
  where
    by : (b : Bool) → (b || has_row id rs) ≡ false → (has_row id rs ≡ false → listed id rs ≡ []) → (if b then r.values else listed id rs) ≡ []
    by true e rest = absurd (cc e)
    by false e rest = rest e

pub none_without : (id : Text) (rows : List Row) → has_row id rows ≡ false → without id rows ≡ rows
none_without id [] none = refl
none_without id (r ∷ rs) none = by (bytes_eq r.id id) none (none_without id rs)
  where
    by : (b : Bool) → (b || has_row id rs) ≡ false → (has_row id rs ≡ false → without id rs ≡ rs) → (if b then [] ++ rs else r ∷ without id rs) ≡ r ∷ rs
    by true e rest = absurd (cc e)
    by false e rest = ap (λ (xs : List Row). r ∷ xs) (rest e)
