-- The mutexes of a name, declaration by declaration.
use Rattle.std.proofs.Common.{◌≡◌, ℕ, ◌+◌, ◌<◌, ◌≤◌, true, false, List, ◌∷◌, length, get_or, drop, map, sum_by, sym, ap, ◌∙◌, None, if◌then◌else◌}
use Rattle.std.specs.Prelude.{ℤ, bytes_eq, unwrap_or}
use Rattle.std.specs.declared.option.Option.{Option}
use Rattle.std.proofs.lemmas.List.{drop_more, drop_all}
use Rattle.std.proofs.lemmas.List.Sums.{sum_by-cons}
use Rattle.c_tree.specs.declared.program.Object.{Object}
use Rattle.c_tree.specs.Lined.{bare_object}
use Rattle.c_tree.specs.Numbering.{member, numbered, object_count}

abbrev pub left_numbered : ℕ → List Object → List ℕ → Option ℤ → Option ℕ
left_numbered first objects name index = numbered first (map bare_object objects) name index

abbrev pub left_count : List Object → ℕ
left_count objects = sum_by object_count (map bare_object objects)

module _ (objects : List Object) (k : ℕ) (o : Object) (within : k < length objects) (is : o ≡ get_or objects k o) where
  here : drop k objects ≡ o ∷ drop (k + 1) objects
  here = drop_more objects k o within ∙ ap (λ x. x ∷ drop (k + 1) objects) (sym is)

  pub numbered_here : (first : ℕ) (name : List ℕ) (index : Option ℤ) → bytes_eq o.name name ≡ true → left_numbered first (drop k objects) name index ≡ member first o.len index
  numbered_here first name index same = ap (λ xs. left_numbered first xs name index) here ∙ ap (λ b. if b then member first o.len index else left_numbered (first + unwrap_or o.len 1) (drop (k + 1) objects) name index) same

  pub numbered_behind : (first : ℕ) (name : List ℕ) (index : Option ℤ) → bytes_eq o.name name ≡ false
      → left_numbered (first + unwrap_or o.len 1) (drop (k + 1) objects) name index ≡ left_numbered first (drop k objects) name index
  numbered_behind first name index other =
      sym (ap (λ xs. left_numbered first xs name index) here ∙ ap (λ b. if b then member first o.len index else left_numbered (first + unwrap_or o.len 1) (drop (k + 1) objects) name index) other)

  pub counted_here : left_count (drop k objects) ≡ unwrap_or o.len 1 + left_count (drop (k + 1) objects)
  counted_here = ap left_count here ∙ sum_by-cons object_count (bare_object o) (map bare_object (drop (k + 1) objects))

pub numbered_nowhere : (objects : List Object) (k first : ℕ) (name : List ℕ) (index : Option ℤ) → length objects ≤ k → left_numbered first (drop k objects) name index ≡ None
numbered_nowhere objects k first name index past = ap (λ xs. left_numbered first xs name index) (drop_all k objects past)

-- the number that the next declaration begins with, and what is left to look through
pub record Left (objects : List Object) (name : List ℕ) (k first : ℕ) : Type 0 where
  pub counted : first + left_count (drop k objects) ≡ left_count objects
  pub numbers : (index : Option ℤ) → left_numbered first (drop k objects) name index ≡ left_numbered 0 objects name index
