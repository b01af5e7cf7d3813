-- Rows of least siphons, one more; and what bounds them.
use Rattle.std.proofs.Common.{◌≡◌, ℕ, zero, suc, ◌+◌, ◌*◌, ◌%◌, ◌^◌, ◌<◌, Bool, List, [], ◌∷◌, ◌++◌, length, get_or, Some, refl, sym, ap, ◌∙◌, subst, inl, inr, ⊎_elim, arith}
use Rattle.std.specs.Prelude.{IsTrue, slice_get, slice_set}
use Rattle.std.proofs.lemmas.Bool.{eq-eqb, cases_eq}
use Rattle.std.proofs.lemmas.Nat.{pow_below}
use Rattle.std.proofs.lemmas.Option.{slice_get_within, slice_get_read, slice_get-get_or}
use Rattle.net_laws.specs.Net.{Net}
use Rattle.net_laws.specs.Siphons.{HasPlace, only}
use Rattle.net_laws.specs.Candidates.{members}
use Rattle.net_laws.proofs.Least.{union}
use Rattle.net_laws.proofs.Masks.{only-mask}
use Rattle.gadara_net.proofs.ListReads.{read_set, read_push, get_set_other}
use Rattle.siphon_enum.specs.Rows.{IsSiphonOf, AreSiphonsOf, HoldsSingles}

-- what is read of a list is read of it with one more behind
pub get_push_old : {X : Type 0} (xs : List X) (v : X) (k : ℕ) (x : X) → slice_get xs k ≡ Some x → slice_get (xs ++ v ∷ []) k ≡ Some x
get_push_old [] v k x at = absurd (cc at)
get_push_old (y ∷ xs) v zero x at = at
get_push_old (y ∷ xs) v (suc k) x at = get_push_old xs v k x at

pub get_push_last : {X : Type 0} (xs : List X) (v : X) → slice_get (xs ++ v ∷ []) (length xs) ≡ Some v
get_push_last [] v = refl
get_push_last (y ∷ xs) v = get_push_last xs v

module _ {Row : Type 0} (places : Row → ℕ → Bool) (n : Net) (sets : List ℕ) (rows : List Row) (R : ℕ) where
  -- the least siphon of one set more, in the row behind the others
  pub siphons_more : (row : Row) → AreSiphonsOf places n sets rows → IsSiphonOf n R (places row) → AreSiphonsOf places n (sets ++ R ∷ []) (slice_set rows (length sets) row)
  siphons_more row are is k C other at read =
      ⊎_elim
      (λ old.
      let lt : k < length sets = slice_get_within sets k C old in
      are k C other old (sym (get_set_other rows (length sets) row k (λ e. absurd (omega (arith, e, lt)))) ∙ read))
      (λ last. ⊎_elim
      (λ here. subst (λ Q. IsSiphonOf n Q (places other)) (sym last.1) (subst (λ w. IsSiphonOf n R (places w)) (sym here.1) is))
      (λ there. absurd (there.0 last.0))
      (read_set rows (length sets) row k other read))
      (read_push sets R k C at)

  -- the rows of all sets but the last
  pub siphons_fewer : AreSiphonsOf places n (sets ++ R ∷ []) rows → AreSiphonsOf places n sets rows
  siphons_fewer are k C row at read = are k C row (get_push_old sets R k C at) read

-- the places of single least siphons bound those of a set
pub bounded : (n : Net) (count : ℕ) (places : ℕ → Bool) (R : ℕ → Bool) → HoldsSingles n count places → ((r : ℕ) → IsTrue (R r) → r < count) → (place : ℕ) → HasPlace n R place → IsTrue (places place)
bounded n count places R singles named place has =
    ⊎_elim
    (λ point. let u = union n R place point.1 in singles u.0 place (named u.0 u.1) (inl (point.0, u.2)))
    (λ resource. singles resource.0 place (named resource.0 resource.1) (inr (resource.0, eq-eqb resource.0 resource.0 refl, resource.2)))
    has

-- the mask of one resource, as a shift makes it
shifted : (r : ℕ) → r < 64 → 1 * 2 ^ r % 2 ^ 64 ≡ 2 ^ r
shifted r lt = omega (arith, pow_below r 64 lt)

pub members-shifted : (r : ℕ) → r < 64 → members (1 * 2 ^ r % 2 ^ 64) ≡ only r
members-shifted r lt = ap members (shifted r lt) ∙ only-mask r

-- one resource more
pub singles_more : (n : Net) (r : ℕ) (was is : ℕ → Bool) → HoldsSingles n r was → ((place : ℕ) → IsTrue (was place) → IsTrue (is place)) → ((place : ℕ) → HasPlace n (only r) place → IsTrue (is place)) → HoldsSingles n (r + 1) is
singles_more n r was is singles kept here q place lt has =
    ⊎_elim
    (λ same. here place (subst (λ s. HasPlace n (only s) place) same has))
    (λ differs. kept place (singles q place (omega (arith, lt, differs)) has))
    (cases_eq q r)

module _ {Row : Type 0} (places : Row → ℕ → Bool) (n : Net) (sets : List ℕ) (rows : List Row) (R : ℕ) (are : AreSiphonsOf places n (sets ++ R ∷ []) rows) where
  -- what the row of a set holds, and the row behind
  pub siphon_at : (k : ℕ) (row : Row) → k < length sets → k < length rows → row ≡ get_or rows k row → IsSiphonOf n (get_or sets k 0) (places row)
  siphon_at k row lt within read =
      siphons_fewer places n sets rows R are k (get_or sets k 0) row (slice_get-get_or sets k 0 lt) (slice_get_read rows (length rows) k row refl within read)

  pub siphon_behind : (row : Row) → length sets < length rows → row ≡ get_or rows (length sets) row → IsSiphonOf n R (places row)
  siphon_behind row within read = are (length sets) R row (get_push_last sets R) (slice_get_read rows (length rows) (length sets) row refl within read)
