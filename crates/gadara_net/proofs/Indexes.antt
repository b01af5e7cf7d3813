-- An index of places, one place more.
use Rattle.std.proofs.Common.{◌≡◌, ◌≢◌, ℕ, ◌+◌, List, [], ◌∷◌, ◌++◌, Some, sym, ap, ◌∙◌, subst, ⊎_elim, arith}
use Rattle.std.specs.Prelude.{slice_get, slice_set}
use Rattle.std.proofs.lemmas.Option.{same_Some}
use Rattle.std.proofs.lemmas.Bool.{cases_lt}
use Rattle.std.proofs.lemmas.List.{length-set, length-append}
use Rattle.gadara_net.specs.Chains.{IsLast, IsChained}
use Rattle.gadara_net.proofs.ListReads.{read_set, read_push}

last_here : (keys : List ℕ) (key i : ℕ) → slice_get keys i ≡ Some key → IsLast keys key (i + 1) (i + 1)
last_here keys key i at = record {
  within = omega arith;
  here = λ k e. let same : k ≡ i = omega (arith, e) in ap (slice_get keys) same ∙ at;
  none = λ k low high. absurd (omega (arith, low, high));
}

last_kept : (keys : List ℕ) (key other i after : ℕ) → slice_get keys i ≡ Some key → other ≢ key → IsLast keys other i after → IsLast keys other (i + 1) after
last_kept keys key other i after at differs is = record {
  within = omega (arith, is.within);
  here = is.here;
  none = λ k low high has.
      ⊎_elim
      (λ below. is.none k low below has)
      (λ up. let same : k ≡ i = omega (arith, up, high) in differs (same_Some other key (sym has ∙ ap (slice_get keys) same ∙ at)))
      (cases_lt k i);
}

-- one place more: its key's last place, and the one before it
pub IsChained-more : (keys last before : List ℕ) (size i key after : ℕ) → IsChained keys last before size i → slice_get keys i ≡ Some key → slice_get last key ≡ Some after → IsChained keys (slice_set last key (i + 1)) (before ++ after ∷ []) size (i + 1)
IsChained-more keys last before size i key after is at had = record {
  sizes = simp length-set is.sizes;
  places = omega (arith, length-append before (after ∷ []), is.places);
  last_of = λ other a e.
      ⊎_elim
      (λ s. subst (λ k. IsLast keys k (i + 1) a) (sym s.0) (subst (λ x. IsLast keys key (i + 1) x) (sym s.1) (last_here keys key i at)))
      (λ o. last_kept keys key other i a at o.0 (is.last_of other a o.1))
      (read_set last key (i + 1) other a e);
  before_of = λ k other a e b.
      ⊎_elim
      (λ o. is.before_of k other a e o)
      (λ s. let here : k ≡ i = s.0 ∙ is.places in
      let key_is : other ≡ key = same_Some other key (sym e ∙ ap (slice_get keys) here ∙ at) in
      subst (λ x. IsLast keys other x a) (sym here) (subst (λ q. IsLast keys q i a) (sym key_is) (subst (λ x. IsLast keys key i x) (sym s.1) (is.last_of key after had))))
      (read_push before after k a b);
}
