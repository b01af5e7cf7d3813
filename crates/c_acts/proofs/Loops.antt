-- Loops that note what each item of a list breaks.
use Rattle.std.proofs.Common.{◌≡◌, ℕ, ◌+◌, ◌<◌, ◌≤◌, List, [], ◌∷◌, ◌++◌, length, get_or, drop, sym, ◌∙◌, ap}
use Rattle.std.specs.declared.option.Option.{Option}
use Rattle.std.proofs.lemmas.List.{drop_more, drop_all}
use Rattle.c_acts.specs.declared.first.Break.{Break}
use Rattle.c_acts.specs.First.{noted_all}
use Rattle.c_acts.proofs.Noted.{noted_append}

-- one turn: what the items that are left break leads to what all break
pub turn : {X : Type 0} (T : List X → List Break) (xs : List X) (i : ℕ) (x : X) (piece : List Break) (all now next : Option Break) → i < length xs → x ≡ get_or xs i x
    → ((more : List X) → T (x ∷ more) ≡ piece ++ T more) → next ≡ noted_all now piece → noted_all now (T (drop i xs)) ≡ all → noted_all next (T (drop (i + 1) xs)) ≡ all
turn T xs i x piece all now next within is adds e h =
    let here : drop i xs ≡ x ∷ drop (i + 1) xs = drop_more xs i x within ∙ ap (λ y. y ∷ drop (i + 1) xs) (sym is) in
    ap (λ f. noted_all f (T (drop (i + 1) xs))) e ∙ sym (noted_append now piece (T (drop (i + 1) xs)))
    ∙ ap (noted_all now) (sym (ap T here ∙ adds (drop (i + 1) xs))) ∙ h

-- the end
pub ended : {X : Type 0} (T : List X → List Break) (xs : List X) (i : ℕ) (all now : Option Break) → length xs ≤ i → T [] ≡ [] → noted_all now (T (drop i xs)) ≡ all → now ≡ all
ended T xs i all now past none h = ap (noted_all now) (sym (ap T (drop_all i xs past) ∙ none)) ∙ h
