-- Words with their values, one word or line more.
use Rattle.std.proofs.Common.{◌≡◌, ℕ, ℤ, suc, ◌+◌, ◌<◌, true, false, cond, List, [], ◌∷◌, ◌++◌, length, get_or, take, drop, map, refl, sym, ap, ◌∙◌, subst, arith}
use Rattle.std.specs.Prelude.{flat_map, not, Contains}
use Rattle.std.proofs.Math.Seq.{split_at}
use Rattle.std.proofs.lemmas.List.{append-nil, append_assoc, get_or-map}
use Rattle.std.proofs.lemmas.List.Elements.{filter-append, Contains-append_right}
use Rattle.std.proofs.lemmas.Grind.{flat_map-append}
use Rattle.schedule_texts.specs.Schedules.{lines_of}
use Rattle.schedule_texts.specs.Inputs.{EachValued, HaveValues, AreNumbers, IsNumber, IsBad, IsBadAt, LineAnswers, is_empty, worded, words_of, pieces_of, value_of}
use Rattle.schedule_texts.proofs.Shapes.{next, inside}

EachValued-append : (words : List (List ℕ)) (vs : List ℤ) (more : List (List ℕ)) (us : List ℤ) → EachValued words vs → EachValued more us → EachValued (words ++ more) (vs ++ us)
EachValued-append [] [] more us each rest = rest
EachValued-append [] (v ∷ vs) more us each rest = absurd each
EachValued-append (w ∷ words) [] more us each rest = absurd each
EachValued-append (w ∷ words) (v ∷ vs) more us each rest = (each.0, each.1, EachValued-append words vs more us each.2 rest)

-- one piece more that is empty
one_empty : (pieces : List (List ℕ)) (piece : List ℕ) (old new : List ℤ) → is_empty piece ≡ true → HaveValues pieces old new → HaveValues (pieces ++ piece ∷ []) old new
one_empty pieces piece old new empty have =
    let alone : worded (piece ∷ []) ≡ [] = ap (λ b. cond (not b) (piece ∷ []) []) empty in
    (have.0, subst (λ ws. EachValued ws have.0) (sym (filter-append (λ p. not (is_empty p)) pieces (piece ∷ []) ∙ ap (λ ws. worded pieces ++ ws) alone ∙ append-nil (worded pieces))) have.1, have.2)

-- one piece more that is a number
one_number : (pieces : List (List ℕ)) (piece : List ℕ) (v : ℤ) (old new : List ℤ) → is_empty piece ≡ false → IsNumber piece → v ≡ value_of piece → HaveValues pieces old new → HaveValues (pieces ++ piece ∷ []) old (new ++ v ∷ [])
one_number pieces piece v old new some is value have =
    let alone : worded (piece ∷ []) ≡ piece ∷ [] = ap (λ b. cond (not b) (piece ∷ []) []) some in (
      have.0 ++ v ∷ [],
      subst (λ ws. EachValued ws (have.0 ++ v ∷ [])) (sym (filter-append (λ p. not (is_empty p)) pieces (piece ∷ []) ∙ ap (λ ws. worded pieces ++ ws) alone)) (EachValued-append (worded pieces) have.0 (piece ∷ []) (v ∷ []) have.1 (is, value, tt)),
      ap (λ vs. vs ++ v ∷ []) have.2 ∙ append_assoc old have.0 (v ∷ []),
    )

-- one line more
pub one_line : (lines : List (List ℕ)) (line : List ℕ) (old new : List ℤ) → AreNumbers lines old → HaveValues (pieces_of line) old new → AreNumbers (lines ++ line ∷ []) new
one_line lines line old new are have =
    let alone : flat_map words_of (line ∷ []) ≡ words_of line = append-nil (words_of line) in
    subst (EachValued (flat_map words_of (lines ++ line ∷ []))) (sym have.2) (subst (λ ws. EachValued ws (old ++ have.0)) (sym (flat_map-append words_of lines (line ∷ []) ∙ ap (λ ws. flat_map words_of lines ++ ws) alone)) (EachValued-append (flat_map words_of lines) old (words_of line) have.0 are have.1))

-- a piece that is no number stands among the words
bad_word : (pieces : List (List ℕ)) (k : ℕ) → k < length pieces → is_empty (get_or pieces k []) ≡ false → Contains (worded pieces) (get_or pieces k [])
bad_word pieces k within some =
    let here = get_or pieces k [] in
    let kept : worded (here ∷ drop (suc k) pieces) ≡ here ∷ worded (drop (suc k) pieces) = ap (λ b. cond (not b) (here ∷ worded (drop (suc k) pieces)) (worded (drop (suc k) pieces))) some in
    let cut : worded pieces ≡ worded (take k pieces) ++ here ∷ worded (drop (suc k) pieces) =
    ap worded (split_at pieces k [] within) ∙ filter-append (λ p. not (is_empty p)) (take k pieces) (here ∷ drop (suc k) pieces) ∙ ap (λ ws. worded (take k pieces) ++ ws) kept in
    subst (λ ws. Contains ws here) (sym cut) (Contains-append_right (worded (take k pieces)) (here ∷ worded (drop (suc k) pieces)) here (0, omega arith, refl))

-- the same of the pieces that a text was cut into, each behind a reference
module _ {A : Type 0} (f : A → List ℕ) (items : List A) (d : A) where
  pub empty_at : (k : ℕ) (old new : List ℤ) → k < length items → HaveValues (take k (map f items)) old new → is_empty (f (get_or items k d)) ≡ true → HaveValues (take (k + 1) (map f items)) old new
  empty_at k old new within have empty = subst (λ ps. HaveValues ps old new) (sym (next (map f items) k (inside f items k within))) (one_empty (take k (map f items)) (get_or (map f items) k []) old new (ap is_empty (get_or-map f items k d [] within) ∙ empty) have)

  pub number_at : (k : ℕ) (v : ℤ) (old new : List ℤ) → k < length items → HaveValues (take k (map f items)) old new → is_empty (f (get_or items k d)) ≡ false → IsNumber (f (get_or items k d)) → v ≡ value_of (f (get_or items k d)) → HaveValues (take (k + 1) (map f items)) old (new ++ v ∷ [])
  number_at k v old new within have some is value =
      let at = sym (get_or-map f items k d [] within) in
      subst (λ ps. HaveValues ps old (new ++ v ∷ [])) (sym (next (map f items) k (inside f items k within))) (one_number (take k (map f items)) (get_or (map f items) k []) v old new (ap is_empty (sym at) ∙ some) (subst IsNumber at is) (subst (λ w. v ≡ value_of w) at value) have)

  pub bad_word_at : (line : List ℕ) → map f items ≡ pieces_of line → (k : ℕ) → k < length items → is_empty (f (get_or items k d)) ≡ false → (IsNumber (f (get_or items k d)) → ⊥) → IsBad line
  bad_word_at line are k within some none =
      let at = get_or-map f items k d [] within in
      record {
        word = get_or (map f items) k [];
        stands = subst (λ ps. Contains (worded ps) (get_or (map f items) k [])) are (bad_word (map f items) k (inside f items k within) (ap is_empty at ∙ some));
        no_number = λ is. none (subst IsNumber at is);
      }

  pub line_at : (k : ℕ) (old new : List ℤ) → k < length items → AreNumbers (take k (map f items)) old → LineAnswers (f (get_or items k d)) true old new → AreNumbers (take (k + 1) (map f items)) new
  line_at k old new within are have =
      let at = sym (get_or-map f items k d [] within) in
      subst (λ ls. AreNumbers ls new) (sym (next (map f items) k (inside f items k within))) (one_line (take k (map f items)) (get_or (map f items) k []) old new are (subst (λ l. HaveValues (pieces_of l) old new) at have))

  pub bad_line_at : (text : List ℕ) → map f items ≡ lines_of text → (k : ℕ) (read : List ℤ) → k < length items → AreNumbers (take k (map f items)) read → IsBad (f (get_or items k d)) → IsBadAt text (k + 1)
  bad_line_at text are k read within numbers bad = record {
    place = k;
    within = subst (λ xs. k < length xs) are (inside f items k within);
    number = omega arith;
    is_bad = subst IsBad (sym (get_or-map f items k d [] within) ∙ ap (λ xs. get_or xs k []) are) bad;
    read = read;
    are_numbers = subst (λ xs. AreNumbers (take k xs) read) are numbers;
  }
