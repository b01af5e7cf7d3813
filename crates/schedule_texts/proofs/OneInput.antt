-- A text is one input, or wrong at one line.
use Rattle.std.proofs.Common.{◌≡◌, ◌≢◌, ℕ, ℤ, suc, ◌<◌, List, [], ◌∷◌, ◌++◌, length, get_or, take, drop, refl, sym, ap, ◌∙◌, subst, ⊎_elim, arith, Ok, Err, Result}
use Rattle.std.specs.Prelude.{flat_map, Contains}
use Rattle.std.proofs.Math.Seq.{split_at}
use Rattle.std.proofs.lemmas.Bool.{cases_lt}
use Rattle.std.proofs.lemmas.Grind.{flat_map-append}
use Rattle.std.proofs.lemmas.List.{length-take, take_all, get_or-take}
use Rattle.std.proofs.lemmas.List.Elements.{Contains-append_left, Contains-append_right}
use Rattle.schedule_texts.specs.declared.input.InputError.{InputError}
use Rattle.schedule_texts.specs.declared.input.InputError.TheVariants.{BadInput, Memory}
use Rattle.schedule_texts.specs.Schedules.{lines_of}
use Rattle.schedule_texts.specs.Inputs.{EachValued, AreNumbers, IsNumber, IsBad, IsBadAt, Answers, words_of}

each_one : (words : List (List ℕ)) (vs us : List ℤ) → EachValued words vs → EachValued words us → vs ≡ us
each_one [] [] [] a b = refl
each_one [] (v ∷ vs) us a b = absurd a
each_one [] [] (u ∷ us) a b = absurd b
each_one (w ∷ words) [] us a b = absurd a
each_one (w ∷ words) (v ∷ vs) [] a b = absurd b
each_one (w ∷ words) (v ∷ vs) (u ∷ us) a b = cc (a.1, b.1, each_one words vs us a.2 b.2)

-- a word among others is a number
each_at : (before : List (List ℕ)) (word : List ℕ) (behind : List (List ℕ)) (vs : List ℤ) → EachValued (before ++ word ∷ behind) vs → IsNumber word
each_at [] word behind [] a = absurd a
each_at [] word behind (v ∷ vs) a = a.0
each_at (w ∷ before) word behind [] a = absurd a
each_at (w ∷ before) word behind (v ∷ vs) a = each_at before word behind vs a.2

each_of : (words : List (List ℕ)) (word : List ℕ) (vs : List ℤ) → EachValued words vs → Contains words word → IsNumber word
each_of words word vs each stands = subst IsNumber stands.2 (each_at (take stands.0 words) (get_or words stands.0 word) (drop (suc stands.0) words) vs (subst (λ ws. EachValued ws vs) (split_at words stands.0 word stands.1) each))

-- where the words of lines are numbers, none of the lines is bad
none_bad : (lines : List (List ℕ)) (n k : ℕ) (vs : List ℤ) → AreNumbers (take n lines) vs → k < n → k < length lines → IsBad (get_or lines k []) → ⊥
none_bad lines n k vs are low within bad =
    let xs = take n lines in
    let is : get_or lines k [] ≡ get_or xs k [] = sym (get_or-take n lines k [] low) in
    let cut : flat_map words_of xs ≡ flat_map words_of (take k xs) ++ (words_of (get_or xs k []) ++ flat_map words_of (drop (suc k) xs)) =
    ap (flat_map words_of) (split_at xs k [] (omega (arith, length-take n lines, low, within))) ∙ flat_map-append words_of (take k xs) (get_or xs k [] ∷ drop (suc k) xs) in
    let stands = Contains-append_right (flat_map words_of (take k xs)) (words_of (get_or xs k []) ++ flat_map words_of (drop (suc k) xs)) bad.word (Contains-append_left (words_of (get_or xs k [])) (flat_map words_of (drop (suc k) xs)) bad.word (subst (λ l. Contains (words_of l) bad.word) is bad.stands)) in
    bad.no_number (each_of (flat_map words_of xs) bad.word vs are (subst (λ ws. Contains ws bad.word) (sym cut) stands))

first_bad : (text : List ℕ) (m n : ℕ) (a : IsBadAt text m) (b : IsBadAt text n) → a.place < b.place → ⊥
first_bad text m n a b low = none_bad (lines_of text) b.place a.place b.read b.are_numbers low a.within a.is_bad

same_bad : (text : List ℕ) (m n : ℕ) → IsBadAt text m → IsBadAt text n → m ≡ n
same_bad text m n a b = ⊎_elim (λ low. absurd (first_bad text m n a b low)) (λ high. ⊎_elim (λ low. absurd (first_bad text n m b a low)) (λ other. omega (arith, a.number, b.number, high, other)) (cases_lt b.place a.place)) (cases_lt a.place b.place)

input_not_bad : (text : List ℕ) (vs : List ℤ) (m : ℕ) → AreNumbers (lines_of text) vs → IsBadAt text m → ⊥
input_not_bad text vs m a b = none_bad (lines_of text) (length (lines_of text)) b.place vs (subst (λ ls. AreNumbers ls vs) (sym (take_all (length (lines_of text)) (lines_of text) (omega arith))) a) b.within b.within b.is_bad

-- an answer is the only one, want of memory apart
pub one_answer : (text : List ℕ) (r q : Result (List ℤ) InputError) → Answers text r → Answers text q → r ≢ Err Memory → q ≢ Err Memory → r ≡ q
one_answer text (Ok vs) (Ok us) a b r q = ap Ok (each_one _ vs us a b)
one_answer text (Ok vs) (Err (BadInput n)) a b r q = absurd (input_not_bad text vs n a b)
one_answer text (Ok vs) (Err Memory) a b r q = absurd (q refl)
one_answer text (Err (BadInput m)) (Ok us) a b r q = absurd (input_not_bad text us m b a)
one_answer text (Err (BadInput m)) (Err (BadInput n)) a b r q = ap (λ line. Err (BadInput line)) (same_bad text m n a b)
one_answer text (Err (BadInput m)) (Err Memory) a b r q = absurd (q refl)
one_answer text (Err Memory) other a b r q = absurd (r refl)
