-- Names, numbers and single blanks.
use Rattle.std.proofs.Common.{◌≡◌, ℕ, suc, ◌<◌, ◌≤◌, ◌+◌, ◌-◌, ◌*◌, Bool, true, false, cond, List, [], ◌∷◌, ◌++◌, length, get_or, take, drop, take-append-drop, refl, ap, subst, arith}
use Rattle.std.specs.List.{list_all, fold, prefix_len}
use Rattle.std.proofs.lemmas.List.Sums.{fold-append, fold_more, AllPass-from_list_all, prefix_len-le-length}
use Rattle.std.proofs.lemmas.List.Folds.{length-prefix_len}
use Rattle.c_lexer.specs.Classes.{is_letter, is_digit, is_blank, is_word}
use Rattle.c_lexer.specs.Pieces.{Piece}
use Rattle.c_lexer.specs.Words.{name_of, number_of, decimal, largest}
use Rattle.c_lexer.specs.Lexeme.{Longest, lexeme, IsCut}
use Rattle.c_lexer.proofs.Pieces.{Stops, all_past, stops_at}

-- ---- the longest front whose bytes pass a test

pub prefix_passes : (test : ℕ → Bool) (text : List ℕ) → list_all test (take (prefix_len test text) text) ≡ true
prefix_passes test [] = refl
prefix_passes test (b ∷ text) = by (test b) refl (prefix_passes test text)
  where
    by : (x : Bool) → test b ≡ x → list_all test (take (prefix_len test text) text) ≡ true → list_all test (take (cond x (1 + prefix_len test text) 0) (b ∷ text)) ≡ true
    by true t again = let size : 1 + prefix_len test text ≡ suc (prefix_len test text) = omega arith in rw size (rw (t, again) refl)
    by false t again = refl

pub prefix_stops : (test : ℕ → Bool) (text : List ℕ) → Stops test (drop (prefix_len test text) text)
prefix_stops test [] = tt
prefix_stops test (b ∷ text) = by (test b) refl (prefix_stops test text)
  where
    by : (x : Bool) → test b ≡ x → Stops test (drop (prefix_len test text) text) → Stops test (drop (cond x (1 + prefix_len test text) 0) (b ∷ text))
    by true t again = let size : 1 + prefix_len test text ≡ suc (prefix_len test text) = omega arith in rw size again
    by false t again = t

pub prefix_some : (test : ℕ → Bool) (b : ℕ) (text : List ℕ) → test b ≡ true → prefix_len test (b ∷ text) ≡ suc (prefix_len test text)
prefix_some test b text h = rw h (omega arith)

-- ---- names and numbers

letter_is_word : (b : ℕ) → is_letter b ≡ true → is_word b ≡ true
unfolding is_word
letter_is_word b h = rw h

digit_is_word : (b : ℕ) → is_letter b ≡ false → is_digit b ≡ true → is_word b ≡ true
unfolding is_word
digit_is_word b g h = rw (g, h)

pub name_longest : (first : Bool) (b : ℕ) (w rest : List ℕ) → is_letter b ≡ true → list_all is_word w ≡ true → Stops is_word rest
    → Longest first (b ∷ w) rest (name_of (length (b ∷ w)))
unfolding lexeme
name_longest first b w rest letter all stops = record {
  is = rw (letter, all);
  longer = λ c more after e. rw (letter, all_past is_word w c more (stops_at is_word rest c more after stops e));
}

pub number_longest : (first : Bool) (b : ℕ) (w rest : List ℕ) → is_letter b ≡ false → is_digit b ≡ true → list_all is_word w ≡ true → Stops is_word rest
    → Longest first (b ∷ w) rest (number_of (b ∷ w))
unfolding lexeme
number_longest first b w rest letter digit all stops = record {
  is = rw (letter, digit, all);
  longer = λ c more after e. rw (letter, digit, all_past is_word w c more (stops_at is_word rest c more after stops e));
}

pub name_cut : (first : Bool) (text : List ℕ) → 0 < length text → is_letter (get_or text 0 0) ≡ true
    → IsCut first text (name_of (prefix_len is_word text)) (prefix_len is_word text)
name_cut first [] some letter = absurd (omega arith)
name_cut first (b ∷ text) some letter =
    let size = prefix_some is_word b text (letter_is_word b letter) in
    let n = prefix_len is_word text in
    let len : suc (length (take n text)) ≡ suc n = ap suc (length-prefix_len is_word text) in
    rw size (record {
      within = omega (arith, prefix_len-le-length is_word text);
      longest = subst (λ k. Longest first (b ∷ take n text) (drop n text) (name_of k)) len
          (name_longest first b (take n text) (drop n text) letter (prefix_passes is_word text) (prefix_stops is_word text));
    })

pub number_cut : (first : Bool) (text : List ℕ) → 0 < length text → is_letter (get_or text 0 0) ≡ false → is_digit (get_or text 0 0) ≡ true
    → IsCut first text (number_of (take (prefix_len is_word text) text)) (prefix_len is_word text)
number_cut first [] some letter digit = absurd (omega arith)
number_cut first (b ∷ text) some letter digit =
    let size = prefix_some is_word b text (digit_is_word b letter digit) in
    let n = prefix_len is_word text in
    rw size (record {
      within = omega (arith, prefix_len-le-length is_word text);
      longest = number_longest first b (take n text) (drop n text) letter digit (prefix_passes is_word text) (prefix_stops is_word text);
    })

-- ---- values of digits

digit_more : (start : ℕ) (digits : List ℕ) → start ≤ fold (λ value digit. 10 * value + (digit - 48)) start digits
digit_more start [] = omega arith
digit_more start (d ∷ digits) = let more = digit_more (10 * start + (d - 48)) digits in omega arith

pub decimal_front : (digits : List ℕ) (i : ℕ) → decimal (take i digits) ≤ decimal digits
decimal_front digits i =
    let f : ℕ → ℕ → ℕ = λ value digit. 10 * value + (digit - 48) in
    let parts : fold f 0 (take i digits ++ drop i digits) ≡ fold f (fold f 0 (take i digits)) (drop i digits) = fold-append f 0 (take i digits) (drop i digits) in
    let whole : decimal digits ≡ fold f (decimal (take i digits)) (drop i digits) = subst (λ x. decimal x ≡ fold f (decimal (take i digits)) (drop i digits)) (take-append-drop i digits) parts in
    rw whole (digit_more (decimal (take i digits)) (drop i digits))

pub decimal_more : (digits : List ℕ) (i : ℕ) → i < length digits → decimal (take (i + 1) digits) ≡ 10 * decimal (take i digits) + (get_or digits i 0 - 48)
decimal_more digits i h = fold_more (λ value digit. 10 * value + (digit - 48)) 0 digits i 0 h

pub digit_at : (digits : List ℕ) (i : ℕ) → list_all is_digit digits ≡ true → i < length digits → 48 ≤ get_or digits i 0
digit_at digits i all h = let pass = AllPass-from_list_all is_digit digits all i 0 h in low (get_or digits i 0) pass
  where
    low : (d : ℕ) → is_digit d ≡ true → 48 ≤ d
    low d p = grind arith

pub too_large : (digits : List ℕ) (i v : ℕ) → v ≡ decimal (take i digits) → i < length digits → largest < 10 * v + (get_or digits i 0 - 48) → largest < decimal digits
too_large digits i v e h large = let more = decimal_more digits i h in let front = decimal_front digits (i + 1) in omega arith

pub ruleset digits = (decimal_front, decimal_more, digit_at)

-- ---- blanks

pub blank_longest : (first : Bool) (b : ℕ) (rest : List ℕ) → is_letter b ≡ false → is_digit b ≡ false → is_blank b ≡ true → Longest first (b ∷ []) rest Piece.skip
unfolding lexeme
blank_longest first b rest letter digit blank = record {
  is = rw (letter, digit, blank);
  longer = λ c more after e. rw (letter, digit, blank);
}

pub blank_cut : (first : Bool) (text : List ℕ) → 0 < length text → is_letter (get_or text 0 0) ≡ false → is_digit (get_or text 0 0) ≡ false → is_blank (get_or text 0 0) ≡ true
    → IsCut first text Piece.skip 1
blank_cut first [] some letter digit blank = absurd (omega arith)
blank_cut first (b ∷ text) some letter digit blank = record { within = omega arith; longest = blank_longest first b text letter digit blank }
