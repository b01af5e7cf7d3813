-- Each text is an input, or wrong at some line.
use Rattle.std.proofs.Common.{◌≡◌, ◌≢◌, ◌<◌, ◌+◌, ℕ, ℤ, zero, suc, Bool, true, false, List, [], ◌∷◌, ◌++◌, length, take, get_or, ◌⊎◌, inl, inr, ⊎_elim, refl, sym, subst, arith}
use Rattle.std.specs.Prelude.{Ok, Err, Contains, FitsSigned, slice_index}
use Rattle.std.specs.Char.{digit_value}
use Rattle.std.specs.Int.{w32, int_wrap}
use Rattle.std.specs.Ordering.{int_eq}
use Rattle.std.specs.Str.Parse.{AllDigits, IsNumeral, without_leading_sign, signed_digits_value}
use Rattle.std.proofs.lemmas.Bool.{cases_lt}
use Rattle.std.proofs.lemmas.Bool.Decides.{Decides-int_eq}
use Rattle.std.proofs.lemmas.Int.{SFits-int_wrap, int_wrap_fits}
use Rattle.std.proofs.lemmas.List.{take_all}
use Rattle.schedule_texts.specs.declared.input.InputError.TheVariants.{BadInput}
use Rattle.schedule_texts.specs.Schedules.{lines_of}
use Rattle.schedule_texts.specs.Inputs.{words_of, IsNumber, value_of, EachValued, AreNumbers, HasAnswer}
use Rattle.schedule_texts.proofs.Shapes.{next}
use Rattle.schedule_texts.proofs.Valued.{one_line}

-- ---- a word

digits_or : (ds : List ℕ) → AllDigits 10 ds ⊎ (AllDigits 10 ds → ⊥)
digits_or [] = inl tt
digits_or (c ∷ cs) = ⊎_elim
    (λ low. ⊎_elim (λ all. inl (low, all)) (λ no. inr (λ d. no d.1)) (digits_or cs))
    (λ high. inr (λ d. omega (arith, high, d.0)))
    (cases_lt (digit_value c) 10)

numeral_or : (ds : List ℕ) → IsNumeral 10 ds ⊎ (IsNumeral 10 ds → ⊥)
numeral_or ds = ⊎_elim
    (λ some. ⊎_elim (λ all. inl (some, all)) (λ no. inr (λ n. no n.1)) (digits_or ds))
    (λ none. inr (λ n. omega (arith, none, n.0)))
    (cases_lt 0 (length ds))

fits_or : (z : ℤ) → FitsSigned w32 z ⊎ (FitsSigned w32 z → ⊥)
fits_or z = go (int_eq (int_wrap w32 z) z) refl
  where
    go : (b : Bool) → int_eq (int_wrap w32 z) z ≡ b → FitsSigned w32 z ⊎ (FitsSigned w32 z → ⊥)
    go true e = inl (subst (λ y. FitsSigned w32 y) ((Decides-int_eq (int_wrap w32 z) z).0 e) (SFits-int_wrap w32 z))
    go false e = inr (λ f. let b : int_eq (int_wrap w32 z) z ≡ true = (Decides-int_eq (int_wrap w32 z) z).1 (int_wrap_fits w32 z f) in absurd cc)

plus_or : (n m : ℕ) → (n ≡ m) ⊎ (n ≢ m)
plus_or n m = ⊎_elim
    (λ less. inr (λ e. omega (arith, less, e)))
    (λ least. ⊎_elim (λ more. inr (λ e. omega (arith, more, e))) (λ most. inl (omega (arith, least, most))) (cases_lt m n))
    (cases_lt n m)

number_or : (word : List ℕ) → IsNumber word ⊎ (IsNumber word → ⊥)
number_or word = ⊎_elim
    (λ plus. inr (λ is. is.no_plus plus))
    (λ no_plus. ⊎_elim
    (λ digits. ⊎_elim
    (λ fits. inl (record { no_plus = no_plus; digits = digits; fits = fits }))
    (λ no. inr (λ is. no is.fits))
    (fits_or (signed_digits_value 10 word)))
    (λ no. inr (λ is. no is.digits))
    (numeral_or (without_leading_sign word)))
    (plus_or (slice_index word 0) 43)

-- ---- words

record HasBad (words : List (List ℕ)) : Type 0 where
  word : List ℕ
  stands : Contains words word
  no_number : IsNumber word → ⊥

values_or : (words : List (List ℕ)) → ((values : List ℤ) × EachValued words values) ⊎ HasBad words
values_or [] = inl ([], tt)
values_or (word ∷ words) = ⊎_elim
    (λ is. ⊎_elim
    (λ values. inl (value_of word ∷ values.0, (is, refl, values.1)))
    (λ bad. inr (record { word = bad.word; stands = (suc bad.stands.0, omega (arith, bad.stands.1), bad.stands.2); no_number = bad.no_number }))
    (values_or words))
    (λ no. inr (record { word = word; stands = (0, omega arith, refl); no_number = no }))
    (number_or word)

-- ---- a text

module _ (text : List ℕ) where
  abbrev Rest : ℕ → Type 0
  Rest k = (read : List ℤ) → AreNumbers (take k (lines_of text)) read → HasAnswer text

  module _ (k : ℕ) (read : List ℤ) (within : k < length (lines_of text)) (numbers : AreNumbers (take k (lines_of text)) read) (rest : Rest (k + 1)) where
    with_line : ((values : List ℤ) × EachValued (words_of (get_or (lines_of text) k [])) values) ⊎ HasBad (words_of (get_or (lines_of text) k [])) → HasAnswer text
    with_line (inl values) =
        rest (read ++ values.0)
        (subst (λ lines. AreNumbers lines (read ++ values.0)) (sym (next (lines_of text) k within))
        (one_line (take k (lines_of text)) (get_or (lines_of text) k []) read (read ++ values.0) numbers (values.0, values.1, refl)))
    with_line (inr bad) = record {
      answer = Err (BadInput (suc k));
      is = record {
        place = k;
        within = within;
        number = refl;
        is_bad = record { word = bad.word; stands = bad.stands; no_number = bad.no_number };
        read = read;
        are_numbers = numbers;
      };
      told = λ x. absurd (cc x);
    }

  from : (left k : ℕ) → k + left ≡ length (lines_of text) → Rest k
  from zero k all read numbers = record {
    answer = Ok read;
    is = subst (λ lines. AreNumbers lines read) (take_all k (lines_of text) (omega (arith, all))) numbers;
    told = λ x. absurd (cc x);
  }
  from (suc left) k all read numbers =
      with_line k read (omega (arith, all)) numbers (λ more are. from left (k + 1) (omega (arith, all)) more are) (values_or (words_of (get_or (lines_of text) k [])))

pub each_input : (text : List ℕ) → HasAnswer text
each_input text = from text (length (lines_of text)) 0 (omega arith) [] tt
