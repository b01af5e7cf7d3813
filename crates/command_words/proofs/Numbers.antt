-- Words of digits are numbers that 32 bits hold.
use Rattle.std.proofs.Common.{◌≡◌, ◌<◌, ◌≤◌, ◌^◌, ℕ, true, false, List, [], ◌∷◌, length, refl, arith}
use Rattle.std.specs.Prelude.{◌==◌}
use Rattle.std.specs.Str.{all_ascii_digits}
use Rattle.std.specs.Str.Parse.{IsNumeral, digits_value, without_leading_plus}
use Rattle.std.proofs.lemmas.Grind.{common_steps}
use Rattle.std.proofs.lemmas.Str.Parse.{numerals_by_value, tells_all_ascii_digits, digits_value_short}
use Rattle.command_words.specs.Words.{is_number}

no_plus : (b : ℕ) → 48 ≤ b → (b == 43) ≡ false
no_plus b h = grind (arith, common_steps)

no_sign : (word : List ℕ) → all_ascii_digits word ≡ true → without_leading_plus word ≡ word
no_sign [] e = refl
no_sign (b ∷ rest) e = rw (no_plus b (tells_all_ascii_digits.parts b rest e).0.0) refl

pub fits : (word : List ℕ) → is_number word ≡ true → IsNumeral 10 (without_leading_plus word) × (digits_value 10 (without_leading_plus word) < 2 ^ 32)
fits word e =
    let few : length word ≤ 9 = grind (arith, common_steps) in
    let some : 0 < length word = grind (arith, common_steps) in
    let digits : all_ascii_digits word ≡ true = grind (arith, common_steps) in
    let less : digits_value 10 word < 10 ^ 9 = digits_value_short (numerals_by_value (λ ds. all_ascii_digits ds ≡ true) tells_all_ascii_digits) word 9 digits few in
    rw (no_sign word digits)
    ((some, (numerals_by_value (λ ds. all_ascii_digits ds ≡ true) tells_all_ascii_digits).to word digits), omega (arith, less))
