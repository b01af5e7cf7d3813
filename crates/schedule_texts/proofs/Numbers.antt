-- Words that are numbers.
use Rattle.std.proofs.Common.{◌≡◌, ◌≢◌, ℕ, Bool, true, false, cond, List, [], ◌∷◌, drop, refl, arith}
use Rattle.std.specs.Prelude.{◌==◌}
use Rattle.std.specs.Str.{IsAscii, IsUtf8}
use Rattle.std.specs.Str.Parse.{IsNumeral}
use Rattle.std.proofs.lemmas.Bool.Decides.{nat_tests}
use Rattle.std.proofs.lemmas.Fmt.{IsAscii-from_digits}
use Rattle.std.proofs.lemmas.Str.{IsUtf8-from_ascii}
use Rattle.std.proofs.lemmas.Str.Ascii.{IsAscii-nil, IsAscii-cons}
use Rattle.schedule_texts.specs.Inputs.{IsNumber}

by_sign : (b : ℕ) (bs : List ℕ) (minus plus : Bool) → (b == 45) ≡ minus → (b == 43) ≡ plus → b ≢ 43 → IsNumeral 10 (cond minus bs (drop (cond plus 1 0) (b ∷ bs))) → IsAscii (b ∷ bs)
by_sign b bs true plus em ep other n = IsAscii-cons b bs (grind (arith, nat_tests)) (IsAscii-from_digits bs n.1)
by_sign b bs false true em ep other n = absurd (other (grind (arith, nat_tests)))
by_sign b bs false false em ep other n = IsAscii-from_digits (b ∷ bs) n.1

-- a number's bytes are UTF-8
pub number_is_utf8 : (word : List ℕ) → IsNumber word → IsUtf8 word
number_is_utf8 [] is = IsUtf8-from_ascii [] IsAscii-nil
number_is_utf8 (b ∷ bs) is = IsUtf8-from_ascii (b ∷ bs) (by_sign b bs (b == 45) (b == 43) refl refl is.no_plus is.digits)
