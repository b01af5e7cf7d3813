-- Items at the front of a layout that is parted.
use Rattle.std.proofs.Common.{◌≡◌, ℕ, Bool, true, false, List, [], ◌∷◌, ◌++◌, refl, subst, arith}
use Rattle.std.specs.Prelude.{◌==◌, ◌||◌, ◌≤◌}
use Rattle.std.specs.List.{list_all}
use Rattle.std.specs.Fmt.{decimal}
use Rattle.std.proofs.lemmas.Bool.Decides.{nat_tests}
use Rattle.c_lexer.specs.declared.token.Sign.{Sign}
use Rattle.c_lexer.specs.declared.token.Sign.TheVariants as s
use Rattle.c_lexer.specs.Classes.{is_word, is_blank}
use Rattle.c_lexer.specs.Words.{largest}
use Rattle.c_layout.specs.Layout.{Item, text, word, number, quoted, sign, gap, blanks, first_after, spelling, in_quotes, Parted, IsName, IsQuotable}
use Rattle.c_layout.specs.Laws.{Stops, goes_on}
use Rattle.c_layout.proofs.Readings.{parted_append}
use Rattle.c_layout.proofs.Fitting.{name_fits, number_fits, quote_fits, sign_fits}

-- A layout is parted before this rest, wherever it stands on its line.
pub record Joins (items : List Item) (rest : List ℕ) : Type 0 where
  pub at : (first : Bool) → Parted first items rest

pub joins_append : (a b : List Item) (rest : List ℕ) → Joins a (text b ++ rest) → Joins b rest → Joins (a ++ b) rest
joins_append a b rest h g = record { at = λ first. parted_append a b rest first (h.at first) g.at }

pub nothing : (rest : List ℕ) → Joins [] rest
nothing rest = record { at = λ first. tt }

pub word_then : (w : List ℕ) (items : List Item) (rest : List ℕ) → IsName w → Stops is_word (text items ++ rest) → Joins items rest → Joins (word w ∷ items) rest
word_then w items rest n q h = record { at = λ first. (name_fits w (text items ++ rest) n q first, h.at (first_after first w)) }

pub number_then : (n : ℕ) (items : List Item) (rest : List ℕ) → n ≤ largest → Stops is_word (text items ++ rest) → Joins items rest → Joins (number n ∷ items) rest
number_then n items rest f q h = record { at = λ first. (number_fits n (text items ++ rest) f q first, h.at (first_after first (decimal n))) }

pub quoted_then : (w : List ℕ) (items : List Item) (rest : List ℕ) → IsQuotable w → Joins items rest → Joins (quoted w ∷ items) rest
quoted_then w items rest f h = record { at = λ first. (quote_fits w (text items ++ rest) f first, h.at (first_after first (in_quotes w))) }

pub sign_then : (x : Sign) (items : List Item) (rest : List ℕ) → Stops (goes_on x) (text items ++ rest) → Joins items rest → Joins (sign x ∷ items) rest
sign_then x items rest q h = record { at = λ first. (sign_fits x (text items ++ rest) q first, h.at (first_after first (spelling x))) }

never_stops : (x : Sign) (rest : List ℕ) → ((c : ℕ) → goes_on x c ≡ false) → Stops (goes_on x) rest
never_stops x [] h = tt
never_stops x (c ∷ rest) h = h c

-- a sign that no byte goes on
pub free_then : (x : Sign) → ((c : ℕ) → goes_on x c ≡ false) → (items : List Item) (rest : List ℕ) → Joins items rest → Joins (sign x ∷ items) rest
free_then x free items rest h = sign_then x items rest (never_stops x (text items ++ rest) free) h

pub gap_then : (w : List ℕ) (items : List Item) (rest : List ℕ) → list_all is_blank w ≡ true → Joins items rest → Joins (gap w ∷ items) rest
gap_then w items rest b h = record { at = λ first. (blanks b, h.at (first_after first w)) }

-- ---- what may follow a word

-- The text ends, or begins with one of: space, newline, `)`, `]`, `}`, `;`, `,`.
abbrev pub is_quiet : ℕ → Bool
is_quiet c = (c == 32) || (c == 10) || (c == 41) || (c == 93) || (c == 59) || (c == 44) || (c == 125)

abbrev pub Quiet : List ℕ → Type 0
Quiet [] = Unit {0}
Quiet (c ∷ rest) = is_quiet c ≡ true

quiet_by : (P : ℕ → Type 0) (b : ℕ) → is_quiet b ≡ true → P 32 → P 10 → P 41 → P 93 → P 59 → P 44 → P 125 → P b
quiet_by P b h p q r s t u v = by (b == 32) (b == 10) (b == 41) (b == 93) (b == 59) (b == 44) (b == 125) refl refl refl refl refl refl refl h
  where
    is : (k : ℕ) → (b == k) ≡ true → P k → P b
    is k e x = let same : k ≡ b = grind (arith, nat_tests) in subst P same x

    by : (a c d x y z o : Bool) → (b == 32) ≡ a → (b == 10) ≡ c → (b == 41) ≡ d → (b == 93) ≡ x → (b == 59) ≡ y → (b == 44) ≡ z → (b == 125) ≡ o
        → ((((((a || c) || d) || x) || y) || z) || o) ≡ true → P b
    by true c d x y z o e f g i j k l h = is 32 e p
    by false true d x y z o e f g i j k l h = is 10 f q
    by false false true x y z o e f g i j k l h = is 41 g r
    by false false false true y z o e f g i j k l h = is 93 i s
    by false false false false true z o e f g i j k l h = is 59 j t
    by false false false false false true o e f g i j k l h = is 44 k u
    by false false false false false false true e f g i j k l h = is 125 l v
    by false false false false false false false e f g i j k l h = absurd (cc)

pub quiet_stops : (rest : List ℕ) → Quiet rest → Stops is_word rest
unfolding is_word
quiet_stops [] q = tt
quiet_stops (c ∷ rest) q = quiet_by (λ c. is_word c ≡ false) c q refl refl refl refl refl refl refl

-- ---- what may follow a sign of one operand

other_byte : (c k : ℕ) → is_word c ≡ true → is_word k ≡ false → (c == k) ≡ false
other_byte c k h g = by (c == k) refl
  where
    by : (x : Bool) → (c == k) ≡ x → x ≡ false
    by false e = refl
    by true e = let same : c ≡ k = grind (arith, nat_tests) in let both : is_word k ≡ true = subst (λ y. is_word y ≡ true) same h in absurd (cc)

equals_no_word : is_word 61 ≡ false
unfolding is_word
equals_no_word = refl

and_no_word : is_word 38 ≡ false
unfolding is_word
and_no_word = refl

minus_no_word : is_word 45 ≡ false
unfolding is_word
minus_no_word = refl

-- No word goes on this sign.
abbrev pub BeforeWords : Sign → Type 0
BeforeWords x = (c : ℕ) → is_word c ≡ true → goes_on x c ≡ false

pub not_before : BeforeWords s.Not
not_before c h = other_byte c 61 h equals_no_word

pub star_before : BeforeWords s.Star
star_before c h = other_byte c 61 h equals_no_word

pub ampersand_before : BeforeWords s.Ampersand
ampersand_before c h = other_byte c 38 h and_no_word

pub minus_before : BeforeWords s.Minus
minus_before c h = rw (other_byte c 61 h equals_no_word, other_byte c 45 h minus_no_word) refl
