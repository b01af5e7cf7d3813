-- Names, numbers, texts, signs and includes are the longest pieces at their places.
use Rattle.std.proofs.Common.{◌≡◌, ◌≢◌, ℕ, zero, suc, ◌+◌, ◌-◌, ◌*◌, ◌^◌, ◌%◌, ◌<◌, ◌≤◌, Bool, true, false, cond, List, [], ◌∷◌, ◌++◌, length, get_or, refl, ◌∙◌, ap, subst, arith, append_assoc, length-append, Option, Some, None, codes}
use Rattle.std.specs.Prelude.{◌==◌, ◌&&◌, ◌||◌, nat_le, nat_lt}
use Rattle.std.specs.List.{list_all}
use Rattle.std.specs.Fmt.{decimal}
use Rattle.std.proofs.lemmas.Bool.Decides.{nat_tests}
use Rattle.std.proofs.lemmas.Fmt.{decimal_by_steps, decimal_digit, decimal_nonempty, first_decimal}
use Rattle.std.proofs.lemmas.List.Sums.{fold_push}
use Rattle.std.proofs.lemmas.List.Folds.{list_all-append}
use Rattle.c_lexer.specs.declared.token.Sign.{Sign}
use Rattle.c_lexer.specs.declared.token.Sign.TheVariants as s
use Rattle.c_lexer.specs.Classes.{is_letter, is_digit, is_word, is_blank}
use Rattle.c_lexer.specs.Pieces.{Kind, Piece}
use Rattle.c_lexer.specs.Words.{name_of, number_of, is_plain, largest, decimal as value_of}
use Rattle.c_lexer.specs.Signs.{single, double, triple, with_equals, twice, one_byte}
use Rattle.c_lexer.specs.Readings.{after_quote, after_mark, is_pair, is_single, quoted as quoted_text}
use Rattle.c_lexer.specs.Directives.{headers, after_include, directive}
use Rattle.c_lexer.specs.Lexeme.{Longest}
use Rattle.c_lexer.proofs.Pieces.{Stops as Ends, reading_longest}
use Rattle.c_lexer.proofs.WordPieces.{name_longest, number_longest}
use Rattle.c_lexer.proofs.SignPieces.{Apart, single_longest, double_longest, triple_longest, by_signs, slash_signs}
use Rattle.c_lexer.proofs.ReadingPieces.{mark_read}
use Rattle.c_lexer.proofs.DirectivePieces.{hash_read}
use Rattle.c_layout.specs.Layout.{IsName, IsQuotable, spelling, in_quotes, include_line}
use Rattle.c_layout.specs.Laws.{Stops, goes_on, OneOf, head, later}

pub both : (x y : Bool) → (x && y) ≡ true → (x ≡ true) × (y ≡ true)
both true true h = (refl, refl)
both true false h = absurd (cc)
both false y h = absurd (cc)

ends : (test : ℕ → Bool) (rest : List ℕ) → Stops test rest → Ends test rest
ends test [] h = tt
ends test (c ∷ rest) h = h

-- ---- names

pub name_fits : (w rest : List ℕ) → IsName w → Stops is_word rest → (first : Bool) → Longest first w rest (Piece.token Kind.name)
unfolding name_of
name_fits [] rest n q first = absurd (cc)
name_fits (b ∷ w) rest n q first =
    let outer = both (is_letter b && list_all is_word (b ∷ w)) (nat_le (length (b ∷ w)) 63) n in
    let inner = both (is_letter b) (list_all is_word (b ∷ w)) outer.0 in
    let all = both (is_word b) (list_all is_word w) inner.1 in
    let same : name_of (length (b ∷ w)) ≡ Piece.token Kind.name = rw outer.1 in
    subst (λ x. Longest first (b ∷ w) rest x) same (name_longest first b w rest inner.0 all.1 (ends is_word rest q))

-- ---- numbers

pub record Numeral (n : ℕ) (ds : List ℕ) : Type 0 where
  pub digits : list_all is_digit ds ≡ true
  pub value : value_of ds ≡ n

digit_is : (n : ℕ) → n < 10 → is_digit (48 + n) ≡ true
digit_is n h = let a : nat_le 48 (48 + n) ≡ true = grind (arith, nat_tests) in let b : nat_le (48 + n) 57 ≡ true = grind (arith, nat_tests) in rw (a, b)

pub numeral : (n : ℕ) → n < 2 ^ 64 → Numeral n (decimal n)
numeral = decimal_by_steps Numeral
    (λ n h. record { digits = rw (digit_is n h); value = omega arith })
    (λ n ds h x. record {
      digits = list_all-append is_digit ds ((48 + n % 10) ∷ []) ∙ rw (x.digits, digit_is (n % 10) (omega arith));
      value = fold_push (λ value digit. 10 * value + (digit - 48)) 0 ds (48 + n % 10) ∙ (let v = x.value in omega arith);
    })

pub digit_facts : (b : ℕ) → is_digit b ≡ true → (is_letter b ≡ false) × (is_word b ≡ true)
unfolding is_word
digit_facts b h =
    let le : b ≤ 57 = low b h in
    let x : nat_le 65 b ≡ false = grind (arith, nat_tests) in
    let y : (b == 95) ≡ false = grind (arith, nat_tests) in
    let z : nat_le 97 b ≡ false = grind (arith, nat_tests) in
    let letter : is_letter b ≡ false = rw (x, y, z) in
    (letter, rw (letter, h))
  where
    low : (b : ℕ) → is_digit b ≡ true → b ≤ 57
    low b h = grind (arith, nat_tests)

digits_words : (ds : List ℕ) → list_all is_digit ds ≡ true → list_all is_word ds ≡ true
digits_words [] h = refl
digits_words (d ∷ ds) h = let p = both (is_digit d) (list_all is_digit ds) h in rw ((digit_facts d p.0).1) (digits_words ds p.1)

plain_decimal : (n : ℕ) → n < 2 ^ 64 → is_plain (decimal n) ≡ true
plain_decimal zero h = rw (decimal_digit 0 (omega arith)) refl
plain_decimal (suc n) h =
    let all = (numeral (suc n) h).digits in
    let first : 48 < get_or (decimal (suc n)) 0 0 = first_decimal (suc n) (omega arith) h in
    plain_from (decimal (suc n)) (decimal_nonempty (suc n) h) all first
  where
    plain_from : (w : List ℕ) → 0 < length w → list_all is_digit w ≡ true → 48 < get_or w 0 0 → is_plain w ≡ true
    plain_from w some all first =
        let t : (get_or w 0 0 == 48) ≡ false = grind (arith, nat_tests) in
        let l : nat_lt 0 (length w) ≡ true = grind (arith, nat_tests) in
        rw (l, all, t)

number_is : (w : List ℕ) (n : ℕ) → is_plain w ≡ true → value_of w ≡ n → n ≤ largest → number_of w ≡ Piece.token (Kind.number n)
unfolding number_of
number_is w n plain value h = let t : nat_le n 2147483647 ≡ true = grind (arith, nat_tests) in rw (plain, value, t)

digits_fit : (w rest : List ℕ) (n : ℕ) → list_all is_digit w ≡ true → 0 < length w → number_of w ≡ Piece.token (Kind.number n) → Stops is_word rest
    → (first : Bool) → Longest first w rest (Piece.token (Kind.number n))
digits_fit [] rest n all some is q first = absurd (omega arith)
digits_fit (d ∷ w) rest n all some is q first =
    let p = both (is_digit d) (list_all is_digit w) all in
    subst (λ x. Longest first (d ∷ w) rest x) is (number_longest first d w rest (digit_facts d p.0).0 p.0 (digits_words w p.1) (ends is_word rest q))

pub number_fits : (n : ℕ) (rest : List ℕ) → n ≤ largest → Stops is_word rest → (first : Bool) → Longest first (decimal n) rest (Piece.token (Kind.number n))
number_fits n rest h q first =
    let x = numeral n (omega arith) in
    digits_fit (decimal n) rest n x.digits (decimal_nonempty n (omega arith)) (number_is (decimal n) n (plain_decimal n (omega arith)) x.value h) q first

-- ---- texts

quote_more : (w rest : List ℕ) → after_quote (w ++ 34 ∷ []) ≡ Some [] → after_quote (w ++ 34 ∷ rest) ≡ Some rest
quote_more [] [] h = refl
quote_more [] (c ∷ rest) h = refl
quote_more (b ∷ []) rest h = by (b == 34) (is_pair b 34) (is_single b) (quote_more [] rest refl) h
  where
    by : (x y z : Bool) → after_quote (34 ∷ rest) ≡ Some rest → cond {A = Option (List ℕ)} x (Some (34 ∷ [])) (cond {A = Option (List ℕ)} y None (cond {A = Option (List ℕ)} z (Some []) None)) ≡ Some []
        → cond {A = Option (List ℕ)} x (Some (34 ∷ rest)) (cond {A = Option (List ℕ)} y (after_quote rest) (cond {A = Option (List ℕ)} z (after_quote (34 ∷ rest)) None)) ≡ Some rest
    by true y z p h = absurd (cc)
    by false true z p h = absurd (cc)
    by false false true p h = p
    by false false false p h = absurd (cc)
quote_more (b ∷ c ∷ w) rest h = by (b == 34) (is_pair b c) (is_single b) (quote_more w rest) (quote_more (c ∷ w) rest) h
  where
    by : (x y z : Bool) → (after_quote (w ++ 34 ∷ []) ≡ Some [] → after_quote (w ++ 34 ∷ rest) ≡ Some rest)
        → (after_quote (c ∷ (w ++ 34 ∷ [])) ≡ Some [] → after_quote (c ∷ (w ++ 34 ∷ rest)) ≡ Some rest)
        → cond {A = Option (List ℕ)} x (Some (c ∷ (w ++ 34 ∷ []))) (cond {A = Option (List ℕ)} y (after_quote (w ++ 34 ∷ [])) (cond {A = Option (List ℕ)} z (after_quote (c ∷ (w ++ 34 ∷ []))) None)) ≡ Some []
        → cond {A = Option (List ℕ)} x (Some (c ∷ (w ++ 34 ∷ rest))) (cond {A = Option (List ℕ)} y (after_quote (w ++ 34 ∷ rest)) (cond {A = Option (List ℕ)} z (after_quote (c ∷ (w ++ 34 ∷ rest))) None)) ≡ Some rest
    by true y z p q h = absurd (cc)
    by false true z p q h = p h
    by false false true p q h = q h
    by false false false p q h = absurd (cc)

mark_reads : (w rest : List ℕ) → IsQuotable w → after_mark ((w ++ 34 ∷ []) ++ rest) ≡ record { piece = Piece.token Kind.text; left = rest }
mark_reads w rest q =
    let all : (w ++ 34 ∷ []) ++ rest ≡ w ++ 34 ∷ rest = append_assoc w (34 ∷ []) rest in
    let size : length (w ++ 34 ∷ rest) ≡ length w + suc (length rest) = length-append w (34 ∷ rest) in
    let fits : nat_le (length (w ++ 34 ∷ rest)) (120 + 1 + length rest) ≡ true = let short = q.short in grind (arith, nat_tests) in
    ap after_mark all ∙ ap (quoted_text (w ++ 34 ∷ rest)) (quote_more w rest q.ends) ∙ (rw fits refl)

pub quote_fits : (w rest : List ℕ) → IsQuotable w → (first : Bool) → Longest first (in_quotes w) rest (Piece.token Kind.text)
quote_fits w rest q first = reading_longest first (34 ∷ []) after_mark (w ++ 34 ∷ []) rest (Piece.token Kind.text) (mark_read first) (mark_reads w rest q)

-- ---- signs

same_byte : (c k : ℕ) → (c == k) ≡ true → c ≡ k
same_byte c k e = grind (arith, nat_tests)

other_byte : (c k : ℕ) → (c == k) ≡ false → c ≢ k
other_byte c k e = grind (arith, nat_tests)

-- This byte makes no sign of two bytes, where nothing does with `=` or the byte is another one, and likewise with the byte itself.
apart_by : (b c : ℕ) (x y : Bool) → (c == 61) ≡ x → (b == c) ≡ y → (x ≡ true → with_equals b ≡ None) → (y ≡ true → twice b ≡ None) → double b c ≡ None
unfolding double
apart_by b c true y e f g h = rw (e, g refl)
apart_by b c false true e f g h = rw (e, f, h refl)
apart_by b c false false e f g h = rw (e, f)

flip_eq : (b c : ℕ) → (c == b) ≡ false → (b == c) ≡ true → ⊥
flip_eq b c h g = grind (arith, nat_tests)

-- The byte that follows makes no sign of two bytes.
abbrev NoDouble : ℕ → List ℕ → Type 0
NoDouble b [] = Unit {0}
NoDouble b (c ∷ rest) = double b c ≡ None

-- Signs that no byte goes on.
alone_apart : (b : ℕ) (rest : List ℕ) → with_equals b ≡ None → twice b ≡ None → NoDouble b rest
alone_apart b [] e t = tt
alone_apart b (c ∷ rest) e t = apart_by b c (c == 61) (b == c) refl refl (λ x. e) (λ x. t)

-- Signs that only `=` goes on.
equals_apart : (b : ℕ) (rest : List ℕ) → twice b ≡ None → Stops (λ c. c == 61) rest → NoDouble b rest
equals_apart b [] t h = tt
equals_apart b (c ∷ rest) t h = apart_by b c (c == 61) (b == c) refl refl (λ x. absurd (cc)) (λ x. t)

-- Signs that only the same byte goes on.
twice_apart : (b : ℕ) (rest : List ℕ) → with_equals b ≡ None → Stops (λ c. c == b) rest → NoDouble b rest
twice_apart b [] e h = tt
twice_apart b (c ∷ rest) e h = apart_by b c (c == 61) (b == c) refl refl (λ x. e) (λ x. absurd (flip_eq b c h x))

-- Signs that both go on.
either : (x y : Bool) → (x || y) ≡ false → (x ≡ false) × (y ≡ false)
either true y h = absurd (cc)
either false true h = absurd (cc)
either false false h = (refl, refl)

both_apart : (b : ℕ) (rest : List ℕ) → Stops (λ c. (c == 61) || (c == b)) rest → NoDouble b rest
both_apart b [] h = tt
both_apart b (c ∷ rest) h =
    let p = either (c == 61) (c == b) h in
    apart_by b c (c == 61) (b == c) refl refl (λ x. let f = p.0 in absurd (cc)) (λ x. absurd (flip_eq b c p.1 x))

-- No sign of three bytes begins with one of one byte.
no_triple : (b c d : ℕ) (sign : Sign) → single b ≡ Some sign → triple b c d ≡ None
unfolding single triple
no_triple b c d sign h = by (b == 46) refl
  where
    by : (x : Bool) → (b == 46) ≡ x → cond x (cond (c == 46) (cond (d == 46) (Some s.Ellipsis) None) None) None ≡ None
    by true e = let dot : single 46 ≡ Some sign = subst (λ x. single x ≡ Some sign) (same_byte b 46 e) h in absurd (cc)
    by false e = refl

apart : (b : ℕ) (rest : List ℕ) (sign : Sign) → single b ≡ Some sign → NoDouble b rest → Apart b rest
apart b [] sign is h = tt
apart b (c ∷ []) sign is h = (h, refl)
apart b (c ∷ d ∷ rest) sign is h = (h, no_triple b c d sign is)

one_fits : (b : ℕ) (rest : List ℕ) (sign : Sign) → single b ≡ Some sign → is_letter b ≡ false → is_digit b ≡ false → is_blank b ≡ false
    → b ≢ 34 → b ≢ 35 → b ≢ 47 → NoDouble b rest → (first : Bool) → Longest first (b ∷ []) rest (Piece.token (Kind.sign sign))
one_fits b rest sign is letter digit blank mark hash slash h first =
    let same : one_byte (single b) ≡ Piece.token (Kind.sign sign) = rw is in
    subst (λ x. Longest first (b ∷ []) rest x) same
    (single_longest first b rest (by_signs (b ∷ rest) (omega arith) letter digit blank mark hash slash) (apart b rest sign is h))

two_fit : (b c : ℕ) (rest : List ℕ) (sign : Sign) → double b c ≡ Some sign → is_letter b ≡ false → is_digit b ≡ false → is_blank b ≡ false
    → b ≢ 34 → b ≢ 35 → b ≢ 47 → (first : Bool) → Longest first (b ∷ c ∷ []) rest (Piece.token (Kind.sign sign))
two_fit b c rest sign is letter digit blank mark hash slash first =
    double_longest first b c rest sign (by_signs (b ∷ c ∷ rest) (omega arith) letter digit blank mark hash slash) is

slash_fits : (rest : List ℕ) → Stops (goes_on s.Slash) rest → (first : Bool) → Longest first (codes "/") rest (Piece.token (Kind.sign s.Slash))
unfolding single
slash_fits [] h first = single_longest first 47 [] (slash_signs (47 ∷ []) (omega arith) refl (λ x. absurd (omega arith)) (λ x. absurd (omega arith))) tt
slash_fits (c ∷ rest) h first =
    let p = either (c == 61) ((c == 42) || (c == 47)) (regroup (c == 61) (c == 42) (c == 47) h) in
    let q = either (c == 42) (c == 47) p.1 in
    single_longest first 47 (c ∷ rest) (slash_signs (47 ∷ c ∷ rest) (omega arith) refl (λ x. other_byte c 42 q.0) (λ x. other_byte c 47 q.1))
    (apart 47 (c ∷ rest) s.Slash refl (apart_by 47 c (c == 61) (47 == c) refl refl (λ x. let f = p.0 in absurd (cc)) (λ x. absurd (flip_eq 47 c q.1 x))))
  where
    regroup : (x y z : Bool) → ((x || y) || z) ≡ false → (x || (y || z)) ≡ false
    regroup true y z h = h
    regroup false y z h = h

pub sign_fits : (sign : Sign) (rest : List ℕ) → Stops (goes_on sign) rest → (first : Bool) → Longest first (spelling sign) rest (Piece.token (Kind.sign sign))
unfolding single double triple
sign_fits s.LeftParenthesis rest h = one_fits 40 rest s.LeftParenthesis refl refl refl refl (omega arith) (omega arith) (omega arith) (alone_apart 40 rest refl refl)
sign_fits s.RightParenthesis rest h = one_fits 41 rest s.RightParenthesis refl refl refl refl (omega arith) (omega arith) (omega arith) (alone_apart 41 rest refl refl)
sign_fits s.LeftBrace rest h = one_fits 123 rest s.LeftBrace refl refl refl refl (omega arith) (omega arith) (omega arith) (alone_apart 123 rest refl refl)
sign_fits s.RightBrace rest h = one_fits 125 rest s.RightBrace refl refl refl refl (omega arith) (omega arith) (omega arith) (alone_apart 125 rest refl refl)
sign_fits s.LeftBracket rest h = one_fits 91 rest s.LeftBracket refl refl refl refl (omega arith) (omega arith) (omega arith) (alone_apart 91 rest refl refl)
sign_fits s.RightBracket rest h = one_fits 93 rest s.RightBracket refl refl refl refl (omega arith) (omega arith) (omega arith) (alone_apart 93 rest refl refl)
sign_fits s.Semicolon rest h = one_fits 59 rest s.Semicolon refl refl refl refl (omega arith) (omega arith) (omega arith) (alone_apart 59 rest refl refl)
sign_fits s.Comma rest h = one_fits 44 rest s.Comma refl refl refl refl (omega arith) (omega arith) (omega arith) (alone_apart 44 rest refl refl)
sign_fits s.Ampersand rest h = one_fits 38 rest s.Ampersand refl refl refl refl (omega arith) (omega arith) (omega arith) (twice_apart 38 rest refl h)
sign_fits s.Star rest h = one_fits 42 rest s.Star refl refl refl refl (omega arith) (omega arith) (omega arith) (equals_apart 42 rest refl h)
sign_fits s.Assign rest h = one_fits 61 rest s.Assign refl refl refl refl (omega arith) (omega arith) (omega arith) (equals_apart 61 rest refl h)
sign_fits s.Equal rest h = two_fit 61 61 rest s.Equal refl refl refl refl (omega arith) (omega arith) (omega arith)
sign_fits s.NotEqual rest h = two_fit 33 61 rest s.NotEqual refl refl refl refl (omega arith) (omega arith) (omega arith)
sign_fits s.Less rest h = one_fits 60 rest s.Less refl refl refl refl (omega arith) (omega arith) (omega arith) (equals_apart 60 rest refl h)
sign_fits s.LessEqual rest h = two_fit 60 61 rest s.LessEqual refl refl refl refl (omega arith) (omega arith) (omega arith)
sign_fits s.Greater rest h = one_fits 62 rest s.Greater refl refl refl refl (omega arith) (omega arith) (omega arith) (equals_apart 62 rest refl h)
sign_fits s.GreaterEqual rest h = two_fit 62 61 rest s.GreaterEqual refl refl refl refl (omega arith) (omega arith) (omega arith)
sign_fits s.Plus rest h = one_fits 43 rest s.Plus refl refl refl refl (omega arith) (omega arith) (omega arith) (both_apart 43 rest h)
sign_fits s.Minus rest h = one_fits 45 rest s.Minus refl refl refl refl (omega arith) (omega arith) (omega arith) (both_apart 45 rest h)
sign_fits s.Slash rest h = slash_fits rest h
sign_fits s.Percent rest h = one_fits 37 rest s.Percent refl refl refl refl (omega arith) (omega arith) (omega arith) (equals_apart 37 rest refl h)
sign_fits s.Not rest h = one_fits 33 rest s.Not refl refl refl refl (omega arith) (omega arith) (omega arith) (equals_apart 33 rest refl h)
sign_fits s.And rest h = two_fit 38 38 rest s.And refl refl refl refl (omega arith) (omega arith) (omega arith)
sign_fits s.Or rest h = two_fit 124 124 rest s.Or refl refl refl refl (omega arith) (omega arith) (omega arith)
sign_fits s.AddAssign rest h = two_fit 43 61 rest s.AddAssign refl refl refl refl (omega arith) (omega arith) (omega arith)
sign_fits s.SubtractAssign rest h = two_fit 45 61 rest s.SubtractAssign refl refl refl refl (omega arith) (omega arith) (omega arith)
sign_fits s.MultiplyAssign rest h = two_fit 42 61 rest s.MultiplyAssign refl refl refl refl (omega arith) (omega arith) (omega arith)
sign_fits s.DivideAssign rest h = λ first. double_longest first 47 61 rest s.DivideAssign (slash_signs (47 ∷ 61 ∷ rest) (omega arith) refl (λ x. omega arith) (λ x. omega arith)) refl
sign_fits s.RemainderAssign rest h = two_fit 37 61 rest s.RemainderAssign refl refl refl refl (omega arith) (omega arith) (omega arith)
sign_fits s.Increment rest h = two_fit 43 43 rest s.Increment refl refl refl refl (omega arith) (omega arith) (omega arith)
sign_fits s.Decrement rest h = two_fit 45 45 rest s.Decrement refl refl refl refl (omega arith) (omega arith) (omega arith)
sign_fits s.Ellipsis rest h = λ first.
    triple_longest first 46 46 46 rest s.Ellipsis (by_signs (46 ∷ 46 ∷ 46 ∷ rest) (omega arith) refl refl refl (omega arith) (omega arith) (omega arith)) refl

-- ---- includes

include_reads : (header rest : List ℕ) → OneOf header headers → directive true ((codes "include " ++ header) ++ rest) ≡ record { piece = Piece.skip; left = rest }
unfolding after_include
include_reads _ rest head = refl
include_reads _ rest (later head) = refl
include_reads _ rest (later (later head)) = refl
include_reads _ rest (later (later (later head))) = refl
include_reads _ rest (later (later (later (later head)))) = refl
include_reads header rest (later (later (later (later (later x))))) = elim x [ ]

pub include_fits : (header rest : List ℕ) → OneOf header headers → Longest true (include_line header) rest Piece.skip
include_fits header rest one = reading_longest true (35 ∷ []) (directive true) (codes "include " ++ header) rest Piece.skip (hash_read true) (include_reads header rest one)
