-- The tokens of a text are names of at most 63 characters, numbers and definitions by numbers that are small enough, and texts that may stand in quotes.
use Rattle.std.proofs.Common.{◌≡◌, ℕ, ◌≤◌, ◌+◌, ◌-◌, Bool, true, false, ◌&&◌, cond, List, [], ◌∷◌, ◌++◌, codes, length, take, Option, Some, None, refl, sym, ◌∙◌, ap, subst, arith, append_assoc, length-append}
use Rattle.std.specs.Prelude.{◌==◌, nat_le, Result, Ok, Err}
use Rattle.std.specs.List.{list_all}
use Rattle.std.specs.Option.{option_and_then}
use Rattle.std.proofs.lemmas.Bool.Decides.{nat_tests}
use Rattle.std.proofs.Math.Seq.{take-append_seam}
use Rattle.c_lexer.specs.declared.piece.Fault.{Fault}
use Rattle.c_lexer.specs.declared.piece.Fault.TheVariants as f
use Rattle.c_lexer.specs.declared.token.Sign.{Sign}
use Rattle.c_lexer.specs.Classes.{is_letter, is_digit, is_word, is_blank}
use Rattle.c_lexer.specs.Pieces.{Kind, Piece, Found, up_to, alone}
use Rattle.c_lexer.specs.Words.{name_of, number_of, is_plain, decimal, largest}
use Rattle.c_lexer.specs.Signs.{single, double, triple, sign_of, one_byte, several_bytes}
use Rattle.c_lexer.specs.Readings.{after_close, closed, block_comment, line_comment, is_pair, is_single, after_quote, quoted, after_mark}
use Rattle.c_lexer.specs.Directives.{after_bytes, after_gap, word, after_word, is_name as is_defined_name, Definition, defined_number, defined_name, definition, defined, definition_line, include_line, after_include, tail, directive}
use Rattle.c_lexer.specs.Lexeme.{lexeme, slash_of}
use Rattle.c_layout.specs.Layout.{IsName, IsQuotable}
use Rattle.c_grammar.specs.Items.{unquoted}

-- ---- what is known of pieces

-- Of a token of this kind with these bytes.
abbrev pub Proper : Kind → List ℕ → Type 0
Proper Kind.name w = IsName w
Proper (Kind.number value) w = value ≤ largest
Proper Kind.text w = IsQuotable (unquoted w)
Proper (Kind.sign sign) w = Unit {0}
Proper (Kind.define name value) w = value ≤ largest

-- Of the piece that these bytes are, if they are one.
abbrev pub ProperIf : List ℕ → Option Piece → Type 0
ProperIf w None = Unit {0}
ProperIf w (Some Piece.skip) = Unit {0}
ProperIf w (Some (Piece.refused fault)) = Unit {0}
ProperIf w (Some (Piece.token kind)) = Proper kind w

up_to_proper : (w rest : List ℕ) (found : Found) → ((length found.left == length rest) ≡ true → ProperIf w (Some found.piece)) → ProperIf w (up_to rest found)
up_to_proper w rest found h = by (length found.left == length rest) h
  where
    by : (x : Bool) → (x ≡ true → ProperIf w (Some found.piece)) → ProperIf w (cond x (Some found.piece) None)
    by true h = h refl
    by false h = tt

-- ---- words

name_proper : (b : ℕ) (w : List ℕ) → is_letter b ≡ true → list_all is_word w ≡ true → ProperIf (b ∷ w) (Some (name_of (length (b ∷ w))))
unfolding name_of is_word
name_proper b w e g = by (nat_le (length (b ∷ w)) 63) refl
  where
    by : (x : Bool) → nat_le (length (b ∷ w)) 63 ≡ x → ProperIf (b ∷ w) (Some (cond x (Piece.token Kind.name) (Piece.refused f.LongName)))
    by true s = rw (e, g, s) refl
    by false s = tt

small : (n : ℕ) → nat_le n largest ≡ true → n ≤ largest
small n e = grind (arith, nat_tests)

number_proper : (w : List ℕ) → ProperIf w (Some (number_of w))
unfolding number_of
number_proper w = by (is_plain w) (nat_le (decimal w) largest) refl
  where
    by : (x y : Bool) → nat_le (decimal w) largest ≡ y → ProperIf w (Some (cond x (cond y (Piece.token (Kind.number (decimal w))) (Piece.refused f.NumberTooLarge)) (Piece.refused f.BadNumber)))
    by true true e = small (decimal w) e
    by true false e = tt
    by false y e = tt

-- ---- signs and comments

sign_proper : (b : ℕ) (w : List ℕ) → ProperIf (b ∷ w) (sign_of b w)
sign_proper b [] = by (single b)
  where
    by : (o : Option Sign) → ProperIf (b ∷ []) (Some (one_byte o))
    by None = tt
    by (Some sign) = tt
sign_proper b (c ∷ []) = by (double b c)
  where
    by : (o : Option Sign) → ProperIf (b ∷ c ∷ []) (several_bytes o)
    by None = tt
    by (Some sign) = tt
sign_proper b (c ∷ d ∷ []) = by (triple b c d)
  where
    by : (o : Option Sign) → ProperIf (b ∷ c ∷ d ∷ []) (several_bytes o)
    by None = tt
    by (Some sign) = tt
sign_proper b (c ∷ d ∷ e ∷ w) = tt

comment_proper : (w : List ℕ) (o : Option (List ℕ)) → ProperIf w (Some (closed o).piece)
comment_proper w None = tt
comment_proper w (Some left) = tt

slash_proper : (w rest : List ℕ) → ProperIf (47 ∷ w) (slash_of w rest)
slash_proper [] rest = sign_proper 47 []
slash_proper (c ∷ w) rest = by (c == 42) (c == 47)
  where
    by : (x y : Bool) → ProperIf (47 ∷ c ∷ w) (cond x (up_to rest (block_comment (w ++ rest))) (cond y (up_to rest (line_comment (w ++ rest))) (sign_of 47 (c ∷ w))))
    by true y = up_to_proper (47 ∷ c ∷ w) rest (block_comment (w ++ rest)) (λ e. comment_proper (47 ∷ c ∷ w) (after_close (w ++ rest)))
    by false true = up_to_proper (47 ∷ c ∷ w) rest (line_comment (w ++ rest)) (λ e. tt)
    by false false = sign_proper 47 (c ∷ w)

blank_proper : (b : ℕ) (w : List ℕ) → ProperIf (b ∷ w) (alone Piece.skip w)
blank_proper b [] = tt
blank_proper b (c ∷ w) = tt

-- ---- definitions

-- A definition by a number that is small enough, if there is one.
abbrev SmallIf : Option Definition → Type 0
SmallIf None = Unit {0}
SmallIf (Some d) = d.value ≤ largest

and_then_small : {A : Type 0} (f : A → Option Definition) (o : Option A) → ((x : A) → SmallIf (f x)) → SmallIf (option_and_then f o)
and_then_small f None h = tt
and_then_small f (Some x) h = h x

number_small : (name text : List ℕ) → SmallIf (defined_number name text)
unfolding defined_number
number_small name text = by (is_plain (word text)) (nat_le (decimal (word text)) largest) refl
  where
    by : (x y : Bool) → nat_le (decimal (word text)) largest ≡ y → SmallIf (cond (x && y) (Some (record { name = name; value = decimal (word text); left = after_word text })) None)
    by true true e = small (decimal (word text)) e
    by true false e = tt
    by false y e = tt

name_small : (text : List ℕ) → SmallIf (defined_name text)
unfolding defined_name
name_small text = by (is_defined_name (word text))
  where
    by : (x : Bool) → SmallIf (cond x (option_and_then (defined_number (word text)) (after_gap (after_word text))) None)
    by true = and_then_small (defined_number (word text)) (after_gap (after_word text)) (number_small (word text))
    by false = tt

definition_small : (text : List ℕ) → SmallIf (definition text)
unfolding definition
definition_small text =
    and_then_small (λ more. option_and_then defined_name (after_gap more)) (after_bytes (codes "define") text) (λ more. and_then_small defined_name (after_gap more) name_small)

directive_proper : (w : List ℕ) (first : Bool) (text : List ℕ) → ProperIf w (Some (directive first text).piece)
directive_proper w false text = tt
directive_proper w true text = included (after_include text)
  where
    at_end : (d : Definition) → d.value ≤ largest → (end : Result (List ℕ) Fault) → ProperIf w (Some (defined text d end).piece)
    at_end d s (Ok left) = s
    at_end d s (Err fault) = tt

    lined : (o : Option Definition) → SmallIf o → ProperIf w (Some (definition_line text o).piece)
    lined None s = tt
    lined (Some d) s = at_end d s (tail d.left)

    included : (o : Option (List ℕ)) → ProperIf w (Some (include_line text o).piece)
    included None = lined (definition text) (definition_small text)
    included (Some left) = tt

-- ---- texts

-- A text up to its end quote.
record QuotedFront (text left : List ℕ) : Type 0 where
  front : List ℕ
  whole : text ≡ front ++ 34 ∷ left
  ends : after_quote (front ++ 34 ∷ []) ≡ Some []

pair_then : (b c : ℕ) (w left : List ℕ) → (b == 34) ≡ false → is_pair b c ≡ true → QuotedFront w left → QuotedFront (b ∷ c ∷ w) left
pair_then b c w left e f q = record {
  front = b ∷ c ∷ q.front;
  whole = ap (λ (more : List ℕ). b ∷ c ∷ more) q.whole;
  ends = rw (e, f) q.ends;
}

quote_single : (b c : ℕ) (w : List ℕ) → (b == 34) ≡ false → is_pair b c ≡ false → is_single b ≡ true → after_quote (b ∷ c ∷ w) ≡ after_quote (c ∷ w)
quote_single b c w e p g = by (b == 34) (is_pair b c) (is_single b) e p g
  where
    by : (x y z : Bool) → x ≡ false → y ≡ false → z ≡ true
        → cond {A = Option (List ℕ)} x (Some (c ∷ w)) (cond {A = Option (List ℕ)} y (after_quote w) (cond {A = Option (List ℕ)} z (after_quote (c ∷ w)) None)) ≡ after_quote (c ∷ w)
    by x y z e p g = rw (e, p, g) refl

single_then : (b c : ℕ) (w left : List ℕ) → (b == 34) ≡ false → is_pair b c ≡ false → is_single b ≡ true → QuotedFront (c ∷ w) left → QuotedFront (b ∷ c ∷ w) left
single_then b c w left e f g q = by q.front q.whole q.ends
  where
    by : (front : List ℕ) → c ∷ w ≡ front ++ 34 ∷ left → after_quote (front ++ 34 ∷ []) ≡ Some [] → QuotedFront (b ∷ c ∷ w) left
    by [] whole ends =
        let same : c ≡ 34 = cc in
        record { front = b ∷ []; whole = ap (λ (more : List ℕ). b ∷ more) whole; ends = quote_single b 34 [] e (subst (λ (d : ℕ). is_pair b d ≡ false) same f) g }
    by (d ∷ front) whole ends =
        let same : c ≡ d = cc in
        record { front = b ∷ d ∷ front; whole = ap (λ (more : List ℕ). b ∷ more) whole; ends = quote_single b d (front ++ 34 ∷ []) e (subst (λ (d : ℕ). is_pair b d ≡ false) same f) g ∙ ends }

quote_front : (text left : List ℕ) → after_quote text ≡ Some left → QuotedFront text left
quote_front [] left h = absurd (cc)
quote_front (b ∷ []) left h = by (b == 34) refl h
  where
    by : (x : Bool) → (b == 34) ≡ x → cond {A = Option (List ℕ)} x (Some []) None ≡ Some left → QuotedFront (b ∷ []) left
    by true e h =
        let byte : b ≡ 34 = grind (arith, nat_tests) in
        let none : left ≡ [] = cc in
        record { front = []; whole = rw (byte, none) refl; ends = refl }
    by false e h = absurd (cc)
quote_front (b ∷ c ∷ w) left h = by (b == 34) (is_pair b c) (is_single b) refl refl refl (quote_front w left) (quote_front (c ∷ w) left) h
  where
    by : (x y z : Bool) → (b == 34) ≡ x → is_pair b c ≡ y → is_single b ≡ z → (after_quote w ≡ Some left → QuotedFront w left) → (after_quote (c ∷ w) ≡ Some left → QuotedFront (c ∷ w) left)
        → cond {A = Option (List ℕ)} x (Some (c ∷ w)) (cond {A = Option (List ℕ)} y (after_quote w) (cond {A = Option (List ℕ)} z (after_quote (c ∷ w)) None)) ≡ Some left
        → QuotedFront (b ∷ c ∷ w) left
    by true y z e f g p q h =
        let byte : b ≡ 34 = grind (arith, nat_tests) in
        let same : c ∷ w ≡ left = cc in
        record { front = []; whole = rw (byte, same) refl; ends = refl }
    by false true z e f g p q h = pair_then b c w left e f (p h)
    by false false true e f g p q h = single_then b c w left e f g (q h)
    by false false false e f g p q h = absurd (cc)

same_front : (a b x y : List ℕ) → a ++ x ≡ b ++ y → length x ≡ length y → a ≡ b
same_front a b x y e s =
    let m = length-append a x in
    let n = length-append b y in
    let total = ap length e in
    let size : length a ≡ length b = omega (arith, m, n, total, s) in
    sym (take-append_seam a x) ∙ ap (take (length a)) e ∙ ap (λ (k : ℕ). take k (b ++ y)) size ∙ take-append_seam b y

unquoted_front : (front : List ℕ) → unquoted (34 ∷ (front ++ 34 ∷ [])) ≡ front
unquoted_front front =
    let n = length-append front (34 ∷ []) in
    let size : length (34 ∷ (front ++ 34 ∷ [])) - 2 ≡ length front = omega (arith, n) in
    ap (λ (k : ℕ). take k (front ++ 34 ∷ [])) size ∙ take-append_seam front (34 ∷ [])

text_proper : (w rest left : List ℕ) → QuotedFront (w ++ rest) left → length left ≡ length rest → length (w ++ rest) ≤ 121 + length left → IsQuotable (unquoted (34 ∷ w))
text_proper w rest left q s l =
    let whole = q.whole ∙ sym (append_assoc q.front (34 ∷ []) left) in
    let same = same_front w (q.front ++ 34 ∷ []) rest left whole (sym s) in
    let bytes : unquoted (34 ∷ w) ≡ q.front = ap (λ (v : List ℕ). unquoted (34 ∷ v)) same ∙ unquoted_front q.front in
    let n = ap length q.whole in
    let m = length-append q.front (34 ∷ left) in
    subst IsQuotable (sym bytes) (record { ends = q.ends; short = omega (arith, n, m, l) })

quote_proper : (w rest : List ℕ) (o : Option (List ℕ)) → after_quote (w ++ rest) ≡ o → ProperIf (34 ∷ w) (up_to rest (quoted (w ++ rest) o))
quote_proper w rest None e = up_to_proper (34 ∷ w) rest (quoted (w ++ rest) None) (λ s. tt)
quote_proper w rest (Some left) e = by (nat_le (length (w ++ rest)) (120 + 1 + length left)) refl
  where
    found : Bool → Found
    found x = cond x (record { piece = Piece.token Kind.text; left = left }) (record { piece = Piece.refused f.BadText; left = w ++ rest })

    by : (x : Bool) → nat_le (length (w ++ rest)) (120 + 1 + length left) ≡ x → ProperIf (34 ∷ w) (up_to rest (cond x (record { piece = Piece.token Kind.text; left = left }) (record { piece = Piece.refused f.BadText; left = w ++ rest })))
    by true l =
        up_to_proper (34 ∷ w) rest (record { piece = Piece.token Kind.text; left = left })
        (λ s. text_proper w rest left (quote_front (w ++ rest) left e) (grind (arith, nat_tests)) (grind (arith, nat_tests)))
    by false l = up_to_proper (34 ∷ w) rest (record { piece = Piece.refused f.BadText; left = w ++ rest }) (λ s. tt)

-- ---- all pieces

pub lexeme_proper : (first : Bool) (w rest : List ℕ) → ProperIf w (lexeme first w rest)
unfolding lexeme
lexeme_proper first [] rest = tt
lexeme_proper first (b ∷ w) rest = by (is_letter b) (is_digit b) (is_blank b) (b == 34) (b == 35) (b == 47) (list_all is_word w) refl refl refl refl
  where
    by : (a c d q h s x : Bool) → is_letter b ≡ a → (b == 34) ≡ q → (b == 47) ≡ s → list_all is_word w ≡ x
        → ProperIf (b ∷ w) (
        cond {A = Option Piece} a (cond x (Some (name_of (length (b ∷ w)))) None) (
        cond {A = Option Piece} c (cond x (Some (number_of (b ∷ w))) None) (
        cond {A = Option Piece} d (alone Piece.skip w) (
        cond {A = Option Piece} q (up_to rest (after_mark (w ++ rest))) (
        cond {A = Option Piece} h (up_to rest (directive first (w ++ rest))) (
        cond {A = Option Piece} s (slash_of w rest) (sign_of b w))))))
        )
    by true c d q h s true e g m k = name_proper b w e k
    by true c d q h s false e g m k = tt
    by false true d q h s true e g m k = number_proper (b ∷ w)
    by false true d q h s false e g m k = tt
    by false false true q h s x e g m k = blank_proper b w
    by false false false true h s x e g m k =
        let byte : b ≡ 34 = grind (arith, nat_tests) in
        subst (λ (c : ℕ). ProperIf (c ∷ w) (up_to rest (after_mark (w ++ rest)))) (sym byte) (quote_proper w rest (after_quote (w ++ rest)) refl)
    by false false false false true s x e g m k = up_to_proper (b ∷ w) rest (directive first (w ++ rest)) (λ z. directive_proper (b ∷ w) first (w ++ rest))
    by false false false false false true x e g m k =
        let byte : b ≡ 47 = grind (arith, nat_tests) in subst (λ (c : ℕ). ProperIf (c ∷ w) (slash_of w rest)) (sym byte) (slash_proper w rest)
    by false false false false false false x e g m k = sign_proper b w
