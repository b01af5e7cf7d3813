-- The numbers of a text are at most the largest one.
use Rattle.std.proofs.Common.{◌≡◌, ℕ, ◌+◌, Bool, true, false, ◌&&◌, cond, List, [], ◌∷◌, ◌++◌, codes, length, Option, Some, None, refl, ap, subst}
use Rattle.std.specs.Prelude.{◌==◌, nat_le, Result, Ok, Err}
use Rattle.std.specs.List.{list_all}
use Rattle.std.specs.Option.{option_and_then}
use Rattle.c_lexer.specs.declared.piece.Fault.{Fault}
use Rattle.c_lexer.specs.declared.piece.Fault.TheVariants as f
use Rattle.c_lexer.specs.declared.token.Sign.{Sign}
use Rattle.c_lexer.specs.Classes.{is_letter, is_digit, is_blank, is_word}
use Rattle.c_lexer.specs.Pieces.{Kind, Piece, Found, up_to, alone}
use Rattle.c_lexer.specs.Words.{name_of, number_of, is_plain, decimal, largest}
use Rattle.c_lexer.specs.Signs.{single, double, triple, sign_of, one_byte, several_bytes}
use Rattle.c_lexer.specs.Readings.{after_close, closed, block_comment, line_comment, after_quote, quoted, after_mark}
use Rattle.c_lexer.specs.Directives.{after_bytes, after_gap, word, after_word, is_name, is_number, Definition, defined_number, defined_name, definition, defined, definition_line, include_line, after_include, tail, directive}
use Rattle.c_lexer.specs.Lexeme.{lexeme, slash_of}
use Rattle.c_lexer.specs.Tokens.{Word}
use Rattle.c_tokens.specs.Reading.{Leads, nothing, one_skip, one_word}
use Rattle.c_tokens.specs.Marks.{is_small, AreSmall}

abbrev small : Option Piece → Bool
small (Some (Piece.token kind)) = is_small kind
small other = true

small_name : (n : ℕ) → small (Some (name_of n)) ≡ true
unfolding name_of
small_name n = by (nat_le n 63)
  where
    by : (x : Bool) → small (Some (cond x (Piece.token Kind.name) (Piece.refused f.LongName))) ≡ true
    by true = refl
    by false = refl

small_number : (w : List ℕ) → small (Some (number_of w)) ≡ true
unfolding number_of
small_number w = by (is_plain w) (nat_le (decimal w) largest) refl
  where
    by : (x y : Bool) → nat_le (decimal w) largest ≡ y → small (Some (cond x (cond y (Piece.token (Kind.number (decimal w))) (Piece.refused f.NumberTooLarge)) (Piece.refused f.BadNumber))) ≡ true
    by true true e = e
    by true false e = refl
    by false y e = refl

small_up_to : (rest : List ℕ) (found : Found) → small (Some found.piece) ≡ true → small (up_to rest found) ≡ true
small_up_to rest found h = by (length found.left == length rest)
  where
    by : (x : Bool) → small (cond x (Some found.piece) None) ≡ true
    by true = h
    by false = refl

small_bytes : (o : Option Sign) → small (several_bytes o) ≡ true
small_bytes None = refl
small_bytes (Some sign) = refl

small_sign : (b : ℕ) (w : List ℕ) → small (sign_of b w) ≡ true
small_sign b [] = by (single b)
  where
    by : (o : Option Sign) → small (Some (one_byte o)) ≡ true
    by None = refl
    by (Some sign) = refl
small_sign b (c ∷ []) = small_bytes (double b c)
small_sign b (c ∷ d ∷ []) = small_bytes (triple b c d)
small_sign b (c ∷ d ∷ e ∷ w) = refl

small_text : (rest text : List ℕ) → small (up_to rest (after_mark text)) ≡ true
small_text rest text = small_up_to rest (after_mark text) (by (after_quote text))
  where
    by : (o : Option (List ℕ)) → small (Some (quoted text o).piece) ≡ true
    by None = refl
    by (Some left) = judged (nat_le (length text) (120 + 1 + length left))
      where
        judged : (x : Bool) → small (Some (cond {A = Found} x (record { piece = Piece.token Kind.text; left = left }) (record { piece = Piece.refused f.BadText; left = text })).piece) ≡ true
        judged true = refl
        judged false = refl

small_slash : (w rest : List ℕ) → small (slash_of w rest) ≡ true
small_slash [] rest = small_sign 47 []
small_slash (c ∷ w) rest = by (c == 42) (c == 47)
  where
    block : (o : Option (List ℕ)) → small (Some (closed o).piece) ≡ true
    block None = refl
    block (Some left) = refl

    by : (x y : Bool) → small (cond x (up_to rest (block_comment (w ++ rest))) (cond y (up_to rest (line_comment (w ++ rest))) (sign_of 47 (c ∷ w)))) ≡ true
    by true y = small_up_to rest (block_comment (w ++ rest)) (block (after_close (w ++ rest)))
    by false true = small_up_to rest (line_comment (w ++ rest)) refl
    by false false = small_sign 47 (c ∷ w)

small_alone : (w : List ℕ) → small (alone Piece.skip w) ≡ true
small_alone [] = refl
small_alone (b ∷ w) = refl

-- ---- definitions

and_second : (x y : Bool) → (x && y) ≡ true → y ≡ true
and_second true y e = e
and_second false y e = absurd cc

small_named : (name text : List ℕ) (d : Definition) → defined_number name text ≡ Some d → nat_le d.value largest ≡ true
unfolding defined_number
small_named name text d e = by (is_number (word text)) refl e
  where
    by : (x : Bool) → is_number (word text) ≡ x → cond {A = Option Definition} x (Some (record { name = name; value = decimal (word text); left = after_word text })) None ≡ Some d → nat_le d.value largest ≡ true
    by true h e =
        let same : ◌≡◌ {A = Definition} (record { name = name; value = decimal (word text); left = after_word text }) d = cc in
        subst (λ (n : ℕ). nat_le n largest ≡ true) (ap (λ (x : Definition). x.value) same) (and_second (is_plain (word text)) (nat_le (decimal (word text)) largest) h)
    by false h e = absurd cc

small_defined : (text : List ℕ) (d : Definition) → defined_name text ≡ Some d → nat_le d.value largest ≡ true
unfolding defined_name
small_defined text d e = by (is_name (word text)) (after_gap (after_word text)) e
  where
    by : (x : Bool) (o : Option (List ℕ)) → cond x (option_and_then (defined_number (word text)) o) None ≡ Some d → nat_le d.value largest ≡ true
    by true None e = absurd cc
    by true (Some more) e = small_named (word text) more d e
    by false o e = absurd cc

small_definition : (text : List ℕ) (d : Definition) → definition text ≡ Some d → nat_le d.value largest ≡ true
unfolding definition
small_definition text d e = by (after_bytes (codes "define") text) e
  where
    gap : (o : Option (List ℕ)) → option_and_then defined_name o ≡ Some d → nat_le d.value largest ≡ true
    gap None e = absurd cc
    gap (Some at) e = small_defined at d e

    by : (o : Option (List ℕ)) → option_and_then (λ more. option_and_then defined_name (after_gap more)) o ≡ Some d → nat_le d.value largest ≡ true
    by None e = absurd cc
    by (Some more) e = gap (after_gap more) e

small_directive : (first : Bool) (text : List ℕ) → small (Some (directive first text).piece) ≡ true
small_directive false text = refl
small_directive true text = by (after_include text)
  where
    ends : (d : Definition) (o : Result (List ℕ) Fault) → nat_le d.value largest ≡ true → small (Some (defined text d o).piece) ≡ true
    ends d (Ok left) h = h
    ends d (Err fault) h = refl

    line : (o : Option Definition) → definition text ≡ o → small (Some (definition_line text o).piece) ≡ true
    line None e = refl
    line (Some d) e = ends d (tail d.left) (small_definition text d e)

    by : (i : Option (List ℕ)) → small (Some (include_line text i).piece) ≡ true
    by None = line (definition text) refl
    by (Some left) = refl

-- ---- all of them

small_lexeme : (first : Bool) (w rest : List ℕ) → small (lexeme first w rest) ≡ true
unfolding lexeme
small_lexeme first [] rest = refl
small_lexeme first (b ∷ w) rest = by (is_letter b) (list_all is_word w) (is_digit b) (is_blank b) (b == 34) (b == 35) (b == 47)
  where
    by : (letter all digit blank mark hash slash : Bool)
        → small (cond letter (cond all (Some (name_of (length (b ∷ w)))) None) (cond digit (cond all (Some (number_of (b ∷ w))) None) (cond blank (alone Piece.skip w)
        (cond mark (up_to rest (after_mark (w ++ rest))) (cond hash (up_to rest (directive first (w ++ rest))) (cond slash (slash_of w rest) (sign_of b w))))))) ≡ true
    by true true digit blank mark hash slash = small_name (length (b ∷ w))
    by true false digit blank mark hash slash = refl
    by false true true blank mark hash slash = small_number (b ∷ w)
    by false false true blank mark hash slash = refl
    by false all false true mark hash slash = small_alone w
    by false all false false true hash slash = small_text rest (w ++ rest)
    by false all false false false true slash = small_up_to rest (directive first (w ++ rest)) (small_directive first (w ++ rest))
    by false all false false false false true = small_slash w rest
    by false all false false false false false = small_sign b w

-- so are those of the words from one place to another
pub leads_small : {before all place left : List ℕ} {words : List Word} → Leads before all words place left → AreSmall words
leads_small nothing = tt
leads_small (one_skip e l x) = leads_small x
leads_small (one_word {before} {w = w} {rest = r} {kind = k} e l x) = (subst (λ (o : Option Piece). small o ≡ true) l.is (small_lexeme _ w r), leads_small x)
