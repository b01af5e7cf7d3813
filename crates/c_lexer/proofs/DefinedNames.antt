-- The name of a definition stands at its place in the text.
use Rattle.std.proofs.Common.{◌≡◌, ℕ, suc, ◌≤◌, ◌+◌, Bool, true, false, ◌&&◌, cond, List, [], ◌∷◌, ◌++◌, codes, length, take, drop, Option, Some, None, refl, sym, ◌∙◌, ap, subst, arith, length-drop, length-append, take-append-drop}
use Rattle.std.specs.Prelude.{◌==◌, nat_le, Result, Ok, Err}
use Rattle.std.specs.List.{prefix_len, list_all}
use Rattle.std.specs.Option.{option_and_then}
use Rattle.std.proofs.lemmas.Bool.Decides.{nat_tests}
use Rattle.std.proofs.lemmas.List.{drop-drop}
use Rattle.std.proofs.lemmas.List.Sums.{prefix_len-le-length}
use Rattle.std.proofs.lemmas.List.Folds.{length-prefix_len}
use Rattle.c_lexer.specs.declared.piece.Fault.{Fault}
use Rattle.c_lexer.specs.declared.piece.Fault.TheVariants as f
use Rattle.c_lexer.specs.declared.token.Sign.{Sign}
use Rattle.c_lexer.specs.Classes.{is_letter, is_digit, is_blank, is_line_blank, in_line, is_word, is_space}
use Rattle.c_lexer.specs.Pieces.{Kind, Piece, Found, up_to, alone}
use Rattle.c_lexer.specs.Words.{name_of, number_of, is_plain, decimal, largest}
use Rattle.c_lexer.specs.Signs.{single, double, triple, sign_of, one_byte, several_bytes}
use Rattle.c_lexer.specs.Readings.{after_close, after_line, closed, block_comment, line_comment, after_quote, quoted, after_mark}
use Rattle.c_lexer.specs.Directives.{after_bytes, after_gap, after_spaces, word, after_word, is_name, is_number, Definition, defined_number, defined_name, definition, defined, definition_line, include_line, after_include, tail, tail_slash, tail_comment, over_lines, directive, name_place}
use Rattle.c_lexer.specs.Lexeme.{lexeme, slash_of}

-- ---- only what begins with a hash is a definition

abbrev is_definition : Option Piece → Bool
is_definition None = false
is_definition (Some Piece.skip) = false
is_definition (Some (Piece.refused fault)) = false
is_definition (Some (Piece.token Kind.name)) = false
is_definition (Some (Piece.token (Kind.number value))) = false
is_definition (Some (Piece.token Kind.text)) = false
is_definition (Some (Piece.token (Kind.sign sign))) = false
is_definition (Some (Piece.token (Kind.define name value))) = true

not_name : (n : ℕ) → is_definition (Some (name_of n)) ≡ false
unfolding name_of
not_name n = by (nat_le n 63)
  where
    by : (x : Bool) → is_definition (Some (cond x (Piece.token Kind.name) (Piece.refused f.LongName))) ≡ false
    by true = refl
    by false = refl

not_number : (w : List ℕ) → is_definition (Some (number_of w)) ≡ false
unfolding number_of
not_number w = by (is_plain w) (nat_le (decimal w) largest)
  where
    by : (x y : Bool) → is_definition (Some (cond x (cond y (Piece.token (Kind.number (decimal w))) (Piece.refused f.NumberTooLarge)) (Piece.refused f.BadNumber))) ≡ false
    by true true = refl
    by true false = refl
    by false y = refl

not_up_to : (rest : List ℕ) (found : Found) → is_definition (Some found.piece) ≡ false → is_definition (up_to rest found) ≡ false
not_up_to rest found h = by (length found.left == length rest)
  where
    by : (x : Bool) → is_definition (cond x (Some found.piece) None) ≡ false
    by true = h
    by false = refl

not_sign : (b : ℕ) (w : List ℕ) → is_definition (sign_of b w) ≡ false
not_sign b [] = by (single b)
  where
    by : (o : Option Sign) → is_definition (Some (one_byte o)) ≡ false
    by None = refl
    by (Some sign) = refl
not_sign b (c ∷ []) = by (double b c)
  where
    by : (o : Option Sign) → is_definition (several_bytes o) ≡ false
    by None = refl
    by (Some sign) = refl
not_sign b (c ∷ d ∷ []) = by (triple b c d)
  where
    by : (o : Option Sign) → is_definition (several_bytes o) ≡ false
    by None = refl
    by (Some sign) = refl
not_sign b (c ∷ d ∷ e ∷ w) = refl

not_text : (rest text : List ℕ) → is_definition (up_to rest (after_mark text)) ≡ false
not_text rest text = not_up_to rest (after_mark text) (by (after_quote text))
  where
    by : (o : Option (List ℕ)) → is_definition (Some (quoted text o).piece) ≡ false
    by None = refl
    by (Some left) = judged (nat_le (length text) (120 + 1 + length left))
      where
        judged : (x : Bool) → is_definition (Some (cond {A = Found} x (record { piece = Piece.token Kind.text; left = left }) (record { piece = Piece.refused f.BadText; left = text })).piece) ≡ false
        judged true = refl
        judged false = refl

not_slash : (w rest : List ℕ) → is_definition (slash_of w rest) ≡ false
not_slash [] rest = not_sign 47 []
not_slash (c ∷ w) rest = by (c == 42) (c == 47)
  where
    block : (o : Option (List ℕ)) → is_definition (Some (closed o).piece) ≡ false
    block None = refl
    block (Some left) = refl

    by : (x y : Bool) → is_definition (cond x (up_to rest (block_comment (w ++ rest))) (cond y (up_to rest (line_comment (w ++ rest))) (sign_of 47 (c ∷ w)))) ≡ false
    by true y = not_up_to rest (block_comment (w ++ rest)) (block (after_close (w ++ rest)))
    by false true = not_up_to rest (line_comment (w ++ rest)) refl
    by false false = not_sign 47 (c ∷ w)

not_alone : (w : List ℕ) → is_definition (alone Piece.skip w) ≡ false
not_alone [] = refl
not_alone (b ∷ w) = refl

only_hash : (first : Bool) (b : ℕ) (w rest : List ℕ) → (b == 35) ≡ false → is_definition (lexeme first (b ∷ w) rest) ≡ false
unfolding lexeme
only_hash first b w rest h = by (is_letter b) (list_all is_word w) (is_digit b) (is_blank b) (b == 34) (b == 35) (b == 47) h
  where
    by : (letter all digit blank mark hash slash : Bool) → hash ≡ false
        → is_definition (cond letter (cond all (Some (name_of (length (b ∷ w)))) None) (cond digit (cond all (Some (number_of (b ∷ w))) None) (cond blank (alone Piece.skip w)
        (cond mark (up_to rest (after_mark (w ++ rest))) (cond hash (up_to rest (directive first (w ++ rest))) (cond slash (slash_of w rest) (sign_of b w))))))) ≡ false
    by true true digit blank mark hash slash h = not_name (length (b ∷ w))
    by true false digit blank mark hash slash h = refl
    by false true true blank mark hash slash h = not_number (b ∷ w)
    by false false true blank mark hash slash h = refl
    by false all false true mark hash slash h = not_alone w
    by false all false false true hash slash h = not_text rest (w ++ rest)
    by false all false false false true slash h = absurd (cc)
    by false all false false false false true h = not_slash w rest
    by false all false false false false false h = not_sign b w

-- ---- what a definition was read from

up_to_is : (rest : List ℕ) (found : Found) (piece : Piece) → up_to rest found ≡ Some piece → (found.piece ≡ piece) × (length found.left ≡ length rest)
up_to_is rest found piece e = by (length found.left == length rest) refl e
  where
    by : (x : Bool) → (length found.left == length rest) ≡ x → cond x (Some found.piece) None ≡ Some piece → (found.piece ≡ piece) × (length found.left ≡ length rest)
    by true t e = (cc, grind (arith, nat_tests))
    by false t e = absurd (cc)

record WasRead (text rest name : List ℕ) : Type 0 where
  pub from : Definition
  pub left : List ℕ
  pub is : definition text ≡ Some from
  pub ends : tail from.left ≡ Ok left
  pub named : from.name ≡ name
  pub size : length left ≡ length rest

-- The line after a hash, by its include and its definition.
abbrev include_or : List ℕ → Option Definition → Option (List ℕ) → Found
include_or text o None = definition_line text o
include_or text o (Some left) = record { piece = Piece.skip; left = left }

include_line_or : (text : List ℕ) (i : Option (List ℕ)) → include_line text i ≡ include_or text (definition text) i
include_line_or text None = refl
include_line_or text (Some left) = refl

was_read : (first : Bool) (text rest name : List ℕ) (value : ℕ) → (directive first text).piece ≡ Piece.token (Kind.define name value) → length (directive first text).left ≡ length rest → WasRead text rest name
was_read false text rest name value e size = absurd (cc)
was_read true text rest name value e size =
    let same = include_line_or text (after_include text) in
    by (after_include text) (definition text) refl (subst (λ x. x.piece ≡ Piece.token (Kind.define name value)) same e) (subst (λ x. length x.left ≡ length rest) same size)
  where
    line : (d : Definition) (o : Result (List ℕ) Fault) → definition text ≡ Some d → tail d.left ≡ o → (defined text d o).piece ≡ Piece.token (Kind.define name value) → length (defined text d o).left ≡ length rest → WasRead text rest name
    line d (Ok left) is t e size = record { from = d; left = left; is = is; ends = t; named = cc; size = size }
    line d (Err fault) is t e size = absurd (cc)

    by : (i : Option (List ℕ)) (o : Option Definition) → definition text ≡ o → (include_or text o i).piece ≡ Piece.token (Kind.define name value) → length (include_or text o i).left ≡ length rest → WasRead text rest name
    by (Some left) o is e size = absurd (cc)
    by None None is e size = absurd (cc)
    by None (Some d) is e size = line d (tail d.left) is refl e size

-- ---- the parts of a definition

bytes_is : (bytes text more : List ℕ) → after_bytes bytes text ≡ Some more → (more ≡ drop (length bytes) text) × (length more + length bytes ≡ length text)
bytes_is [] text more e = let same : text ≡ more = cc in (sym same, omega (arith, ap length same))
bytes_is (b ∷ bytes) [] more e = absurd (cc)
bytes_is (b ∷ bytes) (c ∷ text) more e = by (b == c) e (bytes_is bytes text more)
  where
    by : (x : Bool) → cond x (after_bytes bytes text) None ≡ Some more → (after_bytes bytes text ≡ Some more → (more ≡ drop (length bytes) text) × (length more + length bytes ≡ length text))
        → (more ≡ drop (length bytes) text) × (length more + suc (length bytes) ≡ suc (length text))
    by true e again = let t = again e in (t.0, omega (arith, t.1))
    by false e again = absurd (cc)

gap_is : (text more : List ℕ) → after_gap text ≡ Some more → more ≡ drop (prefix_len is_space text) text
gap_is [] more e = absurd (cc)
gap_is (b ∷ text) more e = by (is_space b) e
  where
    by : (x : Bool) → cond x (Some (after_spaces text)) None ≡ Some more → more ≡ drop (cond x (1 + prefix_len is_space text) 0) (b ∷ text)
    by true e = let size : 1 + prefix_len is_space text ≡ suc (prefix_len is_space text) = omega arith in rw size (cc)
    by false e = absurd (cc)

record WasNamed (text : List ℕ) (d : Definition) : Type 0 where
  pub name : d.name ≡ word text
  pub size : length d.name + length d.left ≤ length text

was_named : (text : List ℕ) (d : Definition) → defined_name text ≡ Some d → WasNamed text d
unfolding defined_name defined_number
was_named text d e = by (is_name (word text)) (after_gap (after_word text)) refl e
  where
    parts : length (word text) + length (after_word text) ≡ length text
    parts = sym (length-append (word text) (after_word text)) ∙ ap length (take-append-drop (prefix_len is_word text) text)

    number : (more : List ℕ) (x : Bool) → after_gap (after_word text) ≡ Some more
        → cond {A = Option Definition} x (Some (record { name = word text; value = decimal (word more); left = after_word more })) None ≡ Some d → WasNamed text d
    number more true gap e =
        let same : ◌≡◌ {A = Definition} (record { name = word text; value = decimal (word more); left = after_word more }) d = cc in
        let name : word text ≡ d.name = ap (λ (x : Definition). x.name) same in
        let left : after_word more ≡ d.left = ap (λ (x : Definition). x.left) same in
        let spaces = gap_is (after_word text) more gap in
        record {
          name = sym name;
          size = omega (arith, parts, ap length name, ap length left, ap length spaces, length-drop (prefix_len is_space (after_word text)) (after_word text), length-drop (prefix_len is_word more) more);
        }
    number more false gap e = absurd (cc)

    by : (x : Bool) (o : Option (List ℕ)) → after_gap (after_word text) ≡ o → cond x (option_and_then (defined_number (word text)) o) None ≡ Some d → WasNamed text d
    by true None gap e = absurd (cc)
    by true (Some more) gap e = number more (is_number (word more)) gap e
    by false o gap e = absurd (cc)

record WasPlaced (text : List ℕ) (d : Definition) : Type 0 where
  pub name : take (length d.name) (drop (6 + prefix_len is_space (drop 6 text)) text) ≡ d.name
  pub size : 6 + prefix_len is_space (drop 6 text) + length d.name + length d.left ≤ length text

was_placed : (text : List ℕ) (d : Definition) → definition text ≡ Some d → WasPlaced text d
unfolding definition
was_placed text d e = by (after_bytes (codes "define") text) refl e
  where
    named : (more at : List ℕ) → more ≡ drop 6 text → length more + 6 ≡ length text → at ≡ drop (prefix_len is_space more) more → length at + prefix_len is_space more ≡ length more → defined_name at ≡ Some d → WasPlaced text d
    named more at begins room gap inner e =
        let n = was_named at d e in
        let p = prefix_len is_space (drop 6 text) in
        let spaces : prefix_len is_space more ≡ p = ap (prefix_len is_space) begins in
        let place : drop (6 + p) text ≡ at = sym (drop-drop p 6 text) ∙ ap (drop p) (sym begins) ∙ ap (λ k. drop k more) (sym spaces) ∙ sym gap in
        let len : length d.name ≡ prefix_len is_word at = ap length n.name ∙ length-prefix_len is_word at in
        record {
          name = rw (place, len) (sym n.name);
          size = omega (arith, n.size, room, spaces, inner);
        }

    gap : (more : List ℕ) (o : Option (List ℕ)) → more ≡ drop 6 text → length more + 6 ≡ length text → after_gap more ≡ o → option_and_then defined_name o ≡ Some d → WasPlaced text d
    gap more None begins room g e = absurd (cc)
    gap more (Some at) begins room g e =
        let is = gap_is more at g in
        named more at begins room is (omega (arith, ap length is, length-drop (prefix_len is_space more) more, prefix_len-le-length is_space more)) e

    by : (o : Option (List ℕ)) → after_bytes (codes "define") text ≡ o → option_and_then (λ more. option_and_then defined_name (after_gap more)) o ≡ Some d → WasPlaced text d
    by None b e = absurd (cc)
    by (Some more) b e = let is = bytes_is (codes "define") text more b in gap more (after_gap more) is.0 (omega (arith, is.1)) refl e

-- ---- the tail is no longer than the text

record Shorter (text : List ℕ) : Type 0 where
  pub line : (left : List ℕ) → tail text ≡ Ok left → length left ≤ length text
  pub slash : (left : List ℕ) → tail_slash text ≡ Ok left → length left ≤ length text
  pub comment : (left : List ℕ) → tail_comment text ≡ Ok left → length left ≤ length text

line_shorter : (b : ℕ) (text left : List ℕ) → Shorter text → tail (b ∷ text) ≡ Ok left → length left ≤ length (b ∷ text)
line_shorter b text left s e = by (b == 10) (is_line_blank b) (b == 47) e
  where
    by : (x y z : Bool) → cond x (Ok (b ∷ text)) (cond y (tail text) (cond z (tail_slash text) (Err f.BadLine))) ≡ Ok left → length left ≤ length (b ∷ text)
    by true y z e = let same : b ∷ text ≡ left = cc in omega (arith, ap length same)
    by false true z e = omega (arith, s.line left e)
    by false false true e = omega (arith, s.slash left e)
    by false false false e = absurd (cc)

slash_shorter : (b : ℕ) (text left : List ℕ) → Shorter text → tail_slash (b ∷ text) ≡ Ok left → length left ≤ length (b ∷ text)
slash_shorter b text left s e = by (b == 42) (b == 47) e
  where
    by : (x y : Bool) → cond x (tail_comment text) (cond y (Ok (after_line text)) (Err f.BadLine)) ≡ Ok left → length left ≤ length (b ∷ text)
    by true y e = omega (arith, s.comment left e)
    by false true e = let same : after_line text ≡ left = cc in omega (arith, ap length same, length-drop (prefix_len in_line text) text)
    by false false e = absurd (cc)

comment_shorter : (b c : ℕ) (text left : List ℕ) → Shorter (c ∷ text) → Shorter text → tail_comment (b ∷ c ∷ text) ≡ Ok left → length left ≤ length (b ∷ c ∷ text)
comment_shorter b c text left s t e = by ((b == 42) && (c == 47)) (b == 10) (after_close (c ∷ text)) e
  where
    by : (x y : Bool) (o : Option (List ℕ)) → cond x (tail text) (cond y (over_lines o) (tail_comment (c ∷ text))) ≡ Ok left → length left ≤ length (b ∷ c ∷ text)
    by true y o e = omega (arith, t.line left e)
    by false true None e = absurd (cc)
    by false true (Some more) e = absurd (cc)
    by false false o e = omega (arith, s.comment left e)

shorter : (text : List ℕ) → Shorter text
shorter [] = record {
  line = λ left e. let same : [] ≡ left = cc in omega (arith, ap length same);
  slash = λ left e. absurd (cc);
  comment = λ left e. absurd (cc);
}
shorter (b ∷ []) = record {
  line = λ left e. line_shorter b [] left (shorter []) e;
  slash = λ left e. slash_shorter b [] left (shorter []) e;
  comment = λ left e. absurd (cc);
}
shorter (b ∷ c ∷ text) = record {
  line = λ left e. line_shorter b (c ∷ text) left (shorter (c ∷ text)) e;
  slash = λ left e. slash_shorter b (c ∷ text) left (shorter (c ∷ text)) e;
  comment = λ left e. comment_shorter b c text left (shorter (c ∷ text)) (shorter text) e;
}

-- ---- the name at its place

pub record IsNamed (bytes rest name : List ℕ) : Type 0 where
  pub there : take (length name) (drop (name_place (bytes ++ rest)) (bytes ++ rest)) ≡ name
  pub inside : name_place (bytes ++ rest) + length name ≤ length bytes

not_both : (found : Option Piece) (name : List ℕ) (value : ℕ) → is_definition found ≡ false → found ≡ Some (Piece.token (Kind.define name value)) → ⊥
not_both found name value other e = let both : true ≡ false = subst (λ x. is_definition x ≡ false) e other in cc

pub name_there : (first : Bool) (bytes rest name : List ℕ) (value : ℕ) → lexeme first bytes rest ≡ Some (Piece.token (Kind.define name value)) → IsNamed bytes rest name
unfolding lexeme
name_there first [] rest name value e = absurd (cc)
name_there first (b ∷ w) rest name value e = by (b == 35) refl
  where
    hash : b ≡ 35 → IsNamed (b ∷ w) rest name
    hash h =
        let read : up_to rest (directive first (w ++ rest)) ≡ Some (Piece.token (Kind.define name value)) = rw h at e in
        let found = up_to_is rest (directive first (w ++ rest)) _ read in
        let d = was_read first (w ++ rest) rest name value found.0 found.1 in
        let p = was_placed (w ++ rest) d.from d.is in
        let len : length d.from.name ≡ length name = ap length d.named in
        let place : 7 + prefix_len is_space (drop 6 (w ++ rest)) ≡ suc (6 + prefix_len is_space (drop 6 (w ++ rest))) = omega arith in
        let short = (shorter d.from.left).line d.left d.ends in
        record {
          there = rw place (subst (λ x. take (length x) (drop (6 + prefix_len is_space (drop 6 (w ++ rest))) (w ++ rest)) ≡ x) d.named p.name);
          inside = omega (arith, p.size, len, short, d.size, length-append w rest);
        }

    by : (x : Bool) → (b == 35) ≡ x → IsNamed (b ∷ w) rest name
    by true t = hash (grind (arith, nat_tests))
    by false t = absurd (not_both (lexeme first (b ∷ w) rest) name value (only_hash first b w rest t) e)
