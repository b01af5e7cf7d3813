-- Comments and texts in quotes.
use Rattle.std.proofs.Common.{◌≡◌, ◌≢◌, ℕ, zero, suc, ◌<◌, ◌≤◌, ◌+◌, Bool, true, false, ◌&&◌, List, [], ◌∷◌, length, get_or, drop, Some, None, refl, arith, length-drop}
use Rattle.std.specs.Prelude.{◌==◌, nat_le}
use Rattle.std.specs.List.{prefix_len}
use Rattle.std.proofs.lemmas.Bool.Decides.{nat_tests}
use Rattle.std.proofs.lemmas.List.{drop_all, drop_more}
use Rattle.std.proofs.lemmas.List.Sums.{prefix_len-le-length}
use Rattle.c_lexer.specs.declared.piece.Fault.TheVariants as f
use Rattle.c_lexer.specs.Classes.{in_line}
use Rattle.c_lexer.specs.Pieces.{Kind, Piece}
use Rattle.c_lexer.specs.Readings.{after_close, block_comment, line_comment, after_quote, after_mark, is_pair, is_single}
use Rattle.c_lexer.specs.Lexeme.{lexeme, IsCut}
use Rattle.c_lexer.proofs.Pieces.{IsRead, reading_cut, reading_cut_two}

-- ---- comments

pub block_read : (first : Bool) → IsRead first (47 ∷ 42 ∷ []) block_comment
unfolding lexeme
block_read first w rest = refl

pub line_read : (first : Bool) → IsRead first (47 ∷ 47 ∷ []) line_comment
unfolding lexeme
line_read first w rest = refl

pub block_cut : (first : Bool) (text : List ℕ) (n : ℕ) → 1 < length text → get_or text 0 0 ≡ 47 → get_or text 1 0 ≡ 42 → n ≤ length (drop 2 text)
    → after_close (drop 2 text) ≡ Some (drop n (drop 2 text)) → IsCut first text Piece.skip (2 + n)
block_cut first [] n some slash star within reads = absurd (omega arith)
block_cut first (b ∷ []) n some slash star within reads = absurd (omega arith)
block_cut first (b ∷ c ∷ text) n some slash star within reads =
    let size : 2 + n ≡ suc (suc n) = omega arith in
    rw (size, slash, star) (reading_cut_two first 47 42 block_comment text n Piece.skip (block_read first) within (rw reads refl))

pub open_cut : (first : Bool) (text : List ℕ) → 1 < length text → get_or text 0 0 ≡ 47 → get_or text 1 0 ≡ 42 → after_close (drop 2 text) ≡ None
    → IsCut first text (Piece.refused f.OpenComment) (length text)
open_cut first [] some slash star reads = absurd (omega arith)
open_cut first (b ∷ []) some slash star reads = absurd (omega arith)
open_cut first (b ∷ c ∷ text) some slash star reads =
    let nothing : drop (length text) text ≡ [] = drop_all (length text) text (omega arith) in
    rw (slash, star) (reading_cut_two first 47 42 block_comment text (length text) (Piece.refused f.OpenComment) (block_read first) (omega arith) (rw (reads, nothing) refl))

pub line_cut : (first : Bool) (text : List ℕ) → 1 < length text → get_or text 0 0 ≡ 47 → get_or text 1 0 ≡ 47
    → IsCut first text Piece.skip (2 + prefix_len in_line (drop 2 text))
line_cut first [] some slash again = absurd (omega arith)
line_cut first (b ∷ []) some slash again = absurd (omega arith)
line_cut first (b ∷ c ∷ text) some slash again =
    let n = prefix_len in_line text in
    let size : 2 + n ≡ suc (suc n) = omega arith in
    rw (size, slash, again) (reading_cut_two first 47 47 line_comment text n Piece.skip (line_read first) (prefix_len-le-length in_line text) refl)

-- One byte further in the loop that looks for the end of a comment.
pub close_next : (text : List ℕ) (at : ℕ) → at + 1 < length text → ((get_or text at 0 == 42) && (get_or text (at + 1) 0 == 47)) ≡ false
    → after_close (drop at text) ≡ after_close (drop (at + 1) text)
close_next text at h t =
    let lt : at < length text = omega arith in
    rw (drop_more text at 0 lt, drop_more text (at + 1) 0 h, t)

pub close_here : (text : List ℕ) (at : ℕ) → at + 1 < length text → get_or text at 0 ≡ 42 → get_or text (at + 1) 0 ≡ 47
    → after_close (drop at text) ≡ Some (drop (at + 2) text)
close_here text at h s t =
    let lt : at < length text = omega arith in
    let e : at + 1 + 1 ≡ at + 2 = omega arith in
    rw (drop_more text at 0 lt, drop_more text (at + 1) 0 h, s, t, e)

pub close_end : (text : List ℕ) (at : ℕ) → length text ≤ at + 1 → after_close (drop at text) ≡ None
close_end [] zero h = refl
close_end [] (suc at) h = refl
close_end (b ∷ []) zero h = refl
close_end (b ∷ c ∷ text) zero h = absurd (omega arith)
close_end (b ∷ text) (suc at) h = close_end text at (omega arith)

-- ---- texts

pub mark_read : (first : Bool) → IsRead first (34 ∷ []) after_mark
unfolding lexeme
mark_read first w rest = refl

pub quoted_cut : (first : Bool) (text : List ℕ) (n : ℕ) → 0 < length text → get_or text 0 0 ≡ 34 → n ≤ length (drop 1 text)
    → after_quote (drop 1 text) ≡ Some (drop n (drop 1 text)) → n ≤ 120 + 1 → IsCut first text (Piece.token Kind.text) (1 + n)
quoted_cut first [] n some mark within reads short = absurd (omega arith)
quoted_cut first (b ∷ text) n some mark within reads short =
    let size : 1 + n ≡ suc n = omega arith in
    let left = length-drop n text in
    let fits : nat_le (length text) (120 + 1 + length (drop n text)) ≡ true = grind (arith, nat_tests) in
    rw (size, mark) (reading_cut first 34 after_mark text n (Piece.token Kind.text) (mark_read first) within (rw (reads, fits) refl))

pub long_cut : (first : Bool) (text : List ℕ) (n : ℕ) → 0 < length text → get_or text 0 0 ≡ 34 → n ≤ length (drop 1 text)
    → after_quote (drop 1 text) ≡ Some (drop n (drop 1 text)) → 120 + 1 < n → IsCut first text (Piece.refused f.BadText) 1
long_cut first [] n some mark within reads long = absurd (omega arith)
long_cut first (b ∷ text) n some mark within reads long =
    let left = length-drop n text in
    let fits : nat_le (length text) (120 + 1 + length (drop n text)) ≡ false = grind (arith, nat_tests) in
    rw mark (reading_cut first 34 after_mark text 0 (Piece.refused f.BadText) (mark_read first) (omega arith) (rw (reads, fits) refl))

pub bad_cut : (first : Bool) (text : List ℕ) → 0 < length text → get_or text 0 0 ≡ 34 → after_quote (drop 1 text) ≡ None → IsCut first text (Piece.refused f.BadText) 1
bad_cut first [] some mark reads = absurd (omega arith)
bad_cut first (b ∷ text) some mark reads =
    rw mark (reading_cut first 34 after_mark text 0 (Piece.refused f.BadText) (mark_read first) (omega arith) (rw reads refl))

-- The first character of a text.
pub pair_next : (text : List ℕ) → 1 < length text → get_or text 0 0 ≢ 34 → is_pair (get_or text 0 0) (get_or text 1 0) ≡ true
    → after_quote (drop 2 text) ≡ after_quote text
pair_next [] some other pair = absurd (omega arith)
pair_next (b ∷ []) some other pair = absurd (omega arith)
pair_next (b ∷ c ∷ text) some other pair = let o : (b == 34) ≡ false = grind (arith, nat_tests) in rw (o, pair) refl

pub single_next : (text : List ℕ) → 0 < length text → get_or text 0 0 ≢ 34 → (1 < length text → is_pair (get_or text 0 0) (get_or text 1 0) ≡ false)
    → is_single (get_or text 0 0) ≡ true → after_quote (drop 1 text) ≡ after_quote text
single_next [] some other pair single = absurd (omega arith)
single_next (b ∷ []) some other pair single = let o : (b == 34) ≡ false = grind (arith, nat_tests) in rw o refl
single_next (b ∷ c ∷ text) some other pair single = let o : (b == 34) ≡ false = grind (arith, nat_tests) in let p = pair (omega arith) in rw (p, single, o) refl

pub none_next : (text : List ℕ) → 0 < length text → get_or text 0 0 ≢ 34 → (1 < length text → is_pair (get_or text 0 0) (get_or text 1 0) ≡ false)
    → is_single (get_or text 0 0) ≡ false → after_quote text ≡ None
none_next [] some other pair single = absurd (omega arith)
none_next (b ∷ []) some other pair single = let o : (b == 34) ≡ false = grind (arith, nat_tests) in rw o refl
none_next (b ∷ c ∷ text) some other pair single = let o : (b == 34) ≡ false = grind (arith, nat_tests) in let p = pair (omega arith) in rw (p, single, o) refl

pub quote_here : (text : List ℕ) (at : ℕ) → at < length text → get_or text at 0 ≡ 34 → after_quote (drop at text) ≡ Some (drop (at + 1) text)
quote_here text at h q = rw (drop_more text at 0 h, q) (by (drop (at + 1) text))
  where
    by : (left : List ℕ) → after_quote (34 ∷ left) ≡ Some left
    by [] = refl
    by (c ∷ left) = refl

pub quote_end : (text : List ℕ) (at : ℕ) → length text ≤ at → after_quote (drop at text) ≡ None
quote_end text at h = rw (drop_all at text h) refl
