-- Places in a text: what stands before them, and what is found from there on.
use Rattle.std.proofs.Common.{◌≡◌, ◌≢◌, ℕ, zero, suc, ◌<◌, ◌≤◌, ◌+◌, ◌-◌, Bool, true, false, List, [], ◌∷◌, ◌++◌, length, get_or, take, drop, Option, Some, None, refl, sym, ◌∙◌, ap, subst, arith, take-append-drop, length-take-le}
use Rattle.std.specs.Prelude.{◌==◌, ◌&&◌, ◌||◌, Result, Ok, Err}
use Rattle.std.proofs.lemmas.Bool.Decides.{nat_tests}
use Rattle.std.proofs.lemmas.List.{drop-drop, drop_all, take_all}
use Rattle.std.proofs.lemmas.List.Sums.{fold_more}
use Rattle.c_lexer.specs.declared.token.Token.{Token}
use Rattle.c_lexer.specs.declared.token.Span.{Span}
use Rattle.c_lexer.specs.declared.token.LexError.{LexError}
use Rattle.c_lexer.specs.declared.piece.Fault.{Fault}
use Rattle.c_lexer.specs.declared.piece.Lexeme.TheVariants as l
use Rattle.c_lexer.specs.declared.piece.Cut.{Cut}
use Rattle.c_lexer.specs.Classes.{is_newline, is_space}
use Rattle.c_lexer.specs.Pieces.{Piece}
use Rattle.c_lexer.specs.Lexeme.{IsCut, lexeme}
use Rattle.c_lexer.specs.Tokens.{Next, none, past, here, is_first, line, token_of, error_of}
use Rattle.c_lexer.specs.Cuts.{Cuts, shown}

-- ---- the line so far

first_more : (text : List ℕ) (k : ℕ) → 0 < k → k ≤ length text
    → is_first (take k text) ≡ (is_newline (get_or text (k - 1) 0) || (is_first (take (k - 1) text) && is_space (get_or text (k - 1) 0)))
unfolding is_first
first_more text k some within =
    let lt : k - 1 < length text = omega arith in
    let e : k - 1 + 1 ≡ k = omega arith in
    subst (λ j. is_first (take j text) ≡ (is_newline (get_or text (k - 1) 0) || (is_first (take (k - 1) text) && is_space (get_or text (k - 1) 0))))
    e (fold_more (λ so b. is_newline b || (so && is_space b)) true text (k - 1) 0 lt)

pub first_newline : (text : List ℕ) (k : ℕ) → 0 < k → k ≤ length text → get_or text (k - 1) 0 ≡ 10 → is_first (take k text) ≡ true
first_newline text k some within b = first_more text k some within ∙ rw b

pub first_other : (text : List ℕ) (k : ℕ) → 0 < k → k ≤ length text → get_or text (k - 1) 0 ≢ 10 → get_or text (k - 1) 0 ≢ 32 → get_or text (k - 1) 0 ≢ 9 → is_first (take k text) ≡ false
first_other text k some within n s t =
    let a : (get_or text (k - 1) 0 == 10) ≡ false = grind (arith, nat_tests) in
    let b : (get_or text (k - 1) 0 == 32) ≡ false = grind (arith, nat_tests) in
    let d : (get_or text (k - 1) 0 == 9) ≡ false = grind (arith, nat_tests) in
    first_more text k some within ∙ rw (a, b, d) (nothing (is_first (take (k - 1) text)))
  where
    nothing : (x : Bool) → (x && false) ≡ false
    nothing true = refl
    nothing false = refl

pub first_blank : (text : List ℕ) (k : ℕ) → 0 < k → k ≤ length text → ((get_or text (k - 1) 0 == 32) || (get_or text (k - 1) 0 == 9)) ≡ true → get_or text (k - 1) 0 ≢ 10
    → is_first (take k text) ≡ is_first (take (k - 1) text)
first_blank text k some within s n =
    let a : (get_or text (k - 1) 0 == 10) ≡ false = grind (arith, nat_tests) in
    first_more text k some within ∙ rw (a, s) (same (is_first (take (k - 1) text)))
  where
    same : (x : Bool) → (x && true) ≡ x
    same true = refl
    same false = refl

pub first_start : (text : List ℕ) → is_first (take 0 text) ≡ true
unfolding is_first
first_start text = refl

pub ruleset steps = (first_newline, first_other, first_blank, first_start)

-- ---- what is found

take_add : (a n : ℕ) (xs : List ℕ) → take (a + n) xs ≡ take a xs ++ take n (drop a xs)
take_add zero n xs = let e : 0 + n ≡ n = omega arith in rw e
take_add (suc a) n [] = let e : suc a + n ≡ suc (a + n) = omega arith in rw e (sym (take_all n [] (omega arith)))
take_add (suc a) n (x ∷ xs) = let e : suc a + n ≡ suc (a + n) = omega arith in rw e (ap (λ ys. x ∷ ys) (take_add a n xs))

pub cut_moves : (first : Bool) (text : List ℕ) (piece : Piece) (n : ℕ) → IsCut first text piece n → 0 < n
unfolding lexeme
cut_moves first text piece zero cut = let i = cut.longest.is in absurd (cc)
cut_moves first text piece (suc n) cut = omega arith

pub next_ended : (text : List ℕ) (at : ℕ) → at ≡ length text → Next (take at text) (drop at text) (Ok None)
next_ended text at e = rw (drop_all at text (omega arith)) none

pub next_past : (text : List ℕ) (at : ℕ) (cut : Cut) (found : Result (Option (Token × Span)) LexError) → Cuts (is_first (take at text)) at (drop at text) cut → cut.lexeme ≡ l.Skip
    → Next (take (at + cut.len) text) (drop (at + cut.len) text) found → Next (take at text) (drop at text) found
next_past text at cut found cuts is more = by cuts.piece cuts.begins cuts.shows
  where
    by : (piece : Piece) → IsCut (is_first (take at text)) (drop at text) piece cut.len → cut.lexeme ≡ shown at (drop at text) piece → Next (take at text) (drop at text) found
    by Piece.skip begins shows =
        past (sym (take-append-drop cut.len (drop at text))) begins.longest (rw (← take_add at cut.len text, drop-drop cut.len at text) more)
    by (Piece.token kind) begins shows = absurd (cc)
    by (Piece.refused fault) begins shows = absurd (cc)

pub next_found : (text : List ℕ) (at : ℕ) (cut : Cut) (token : Token) → at ≤ length text → Cuts (is_first (take at text)) at (drop at text) cut → cut.lexeme ≡ l.Token token
    → Next (take at text) (drop at text) (Ok (Some (token, record { start = at; end = at + cut.len })))
next_found text at cut token h cuts is = by cuts.piece cuts.begins cuts.shows
  where
    by : (piece : Piece) → IsCut (is_first (take at text)) (drop at text) piece cut.len → cut.lexeme ≡ shown at (drop at text) piece
        → Next (take at text) (drop at text) (Ok (Some (token, record { start = at; end = at + cut.len })))
    by Piece.skip begins shows = absurd (cc)
    by (Piece.token kind) begins shows =
        let same : token ≡ token_of at (drop at text) kind = cc in
        let a : length (take at text) ≡ at = length-take-le at text h in
        let b : length (take cut.len (drop at text)) ≡ cut.len = length-take-le cut.len (drop at text) begins.within in
        here (sym (take-append-drop cut.len (drop at text))) begins.longest (rw (a, b, same) refl)
    by (Piece.refused fault) begins shows = absurd (cc)

pub next_refused : (text : List ℕ) (at : ℕ) (cut : Cut) (fault : Fault) → Cuts (is_first (take at text)) at (drop at text) cut → cut.lexeme ≡ l.Refused fault
    → Next (take at text) (drop at text) (Err (error_of fault (line (take at text))))
next_refused text at cut fault cuts is = by cuts.piece cuts.begins cuts.shows
  where
    by : (piece : Piece) → IsCut (is_first (take at text)) (drop at text) piece cut.len → cut.lexeme ≡ shown at (drop at text) piece
        → Next (take at text) (drop at text) (Err (error_of fault (line (take at text))))
    by Piece.skip begins shows = absurd (cc)
    by (Piece.token kind) begins shows = absurd (cc)
    by (Piece.refused other) begins shows =
        let same : fault ≡ other = cc in
        here (sym (take-append-drop cut.len (drop at text))) begins.longest (rw same refl)
