-- One token after another, a text's tokens are found.
use Rattle.std.proofs.Common.{◌≡◌, ℕ, ◌≤◌, ◌+◌, List, [], ◌∷◌, ◌++◌, Option, Some, None, refl, sym, ◌∙◌, ap, subst, arith, length, append_assoc, length-append}
use Rattle.std.specs.List.{count_by}
use Rattle.std.specs.Prelude.{Result, Ok, Err}
use Rattle.std.proofs.lemmas.List.Sums.{sum_by-append}
use Rattle.c_lexer.specs.declared.token.Token.{Token}
use Rattle.c_lexer.specs.declared.token.Span.{Span}
use Rattle.c_lexer.specs.declared.token.LexError.{LexError}
use Rattle.c_lexer.specs.Classes.{is_newline}
use Rattle.c_lexer.specs.Pieces.{Kind, Piece}
use Rattle.c_lexer.specs.Lexeme.{Longest}
use Rattle.c_lexer.specs.Tokens.{Next, none, past, here, Scan, ended, refused, skip, word, Word, is_first, line, token_of, error_of}
use Rattle.c_lexer.specs.Laws.{Whole, nothing, one_skip, one_token}
use Rattle.c_lexer.proofs.Unique.{one_piece, no_piece}

-- ---- lines

pub lines_add : (before bytes : List ℕ) → line (before ++ bytes) ≡ line before + count_by is_newline bytes
unfolding line
lines_add before bytes =
    let both : count_by is_newline (before ++ bytes) ≡ count_by is_newline before + count_by is_newline bytes = sum_by-append _ before bytes in
    omega arith

-- ---- up to the end, and up to what is refused

pub none_ends : {before all : List ℕ} {found : Result (Option (Token × Span)) LexError} → Next before all found → found ≡ Ok None → Scan before all [] None
none_ends none e = ended
none_ends (past f l n) e = skip f l (none_ends n e)
none_ends (here {piece = Piece.skip} f l a) e = absurd (cc)
none_ends (here {piece = Piece.token t} f l a) e = absurd (cc)
none_ends (here {piece = Piece.refused b} f l a) e = absurd (cc)

pub refused_stops : {before all : List ℕ} {found : Result (Option (Token × Span)) LexError} → Next before all found → (error : LexError) → found ≡ Err error → Scan before all [] (Some error)
refused_stops none error e = absurd (cc)
refused_stops (past f l n) error e = skip f l (refused_stops n error e)
refused_stops (here {piece = Piece.skip} f l a) error e = absurd (cc)
refused_stops (here {piece = Piece.token t} f l a) error e = absurd (cc)
refused_stops (here {before} {all} {piece = Piece.refused fault} f l a) error e =
    let same : error_of fault (line before) ≡ error = cc in
    subst (λ x. Scan before all [] (Some x)) same (refused f l)

-- ---- the token that is found, by what stands before it, its bytes and the rest

-- A list of tokens that begins with this one.
pub record Heads (front bytes rest : List ℕ) (kind : Kind) (words : List Word) (end : Option LexError) : Type 0 where
  pub others : List Word
  pub is : words ≡ record { kind = kind; bytes = bytes; line = line front } ∷ others
  pub go_on : Scan (front ++ bytes) rest others end

pub record Ahead (before all : List ℕ) (token : Token) (span : Span) : Type 0 where
  pub kind : Kind
  pub front : List ℕ
  pub bytes : List ℕ
  pub rest : List ℕ
  pub text : before ++ all ≡ front ++ (bytes ++ rest)
  pub after : length before ≤ length front
  pub is : token ≡ token_of (length front) (bytes ++ rest) kind
  pub start : span.start ≡ length front
  pub end : span.end ≡ length front + length bytes
  pub longest : Longest (is_first front) bytes rest (Piece.token kind)
  pub adds : (words : List Word) (end : Option LexError) → Scan (front ++ bytes) rest words end
      → Scan before all (record { kind = kind; bytes = bytes; line = line front } ∷ words) end
  pub heads : (words : List Word) (end : Option LexError) → Scan before all words end → Heads front bytes rest kind words end
  pub whole : Whole before all (front ++ bytes) rest

-- What a list of tokens goes on with past a piece that is skipped, and at a token.
past_skip : (before all w rest : List ℕ) (words : List Word) (end : Option LexError) → all ≡ w ++ rest → Longest (is_first before) w rest Piece.skip → Scan before all words end → Scan (before ++ w) rest words end
past_skip before all w rest words end e l ended = absurd (no_piece _ w rest _ e l)
past_skip before all w rest words end e l (refused {w = v} {rest = s} f m) =
    let same = one_piece _ w rest v s _ _ (sym e ∙ f) l m in absurd (cc)
past_skip before all w rest words end e l (skip {w = v} {rest = s} f m k) =
    let same = one_piece _ w rest v s _ _ (sym e ∙ f) l m in
    subst (λ x. Scan (before ++ x) rest words end) (sym same.bytes) (subst (λ x. Scan (before ++ v) x words end) (sym same.after) k)
past_skip before all w rest words end e l (word {w = v} {rest = s} f m k) =
    let same = one_piece _ w rest v s _ _ (sym e ∙ f) l m in absurd (cc)

at_token : (before all w rest : List ℕ) (kind : Kind) (words : List Word) (end : Option LexError) → all ≡ w ++ rest → Longest (is_first before) w rest (Piece.token kind) → Scan before all words end
    → Heads before w rest kind words end
at_token before all w rest kind words end e l ended = absurd (no_piece _ w rest _ e l)
at_token before all w rest kind words end e l (refused {w = v} {rest = s} f m) =
    let same = one_piece _ w rest v s _ _ (sym e ∙ f) l m in absurd (cc)
at_token before all w rest kind words end e l (skip {w = v} {rest = s} f m k) =
    let same = one_piece _ w rest v s _ _ (sym e ∙ f) l m in absurd (cc)
at_token before all w rest kind words end e l (word {w = v} {rest = s} {kind = other} {words = us} f m k) =
    let same = one_piece _ w rest v s _ _ (sym e ∙ f) l m in
    let kinds : kind ≡ other = cc in
    record {
      others = us;
      is = rw (kinds, same.bytes) refl;
      go_on = subst (λ x. Scan (before ++ x) rest us end) (sym same.bytes) (subst (λ x. Scan (before ++ v) x us end) (sym same.after) k);
    }

ahead_past : (before w all rest : List ℕ) (token : Token) (span : Span) → all ≡ w ++ rest → Longest (is_first before) w rest Piece.skip → Ahead (before ++ w) rest token span → Ahead before all token span
ahead_past before w all rest token span e l x = record {
  kind = x.kind;
  front = x.front;
  bytes = x.bytes;
  rest = x.rest;
  text = ap (λ y. before ++ y) e ∙ sym (append_assoc before w rest) ∙ x.text;
  after = omega (arith, length-append before w, x.after);
  is = x.is;
  start = x.start;
  end = x.end;
  longest = x.longest;
  adds = λ words end s. skip e l (x.adds words end s);
  heads = λ words end s. x.heads words end (past_skip before all w rest words end e l s);
  whole = one_skip e l x.whole;
}

ahead_here : (before w all rest : List ℕ) (kind : Kind) (token : Token) (span : Span) → all ≡ w ++ rest → Longest (is_first before) w rest (Piece.token kind) → token_of (length before) all kind ≡ token
    → span.start ≡ length before → span.end ≡ length before + length w → Ahead before all token span
ahead_here before w all rest kind token span e l is start end = record {
  kind = kind;
  front = before;
  bytes = w;
  rest = rest;
  text = ap (λ y. before ++ y) e;
  after = omega arith;
  is = sym is ∙ ap (λ y. token_of (length before) y kind) e;
  start = start;
  end = end;
  longest = l;
  adds = λ words end s. word e l s;
  heads = λ words end s. at_token before all w rest kind words end e l s;
  whole = one_token e l nothing;
}

abbrev here_span : List ℕ → List ℕ → Span
here_span before w = record { start = length before; end = length before + length w }

pub token_ahead : {before all : List ℕ} {found : Result (Option (Token × Span)) LexError} → Next before all found → (token : Token) (span : Span) → found ≡ Ok (Some (token, span)) → Ahead before all token span
token_ahead none token span e = absurd (cc)
token_ahead (past {before} {all} {w = w} {rest = r} f l n) token span e = ahead_past before w all r token span f l (token_ahead n token span e)
token_ahead (here {piece = Piece.skip} f l a) token span e = absurd (cc)
token_ahead (here {piece = Piece.refused b} f l a) token span e = absurd (cc)
token_ahead (here {before} {all} {w = w} {rest = r} {piece = Piece.token kind} f l a) token span e =
    let found : ◌≡◌ {A = Token × Span} (token_of (length before) all kind, here_span before w) (token, span) = cc in
    let is : token_of (length before) all kind ≡ token = ap (λ x. x.0) found in
    let place : here_span before w ≡ span = ap (λ x. x.1) found in
    ahead_here before w all r kind token span f l is (ap (λ (x : Span). x.start) (sym place)) (ap (λ (x : Span). x.end) (sym place))

-- ---- whole pieces, one after another

pub whole_then : {start text before all place left : List ℕ} → Whole start text before all → Whole before all place left → Whole start text place left
whole_then nothing y = y
whole_then (one_skip e l x) y = one_skip e l (whole_then x y)
whole_then (one_token e l x) y = one_token e l (whole_then x y)
