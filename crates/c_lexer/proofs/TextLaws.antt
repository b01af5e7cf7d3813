-- What is known where a token was found in a text.
use Rattle.std.proofs.Common.{◌≡◌, ℕ, ◌≤◌, ◌<◌, ◌+◌, ◌-◌, Bool, List, [], ◌∷◌, ◌++◌, Option, Some, None, refl, sym, ◌∙◌, ap, subst, arith, length, take, drop, append_assoc, take-append-drop, length-append, length-take-le}
use Rattle.std.specs.Prelude.{Result, Ok, Err}
use Rattle.std.proofs.lemmas.List.{drop-drop}
use Rattle.std.proofs.Math.Seq.{take-append_seam, drop-append_seam}
use Rattle.c_lexer.specs.declared.token.Token.{Token}
use Rattle.c_lexer.specs.declared.token.Span.{Span}
use Rattle.c_lexer.specs.declared.token.LexError.{LexError}
use Rattle.c_lexer.specs.Pieces.{Kind, Piece}
use Rattle.c_lexer.specs.Directives.{name_place}
use Rattle.c_lexer.specs.Lexeme.{Longest, lexeme}
use Rattle.c_lexer.specs.Tokens.{Scan, Next, line, token_of}
use Rattle.c_lexer.specs.Laws.{slice, word_at, Follows, Stepwise, DefinesIn, IsInside}
use Rattle.c_lexer.proofs.DefinedNames.{name_there, IsNamed}
use Rattle.c_lexer.proofs.Steps.{Ahead, token_ahead, whole_then, none_ends, refused_stops}

-- A text in two parts.
pub cut_at : (text front after : List ℕ) (n : ℕ) → text ≡ front ++ after → n ≡ length front → (take n text ≡ front) × (drop n text ≡ after)
cut_at text front after n whole size = (rw (size, whole) (take-append_seam front after), rw (size, whole) (drop-append_seam front after))

some_bytes : (first : Bool) (w rest : List ℕ) (piece : Piece) → Longest first w rest piece → 0 < length w
unfolding lexeme
some_bytes first [] rest piece x = let i = x.is in absurd (cc)
some_bytes first (b ∷ w) rest piece x = omega arith

-- The places of a token in a text.
record Parts (text : List ℕ) (span : Span) (front bytes rest : List ℕ) : Type 0 where
  pub before : take span.start text ≡ front
  pub from : drop span.start text ≡ bytes ++ rest
  pub upto : take span.end text ≡ front ++ bytes
  pub left : drop span.end text ≡ rest
  pub token : slice text span.start span.end ≡ bytes

parts : (text : List ℕ) (span : Span) (front bytes rest : List ℕ) → text ≡ front ++ (bytes ++ rest) → span.start ≡ length front → span.end ≡ length front + length bytes → Parts text span front bytes rest
parts text span front bytes rest whole start end =
    let a = cut_at text front (bytes ++ rest) span.start whole start in
    let b = cut_at text (front ++ bytes) rest span.end (whole ∙ sym (append_assoc front bytes rest)) (end ∙ sym (length-append front bytes)) in
    let size : span.end - span.start ≡ length bytes = omega (arith, start, end) in
    let c = cut_at (bytes ++ rest) bytes rest (span.end - span.start) refl size in
    record { before = a.0; from = a.1; upto = b.0; left = b.1; token = ap (take (span.end - span.start)) a.1 ∙ c.0 }

-- The defined name stands at its span.
named_at : (text : List ℕ) (span : Span) (front bytes rest name : List ℕ) → span.start ≡ length front → span.end ≡ length front + length bytes → drop span.start text ≡ bytes ++ rest → IsNamed bytes rest name
    → (slice text (span.start + name_place (drop span.start text)) (span.start + name_place (drop span.start text) + length name) ≡ name)
    × (span.start + name_place (drop span.start text) + length name ≤ span.end)
named_at text span front bytes rest name start end from n =
    let p = name_place (bytes ++ rest) in
    let size : span.start + p + length name - (span.start + p) ≡ length name = omega arith in
    let place : drop (span.start + p) text ≡ drop p (bytes ++ rest) = sym (drop-drop p span.start text) ∙ ap (drop p) from in
    rw from (rw (size, place) n.there, omega (arith, start, end, n.inside))

follows_from : (text : List ℕ) (at : ℕ) (token : Token) (span : Span) → at ≤ length text → Ahead (take at text) (drop at text) token span → Follows text at token span
follows_from text at token span h x =
    let whole : text ≡ x.front ++ (x.bytes ++ x.rest) = sym (take-append-drop at text) ∙ x.text in
    let p = parts text span x.front x.bytes x.rest whole x.start x.end in
    let size : length text ≡ length x.front + (length x.bytes + length x.rest) =
    ap length whole ∙ length-append x.front (x.bytes ++ x.rest) ∙ ap (λ n. length x.front + n) (length-append x.bytes x.rest) in
    let word : word_at text span x.kind ≡ record { kind = x.kind; bytes = x.bytes; line = line x.front } = rw (p.token, p.before) refl in
    record {
      kind = x.kind;
      is = x.is ∙ rw (← x.start, ← p.from) refl;
      after = omega (arith, length-take-le at text h, x.after, x.start);
      some = omega (arith, x.start, x.end, some_bytes _ x.bytes x.rest _ x.longest);
      within = omega (arith, x.end, size);
      adds = λ words end s. rw word (x.adds words end (subst (λ y. Scan y x.rest words end) p.upto (subst (λ y. Scan (take span.end text) y words end) p.left s)));
      begins = λ words end s.
          let b = x.heads words end s in
          record {
            others = b.others;
            is = rw word b.is;
            go_on = rw (p.upto, p.left) b.go_on;
          };
      named = λ name value is.
          let n = name_there _ x.bytes x.rest name value (x.longest.is ∙ ap (λ k. Some (Piece.token k)) is) in
          named_at text span x.front x.bytes x.rest name x.start x.end p.from n;
      between = λ b. rw (p.upto, p.left) (whole_then b x.whole);
    }

pub stepwise : (text : List ℕ) (at : ℕ) → at ≤ length text → Stepwise text at
stepwise text at h = record {
  ends = λ n. none_ends n refl;
  stops = λ error n. refused_stops n error refl;
  follows = λ token span n. follows_from text at token span h (token_ahead n token span refl);
}

-- ---- what is found lies in the text

defines_in : (span : Span) (all : List ℕ) (kind : Kind) → ((name : List ℕ) (value : ℕ) → kind ≡ Kind.define name value → span.start + name_place all + length name ≤ span.end)
    → DefinesIn span (token_of span.start all kind)
defines_in span all Kind.name h = tt
defines_in span all (Kind.number value) h = tt
defines_in span all Kind.text h = tt
defines_in span all (Kind.sign sign) h = tt
defines_in span all (Kind.define name value) h = record { after = omega arith; order = omega arith; within = h name value refl }

pub inside : (text : List ℕ) (at : ℕ) (found : Result (Option (Token × Span)) LexError) → at ≤ length text → Next (take at text) (drop at text) found → IsInside at (length text) found
inside text at (Ok None) h n = tt
inside text at (Err error) h n = tt
inside text at (Ok (Some (token, span))) h n =
    let f = (stepwise text at h).follows token span n in (
      record { after = f.after; some = f.some; within = f.within },
      subst (λ x. DefinesIn span x) (sym f.is) (defines_in span (drop span.start text) f.kind (λ name value is. (f.named name value is).1)),
    )
