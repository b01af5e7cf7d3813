-- Words from one place of a text to another: they are put together, and are the only ones.
use Rattle.std.proofs.Common.{◌≡◌, ℕ, ◌+◌, ◌-◌, List, [], ◌∷◌, ◌++◌, length, take, drop, Option, Some, Result, Ok, refl, sym, ap, subst, ◌∙◌, append_assoc, length-append, take-append-drop, arith, inl, inr, ◌⊎◌}
use Rattle.std.proofs.lemmas.List.{drop-drop}
use Rattle.c_lexer.specs.declared.token.LexError.{LexError}
use Rattle.c_lexer.specs.declared.token.Token.{Token}
use Rattle.c_lexer.specs.declared.token.Span.{Span}
use Rattle.c_lexer.specs.Pieces.{Kind, Piece}
use Rattle.c_lexer.specs.Directives.{name_place}
use Rattle.c_lexer.specs.Lexeme.{Longest}
use Rattle.c_lexer.specs.Tokens.{Word, Next, none, past, here, Scan, ended, refused, skip, word, is_first, line, token_of}
use Rattle.c_lexer.specs.Laws.{word_at}
use Rattle.c_lexer.proofs.DefinedNames.{name_there}
use Rattle.c_lexer.proofs.TextLaws.{cut_at}
use Rattle.c_lexer.proofs.Unique.{one_piece, no_piece}
use Rattle.c_tokens.specs.Reading.{Leads, nothing, one_skip, one_word}
use Rattle.c_tokens.specs.Sees.{Named}

-- ---- put together

pub leads_then : {before all place left end rest : List ℕ} {words more : List Word} → Leads before all words place left → Leads place left more end rest → Leads before all (words ++ more) end rest
leads_then nothing y = y
leads_then (one_skip e l x) y = one_skip e l (leads_then x y)
leads_then (one_word e l x) y = one_word e l (leads_then x y)

pub leads_scan : {before all place left : List ℕ} {words more : List Word} {end : Option LexError} → Leads before all words place left → Scan place left more end → Scan before all (words ++ more) end
leads_scan nothing y = y
leads_scan (one_skip e l x) y = skip e l (leads_scan x y)
leads_scan (one_word e l x) y = word e l (leads_scan x y)

-- all of them, up to the end or what is refused
pub scan_leads : {before all : List ℕ} {words : List Word} {end : Option LexError} → Scan before all words end → (place : List ℕ) × (left : List ℕ) × Leads before all words place left
scan_leads (ended {before}) = (before, [], nothing)
scan_leads (refused {before} {all} e l) = (before, all, nothing)
scan_leads (skip e l x) = let h = scan_leads x in (h.0, h.1, one_skip e l h.2)
scan_leads (word e l x) = let h = scan_leads x in (h.0, h.1, one_word e l h.2)

-- ---- the only ones

-- behind a piece that stands at this place
moved : (before w rest v other : List ℕ) (words : List Word) (place left : List ℕ) → w ≡ v → rest ≡ other → Leads (before ++ v) other words place left → Leads (before ++ w) rest words place left
moved before w rest v other words place left e f x =
    subst (λ (y : List ℕ). Leads (before ++ y) rest words place left) (sym e) (subst (λ (y : List ℕ). Leads (before ++ v) y words place left) (sym f) x)

-- of two lists of words from one place on, one goes on with the other
abbrev pub OneGoesOn : List Word → List Word → Type 0
OneGoesOn words others = ((more : List Word) × (others ≡ words ++ more)) ⊎ ((more : List Word) × (words ≡ others ++ more))

one_more : (first second : Word) (words others : List Word) → first ≡ second → OneGoesOn words others → OneGoesOn (first ∷ words) (second ∷ others)
one_more first second words others e (inl (more, g)) = inl (more, rw (e, g) refl)
one_more first second words others e (inr (more, g)) = inr (more, rw (e, g) refl)

pub one_goes_on : {before all place left end rest : List ℕ} {words others : List Word} → Leads before all words place left → Leads before all others end rest → OneGoesOn words others
one_goes_on {others = others} nothing y = inl (others, refl)
one_goes_on {words = words} (one_skip e l x) nothing = inr (words, refl)
one_goes_on {words = words} (one_word e l x) nothing = inr (words, refl)
one_goes_on (one_skip {before} {w = w} {rest = r} e l x) (one_skip {w = v} {rest = s} {place = p} {left = q} {words = us} f m y) =
    let same = one_piece _ w r v s _ _ (sym e ∙ f) l m in one_goes_on x (moved before w r v s us p q same.bytes same.after y)
one_goes_on (one_skip {w = w} {rest = r} e l x) (one_word {w = v} {rest = s} f m y) = let same = one_piece _ w r v s _ _ (sym e ∙ f) l m in absurd cc
one_goes_on (one_word {w = w} {rest = r} e l x) (one_skip {w = v} {rest = s} f m y) = let same = one_piece _ w r v s _ _ (sym e ∙ f) l m in absurd cc
one_goes_on (one_word {before} {w = w} {rest = r} {kind = a} {words = ts} e l x) (one_word {w = v} {rest = s} {place = p} {left = q} {kind = b} {words = us} f m y) =
    let same = one_piece _ w r v s _ _ (sym e ∙ f) l m in
    let kind : a ≡ b = cc in
    one_more (record { kind = a; bytes = w; line = line before }) (record { kind = b; bytes = v; line = line before }) ts us (rw (kind, same.bytes) refl) (one_goes_on x (moved before w r v s us p q same.bytes same.after y))

same_first : (first second : Word) (words others : List Word) → first ≡ second → ((more : List Word) × (others ≡ words ++ more)) → (more : List Word) × (second ∷ others ≡ first ∷ words ++ more)
same_first first second words others e (more, g) = (more, rw (e, g) refl)

-- a list of words up to the end, or to what is refused, has no more than those
pub within_scan : {before all place left : List ℕ} {words others : List Word} {end : Option LexError} → Leads before all words place left → Scan before all others end → (more : List Word) × (others ≡ words ++ more)
within_scan {others = others} nothing y = (others, refl)
within_scan (one_skip {w = w} {rest = r} e l x) ended = absurd (no_piece _ w r _ e l)
within_scan (one_word {w = w} {rest = r} e l x) ended = absurd (no_piece _ w r _ e l)
within_scan (one_skip {w = w} {rest = r} e l x) (refused {w = v} {rest = s} f m) = let same = one_piece _ w r v s _ _ (sym e ∙ f) l m in absurd cc
within_scan (one_word {w = w} {rest = r} e l x) (refused {w = v} {rest = s} f m) = let same = one_piece _ w r v s _ _ (sym e ∙ f) l m in absurd cc
within_scan (one_skip {before} {w = w} {rest = r} e l x) (skip {w = v} {rest = s} {words = us} {end = q} f m y) =
    let same = one_piece _ w r v s _ _ (sym e ∙ f) l m in
    within_scan x (subst (λ (z : List ℕ). Scan (before ++ z) r us q) (sym same.bytes) (subst (λ (z : List ℕ). Scan (before ++ v) z us q) (sym same.after) y))
within_scan (one_skip {w = w} {rest = r} e l x) (word {w = v} {rest = s} f m y) = let same = one_piece _ w r v s _ _ (sym e ∙ f) l m in absurd cc
within_scan (one_word {w = w} {rest = r} e l x) (skip {w = v} {rest = s} f m y) = let same = one_piece _ w r v s _ _ (sym e ∙ f) l m in absurd cc
within_scan (one_word {before} {w = w} {rest = r} {kind = a} {words = ts} e l x) (word {w = v} {rest = s} {kind = b} {words = us} {end = q} f m y) =
    let same = one_piece _ w r v s _ _ (sym e ∙ f) l m in
    let kind : a ≡ b = cc in
    let h = within_scan x (subst (λ (z : List ℕ). Scan (before ++ z) r us q) (sym same.bytes) (subst (λ (z : List ℕ). Scan (before ++ v) z us q) (sym same.after) y)) in
    same_first (record { kind = a; bytes = w; line = line before }) (record { kind = b; bytes = v; line = line before }) ts us (rw (kind, same.bytes) refl) h

-- ---- the word that is found next

-- It leads to the place behind it.
pub record Ahead (before all : List ℕ) (token : Token) (span : Span) : Type 0 where
  pub kind : Kind
  pub front : List ℕ
  pub bytes : List ℕ
  pub rest : List ℕ
  pub text : before ++ all ≡ front ++ (bytes ++ rest)
  pub is : token ≡ token_of (length front) (bytes ++ rest) kind
  pub start : span.start ≡ length front
  pub end : span.end ≡ length front + length bytes
  pub longest : Longest (is_first front) bytes rest (Piece.token kind)
  pub leads : Leads before all (record { kind = kind; bytes = bytes; line = line front } ∷ []) (front ++ bytes) rest

ahead_past : (before w all rest : List ℕ) (token : Token) (span : Span) → all ≡ w ++ rest → Longest (is_first before) w rest Piece.skip → Ahead (before ++ w) rest token span → Ahead before all token span
ahead_past before w all rest token span e l x = record {
  kind = x.kind;
  front = x.front;
  bytes = x.bytes;
  rest = x.rest;
  text = ap (λ y. before ++ y) e ∙ sym (append_assoc before w rest) ∙ x.text;
  is = x.is;
  start = x.start;
  end = x.end;
  longest = x.longest;
  leads = one_skip e l x.leads;
}

ahead_here : (before w all rest : List ℕ) (kind : Kind) (token : Token) (span : Span) → all ≡ w ++ rest → Longest (is_first before) w rest (Piece.token kind) → token_of (length before) all kind ≡ token
    → span.start ≡ length before → span.end ≡ length before + length w → Ahead before all token span
ahead_here before w all rest kind token span e l is start end = record {
  kind = kind;
  front = before;
  bytes = w;
  rest = rest;
  text = ap (λ y. before ++ y) e;
  is = sym is ∙ ap (λ y. token_of (length before) y kind) e;
  start = start;
  end = end;
  longest = l;
  leads = one_word e l nothing;
}

abbrev here_span : List ℕ → List ℕ → Span
here_span before w = record { start = length before; end = length before + length w }

ahead : {before all : List ℕ} {found : Result (Option (Token × Span)) LexError} → Next before all found → (token : Token) (span : Span) → found ≡ Ok (Some (token, span)) → Ahead before all token span
ahead none token span e = absurd cc
ahead (past {before} {all} {w = w} {rest = r} f l n) token span e = ahead_past before w all r token span f l (ahead n token span e)
ahead (here {piece = Piece.skip} f l a) token span e = absurd cc
ahead (here {piece = Piece.refused b} f l a) token span e = absurd cc
ahead (here {before} {all} {w = w} {rest = r} {piece = Piece.token kind} f l a) token span e =
    let found : ◌≡◌ {A = Token × Span} (token_of (length before) all kind, here_span before w) (token, span) = cc in
    let is : token_of (length before) all kind ≡ token = ap (λ x. x.0) found in
    let place : here_span before w ≡ span = ap (λ x. x.1) found in
    ahead_here before w all r kind token span f l is (ap (λ (x : Span). x.start) (sym place)) (ap (λ (x : Span). x.end) (sym place))

-- The same, where places are numbers.
pub record Met (text : List ℕ) (at : ℕ) (token : Token) (span : Span) : Type 0 where
  pub kind : Kind
  pub is : token ≡ token_of span.start (drop span.start text) kind
  pub named : Named text span kind
  pub leads : Leads (take at text) (drop at text) (word_at text span kind ∷ []) (take span.end text) (drop span.end text)

named_at : (text : List ℕ) (span : Span) (front bytes rest : List ℕ) (kind : Kind) → span.start ≡ length front → span.end ≡ length front + length bytes → drop span.start text ≡ bytes ++ rest → Longest (is_first front) bytes rest (Piece.token kind) → Named text span kind
named_at text span front bytes rest Kind.name start end from l = tt
named_at text span front bytes rest (Kind.number value) start end from l = tt
named_at text span front bytes rest Kind.text start end from l = tt
named_at text span front bytes rest (Kind.sign sign) start end from l = tt
named_at text span front bytes rest (Kind.define name value) start end from l =
    let n = name_there _ bytes rest name value l.is in
    let p = name_place (bytes ++ rest) in
    let size : span.start + p + length name - (span.start + p) ≡ length name = omega arith in
    let place : drop (span.start + p) text ≡ drop p (bytes ++ rest) = sym (drop-drop p span.start text) ∙ ap (drop p) from in
    rw from (rw (size, place) n.there, omega (arith, start, end, n.inside))

pub met : (text : List ℕ) (at : ℕ) (token : Token) (span : Span) → Next (take at text) (drop at text) (Ok (Some (token, span))) → Met text at token span
met text at token span next =
    let x = ahead next token span refl in
    let whole : text ≡ x.front ++ (x.bytes ++ x.rest) = sym (take-append-drop at text) ∙ x.text in
    let a = cut_at text x.front (x.bytes ++ x.rest) span.start whole x.start in
    let b = cut_at text (x.front ++ x.bytes) x.rest span.end (whole ∙ sym (append_assoc x.front x.bytes x.rest)) (x.end ∙ sym (length-append x.front x.bytes)) in
    let size : span.end - span.start ≡ length x.bytes = omega (arith, x.start, x.end) in
    let c = cut_at (x.bytes ++ x.rest) x.bytes x.rest (span.end - span.start) refl size in
    let word : word_at text span x.kind ≡ record { kind = x.kind; bytes = x.bytes; line = line x.front } = rw (ap (take (span.end - span.start)) a.1 ∙ c.0, a.0) refl in
    record {
      kind = x.kind;
      is = x.is ∙ rw (← x.start, ← a.1) refl;
      named = named_at text span x.front x.bytes x.rest x.kind x.start x.end a.1 x.longest;
      leads = rw (word, b.0, b.1) x.leads;
    }
