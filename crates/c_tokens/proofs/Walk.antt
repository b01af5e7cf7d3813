-- A reader that goes on by one token.
use Rattle.std.proofs.Common.{◌≡◌, ℕ, suc, ◌+◌, ◌-◌, ◌≤◌, List, [], ◌∷◌, ◌++◌, length, take, drop, Option, Some, None, Result, Ok, Err, refl, sym, ap, subst, ◌∙◌, append-nil, length-append, arith}
use Rattle.std.specs.List.{count_by}
use Rattle.std.proofs.Math.Seq.{take-add}
use Rattle.std.proofs.lemmas.List.{length-take}
use Rattle.std.proofs.lemmas.List.Sums.{count_by-le-length}
use Rattle.c_lexer.specs.declared.token.LexError.{LexError}
use Rattle.c_lexer.specs.declared.token.Token.{Token}
use Rattle.c_lexer.specs.declared.token.Span.{Span}
use Rattle.c_lexer.specs.Classes.{is_newline}
use Rattle.c_lexer.specs.Tokens.{Word, line, Next, Scan}
use Rattle.c_lexer.specs.Laws.{slice, word_at, SpanIn}
use Rattle.c_lexer.proofs.Steps.{lines_add}
use Rattle.c_lexer.proofs.TextLaws.{stepwise}
use Rattle.c_grammar.specs.Items.{What, at, Defined, defined_by, defined_after}
use Rattle.c_expressions.specs.declared.token.Marked.{Marked}
use Rattle.c_expressions.specs.declared.token.What as declared
use Rattle.c_tokens.specs.declared.reader.Reader.{Reader}
use Rattle.c_tokens.specs.Known.{Knows}
use Rattle.c_tokens.specs.Marks.{Marks, AllMarked}
use Rattle.c_tokens.specs.Reader.{Stands}
use Rattle.c_tokens.specs.declared.reader.End.TheVariants as e
use Rattle.c_tokens.specs.Reading.{nothing, BeginsWith, IsRead, end_of}
use Rattle.c_tokens.specs.Sees.{Sees}
use Rattle.c_tokens.proofs.Leads.{leads_then, leads_scan, met}

-- ---- lines

taken : (text : List ℕ) (a b : ℕ) → a ≤ b → take b text ≡ take a text ++ slice text a b
taken text a b le = let e : b ≡ a + (b - a) = omega (arith, le) in ap (λ (n : ℕ). take n text) e ∙ take-add a (b - a) text

-- from one place to another
pub lines_to : (text : List ℕ) (a b n : ℕ) → a ≤ b → n ≡ count_by is_newline (slice text a b) → line (take b text) ≡ line (take a text) + n
lines_to text a b n le e = rw (taken text a b le, e) (lines_add (take a text) (slice text a b))

-- a place has no more lines than bytes before it, and one
pub few_lines : (text : List ℕ) (a : ℕ) → line (take a text) ≤ suc a
unfolding line
few_lines text a = omega (arith, count_by-le-length is_newline (take a text), length-take a text)

-- ---- words

pub more_marked : (text : List ℕ) (defined : List Defined) (words : List Word) (tokens : List Marked) (word : Word) (token : Marked) → AllMarked text defined words tokens → Marks text (defined_after defined words) word token
    → AllMarked text defined (words ++ word ∷ []) (tokens ++ token ∷ [])
more_marked text defined [] [] word token h m = (m, tt)
more_marked text defined [] (x ∷ tokens) word token h m = absurd h
more_marked text defined (w ∷ words) [] word token h m = absurd h
more_marked text defined (w ∷ words) (x ∷ tokens) word token h m = (h.0, more_marked text (defined_by defined w.kind) words tokens word token h.1 m)

pub more_defined : (defined : List Defined) (words : List Word) (word : Word) → defined_after defined (words ++ word ∷ []) ≡ defined_by (defined_after defined words) word.kind
more_defined defined [] word = refl
more_defined defined (w ∷ words) word = more_defined (defined_by defined w.kind) words word

-- ---- one token on

pub stands_next : (text : List ℕ) (reader new : Reader) (token : Token) (span : Span) (what : declared.What) (n m : ℕ) → Stands text reader → Next (take reader.at text) (drop reader.at text) (Ok (Some (token, span))) → SpanIn reader.at (length text) span
    → n ≡ count_by is_newline (slice text reader.at span.start) → m ≡ count_by is_newline (slice text span.start span.end) → Sees text reader.known new.known span token what
    → new.text ≡ reader.text → new.at ≡ span.end → new.line ≡ (reader.line + n) + m → new.marks.items ≡ reader.marks.items ++ record { line = reader.line + n; what = what } ∷ [] → Stands text new
stands_next text reader new token span what n m s next inside en em sees e1 e2 e3 e4 =
    let f = met text reader.at token span next in
    let h = sees f.kind (defined_after [] s.words) s.knows f.is f.named in
    let at_start : line (take span.start text) ≡ reader.line + n = lines_to text reader.at span.start n inside.after en ∙ ap (λ (l : ℕ). l + n) (sym s.line) in
    record {
      words = s.words ++ word_at text span f.kind ∷ [];
      same = ap (λ t. t.now) e1 ∙ s.same;
      within = rw e2 inside.within;
      leads = rw e2 (leads_then s.leads f.leads);
      marked = rw e4 (more_marked text [] s.words reader.marks.items (word_at text span f.kind) (record { line = reader.line + n; what = what }) s.marked (record { seen = rw (sym at_start) (ap (λ (a : What). at (line (take span.start text)) a) h.0); tells = h.1 }));
      count = rw e4 (length-append s.words (word_at text span f.kind ∷ []) ∙ ap (λ (k : ℕ). k + 1) s.count ∙ sym (length-append reader.marks.items (record { line = reader.line + n; what = what } ∷ [])));
      knows = subst (λ (d : List Defined). Knows new.known d) (sym (more_defined [] s.words (word_at text span f.kind))) h.2;
      line = e3 ∙ rw e2 (ap (λ (l : ℕ). l + m) (sym at_start) ∙ sym (lines_to text span.start span.end m (omega (arith, inside.some)) em));
    }

-- ---- the beginning and the end

pub stands_first : (text : List ℕ) (reader : Reader) → reader.text.now ≡ text → reader.at ≡ 0 → reader.line ≡ 1 → Knows reader.known [] → reader.marks.items ≡ [] → Stands text reader
unfolding line
stands_first text reader same place first knows none = record {
  words = [];
  same = same;
  within = omega (arith, place);
  leads = rw place nothing;
  marked = rw none tt;
  count = rw none refl;
  knows = knows;
  line = rw (first, place) refl;
}

module _ (text : List ℕ) (reader : Reader) (s : Stands text reader) (few : length reader.marks.items ≤ 65536) where
  ended : (end : Option LexError) → Scan (take reader.at text) (drop reader.at text) [] end → Scan [] text s.words end
  ended end scan = subst (λ (all : List Word). Scan [] text all end) (append-nil s.words) (leads_scan s.leads scan)

  begun : BeginsWith text s.words
  begun = (take reader.at text, drop reader.at text, s.leads)

  pub read_whole : Next (take reader.at text) (drop reader.at text) (Ok None) → IsRead text (record { marks = reader.marks; end = e.Text })
  read_whole next = record { words = s.words; begins = begun; marked = s.marked; few = omega (arith, few, s.count); stops = ended None ((stepwise text reader.at s.within).ends next) }

  pub read_refused : (error : LexError) → Next (take reader.at text) (drop reader.at text) (Err error) → IsRead text (record { marks = reader.marks; end = e.Refused error })
  read_refused error next = record { words = s.words; begins = begun; marked = s.marked; few = omega (arith, few, s.count); stops = ended (Some error) ((stepwise text reader.at s.within).stops error next) }

  pub read_longer : 65536 ≤ length reader.marks.items → (token : Token) (span : Span) → Next (take reader.at text) (drop reader.at text) (Ok (Some (token, span))) → IsRead text (record { marks = reader.marks; end = e.Longer })
  read_longer many token span next = record {
    words = s.words;
    begins = begun;
    marked = s.marked;
    few = omega (arith, few, s.count);
    stops =
        let f = met text reader.at token span next in
        (omega (arith, few, many, s.count), (word_at text span f.kind, (take span.end text, drop span.end text, leads_then s.leads f.leads)));
  }

  pub read_most : 65536 ≤ length reader.marks.items → (found : Result (Option (Token × Span)) LexError) → Next (take reader.at text) (drop reader.at text) found → IsRead text (record { marks = reader.marks; end = end_of found })
  read_most many (Ok None) next = read_whole next
  read_most many (Ok (Some x)) next = read_longer many x.0 x.1 next
  read_most many (Err error) next = read_refused error next

-- at the text that a reader has
pub stands_there : (text : List ℕ) (reader : Reader) → Stands text reader → Stands reader.text.now reader
stands_there text reader s = subst (λ (t : List ℕ). Stands t reader) (sym s.same) s
