-- A text has one answer, want of memory aside.
use Rattle.std.proofs.Common.{◌≡◌, ℕ, suc, ◌+◌, ◌≤◌, ◌<◌, max, List, [], ◌∷◌, ◌++◌, length, Option, Some, None, refl, sym, ap, subst, ◌∙◌, append_assoc, append-nil, length-append, arith, inl, inr}
use Rattle.std.specs.Prelude.{Ok, Err}
use Rattle.c_lexer.specs.declared.token.LexError.{LexError}
use Rattle.c_lexer.specs.Tokens.{Word, Scan, line}
use Rattle.c_lexer.proofs.Unique.{one_scan}
use Rattle.c_tree.specs.Lined.{Program}
use Rattle.c_grammar.specs.Levels.{Tall, tall}
use Rattle.c_grammar.specs.Programs.{Spells, TextSpells, IsOpen, FailsAsSyntax, FailsAsTooDeep, FailsAtEnd}
use Rattle.parse_laws.specs.Parser.{Outcome, Got}
use Rattle.c_programs.specs.Parsers.{program}
use Rattle.c_programs.specs.Lexed.{word_views}
use Rattle.c_programs.proofs.WordExact.{words_spelled}
use Rattle.c_tokens.specs.Reading.{BeginsWith, most}
use Rattle.c_tokens.proofs.Leads.{OneGoesOn, one_goes_on, scan_leads, within_scan}
use Rattle.c_parser.specs.declared.error.ParseError.TheVariants as error
use Rattle.c_parser.specs.Answer.{Answer}
use Rattle.c_parser.specs.Parsed.{Parsed, IsAnswer, Is}
use Rattle.c_parser.proofs.Open.{spelled_open, open_before}
use Rattle.c_parser.proofs.Causes.{begins_first}

-- ---- words of one text

no_longer : (words more : List Word) (word : Word) → words ≡ (words ++ word ∷ []) ++ more → ⊥
no_longer words more word e =
    let n : length words ≡ length (words ++ word ∷ []) + length more = ap length e ∙ length-append (words ++ word ∷ []) more in
    let m : length (words ++ word ∷ []) ≡ length words + 1 = length-append words (word ∷ []) in
    omega (arith, n, m)

no_more : (text : List ℕ) (words : List Word) (end : Option LexError) (word : Word) → Scan [] text words end → BeginsWith text (words ++ word ∷ []) → ⊥
no_more text words end word s b = let h = within_scan b.2 s in no_longer words h.0 word h.1

last_same : (words : List Word) (u t : Word) (more : List Word) → words ++ u ∷ [] ≡ (words ++ t ∷ []) ++ more → u ≡ t
last_same [] u t more e = cc
last_same (w ∷ words) u t more e = last_same words u t more cc

-- one word follows these
one_word : (text : List ℕ) (words : List Word) (u t : Word) → BeginsWith text (words ++ u ∷ []) → BeginsWith text (words ++ t ∷ []) → u ≡ t
one_word text words u t a b = go (one_goes_on a.2 b.2)
  where
    go : OneGoesOn (words ++ u ∷ []) (words ++ t ∷ []) → u ≡ t
    go (inl (more, e)) = sym (last_same words t u more e)
    go (inr (more, e)) = last_same words u t more e

-- ---- where reading halts

-- These words of a text begin a program; with the next one, if it is within the limit, they don't.
pub record Halts (text : List ℕ) (words : List Word) : Type 0 where
  pub reads : BeginsWith text words
  pub few : length words ≤ most
  pub begins : IsOpen words
  pub last : (word : Word) → BeginsWith text (words ++ word ∷ []) → length words < most → IsOpen (words ++ word ∷ []) → ⊥

-- no words beyond those are open
no_further : (text : List ℕ) (words others more : List Word) → Halts text words → Halts text others → others ≡ words ++ more → words ≡ others
no_further text words others [] a b e = sym (append-nil words) ∙ sym e
no_further text words others (w ∷ more) a b e =
    let longer : others ≡ (words ++ w ∷ []) ++ more = e ∙ sym (append_assoc words (w ∷ []) more) in
    let n : length others ≡ length words + suc (length more) = ap length e ∙ length-append words (w ∷ more) in
    absurd (a.last w (begins_first text (words ++ w ∷ []) more (subst (BeginsWith text) longer b.reads)) (omega (arith, n, b.few)) (open_before (words ++ w ∷ []) more (subst IsOpen longer b.begins)))

one_halt : (text : List ℕ) (words others : List Word) → Halts text words → Halts text others → words ≡ others
one_halt text words others a b = go (one_goes_on a.reads.2 b.reads.2)
  where
    go : OneGoesOn words others → words ≡ others
    go (inl (more, e)) = no_further text words others more a b e
    go (inr (more, e)) = sym (no_further text others words more b a e)

-- ---- what is answered there

-- at the end of the words of a text
pub data AtEnd (text : List ℕ) (words : List Word) : Option LexError → Answer → Type 0 where
  spelled : {p : Program} {levels : ℕ} → Spells (line text) words (tall p levels) → AtEnd text words None (Ok p)
  refused : {e : LexError} → AtEnd text words (Some e) (Err (error.Lex e))
  unspelled : FailsAtEnd words → AtEnd text words None (Err (error.Syntax (line text)))

-- at a further word
pub data AtWord (words : List Word) (word : Word) : Answer → Type 0 where
  syntax_there : FailsAsSyntax words word → length words < most → AtWord words word (Err (error.Syntax word.line))
  too_deep_there : FailsAsTooDeep words word → length words < most → AtWord words word (Err (error.TooDeep word.line))
  too_many_there : length words ≡ most → AtWord words word (Err error.TooManyTokens)

pub data Event (text : List ℕ) (words : List Word) : Answer → Type 0 where
  ends : {end : Option LexError} {a : Answer} → Scan [] text words end → AtEnd text words end a → Event text words a
  goes_on : {word : Word} {a : Answer} → BeginsWith text (words ++ word ∷ []) → AtWord words word a → Event text words a

-- ---- there is one of them

abbrev room_of : Tall Program → Tall Program → ℕ
room_of p q = max p.levels q.levels

pub one_spelled : (end : ℕ) (words : List Word) (p q : Tall Program) → Spells end words p → Spells end words q → p ≡ q
one_spelled end words p q x y =
    let a : program word_views (suc (room_of p q)) end words ≡ Got p [] = (words_spelled end).complete (room_of p q) words p x (omega arith) in
    let b : program word_views (suc (room_of p q)) end words ≡ Got q [] = (words_spelled end).complete (room_of p q) words q y (omega arith) in
    let e : ◌≡◌ {A = Outcome Word (Tall Program)} (Got p []) (Got q []) = sym a ∙ b in cc

one_end : {text : List ℕ} {words : List Word} {end : Option LexError} {a b : Answer} → AtEnd text words end a → AtEnd text words end b → a ≡ b
one_end {text} {words} (spelled {p = p} {levels = l} x) (spelled {p = q} {levels = k} y) = ap (λ (z : Tall Program). Ok z.tree) (one_spelled (line text) words (tall p l) (tall q k) x y)
one_end {text} (spelled {p = p} {levels = l} x) (unspelled y) = absurd (y.none (line text) (tall p l) x)
one_end {text} (unspelled x) (spelled {p = p} {levels = l} y) = absurd (x.none (line text) (tall p l) y)
one_end refused refused = refl
one_end (unspelled x) (unspelled y) = refl

one_at_word : {words : List Word} {word : Word} {a b : Answer} → AtWord words word a → AtWord words word b → a ≡ b
one_at_word (syntax_there x f) (syntax_there y g) = refl
one_at_word (syntax_there x f) (too_deep_there y g) = absurd (x.at_any_depth y.room y.deeper)
one_at_word (syntax_there x f) (too_many_there n) = absurd (omega (arith, f, n))
one_at_word (too_deep_there x f) (syntax_there y g) = absurd (y.at_any_depth x.room x.deeper)
one_at_word (too_deep_there x f) (too_deep_there y g) = refl
one_at_word (too_deep_there x f) (too_many_there n) = absurd (omega (arith, f, n))
one_at_word (too_many_there n) (syntax_there x f) = absurd (omega (arith, f, n))
one_at_word (too_many_there n) (too_deep_there x f) = absurd (omega (arith, f, n))
one_at_word (too_many_there n) (too_many_there m) = refl

one_event : (text : List ℕ) (words : List Word) (a b : Answer) → Event text words a → Event text words b → a ≡ b
one_event text words a b (ends {end = e} s x) (ends {end = f} t y) = one_end x (subst (λ (z : Option LexError). AtEnd text words z b) (sym (one_scan s t).1) y)
one_event text words a b (goes_on {word = u} s x) (goes_on {word = v} t y) = one_at_word x (subst (λ (z : Word). AtWord words z b) (sym (one_word text words u v s t)) y)
one_event text words a b (ends {end = e} s x) (goes_on {word = v} t y) = absurd (no_more text words e v s t)
one_event text words a b (goes_on {word = u} s x) (ends {end = f} t y) = absurd (no_more text words f u t s)

-- ---- causes

-- Where reading halts, with an answer.
pub record Halted (text : List ℕ) (a : Answer) : Type 0 where
  pub words : List Word
  pub halts : Halts text words
  pub event : Event text words a

halted_end : (text : List ℕ) (words : List Word) (end : Option LexError) (a : Answer) → Scan [] text words end → length words ≤ most → IsOpen words → AtEnd text words end a → Halted text a
halted_end text words end a s few begins x = record {
  words = words;
  halts = record { reads = scan_leads s; few = few; begins = begins; last = λ word b lt h. no_more text words end word s b };
  event = ends s x;
}

halted_word : (text : List ℕ) (words : List Word) (word : Word) (a : Answer) → BeginsWith text (words ++ word ∷ []) → length words ≤ most → IsOpen words → (length words < most → IsOpen (words ++ word ∷ []) → ⊥) → AtWord words word a → Halted text a
halted_word text words word a b few begins shut x = record {
  words = words;
  halts = record {
    reads = begins_first text words (word ∷ []) b;
    few = few;
    begins = begins;
    last = λ other c lt h. shut lt (subst (λ (z : Word). IsOpen (words ++ z ∷ [])) (one_word text words other word c b) h);
  };
  event = goes_on b x;
}

halted : (text : List ℕ) (a : Answer) → Parsed text a → IsAnswer a → Halted text a
halted text (Ok p) x y = halted_end text x.words None (Ok p) x.tokens x.few (spelled_open (line text) x.words (tall p x.levels) x.spells x.within) (spelled x.spells)
halted text (Err (error.Lex e)) x y = halted_end text x.words (Some e) (Err (error.Lex e)) x.scan x.few x.begins refused
halted text (Err (error.Syntax on)) (inl x) y =
    subst (λ l. Halted text (Err (error.Syntax l))) x.place
    (halted_word text x.words x.token (Err (error.Syntax x.token.line)) x.reads (omega (arith, x.few)) x.fails.fails.before (λ lt. x.fails.fails.with_it) (syntax_there x.fails x.few))
halted text (Err (error.Syntax on)) (inr x) y =
    subst (λ l. Halted text (Err (error.Syntax l))) x.place (halted_end text x.words None (Err (error.Syntax (line text))) x.tokens x.few x.fails.before (unspelled x.fails))
halted text (Err (error.TooDeep on)) x y =
    subst (λ l. Halted text (Err (error.TooDeep l))) x.place
    (halted_word text x.words x.token (Err (error.TooDeep x.token.line)) x.reads (omega (arith, x.few)) x.fails.fails.before (λ lt. x.fails.fails.with_it) (too_deep_there x.fails x.few))
halted text (Err error.TooManyTokens) x y = halted_word text x.words x.more.0 (Err error.TooManyTokens) x.more.1 (omega (arith, x.count)) x.begins (λ lt. absurd (omega (arith, lt, x.count))) (too_many_there x.count)
halted text (Err error.Memory) x y = absurd y

one_halted : (text : List ℕ) (a b : Answer) → Halted text a → Halted text b → a ≡ b
one_halted text a b x y = one_event text x.words a b x.event (subst (λ (z : List Word). Event text z b) (sym (one_halt text x.words y.words x.halts y.halts)) y.event)

pub one_answer : (text : List ℕ) (a b : Answer) → Parsed text a → IsAnswer a → Parsed text b → IsAnswer b → a ≡ b
one_answer text a b x f y g = one_halted text a b (halted text a x f) (halted text b y g)

-- an answer that has its cause is any answer that has one
pub answer_is : (text : List ℕ) (a b : Answer) → Parsed text a → IsAnswer b → Parsed text b → Is a b
answer_is text (Ok p) b x g y = one_answer text (Ok p) b x tt y g
answer_is text (Err error.Memory) b x g y = tt
answer_is text (Err (error.Lex e)) b x g y = one_answer text (Err (error.Lex e)) b x tt y g
answer_is text (Err (error.Syntax l)) b x g y = one_answer text (Err (error.Syntax l)) b x tt y g
answer_is text (Err (error.TooDeep l)) b x g y = one_answer text (Err (error.TooDeep l)) b x tt y g
answer_is text (Err error.TooManyTokens) b x g y = one_answer text (Err error.TooManyTokens) b x tt y g

-- ---- programs

pub one_text_program : (text : List ℕ) (p q : Tall Program) → TextSpells text p → TextSpells text q → p ≡ q
one_text_program text p q x y = let words = (one_scan x.1 y.1).0 in one_spelled (line text) x.0 p q x.2 (subst (λ (z : List Word). Spells (line text) z q) (sym words) y.2)
