-- What is answered of the words of a text has its cause.
use Rattle.std.proofs.Common.{◌≡◌, ℕ, suc, ◌+◌, ◌≤◌, List, [], ◌∷◌, ◌++◌, length, refl, sym, ap, subst, ◌∙◌, append_assoc, length-append, arith, inl, inr}
use Rattle.std.specs.Prelude.{Err}
use Rattle.c_lexer.specs.Tokens.{Word, line}
use Rattle.c_tree.specs.Lined.{Program}
use Rattle.c_grammar.specs.Items.{at, Defined, what_is}
use Rattle.c_grammar.specs.Levels.{Tall}
use Rattle.c_grammar.specs.Programs.{Spells, FailsAsSyntax, FailsAsTooDeep, FailsAtEnd}
use Rattle.parse_laws.specs.declared.fault.Fault.{Fault}
use Rattle.parse_laws.specs.declared.fault.Fault.TheVariants as fault
use Rattle.parse_laws.specs.Parser.{Outcome, Got, Failed}
use Rattle.parse_laws.specs.Exact.{IsExact, FailsAt, at_end}
use Rattle.c_expressions.specs.declared.token.Marked.{Marked}
use Rattle.c_expressions.specs.Marked.{item_of}
use Rattle.c_programs.specs.Laws.{below}
use Rattle.c_tokens.specs.declared.reader.End.{End}
use Rattle.c_tokens.specs.declared.reader.End.TheVariants as end
use Rattle.c_tokens.specs.Reading.{Leads, nothing, one_skip, one_word, BeginsWith, Stops, most}
use Rattle.c_alike.specs.Alike.{LeftAlike, SameOutcome}
use Rattle.c_parser.specs.Answer.{Answer, fault_at, when_read, when_failed, when_left}
use Rattle.c_parser.specs.Parsed.{TokenFails, Parsed, IsAnswer, HasAnswer}
use Rattle.c_parser.proofs.Open.{fails_as_syntax, fails_as_too_deep, fails_at_end, no_deep_end, spelled_open, within_levels}

-- the answer by the outcome of the parser
abbrev pub answer_of : Outcome Marked (Tall Program) → End → ℕ → Answer
answer_of (Got p []) e on = when_read p.tree e
answer_of (Got p (token ∷ rest)) e on = Err (when_left fault.Syntax (token ∷ rest) e on)
answer_of (Failed f rest) e on = Err (when_left f rest e on)

-- the first of the words of a text
leads_first : {before all place left : List ℕ} {both : List Word} → Leads before all both place left → (words more : List Word) → both ≡ words ++ more → (end : List ℕ) × (rest : List ℕ) × Leads before all words end rest
leads_first (nothing {before} {all}) [] more e = (before, all, nothing)
leads_first nothing (w ∷ words) more e = absurd cc
leads_first (one_skip f l x) words more e = let h = leads_first x words more e in (h.0, h.1, one_skip f l h.2)
leads_first (one_word {before} {all} f l x) [] more e = (before, all, nothing)
leads_first (one_word {before} {all} {w = bytes} {kind = kind} {words = others} f l x) (w ∷ words) more e =
    let first : record { kind = kind; bytes = bytes; line = line before } ≡ w = cc in
    let same : others ≡ words ++ more = cc in
    let h = leads_first x words more same in
    (h.0, h.1, subst (λ (v : Word). Leads before all (v ∷ words) h.0 h.1) first (one_word f l h.2))

pub begins_first : (text : List ℕ) (words more : List Word) → BeginsWith text (words ++ more) → BeginsWith text words
begins_first text words more h = leads_first h.2 words more refl

-- these answers aren't want of memory
read_told : (p : Program) (e : End) → IsAnswer (when_read p e)
read_told p end.Text = tt
read_told p (end.Refused error) = tt
read_told p end.Longer = tt

failed_told : (e : End) (on : ℕ) → IsAnswer (Err (when_failed e on))
failed_told end.Text on = tt
failed_told (end.Refused error) on = tt
failed_told end.Longer on = tt

fault_told : (f : Fault) (l : ℕ) → IsAnswer (Err (fault_at f l))
fault_told fault.Syntax l = tt
fault_told fault.TooDeep l = tt

module _ (text : List ℕ) (words : List Word) (begins : BeginsWith text words) (few : length words ≤ most) where
  abbrev on : ℕ
  on = line text

  -- ---- all words are a program

  read : (p : Tall Program) (e : End) → Stops text words e → Spells on words p → below p ≤ 63 → Parsed text (when_read p.tree e)
  read p end.Text s x le = record { words = words; tokens = s; few = few; levels = p.levels; spells = x; within = within_levels on p le }
  read p (end.Refused error) s x le = record { words = words; scan = s; few = few; begins = spelled_open on words p x (within_levels on p le) }
  read p end.Longer s x le = record { words = words; count = s.0; begins = spelled_open on words p x (within_levels on p le); more = s.1 }

  -- ---- they are none

  failed : (e : End) → Stops text words e → FailsAtEnd words → Parsed text (Err (when_failed e on))
  failed end.Text s x = inr (record { words = words; tokens = s; few = few; fails = x; place = refl })
  failed (end.Refused error) s x = record { words = words; scan = s; few = few; begins = x.before }
  failed end.Longer s x = record { words = words; count = s.0; begins = x.before; more = s.1 }

  -- ---- a token fails

  token_fails : (Fails : List Word → Word → Type 0) (front rest : List Word) (token : Word) (l : ℕ) → words ≡ front ++ token ∷ rest → Fails front token → token.line ≡ l → TokenFails Fails text l
  token_fails Fails front rest token l e x m = record {
    words = front;
    token = token;
    reads = begins_first text (front ++ token ∷ []) rest (subst (BeginsWith text) (e ∙ sym (append_assoc front (token ∷ []) rest)) begins);
    few = let n : length words ≡ length front + suc (length rest) = ap length e ∙ length-append front (token ∷ rest) in omega (arith, few, n);
    fails = x;
    place = m;
  }

  left : (f : Fault) (l : ℕ) (t : Word) (rest : List Word) → t.line ≡ l → FailsAt (Spells on) below 63 words f (t ∷ rest) → Parsed text (Err (fault_at f l))
  left fault.Syntax l t rest e x = let h = fails_as_syntax on words rest t x in inl (token_fails FailsAsSyntax h.0 rest t l h.1 h.2 e)
  left fault.TooDeep l t rest e x = let h = fails_as_too_deep on words rest t x in token_fails FailsAsTooDeep h.0 rest t l h.1 h.2 e

  -- ---- by the outcome

  same_line : (d : List Defined) (u : Marked) (t : Word) → item_of text u ≡ at t.line (what_is d t.kind t.bytes) → t.line ≡ u.line
  same_line d u t e = cc

  failed_by : (f : Fault) (x : List Marked) (y : List Word) (e : End) → LeftAlike text x y → Stops text words e → FailsAt (Spells on) below 63 words f y → Parsed text (Err (when_left f x e on))
  failed_by fault.Syntax [] [] e a s x = failed e s (fails_at_end on words x)
  failed_by fault.TooDeep [] [] e a s x = absurd (no_deep_end on words x)
  failed_by f (u ∷ x) (t ∷ y) e a s z = left f u.line t y (same_line a.0 u t a.1.0.seen) z
  failed_by f [] (t ∷ y) e a s x = absurd a.1
  failed_by f (u ∷ x) [] e a s z = absurd a.1

  pub parsed_by : (e : End) → Stops text words e → (o : Outcome Marked (Tall Program)) (theory : Outcome Word (Tall Program)) → SameOutcome text o theory → IsExact (Spells on) below 63 words (at_end theory) → Parsed text (answer_of o e on)
  parsed_by e s (Got p []) (Got q []) a x = subst (λ (p : Tall Program). Parsed text (when_read p.tree e)) (sym a.0) (read q e s x.1 x.2)
  parsed_by e s (Got p (u ∷ rest)) (Got q (t ∷ y)) a x = failed_by fault.Syntax (u ∷ rest) (t ∷ y) e a.1 s x
  parsed_by e s (Got p []) (Got q (t ∷ y)) a x = absurd a.1.1
  parsed_by e s (Got p (u ∷ rest)) (Got q []) a x = absurd a.1.1
  parsed_by e s (Failed f rest) (Failed g y) a x = subst (λ (f : Fault). Parsed text (Err (when_left f rest e on))) (sym a.0) (failed_by g rest y e a.1 s x)
  parsed_by e s (Got p rest) (Failed g y) a x = absurd a
  parsed_by e s (Failed f rest) (Got q y) a x = absurd a

  -- ---- by the outcome of the parser of words

  answered_failed : (f : Fault) (y : List Word) (e : End) → Stops text words e → FailsAt (Spells on) below 63 words f y → HasAnswer text
  answered_failed fault.Syntax [] e s x = record { answer = Err (when_failed e on); cause = failed e s (fails_at_end on words x); told = failed_told e on }
  answered_failed fault.TooDeep [] e s x = absurd (no_deep_end on words x)
  answered_failed f (t ∷ y) e s x = record { answer = Err (fault_at f t.line); cause = left f t.line t y refl x; told = fault_told f t.line }

  pub answered_by : (e : End) → Stops text words e → (theory : Outcome Word (Tall Program)) → IsExact (Spells on) below 63 words (at_end theory) → HasAnswer text
  answered_by e s (Got q []) x = record { answer = when_read q.tree e; cause = read q e s x.1 x.2; told = read_told q.tree e }
  answered_by e s (Got q (t ∷ y)) x = answered_failed fault.Syntax (t ∷ y) e s x
  answered_by e s (Failed g y) x = answered_failed g y e s x
