-- What a token is, by its kind.
use Rattle.std.proofs.Common.{◌≡◌, ℕ, suc, ◌+◌, ◌-◌, ◌<◌, ◌≤◌, nat_lt, Bool, true, false, List, [], length, take, drop, Result, Ok, Err, refl, ap, subst, ◌∙◌, arith}
use Rattle.std.proofs.lemmas.Bool.{lt-ltb, ltb-true, ltb-false}
use Rattle.std.proofs.lemmas.List.{length-take-le, drop-take, take-take, drop-drop, length-drop}
use Rattle.std.specs.Result.{IfOk}
use Rattle.c_lexer.specs.declared.token.Token.{Token}
use Rattle.c_lexer.specs.declared.token.Token.TheVariants as t
use Rattle.c_lexer.specs.declared.token.Span.{Span}
use Rattle.c_lexer.specs.Pieces.{Kind}
use Rattle.c_lexer.specs.Directives.{name_place}
use Rattle.c_lexer.specs.Laws.{slice}
use Rattle.c_grammar.specs.Items.{What, definition_of, named, what_is, defined_by, unquoted}
use Rattle.c_expressions.specs.declared.token.What as declared
use Rattle.c_expressions.specs.declared.token.What.TheVariants as marked
use Rattle.c_expressions.specs.Marked.{what_of, bytes_at}
use Rattle.c_tokens.specs.Known.{Knows}
use Rattle.c_tokens.specs.Marks.{TellsWord}
use Rattle.c_tokens.specs.Sees.{Sees, SeesName, SeesDefinition}
use Rattle.c_tokens.proofs.Tables.{Table}

-- the bytes at a place that lies in the text
pub bytes_there : (text : List ℕ) (place : Span) → place.start ≤ place.end → place.end ≤ length text → bytes_at text place ≡ slice text place.start place.end
bytes_there text place le within =
    let a : nat_lt place.start (suc place.end) ≡ true = lt-ltb place.start (suc place.end) (omega (arith, le)) in
    let b : nat_lt place.end (suc (length text)) ≡ true = lt-ltb place.end (suc (length text)) (omega (arith, within)) in
    rw (a, b) refl

-- what is left of a list of so many, without its first and its last
within_quotes : (text : List ℕ) (n k start : ℕ) → n - 2 ≡ k → k + 2 ≡ n → take k (drop (start + 1) text) ≡ take (n - 2) (drop 1 (take n (drop start text)))
within_quotes text n k start e f =
    let m : n ≡ 1 + (k + 1) = omega (arith, f) in
    rw (e, m, drop-take 1 (k + 1) (drop start text), drop-drop 1 start text, take-take k (k + 1) (drop (start + 1) text) (omega arith)) refl

module _ {S : Type 0} (text : List ℕ) (old : Table S) (span : Span) (some : span.start < span.end) (within : span.end ≤ length text) where
  pub sees_name : (what : declared.What) → SeesName text old span what → Sees text old old span t.Name what
  sees_name what s Kind.name defined h e n = (subst (λ (b : List ℕ). what_of text what ≡ named b (definition_of defined b)) (bytes_there text span (omega (arith, some)) within) (s defined h), tt, h)
  sees_name what s (Kind.number value) defined h e n = absurd cc
  sees_name what s Kind.text defined h e n = absurd cc
  sees_name what s (Kind.sign sign) defined h e n = absurd cc
  sees_name what s (Kind.define name value) defined h e n = absurd cc

  -- a text, without its quotes
  inside_quotes : bytes_at text (record { start = span.start + 1; end = span.end - 1 }) ≡ unquoted (slice text span.start span.end)
  inside_quotes = go (nat_lt (span.start + 1) (suc (span.end - 1))) refl
    where
      size : length (slice text span.start span.end) ≡ span.end - span.start
      size = length-take-le (span.end - span.start) (drop span.start text) (omega (arith, some, within, length-drop span.start text))

      last : nat_lt (span.end - 1) (suc (length text)) ≡ true
      last = lt-ltb (span.end - 1) (suc (length text)) (omega (arith, within))

      -- two quotes at least
      long : span.start + 1 < suc (span.end - 1) → take ((span.end - 1) - (span.start + 1)) (drop (span.start + 1) text) ≡ unquoted (slice text span.start span.end)
      long lt = rw size (within_quotes text (span.end - span.start) ((span.end - 1) - (span.start + 1)) span.start (omega (arith, lt)) (omega (arith, lt)))

      short : suc (span.end - 1) ≤ span.start + 1 → [] ≡ unquoted (slice text span.start span.end)
      short le = let n : span.end - span.start - 2 ≡ 0 = omega (arith, le, some) in rw (size, n) refl

      go : (b : Bool) → nat_lt (span.start + 1) (suc (span.end - 1)) ≡ b → bytes_at text (record { start = span.start + 1; end = span.end - 1 }) ≡ unquoted (slice text span.start span.end)
      go true e = rw (e, last) (long (ltb-true (span.start + 1) (suc (span.end - 1)) e))
      go false e = rw e (short (ltb-false (span.start + 1) (suc (span.end - 1)) e))

  pub sees_text : Sees text old old span t.Text (marked.Text (record { start = span.start + 1; end = span.end - 1 }))
  sees_text Kind.name defined h e n = absurd cc
  sees_text (Kind.number value) defined h e n = absurd cc
  sees_text Kind.text defined h e n = (ap (λ (b : List ℕ). What.Text b) inside_quotes, tt, h)
  sees_text (Kind.sign sign) defined h e n = absurd cc
  sees_text (Kind.define name value) defined h e n = absurd cc

  pub sees_definition : (new : Table S) (name : Span) (value : ℕ) (what : declared.What) → SeesDefinition old new (bytes_at text name) value what → Sees text old new span (t.Define name value) what
  sees_definition new name value what s Kind.name defined h e n = absurd cc
  sees_definition new name value what s (Kind.number m) defined h e n = absurd cc
  sees_definition new name value what s Kind.text defined h e n = absurd cc
  sees_definition new name value what s (Kind.sign sign) defined h e n = absurd cc
  sees_definition new name value what s (Kind.define word m) defined h e n = go at_name same
    where
      at_name : name ≡ record { start = span.start + name_place (drop span.start text); end = span.start + name_place (drop span.start text) + length word }
      at_name = cc

      same : value ≡ m
      same = cc

      there : bytes_at text (record { start = span.start + name_place (drop span.start text); end = span.start + name_place (drop span.start text) + length word }) ≡ word
      there = bytes_there text (record { start = span.start + name_place (drop span.start text); end = span.start + name_place (drop span.start text) + length word }) (omega arith) (omega (arith, n.1, within)) ∙ n.0

      go : name ≡ record { start = span.start + name_place (drop span.start text); end = span.start + name_place (drop span.start text) + length word } → value ≡ m
          → (what_of text what ≡ what_is defined (Kind.define word m) (slice text span.start span.end)) × TellsWord defined (Kind.define word m) what × Knows new (defined_by defined (Kind.define word m))
      go p q =
          let d : SeesDefinition old new word m what = subst (λ (b : List ℕ). SeesDefinition old new b m what) there (subst (λ (x : Span). SeesDefinition old new (bytes_at text x) m what) p (subst (λ (k : ℕ). SeesDefinition old new (bytes_at text name) k what) q s)) in
          d text defined h

-- of an answer alone
pub sees_answer : {S E : Type 0} (text : List ℕ) (old new : Table S) (span : Span) (token : Token) (r : Result declared.What E) (P : declared.What → Type 0) → ((what : declared.What) → P what → Sees text old new span token what) → IfOk r P
    → IfOk r (λ what. Sees text old new span token what)
sees_answer text old new span token (Ok what) P f h = f what h
sees_answer text old new span token (Err x) P f h = tt
