-- The items of tokens are genuine: within the bounds where the tokens are those of a text.
use Rattle.std.proofs.Common.{◌≡◌, ℕ, ◌≤◌, Bool, true, false, cond, List, [], ◌∷◌, bytes_eq, Option, Some, None, refl, sym, subst}
use Rattle.std.specs.List.{list_any}
use Rattle.c_lexer.specs.declared.token.LexError.{LexError}
use Rattle.c_lexer.specs.Pieces.{Kind, Piece}
use Rattle.c_lexer.specs.Words.{largest}
use Rattle.c_lexer.specs.Lexeme.{Longest}
use Rattle.c_lexer.specs.Tokens as tokens
use Rattle.c_lexer.specs.Tokens.{Word, Scan, Tokens}
use Rattle.c_layout.specs.Layout.{IsName}
use Rattle.c_grammar.specs.declared.words.FixedWord.{FixedWord}
use Rattle.c_grammar.specs.Items.{What, fixed_keywords, fixed_names, other_keywords, is_spelled, word_or, undefined_name, Defined, defines, definition_of, named, first_or_repeated, what_is, defined_by, items}
use Rattle.c_canonical.proofs.Seen.{Genuine, Seen}
use Rattle.c_canonical.proofs.ProperTokens.{Proper, ProperIf, lexeme_proper}

-- ---- names

-- It is a name only as this one.
abbrev Likes : List ℕ → What → Type 0
Likes name (What.Name other) = other ≡ name
Likes name (What.Fixed word) = Unit {0}
Likes name What.Keyword = Unit {0}
Likes name other = ⊥

word_likes : (ws : List FixedWord) (name : List ℕ) (other : What) → Likes name other → Likes name (word_or ws other name)
word_likes [] name other h = h
word_likes (x ∷ ws) name other h = by (is_spelled name x) (word_likes ws name other h)
  where
    by : (b : Bool) → Likes name (word_or ws other name) → Likes name (cond b (What.Fixed x) (word_or ws other name))
    by true g = tt
    by false g = g

name_likes : (name : List ℕ) → Likes name (undefined_name name)
name_likes name =
    by (list_any (bytes_eq name) other_keywords)
    (word_likes fixed_keywords name (word_or fixed_names (What.Name name) name) (word_likes fixed_names name (What.Name name) refl))
  where
    by : (b : Bool) → Likes name (word_or fixed_keywords (word_or fixed_names (What.Name name) name) name)
        → Likes name (cond b What.Keyword (word_or fixed_keywords (word_or fixed_names (What.Name name) name) name))
    by true g = tt
    by false g = g

name_genuine : (Bounded : Type 0) (name : List ℕ) → (Bounded → IsName name) → Genuine Bounded (undefined_name name)
name_genuine Bounded name n = by (undefined_name name) refl (name_likes name)
  where
    by : (a : What) → undefined_name name ≡ a → Likes name a → Genuine Bounded a
    by (What.Name other) e same = (subst (λ (m : List ℕ). undefined_name m ≡ What.Name other) (sym same) e, λ u. subst IsName (sym same) (n u))
    by (What.Fixed word) e h = tt
    by What.Keyword e h = tt
    by _ e h = absurd h

-- ---- definitions

-- Their numbers are small enough.
abbrev Small : List Defined → Type 0
Small [] = Unit {0}
Small (d ∷ ds) = (d.value ≤ largest) × Small ds

abbrev SmallIf : Option Defined → Type 0
SmallIf None = Unit {0}
SmallIf (Some d) = d.value ≤ largest

found_small : (ds : List Defined) (name : List ℕ) → Small ds → SmallIf (definition_of ds name)
found_small [] name s = tt
found_small (d ∷ ds) name s = by (defines name d) s.0 (found_small ds name s.1)
  where
    by : (b : Bool) → d.value ≤ largest → SmallIf (definition_of ds name) → SmallIf (cond b (Some d) (definition_of ds name))
    by true g h = g
    by false g h = h

-- ---- tokens

what_genuine : (Bounded : Type 0) (ds : List Defined) (kind : Kind) (bytes : List ℕ) → (Bounded → Small ds) → (Bounded → Proper kind bytes) → Genuine Bounded (what_is ds kind bytes)
what_genuine Bounded ds Kind.name bytes s p = by (definition_of ds bytes) (λ u. found_small ds bytes (s u))
  where
    by : (o : Option Defined) → (Bounded → SmallIf o) → Genuine Bounded (named bytes o)
    by None h = name_genuine Bounded bytes p
    by (Some d) h = h
what_genuine Bounded ds (Kind.number value) bytes s p = p
what_genuine Bounded ds Kind.text bytes s p = p
what_genuine Bounded ds (Kind.sign sign) bytes s p = tt
what_genuine Bounded ds (Kind.define name value) bytes s p = by (definition_of ds name)
  where
    by : (o : Option Defined) → Genuine Bounded (first_or_repeated o)
    by None = tt
    by (Some d) = tt

still_small : (ds : List Defined) (kind : Kind) (bytes : List ℕ) → Small ds → Proper kind bytes → Small (defined_by ds kind)
still_small ds (Kind.define name value) bytes s p = (p, s)
still_small ds _ bytes s p = s

proper_token : (first : Bool) (w rest : List ℕ) (kind : Kind) → Longest first w rest (Piece.token kind) → Proper kind w
proper_token first w rest kind h = subst (ProperIf w) h.is (lexeme_proper first w rest)

scan_seen : {before all : List ℕ} {words : List Word} {end : Option LexError} → Scan before all words end → (ds : List Defined) → Small ds → Seen (Unit {0}) (items ds words)
scan_seen tokens.ended ds s = tt
scan_seen (tokens.refused e h) ds s = tt
scan_seen (tokens.skip e h more) ds s = scan_seen more ds s
scan_seen (tokens.word {w = w} {rest = rest} {kind = kind} e h more) ds s =
    let p = proper_token _ w rest kind h in (what_genuine (Unit {0}) ds kind w (λ u. s) (λ u. p), scan_seen more (defined_by ds kind) (still_small ds kind w s p))

pub seen : (text : List ℕ) (words : List Word) → Tokens text words → Seen (Unit {0}) (items [] words)
seen text words h = scan_seen h [] tt

any_items : (ds : List Defined) (words : List Word) → Seen ⊥ (items ds words)
any_items ds [] = tt
any_items ds (word ∷ words) = (what_genuine ⊥ ds word.kind word.bytes (λ u. absurd u) (λ u. absurd u), any_items (defined_by ds word.kind) words)

-- Any tokens are known apart from the bounds.
pub any_seen : (words : List Word) → Seen ⊥ (items [] words)
any_seen words = any_items [] words
