-- The words of the lexer, by the definitions before each, are the items of the grammar.
use Rattle.std.proofs.Common.{◌≡◌, ℕ, true, List, [], ◌∷◌, Option, Some, None, refl, ap}
use Rattle.c_lexer.specs.Pieces.{Kind}
use Rattle.c_lexer.specs.Tokens.{Word}
use Rattle.c_grammar.specs.Items.{Item, at, items, Defined, definition_of, first_or_repeated, what_is, defined_by}
use Rattle.c_expressions.proofs.LexerWords.{Sees}
use Rattle.c_fronts.specs.Fronts.{is_plain}
use Rattle.c_programs.specs.Lexed.{word_sight, word_views}
use Rattle.c_programs.proofs.Sounds.{running}

pub running_items : (defined : List Defined) (words : List Word) → running word_views defined words ≡ items defined words
running_items defined [] = refl
running_items defined (u ∷ words) = ap (λ (x : List Item). at u.line (what_is defined u.kind u.bytes) ∷ x) (running_items (defined_by defined u.kind) words)

-- what is no definition defines nothing
pub words_still : (defined : List Defined) (u : Word) → is_plain ((word_sight defined).item u) ≡ true → word_views.then defined u ≡ defined
words_still defined u e = go u.kind e
  where
    defining : (l : ℕ) (o : Option Defined) → is_plain (at l (first_or_repeated o)) ≡ true → ⊥
    defining l None e = cc
    defining l (Some d) e = cc

    go : (k : Kind) → is_plain (at u.line (what_is defined k u.bytes)) ≡ true → defined_by defined k ≡ defined
    go (Kind.define name value) e = absurd (defining u.line (definition_of defined name) e)
    go _ e = refl

pub words_seen : (defined : List Defined) → Sees defined (word_sight defined)
words_seen defined = record {
  items = λ u. refl;
  casts = λ e. e;
  void = λ e. e;
  null = λ e. e;
  ready_mutexes = λ e. e;
  ready_conditions = λ e. e;
  threads = λ e. e;
  declarations = λ e. e;
}
