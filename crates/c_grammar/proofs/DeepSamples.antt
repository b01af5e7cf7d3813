-- Parentheses of any depth, and a text of bytes.
use Rattle.std.proofs.Common.{◌≡◌, ℕ, zero, suc, max, Bool, true, List, [], ◌∷◌, ◌++◌, None, refl, ap, subst, arith}
use Rattle.std.specs.Prelude.{codes}
use Rattle.c_lexer.specs.declared.token.Sign.TheVariants as s
use Rattle.c_lexer.specs.Pieces.{Kind, Piece}
use Rattle.c_lexer.specs.Lexeme.{lexeme, Longest}
use Rattle.c_lexer.specs.Words.{name_of}
use Rattle.c_lexer.specs.Signs.{single, double, triple}
use Rattle.c_lexer.specs.Classes.{is_word}
use Rattle.c_lexer.specs.Tokens as t
use Rattle.c_lexer.specs.Tokens.{Word, Tokens, is_first, line}
use Rattle.c_tree.specs.Expressions as tree
use Rattle.c_tree.specs.Expressions.{Expr}
use Rattle.c_grammar.specs.Items.{Item, sign}
use Rattle.c_grammar.specs.Levels.{Tall, tall}
use Rattle.c_grammar.specs.Commas as comma
use Rattle.c_grammar.specs.Expressions as e
use Rattle.c_grammar.specs.Expressions.{SpellsPrimary, SpellsUnary, SpellsExpression}
use Rattle.c_grammar.specs.Simple as x
use Rattle.c_grammar.specs.Statements as st
use Rattle.c_grammar.specs.Declarations as d
use Rattle.c_grammar.specs.Programs as p
use Rattle.c_grammar.specs.Depth.{nested, main_with, one_assignment, ParenthesesTakeLevels, LineIsSpelled, AllKeywords}

-- ---- parentheses

whole : {ts rest : List Item} {a : Tall Expr} → SpellsPrimary ts rest a → SpellsExpression 6 ts rest a
whole u = e.tighter (e.tighter (e.tighter (e.tighter (e.tighter (e.tighter (e.unary (e.primary u)))))))

nested_is : (n : ℕ) (rest : List Item) → SpellsPrimary (nested n rest) rest (tall (tree.Number 1) (suc n))
nested_is zero rest = e.number
nested_is (suc n) rest = e.parentheses (whole (nested_is n (sign 1 s.RightParenthesis ∷ rest)))

most_of : (n : ℕ) → max 0 (max 0 (suc (max 0 (suc n)))) ≡ suc (suc n)
most_of n = omega arith

pub parentheses_take_levels : ParenthesesTakeLevels
parentheses_take_levels n =
    subst (λ (k : ℕ). p.SpellsProgram 1 (main_with n) (tall one_assignment k)) (most_of n)
    (p.plain (p.then_function p.none (d.function st.absent (d.main d.SpellsVoid.absent)
    (st.SpellsBody.then st.SpellsBody.none (st.simple (x.step (x.assign (e.scalar refl) (whole (nested_is n _)))))))))

-- ---- a text

abbrev first_byte : List ℕ → ℕ
first_byte [] = 0
first_byte (b ∷ bytes) = b

-- A byte that follows, where a piece ends before it.
ended_by : (first : Bool) (w : List ℕ) (b : ℕ) (rest : List ℕ) → ((more after : List ℕ) → lexeme first (w ++ b ∷ more) after ≡ None)
    → (c : ℕ) (more after : List ℕ) → b ∷ rest ≡ c ∷ (more ++ after) → lexeme first (w ++ c ∷ more) after ≡ None
ended_by first w b rest h c more after q = subst (λ (c : ℕ). lexeme first (w ++ c ∷ more) after ≡ None) (ap first_byte q) (h more after)

after_sign : (first : Bool) (more after : List ℕ) → lexeme first (59 ∷ 10 ∷ more) after ≡ None
unfolding lexeme double triple
after_sign first [] after = refl
after_sign first (b ∷ []) after = refl
after_sign first (b ∷ c ∷ more) after = refl

int_word : Longest true (codes "int") (codes " x;\n") (Piece.token Kind.name)
unfolding lexeme name_of is_word
int_word = record { is = refl; longer = ended_by true (codes "int") 32 (codes "x;\n") (λ more after. refl) }

blank : (first : Bool) (rest : List ℕ) → Longest first (32 ∷ []) rest Piece.skip
unfolding lexeme
blank first rest = record { is = refl; longer = λ c more after q. refl }

x_word : (first : Bool) → Longest first (codes "x") (codes ";\n") (Piece.token Kind.name)
unfolding lexeme name_of is_word
x_word first = record { is = refl; longer = ended_by first (codes "x") 59 (codes "\n") (λ more after. refl) }

semicolon : (first : Bool) → Longest first (codes ";") (codes "\n") (Piece.token (Kind.sign s.Semicolon))
unfolding lexeme single
semicolon first = record { is = refl; longer = ended_by first (codes ";") 10 [] (after_sign first) }

newline : (first : Bool) → Longest first (10 ∷ []) [] Piece.skip
unfolding lexeme
newline first = record { is = refl; longer = λ c more after q. refl }

text_words : List Word
text_words =
    record { kind = Kind.name; bytes = codes "int"; line = 1 } ∷ record { kind = Kind.name; bytes = codes "x"; line = 1 }
    ∷ record { kind = Kind.sign s.Semicolon; bytes = codes ";"; line = 1 } ∷ []

text_tokens : Tokens (codes "int x;\n") text_words
unfolding is_first line text_words
text_tokens =
    t.word {w = codes "int"} refl int_word (t.skip {w = 32 ∷ []} refl (blank _ _) (t.word {w = codes "x"} refl (x_word _)
    (t.word {w = codes ";"} refl (semicolon _) (t.skip {w = 10 ∷ []} refl (newline _) t.ended))))

pub line_is_spelled : LineIsSpelled
unfolding line text_words
line_is_spelled = (text_words, text_tokens, p.plain (p.then_cells p.none (d.cells st.absent (comma.one (d.scalar refl)))))

-- ---- keywords

pub all_keywords : AllKeywords
all_keywords = refl
