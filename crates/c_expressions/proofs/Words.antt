-- Tokens that texts can be completed with, where tokens are seen so.
use Rattle.std.specs.Prelude.{◌≡◌, ℕ, Bool, true, false, List, codes}
use Rattle.c_lexer.specs.declared.token.Sign.{Sign}
use Rattle.c_grammar.specs.declared.words.FixedWord.TheVariants as w
use Rattle.c_grammar.specs.Items.{What}
use Rattle.c_expressions.specs.Words.{inner}
use Rattle.c_expressions.specs.Parsers.{Sight, seen, is_cast_inner}

-- a token seen so
abbrev pub SeenAs : {Token : Type 0} → Sight Token → (What → Type 0) → Type 0
SeenAs {Token} v P = (u : Token) × P (seen v u)

abbrev pub begins_declaration : What → Bool
begins_declaration (What.Fixed w.Int) = true
begins_declaration (What.Fixed w.Void) = true
begins_declaration (What.Fixed w.Thread) = true
begins_declaration (What.Fixed w.Mutex) = true
begins_declaration (What.Fixed w.Condition) = true
begins_declaration other = false

-- There is a token for each sign, a name, a number, the number 1 and a format; and for the words that have no definition.
pub record Words {Token : Type 0} (v : Sight Token) : Type 0 where
  pub sign : Sign → Token
  pub sign_is : (x : Sign) → seen v (sign x) ≡ What.Sign x
  -- a name that is no word of the grammar: so it may also be called
  pub name : Token
  pub letters : List ℕ
  pub name_is : seen v name ≡ What.Name letters
  pub number : Token
  pub value : ℕ
  pub number_is : seen v number ≡ What.Number value
  pub one : Token
  pub one_is : seen v one ≡ What.Number 1
  pub format : Token
  pub format_is : seen v format ≡ What.Text (codes "%d")
  -- `long` or `intptr_t`
  pub cast : v.casts ≡ true → SeenAs v (λ a. is_cast_inner (inner a) ≡ true)
  pub void : v.void ≡ true → SeenAs v (λ a. a ≡ What.Fixed w.Void)
  pub null : v.null ≡ true → SeenAs v (λ a. a ≡ What.Fixed w.Null)
  pub ready_mutex : v.ready_mutexes ≡ true → SeenAs v (λ a. a ≡ What.Fixed w.MutexInitializer)
  pub ready_condition : v.ready_conditions ≡ true → SeenAs v (λ a. a ≡ What.Fixed w.ConditionInitializer)
  pub thread : v.threads ≡ true → SeenAs v (λ a. a ≡ What.Fixed w.Thread)
  -- what may follow `static`
  pub declaration : v.declarations ≡ true → SeenAs v (λ a. begins_declaration a ≡ true)
