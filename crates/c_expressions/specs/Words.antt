-- What tokens stand for in expressions.
use Rattle.std.specs.Prelude.{ℕ, Bool, false, List, Option, Some, None}
use denote.Enum.Bare.{sameb}
use Rattle.c_lexer.specs.declared.token.Sign.{Sign}
use Rattle.c_lexer.specs.contracts.token.Sign.{the_type}
use Rattle.c_lexer.specs.declared.token.Sign.TheVariants as s
use Rattle.c_grammar.specs.declared.words.FixedWord.TheVariants as w
use Rattle.c_grammar.specs.Items.{What, name_of}
use Rattle.c_expressions.specs.declared.token.Head as declared
use Rattle.c_expressions.specs.declared.token.Head.TheVariants as heads
use Rattle.c_expressions.specs.declared.token.Inner.{Inner}
use Rattle.c_expressions.specs.declared.token.Inner.TheVariants as i

unfoldable pub same_sign : Sign → Sign → Bool
same_sign = sameb the_type

abbrev pub is_sign : Sign → What → Bool
is_sign sign (What.Sign found) = same_sign sign found
is_sign sign other = false

-- How a token begins an operand: with a number, a name, `(`, `!` or `-`, or not at all.
pub data Head : Type 0 where
  Value : (value : ℕ) → Head
  Word : (name : List ℕ) → Head
  Open : Head
  Not : Head
  Minus : Head
  Other : Head

abbrev pub head_of : declared.Head → Head
head_of (heads.Value value) = Value value
head_of (heads.Word name) = Word name.now
head_of heads.Open = Open
head_of heads.Not = Not
head_of heads.Minus = Minus
head_of heads.Other = Other

abbrev pub by_name : Option (List ℕ) → Head
by_name None = Other
by_name (Some name) = Word name

abbrev pub head : What → Head
head (What.Number value) = Value value
head (What.Sign s.LeftParenthesis) = Open
head (What.Sign s.Not) = Not
head (What.Sign s.Minus) = Minus
head what = by_name (name_of what)

-- what a token is behind `(`, as far as casts go
abbrev pub inner : What → Inner
inner (What.Fixed w.Int) = i.Int
inner (What.Fixed w.Long) = i.Long
inner (What.Fixed w.IntPointer) = i.Pointer
inner other = i.Other
