-- What every statement begins with, and where an expression can end: what the samples that aren't spelled rest on.
use Rattle.std.specs.Prelude.{ℕ, Bool, true, false, ◌||◌, ◌≡◌, is_some, List, [], ◌∷◌, Option, Some, None}
use Rattle.c_lexer.specs.declared.token.Sign.TheVariants as s
use Rattle.c_tree.specs.declared.program.Kind.{Kind}
use Rattle.c_tree.specs.Expressions.{Expr}
use Rattle.c_tree.specs.Lined.{Stmt}
use Rattle.c_grammar.specs.declared.words.FixedWord.TheVariants as w
use Rattle.c_grammar.specs.Items.{What, Item, at, name_of}
use Rattle.c_grammar.specs.Levels.{Tall}
use Rattle.c_tree.specs.declared.expr.Op.{Op}
use Rattle.c_grammar.specs.Expressions.{operator, SpellsExpression}
use Rattle.c_grammar.specs.Statements.{SpellsStatement}

-- ---- the heads of statements

-- A token that is no name, with which some statement begins.
abbrev pub is_head : What → Bool
is_head (What.Sign s.Semicolon) = true
is_head (What.Sign s.Increment) = true
is_head (What.Sign s.Decrement) = true
is_head (What.Fixed w.Int) = true
is_head (What.Fixed w.If) = true
is_head (What.Fixed w.While) = true
is_head (What.Fixed w.For) = true
is_head (What.Fixed w.Return) = true
is_head what = false

abbrev pub begins_statement : List Item → Bool
begins_statement [] = false
begins_statement (at line what ∷ rest) = is_some (name_of what) || is_head what

-- Every statement begins so.
abbrev pub StatementsBegin : Type 0
StatementsBegin = (k : Kind) (b : Bool) (ts rest : List Item) (x : Tall (List Stmt)) → SpellsStatement k b ts rest x → begins_statement ts ≡ true

-- ---- the ends of expressions

-- An operand is to come, one stands before, or `int` does, which is the first word of a cast.
pub data Stage : Type 0 where
  Wanted : Stage
  Present : Stage
  AfterInt : Stage

-- Before an operand: a sign of its own or a parenthesis may stand there, and a number or a word is one. Words of casts are taken for operands.
abbrev pub wanted : What → Option Stage
wanted (What.Sign s.LeftParenthesis) = Some Wanted
wanted (What.Sign s.Not) = Some Wanted
wanted (What.Sign s.Minus) = Some Wanted
wanted (What.Number value) = Some Present
wanted (What.Name name) = Some Present
wanted (What.Fixed w.Int) = Some AfterInt
wanted (What.Fixed word) = Some Present
wanted what = None

-- A stage for an operator, and none for another sign.
abbrev pub after_operator : Option Op → Option Stage
after_operator None = None
after_operator (Some o) = Some Wanted

-- After an operand: an operator or an index, or the end of parentheses, an index or a cast. A `(` doesn't.
abbrev pub present : What → Option Stage
present (What.Sign s.LeftBracket) = Some Wanted
present (What.Sign s.RightBracket) = Some Present
present (What.Sign s.RightParenthesis) = Some Present
present (What.Sign t) = after_operator (operator t)
present (What.Name name) = Some Present
present (What.Fixed word) = Some Present
present what = None

abbrev pub after_int : What → Option Stage
after_int (What.Sign s.RightParenthesis) = Some Wanted
after_int what = None

abbrev pub next_stage : Stage → What → Option Stage
next_stage Wanted what = wanted what
next_stage Present what = present what
next_stage AfterInt what = after_int what

-- Where an operand stands before, an expression can end.
abbrev pub ended : Stage → List Item → Option (List Item)
ended Present ts = Some ts
ended stage ts = None

-- What is found by going on in the next stage, or else here.
abbrev pub or_here : Option Stage → Option (List Item) → (Stage → Option (List Item)) → Option (List Item)
or_here None here on = here
or_here (Some stage) here on = on stage

-- The tokens before which an expression ends at last, where it goes on from this stage.
abbrev pub end_of : Stage → List Item → Option (List Item)
end_of stage [] = ended stage []
end_of stage (at line what ∷ rest) = or_here (next_stage stage what) (ended stage (at line what ∷ rest)) (λ next. end_of next rest)

-- What stands before an expression and what stands after it have the same end at last.
abbrev pub ExpressionsEnd : Type 0
ExpressionsEnd = (k : ℕ) (ts rest : List Item) (e : Tall Expr) → SpellsExpression k ts rest e → end_of Wanted ts ≡ end_of Present rest

-- ---- the heads of expressions

abbrev pub begins_expression : List Item → Bool
begins_expression [] = false
begins_expression (at line what ∷ rest) = is_some (wanted what)

-- Every expression begins so.
abbrev pub ExpressionsBegin : Type 0
ExpressionsBegin = (k : ℕ) (ts rest : List Item) (e : Tall Expr) → SpellsExpression k ts rest e → begins_expression ts ≡ true
