-- What the functions of this crate ensure: what they answer is what a parser over their tokens reads.
use Rattle.std.specs.Prelude.{List, Result}
use denote.Ref.{Bor}
use Rattle.c_grammar.specs.Levels.{Tall}
use Rattle.c_grammar.specs.Statements.{Choice, Value, Taken, Busy, Body}
use Rattle.parse_laws.specs.declared.fault.Refusal.{Refusal}
use Rattle.parse_laws.specs.Parser.{Outcome}
use Rattle.c_tree.specs.Expressions.{expr_of, place_of}
use Rattle.c_expressions.specs.declared.token.Marked.{Marked}
use Rattle.c_expressions.specs.declared.tall.Tall as shown
use Rattle.c_expressions.specs.Gives.{Shows, tall_of}
use Rattle.c_simple.specs.Gives.{statements_of}
use Rattle.c_statements.specs.declared.tree.Test as shown_test
use Rattle.c_statements.specs.declared.tree.Test.TheVariants as made
use Rattle.c_statements.specs.declared.body.Body as shown_body

-- what an `if` tests as plain data
abbrev pub choice_of : shown_test.Test → Choice
choice_of (made.Value e) = Value (expr_of e)
choice_of (made.Taken p) = Taken (place_of p)
choice_of (made.Busy p) = Busy (place_of p)

abbrev pub GivesChoice : Result (shown.Tall shown_test.Test × Bor (List Marked)) (Refusal Marked) → Outcome Marked (Tall Choice) → Type 0
GivesChoice result o = Shows (tall_of choice_of) result o

-- a body as plain data
abbrev pub body_of : shown_body.Body → Body
body_of b = record { stmts = statements_of b.stmts; slots = b.slots }

abbrev pub GivesBody : Result (shown.Tall shown_body.Body × Bor (List Marked)) (Refusal Marked) → Outcome Marked (Tall Body) → Type 0
GivesBody result o = Shows (tall_of body_of) result o
