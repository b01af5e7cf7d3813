-- What the functions of this crate ensure: what they answer is what a parser over their tokens reads.
use Rattle.std.specs.Prelude.{ℕ, List, map, Result}
use denote.Ref.{Bor}
use Rattle.c_tree.specs.declared.stmt.Stmt as declared
use Rattle.c_tree.specs.Expressions.{expr_of, exprs_of}
use Rattle.c_tree.specs.Lined.{Stmt, stmt_of}
use Rattle.c_grammar.specs.Levels.{Tall}
use Rattle.c_grammar.specs.Expressions as g
use Rattle.parse_laws.specs.declared.fault.Refusal.{Refusal}
use Rattle.parse_laws.specs.Parser.{Outcome}
use Rattle.c_expressions.specs.declared.token.Marked.{Marked}
use Rattle.c_expressions.specs.declared.tall.Tall as shown
use Rattle.c_expressions.specs.Gives.{tall_of, Shows}
use Rattle.c_simple.specs.declared.values.Called as declared_call
use Rattle.c_simple.specs.declared.values.Source as declared_source
use Rattle.c_simple.specs.declared.values.Source.TheVariants as sources
use Rattle.c_simple.specs.Parsers.{Source}

-- statements in their order
abbrev pub statements_of : List declared.Stmt → List Stmt
statements_of ss = map stmt_of ss

-- a call
abbrev pub called_of : declared_call.Called → g.Called
called_of c = record { function = c.function; args = exprs_of c.args }

abbrev pub source_of : declared_source.Source → Source
source_of (sources.Value e) = Source.Value (tall_of expr_of e)
source_of (sources.Call c) = Source.Call (tall_of called_of c)

abbrev pub GivesStatements : Result (shown.Tall (List declared.Stmt) × Bor (List Marked)) (Refusal Marked) → Outcome Marked (Tall (List Stmt)) → Type 0
GivesStatements result o = Shows (tall_of statements_of) result o

abbrev pub GivesSource : Result (declared_source.Source × Bor (List Marked)) (Refusal Marked) → Outcome Marked Source → Type 0
GivesSource result o = Shows source_of result o

abbrev pub GivesCall : Result (shown.Tall declared_call.Called × Bor (List Marked)) (Refusal Marked) → Outcome Marked (Tall g.Called) → Type 0
GivesCall result o = Shows (tall_of called_of) result o

-- how many levels a value takes
abbrev pub levels_in : declared_source.Source → ℕ
levels_in (sources.Value e) = e.levels
levels_in (sources.Call c) = c.levels
