-- What tokens stand for in statements.
use Rattle.std.specs.Prelude.{nat_eq, Bool, true, false}
use Rattle.c_lexer.specs.declared.token.Sign.TheVariants as s
use Rattle.c_grammar.specs.declared.words.FixedWord.TheVariants as w
use Rattle.c_grammar.specs.Items.{What}
use Rattle.c_simple.specs.Parsers.{begins_simple_at}
use Rattle.c_statements.specs.declared.word.Opening.{Opening}
use Rattle.c_statements.specs.declared.word.Opening.TheVariants as o
use Rattle.c_statements.specs.declared.word.Question.{Question}
use Rattle.c_statements.specs.declared.word.Question.TheVariants as q
use Rattle.c_statements.specs.declared.word.Comparison.{Comparison}
use Rattle.c_statements.specs.declared.word.Comparison.TheVariants as c
use Rattle.c_statements.specs.declared.word.Start.{Start}
use Rattle.c_statements.specs.declared.word.Start.TheVariants as f
use Rattle.c_statements.specs.declared.word.Thread.{Thread}
use Rattle.c_statements.specs.declared.word.Thread.TheVariants as t

-- how a token begins a statement: as `;`, by one of three words, or as a simple statement, if at all
abbrev pub statement_opening : What → Opening
statement_opening (What.Sign s.Semicolon) = o.Empty
statement_opening (What.Fixed w.If) = o.If
statement_opening (What.Fixed w.While) = o.While
statement_opening (What.Fixed w.For) = o.For
statement_opening other = o.Simple

-- how a token begins what an `if` tests: by the name of the trylock, by `!`, which may stand before it, or as an expression, if at all
abbrev pub asks : What → Question
asks (What.Fixed w.TryLock) = q.TryLock
asks (What.Sign s.Not) = q.Not
asks other = q.Expression

-- what stands behind a trylock: the `)`, `==` or `!=`
abbrev pub behind_try : What → Comparison
behind_try (What.Sign s.RightParenthesis) = c.End
behind_try (What.Sign s.Equal) = c.Equal
behind_try (What.Sign s.NotEqual) = c.NotEqual
behind_try other = c.Other

-- the name of the trylock
abbrev pub is_try : What → Bool
is_try (What.Fixed w.TryLock) = true
is_try other = false

-- what a trylock is compared with
abbrev pub is_zero : What → Bool
is_zero (What.Number value) = nat_eq value 0
is_zero other = false

-- how a token begins the first part of a `for`: as the `;` behind no part, by `int`, or as a step, if at all
abbrev pub first_start : What → Start
first_start (What.Sign s.Semicolon) = f.Nothing
first_start (What.Fixed w.Int) = f.Int
first_start other = f.Step

-- how a token begins a declaration of threads: by `static`, by `pthread_t`, or not at all
abbrev pub thread_opening : What → Thread
thread_opening (What.Fixed w.Static) = t.Static
thread_opening (What.Fixed w.Thread) = t.Type
thread_opening other = t.Other

abbrev pub is_else : What → Bool
is_else (What.Fixed w.Else) = true
is_else other = false

abbrev pub is_static : What → Bool
is_static (What.Fixed w.Static) = true
is_static other = false

abbrev pub is_thread_type : What → Bool
is_thread_type (What.Fixed w.Thread) = true
is_thread_type other = false

abbrev pub opens : Opening → Bool → Bool
opens o.Simple simple = simple
opens other simple = true

-- a statement begins so, in some room
abbrev pub begins : What → Bool
begins what = opens (statement_opening what) (begins_simple_at what)
