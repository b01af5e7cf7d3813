-- An expression behind the name that it begins with, where that name was read before it was known whether a call follows.
use Rattle.std.specs.Prelude.{ℕ, zero, suc, if◌then◌else◌, List, ◌∷◌}
use Rattle.c_tree.specs.Expressions as tree
use Rattle.c_tree.specs.Expressions.{Expr}
use Rattle.c_grammar.specs.Levels.{Tall, over}
use Rattle.parse_laws.specs.Parser.{Parser, pure, Move, Stop, Deep, commit}
use Rattle.c_expressions.specs.Parsers.{Sight, goes_on, expression}

abbrev pub too_deep_by : {Token : Type 0} → Sight Token → Token → Move Token (Tall Expr)
too_deep_by v t = if goes_on v t then Deep else Stop

-- Behind the name n, the token u, in the room of a statement. In the room 0 no expression fits: the name is read all the same, as
-- one that doesn't fit, and an index or an operator behind it is too deep.
abbrev pub named_expression : {Token : Type 0} → Sight Token → ℕ → Token → List ℕ → Parser Token (Tall Expr)
named_expression v zero u n = commit (too_deep_by v) (pure (over (tree.Name n) 0))
named_expression v (suc r) u n = λ ts. expression v (suc r) (u ∷ ts)
