-- What a statement is in a room, in the terms of the code.
use Rattle.std.proofs.Common.{◌≡◌, ℕ, zero, suc, ◌-◌, ◌<◌, ◌≤◌, true, false, List, [], ◌∷◌, refl, sym, ap, ◌∙◌, arith}
use Rattle.c_tree.specs.declared.program.Kind.{Kind}
use Rattle.c_tree.specs.Lined.{Stmt}
use Rattle.c_grammar.specs.Levels.{Tall, nothing}
use Rattle.c_grammar.specs.Statements.{Body, body_then}
use Rattle.parse_laws.specs.Parser.{Parser, and_then, pure, refuse, Move, Stop, Deep, Go, moved, commit, and_go, deeper}
use Rattle.c_expressions.specs.Parsers.{Sight, seen}
use Rattle.c_simple.specs.Parsers.{line, simple_by, begins_simple}
use Rattle.c_statements.specs.declared.word.Opening.{Opening}
use Rattle.c_statements.specs.declared.word.Opening.TheVariants as o
use Rattle.c_statements.specs.Words.{statement_opening, opens, begins}
use Rattle.c_statements.specs.Parsers.{choice, repetition, counting, twice_deeper, simple_in, statement_in, statement_by, lower_in, stated, stated_by}
use Rattle.c_simple.proofs.Begins.{simple_stops, simple_acts}

module _ {Token : Type 0} (v : Sight Token) (kind : Kind) where
  -- a statement in a room, whose parts stand a level down
  pub statement_is : (room : ℕ) (u : Token) → statement_by v kind room u ≡ statement_in v kind room (lower_in v kind room) u (statement_opening (seen v u))
  unfolding statement_by
  statement_is zero u = refl
  statement_is (suc r) u = refl

  opened_as : (room : ℕ) (u : Token) (x : Opening) → statement_opening (seen v u) ≡ x → statement_by v kind room u ≡ statement_in v kind room (lower_in v kind room) u x
  opened_as room u x e = statement_is room u ∙ ap (λ (y : Opening). statement_in v kind room (lower_in v kind room) u y) e

  pub empty_is : (room : ℕ) (u : Token) → statement_opening (seen v u) ≡ o.Empty → statement_by v kind room u ≡ Go (pure nothing)
  empty_is room u e = opened_as room u o.Empty e

  pub simple_is : (room : ℕ) (u : Token) → statement_opening (seen v u) ≡ o.Simple → statement_by v kind room u ≡ simple_in v kind room u
  simple_is room u e = opened_as room u o.Simple e

  -- where there is room
  pub if_is : (room : ℕ) (u : Token) → statement_opening (seen v u) ≡ o.If → 1 < room → statement_by v kind room u ≡ Go (choice v (room - 1) (statement_by v kind (room - 1)) (line v u))
  if_is zero u e lt = absurd (omega arith)
  if_is (suc zero) u e lt = absurd (omega arith)
  if_is (suc (suc r)) u e lt = let p : suc (suc r) - 1 ≡ suc r = omega arith in rw p (opened_as (suc (suc r)) u o.If e)

  pub while_is : (room : ℕ) (u : Token) → statement_opening (seen v u) ≡ o.While → 1 < room → statement_by v kind room u ≡ Go (repetition v (room - 1) (statement_by v kind (room - 1)) (line v u))
  while_is zero u e lt = absurd (omega arith)
  while_is (suc zero) u e lt = absurd (omega arith)
  while_is (suc (suc r)) u e lt = let p : suc (suc r) - 1 ≡ suc r = omega arith in rw p (opened_as (suc (suc r)) u o.While e)

  pub for_is : (room : ℕ) (u : Token) → statement_opening (seen v u) ≡ o.For → 0 < room → statement_by v kind room u ≡ Go (counting v (room - 1) (statement_by v kind (room - 1)) (line v u))
  for_is zero u e lt = absurd (omega arith)
  for_is (suc r) u e lt = let p : suc r - 1 ≡ r = omega arith in rw p (opened_as (suc r) u o.For e)

  -- where there is none
  pub if_deep : (room : ℕ) (u : Token) → statement_opening (seen v u) ≡ o.If → room ≤ 1 → statement_by v kind room u ≡ Deep
  if_deep zero u e le = opened_as zero u o.If e
  if_deep (suc zero) u e le = opened_as (suc zero) u o.If e
  if_deep (suc (suc r)) u e le = absurd (omega arith)

  pub while_deep : (room : ℕ) (u : Token) → statement_opening (seen v u) ≡ o.While → room ≤ 1 → statement_by v kind room u ≡ Deep
  while_deep zero u e le = opened_as zero u o.While e
  while_deep (suc zero) u e le = opened_as (suc zero) u o.While e
  while_deep (suc (suc r)) u e le = absurd (omega arith)

  pub for_deep : (room : ℕ) (u : Token) → statement_opening (seen v u) ≡ o.For → room ≤ 0 → statement_by v kind room u ≡ Deep
  for_deep zero u e le = opened_as zero u o.For e
  for_deep (suc r) u e le = absurd (omega arith)

  -- a simple statement
  pub simple_shallow : (room : ℕ) (u : Token) → 0 < room → simple_in v kind room u ≡ simple_by v kind (room - 1) u
  simple_shallow zero u lt = absurd (omega arith)
  simple_shallow (suc r) u lt = let p : suc r - 1 ≡ r = omega arith in rw p refl

  pub shallow_is : (room : ℕ) (ts : List Token) → 0 < room → commit (simple_in v kind room) refuse ts ≡ commit (simple_by v kind (room - 1)) refuse ts
  shallow_is room [] lt = refl
  shallow_is room (u ∷ rest) lt = ap (λ (m : Move Token (Tall (List Stmt))). moved m refuse u rest) (simple_shallow room u lt)

  -- ---- what begins a statement

  in_stops : (room : ℕ) (u : Token) → begins_simple v u ≡ false → simple_in v kind room u ≡ Stop
  in_stops zero u e = rw e refl
  in_stops (suc r) u e = simple_stops v kind r u e

  in_begins : (room : ℕ) (u : Token) → begins_simple v u ≡ true → simple_in v kind room u ≡ Stop → ⊥
  in_begins zero u e = rw e (λ d. cc)
  in_begins (suc r) u e = simple_acts v kind r u e

  pub statement_stops : (room : ℕ) (u : Token) → begins (seen v u) ≡ false → statement_by v kind room u ≡ Stop
  statement_stops room u e = go (statement_opening (seen v u)) refl e
    where
      go : (x : Opening) → statement_opening (seen v u) ≡ x → opens x (begins_simple v u) ≡ false → statement_by v kind room u ≡ Stop
      go o.Simple d e = simple_is room u d ∙ in_stops room u e
      go _ d e = absurd cc

  twice_begins : {A : Type 0} (p : ℕ → Parser Token A) (room : ℕ) → twice_deeper p room ≡ Stop → ⊥
  twice_begins p zero e = cc
  twice_begins p (suc zero) e = cc
  twice_begins p (suc (suc r)) e = cc

  once_begins : {A : Type 0} (p : ℕ → Parser Token A) (room : ℕ) → deeper p room ≡ Stop → ⊥
  once_begins p zero e = cc
  once_begins p (suc r) e = cc

  pub statement_begins : (room : ℕ) (u : Token) → begins (seen v u) ≡ true → statement_by v kind room u ≡ Stop → ⊥
  statement_begins room u e d = go (statement_opening (seen v u)) refl e (sym (statement_is room u) ∙ d)
    where
      go : (x : Opening) → statement_opening (seen v u) ≡ x → opens x (begins_simple v u) ≡ true → statement_in v kind room (lower_in v kind room) u x ≡ Stop → ⊥
      go o.Empty y e d = cc
      go o.If y e d = twice_begins (λ r. choice v r (lower_in v kind room) (line v u)) room d
      go o.While y e d = twice_begins (λ r. repetition v r (lower_in v kind room) (line v u)) room d
      go o.For y e d = once_begins (λ r. counting v r (lower_in v kind room) (line v u)) room d
      go o.Simple y e d = in_begins room u e d

  -- ---- behind the statements of a body

  -- one more statement, by its first token
  pub stated_is : (room : ℕ) (b : Tall Body) (ts : List Token) → commit (stated_by v kind room b) refuse ts ≡ stated v kind room b ts
  stated_is room b [] = refl
  stated_is room b (u ∷ rest) = go (statement_by v kind room u)
    where
      go : (m : Move Token (Tall (List Stmt))) → moved (and_go m (λ x. pure (body_then b x))) refuse u rest ≡ and_then (moved m refuse u rest) (λ x. pure (body_then b x))
      go Stop = refl
      go Deep = refl
      go (Go p) = refl
