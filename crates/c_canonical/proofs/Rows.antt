-- Statements one after another, and what they are as a list and as a body.
use Rattle.std.proofs.Common.{ℕ, max, Bool, List, [], ◌∷◌, ◌++◌, sym, subst, append_assoc, append-nil}
use Rattle.c_tree.specs.declared.program.Kind.{Kind}
use Rattle.c_tree.specs.Lined.{Stmt}
use Rattle.c_grammar.specs.Items.{Item}
use Rattle.c_grammar.specs.Levels.{tall}
use Rattle.c_grammar.specs.Statements as st
use Rattle.c_grammar.specs.Statements.{SpellsStatement, SpellsList, SpellsBody}

-- Each of these statements is spelled, the first one first.
pub data Row (k : Kind) : List Item → List Item → List Stmt → Type 0 where
  end : {ts : List Item} → Row k ts ts []
  step : {b : Bool} {n : ℕ} {ts mid rest : List Item} {x : Stmt} {xs : List Stmt} → SpellsStatement k b ts mid (tall (x ∷ []) n) → Row k mid rest xs → Row k ts rest (x ∷ xs)

-- These statements are spelled as a list, and as a body without threads.
pub record ListOf (k : Kind) (start rest : List Item) (all : List Stmt) : Type 0 where
  pub levels : ℕ
  pub spells : SpellsList k start rest (tall all levels)

pub row_list : (k : Kind) (start mid rest : List Item) (xs ys : List Stmt) → ListOf k start mid xs → Row k mid rest ys → ListOf k start rest (xs ++ ys)
row_list k start mid _ xs _ so end = subst (ListOf k start mid) (sym (append-nil xs)) so
row_list k start mid rest xs _ so (step {n = n} {mid = next} {x = y} {xs = ys} h more) =
    subst (ListOf k start rest) (append_assoc xs (y ∷ []) ys) (row_list k start next rest (xs ++ y ∷ []) ys (record { levels = max so.levels n; spells = st.then so.spells h }) more)

pub record BodyOf (k : Kind) (start rest : List Item) (all : List Stmt) : Type 0 where
  pub levels : ℕ
  pub spells : SpellsBody k start rest (tall (record { stmts = all; slots = [] }) levels)

pub row_body : (k : Kind) (start mid rest : List Item) (xs ys : List Stmt) → BodyOf k start mid xs → Row k mid rest ys → BodyOf k start rest (xs ++ ys)
row_body k start mid _ xs _ so end = subst (BodyOf k start mid) (sym (append-nil xs)) so
row_body k start mid rest xs _ so (step {n = n} {mid = next} {x = y} {xs = ys} h more) =
    subst (BodyOf k start rest) (append_assoc xs (y ∷ []) ys) (row_body k start next rest (xs ++ y ∷ []) ys (record { levels = max so.levels n; spells = st.then so.spells h }) more)
