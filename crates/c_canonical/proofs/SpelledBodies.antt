-- The canonical tokens of shaped statements spell them as the body of a function.
use Rattle.std.proofs.Common.{◌≡◌, ℕ, Bool, true, false, List, [], ◌∷◌, ◌++◌, codes, refl, sym, ◌∙◌, ap}
use Rattle.std.specs.Prelude.{◌&&◌, if◌then◌else◌}
use Rattle.c_lexer.specs.declared.token.Sign.TheVariants as s
use Rattle.c_layout.specs.Layout as layout
use Rattle.c_layout.specs.Layout.{Item as Part}
use Rattle.c_tree.specs.declared.program.Kind.{Kind}
use Rattle.c_tree.specs.Lined as lined
use Rattle.c_tree.specs.Lined.{listed, bare_stmt, bare_stmts}
use Rattle.c_tree.specs.Bare.{Stmt, Stmts, Nil, Cons, Declare, Assign, Call, If, While, For, Return, Read, Print, Create, Join, InitMutex, InitCond, Lock, TryLock, Unlock, Wait, Signal, Broadcast, Take, Give}
use Rattle.c_grammar.specs.declared.words.FixedWord.TheVariants as w
use Rattle.c_grammar.specs.Items.{What, Item, at, sign}
use Rattle.c_grammar.specs.Levels.{tall}
use Rattle.c_grammar.specs.Statements as st
use Rattle.c_grammar.specs.Statements.{SpellsBody}
use Rattle.c_canonical.specs.Expressions.{expression}
use Rattle.c_canonical.specs.Statements.{deeper, tried, is_if, is_empty, is_chain, block, line, statement, otherwise, statements}
use Rattle.c_canonical.specs.Shown.{Shows, nothing, shown, unseen}
use Rattle.c_canonical.specs.Shaped.{ShapedStmt, ShapedStmts}
use Rattle.c_canonical.proofs.Shown.{shows_append}
use Rattle.c_canonical.proofs.SpelledExpressions.{whole_spelled}
use Rattle.c_canonical.proofs.Rows.{end, step, row_body}
use Rattle.c_canonical.proofs.SpelledStatements.{StatementAs, RowAs, ArmAs, in_head, block_spelled, Otherwise, none, arm, tried_spelled, if_spelled, try_lock_spelled, while_spelled, for_spelled, simple_line}

-- ---- lines

line_spelled : (kind : Kind) (margin : List ℕ) (items more : List Part) (first : Stmt) (others : Stmts) (ts rest : List Item)
    → ((ts rest : List Item) → Shows items ts rest → StatementAs kind first ts rest) → ((ts rest : List Item) → Shows more ts rest → RowAs kind others ts rest)
    → Shows (line margin items more) ts rest → RowAs kind (Cons first others) ts rest
line_spelled kind margin items more first others ts rest one all (unseen h) =
    let p = shows_append items (layout.newline ∷ more) ts rest h in
    behind p.mid (one ts p.mid p.first) p.second
  where
    behind : (mid : List Item) → StatementAs kind first ts mid → Shows (layout.newline ∷ more) mid rest → RowAs kind (Cons first others) ts rest
    behind mid v (unseen i) =
        let r = all mid rest i in record {
          stmts = v.stmt ∷ r.stmts;
          row = step v.spells r.row;
          same = ap (λ (x : Stmt). Cons x (bare_stmts (listed r.stmts))) v.same ∙ ap (λ (ss : Stmts). Cons first ss) r.same;
        }

-- ---- the arm of an `else`

is_none : (ss : Stmts) → is_empty ss ≡ true → ss ≡ Nil
is_none Nil e = refl
is_none (Cons first more) e = absurd cc

chain_ends : (first : Stmt) (more : Stmts) → is_chain (Cons first more) ≡ true → more ≡ Nil
chain_ends first more e = go (is_if first) e
  where
    go : (b : Bool) → b && is_empty more ≡ true → more ≡ Nil
    go true d = is_none more d
    go false d = absurd cc

single_arm : (kind : Kind) (first : Stmt) (more : Stmts) (l : ℕ) (ts rest : List Item) → more ≡ Nil → StatementAs kind first ts rest → Otherwise kind (at l (What.Fixed w.Else) ∷ ts) rest (Cons first more)
single_arm kind first more l ts rest e v =
    arm (record {
      stmts = v.stmt ∷ [];
      levels = v.levels;
      spells = st.single v.spells;
      same = ap (λ (x : Stmt). Cons x Nil) v.same ∙ ap (λ (ss : Stmts). Cons first ss) (sym e);
    })

-- one statement without braces, or a block
chosen_spelled : (kind : Kind) (x : Bool) (a b : List Part) (first : Stmt) (more : Stmts) (l : ℕ) (ts rest : List Item) → is_chain (Cons first more) ≡ x
    → ((ts rest : List Item) → Shows a ts rest → StatementAs kind first ts rest) → ((ts rest : List Item) → Shows b ts rest → ArmAs kind true (Cons first more) ts rest)
    → Shows (if x then a else b) ts rest → Otherwise kind (at l (What.Fixed w.Else) ∷ ts) rest (Cons first more)
chosen_spelled kind true a b first more l ts rest e one all h = single_arm kind first more l ts rest (chain_ends first more e) (one ts rest h)
chosen_spelled kind false a b first more l ts rest e one all h = arm (all ts rest h)

-- ---- all

mutual
  pub statement_spelled : (kind : Kind) (margin : List ℕ) (given : Stmt) (ts rest : List Item) → ShapedStmt kind given → Shows (statement kind margin given) ts rest → StatementAs kind given ts rest
  statement_spelled kind margin (If test one two) ts rest f h =
      in_head (λ (all : List Item). StatementAs kind (If test one two) all rest) (codes "if") (expression test)
      (block margin (statements kind (deeper margin) one) ++ otherwise kind margin two) ts rest h
      (λ l m n mid next i j.
      let p = shows_append (block margin (statements kind (deeper margin) one)) (otherwise kind margin two) next rest j in
      if_spelled kind test one two l m n mid next p.mid rest (whole_spelled test mid (sign n s.RightParenthesis ∷ next) f.0 i)
      (block_spelled kind margin (statements kind (deeper margin) one) one next p.mid (λ ts rest k. row_spelled kind (deeper margin) one ts rest f.1 k) p.first)
      (otherwise_spelled kind margin two p.mid rest f.2 p.second))
  statement_spelled kind margin (TryLock p taken busy) ts rest f h =
      in_head (λ (all : List Item). StatementAs kind (TryLock p taken busy) all rest) (codes "if") (tried p)
      (block margin (statements kind (deeper margin) taken) ++ otherwise kind margin busy) ts rest h
      (λ l m n mid next i j.
      let q = shows_append (block margin (statements kind (deeper margin) taken)) (otherwise kind margin busy) next rest j in
      try_lock_spelled kind p taken busy l m n mid next q.mid rest (tried_spelled p mid (sign n s.RightParenthesis ∷ next) f.0 i)
      (block_spelled kind margin (statements kind (deeper margin) taken) taken next q.mid (λ ts rest k. row_spelled kind (deeper margin) taken ts rest f.1 k) q.first)
      (otherwise_spelled kind margin busy q.mid rest f.2 q.second))
  statement_spelled kind margin (While test body) ts rest f h =
      in_head (λ (all : List Item). StatementAs kind (While test body) all rest) (codes "while") (expression test) (block margin (statements kind (deeper margin) body)) ts rest h
      (λ l m n mid next i j.
      while_spelled kind test body l m n mid next rest (whole_spelled test mid (sign n s.RightParenthesis ∷ next) f.0 i)
      (block_spelled kind margin (statements kind (deeper margin) body) body next rest (λ ts rest k. row_spelled kind (deeper margin) body ts rest f.1 k) j))
  statement_spelled kind margin (For first test last body) ts rest f h =
      in_head (λ (all : List Item). StatementAs kind (For first test last body) all rest) (codes "for") _ (block margin (statements kind (deeper margin) body)) ts rest h
      (λ l m n mid next i j.
      for_spelled kind first test last body l m n mid next rest f.0 f.1 f.2 i
      (block_spelled kind margin (statements kind (deeper margin) body) body next rest (λ ts rest k. row_spelled kind (deeper margin) body ts rest f.3 k) j))
  statement_spelled kind margin (Declare name value) ts rest f h = simple_line kind (Declare name value) ts rest tt f h
  statement_spelled kind margin (Assign target value) ts rest f h = simple_line kind (Assign target value) ts rest tt f h
  statement_spelled kind margin (Call target function args) ts rest f h = simple_line kind (Call target function args) ts rest tt f h
  statement_spelled kind margin (Return value) ts rest f h = simple_line kind (Return value) ts rest tt f h
  statement_spelled kind margin (Read target) ts rest f h = simple_line kind (Read target) ts rest tt f h
  statement_spelled kind margin (Print format args) ts rest f h = simple_line kind (Print format args) ts rest tt f h
  statement_spelled kind margin (Create slot function arg) ts rest f h = simple_line kind (Create slot function arg) ts rest tt f h
  statement_spelled kind margin (Join slot) ts rest f h = simple_line kind (Join slot) ts rest tt f h
  statement_spelled kind margin (InitMutex p) ts rest f h = simple_line kind (InitMutex p) ts rest tt f h
  statement_spelled kind margin (InitCond p) ts rest f h = simple_line kind (InitCond p) ts rest tt f h
  statement_spelled kind margin (Lock p) ts rest f h = simple_line kind (Lock p) ts rest tt f h
  statement_spelled kind margin (Unlock p) ts rest f h = simple_line kind (Unlock p) ts rest tt f h
  statement_spelled kind margin (Wait cond mutex takes) ts rest f h = simple_line kind (Wait cond mutex takes) ts rest tt f h
  statement_spelled kind margin (Signal cond) ts rest f h = simple_line kind (Signal cond) ts rest tt f h
  statement_spelled kind margin (Broadcast cond) ts rest f h = simple_line kind (Broadcast cond) ts rest tt f h
  statement_spelled kind margin (Take monitor) ts rest f h = simple_line kind (Take monitor) ts rest tt f h
  statement_spelled kind margin (Give monitor) ts rest f h = simple_line kind (Give monitor) ts rest tt f h

  otherwise_spelled : (kind : Kind) (margin : List ℕ) (given : Stmts) (ts rest : List Item) → ShapedStmts kind given → Shows (otherwise kind margin given) ts rest → Otherwise kind ts rest given
  otherwise_spelled kind margin Nil _ rest f nothing = none
  otherwise_spelled kind margin (Cons first more) _ rest f (unseen (shown {line = l} (unseen {ts = ts} h))) =
      chosen_spelled kind (is_chain (Cons first more)) (statement kind margin first)
      (block margin (line (deeper margin) (statement kind (deeper margin) first) (statements kind (deeper margin) more))) first more l ts rest refl
      (λ ts rest k. statement_spelled kind margin first ts rest f.0 k)
      (λ ts rest k. block_spelled kind margin (line (deeper margin) (statement kind (deeper margin) first) (statements kind (deeper margin) more)) (Cons first more) ts rest
      (λ ts rest i. line_spelled kind (deeper margin) (statement kind (deeper margin) first) (statements kind (deeper margin) more) first more ts rest
      (λ ts rest j. statement_spelled kind (deeper margin) first ts rest f.0 j) (λ ts rest j. row_spelled kind (deeper margin) more ts rest f.1 j) i) k)
      h

  pub row_spelled : (kind : Kind) (margin : List ℕ) (given : Stmts) (ts rest : List Item) → ShapedStmts kind given → Shows (statements kind margin given) ts rest → RowAs kind given ts rest
  row_spelled kind margin Nil _ rest f nothing = record { stmts = []; row = end; same = refl }
  row_spelled kind margin (Cons first more) ts rest f h =
      line_spelled kind margin (statement kind margin first) (statements kind margin more) first more ts rest
      (λ ts rest k. statement_spelled kind margin first ts rest f.0 k) (λ ts rest k. row_spelled kind margin more ts rest f.1 k) h

-- ---- bodies

-- Items spell these statements as the body of a function of this kind, which declares no threads.
pub record BodyAs (kind : Kind) (given : Stmts) (ts rest : List Item) : Type 0 where
  pub stmts : List lined.Stmt
  pub levels : ℕ
  pub spells : SpellsBody kind ts rest (tall (record { stmts = stmts; slots = [] }) levels)
  pub same : bare_stmts (listed stmts) ≡ given

pub body_spelled : (kind : Kind) (margin : List ℕ) (given : Stmts) (ts rest : List Item) → ShapedStmts kind given → Shows (statements kind margin given) ts rest → BodyAs kind given ts rest
body_spelled kind margin given ts rest f h =
    let r = row_spelled kind margin given ts rest f h in
    let b = row_body kind ts ts rest [] r.stmts (record { levels = 0; spells = st.none }) r.row in
    record { stmts = r.stmts; levels = b.levels; spells = b.spells; same = r.same }
