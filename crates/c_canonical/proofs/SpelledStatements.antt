-- The canonical tokens of shaped statements that hold others spell them, where those of their parts do.
use Rattle.std.proofs.Common.{◌≡◌, ℕ, suc, max, Bool, true, false, List, [], ◌∷◌, ◌++◌, codes, Some, refl, ◌∙◌, ap}
use Rattle.c_lexer.specs.declared.token.Sign.TheVariants as s
use Rattle.c_layout.specs.Layout as layout
use Rattle.c_layout.specs.Layout.{Item as Part}
use Rattle.c_tree.specs.declared.program.Kind.{Kind}
use Rattle.c_tree.specs.Expressions.{Expr, Place}
use Rattle.c_tree.specs.Lined as lined
use Rattle.c_tree.specs.Lined.{listed, bare_stmt, bare_stmts}
use Rattle.c_tree.specs.Bare.{Stmt, Stmts, Nil, Cons, Declare, Assign, If, TryLock, While, For}
use Rattle.c_grammar.specs.declared.words.FixedWord.TheVariants as w
use Rattle.c_grammar.specs.Items.{Item, at, sign, fixed, undefined_name}
use Rattle.c_grammar.specs.Levels.{tall}
use Rattle.c_grammar.specs.Expressions.{loosest}
use Rattle.c_grammar.specs.Statements as st
use Rattle.c_grammar.specs.Statements.{SpellsFirst, SpellsLast, Choice, Value, Taken, SpellsTry, SpellsChoice, SpellsStatement, SpellsArm, SpellsBody}
use Rattle.c_canonical.specs.Expressions.{expression}
use Rattle.c_canonical.specs.Statements.{address, called, simple, part, tried, block, headed}
use Rattle.c_canonical.specs.Shown.{Shows, nothing, shown, unseen}
use Rattle.c_canonical.specs.Shaped.{ShapedExpr, ShapedPlace, ShapedFirst, ShapedStep, ShapedStmt}
use Rattle.c_canonical.proofs.Shown.{shows_append}
use Rattle.c_canonical.proofs.Steps.{past_gap}
use Rattle.c_canonical.proofs.SpelledExpressions.{SpelledAs, before, expression_spelled, whole_spelled}
use Rattle.c_canonical.proofs.SpelledSimple.{SimpleAs, step_spelled}
use Rattle.c_canonical.proofs.SpelledActs.{object_spelled, IsSimple, simple_spelled}
use Rattle.c_canonical.proofs.Rows.{Row, row_list}

-- Items spell this statement of a function of this kind.
pub record StatementAs (kind : Kind) (given : Stmt) (ts rest : List Item) : Type 0 where
  pub flag : Bool
  pub stmt : lined.Stmt
  pub levels : ℕ
  pub spells : SpellsStatement kind flag ts rest (tall (stmt ∷ []) levels)
  pub same : bare_stmt stmt ≡ given

-- Items spell these statements one after another.
pub record RowAs (kind : Kind) (given : Stmts) (ts rest : List Item) : Type 0 where
  pub stmts : List lined.Stmt
  pub row : Row kind ts rest stmts
  pub same : bare_stmts (listed stmts) ≡ given

-- Items spell these statements as an arm.
pub record ArmAs (kind : Kind) (flag : Bool) (given : Stmts) (ts rest : List Item) : Type 0 where
  pub stmts : List lined.Stmt
  pub levels : ℕ
  pub spells : SpellsArm kind flag ts rest (tall stmts levels)
  pub same : bare_stmts (listed stmts) ≡ given

-- ---- the parts of a `for`

-- Items spell these statements as the first part of a `for`, and as its step.
record FirstAs (given : Stmts) (ts rest : List Item) : Type 0 where
  pub stmts : List lined.Stmt
  pub levels : ℕ
  pub spells : SpellsFirst ts rest (tall stmts levels)
  pub same : bare_stmts (listed stmts) ≡ given

record LastAs (given : Stmts) (ts rest : List Item) : Type 0 where
  pub stmts : List lined.Stmt
  pub levels : ℕ
  pub spells : SpellsLast ts rest (tall stmts levels)
  pub same : bare_stmts (listed stmts) ≡ given

first_spelled : (kind : Kind) (given : Stmts) (ts rest : List Item) → ShapedFirst given → Shows (part kind given) ts rest → FirstAs given ts rest
first_spelled kind Nil _ rest f nothing = record { stmts = []; levels = 0; spells = st.none; same = refl }
first_spelled kind (Cons (Declare name (Some value)) Nil) _ rest f (shown (unseen (shown {line = l} (unseen (shown (unseen {ts = ts} h)))))) =
    let v = whole_spelled value ts rest f.1 h in
    record { stmts = lined.Declare l name (Some value) ∷ []; levels = suc v.levels; spells = st.declare f.0 v.spells; same = refl }
first_spelled kind (Cons (Assign target value) Nil) ts rest f h =
    let v = step_spelled target value ts rest f.0 f.1 h in
    record { stmts = lined.Assign v.line target value ∷ []; levels = v.levels; spells = st.step v.spells; same = refl }
first_spelled kind (Cons _ _) ts rest f h = absurd f

last_spelled : (kind : Kind) (given : Stmts) (ts rest : List Item) → ShapedStep given → Shows (part kind given) ts rest → LastAs given ts rest
last_spelled kind Nil _ rest f nothing = record { stmts = []; levels = 0; spells = st.none; same = refl }
last_spelled kind (Cons (Assign target value) Nil) ts rest f h =
    let v = step_spelled target value ts rest f.0 f.1 h in
    record { stmts = lined.Assign v.line target value ∷ []; levels = v.levels; spells = st.step v.spells; same = refl }
last_spelled kind (Cons _ _) ts rest f h = absurd f

-- ---- heads and blocks

-- what stands in the parentheses of a head, and what stands behind it
pub in_head : (P : List Item → Type 0) (keyword : List ℕ) (inside parts : List Part) (ts rest : List Item) → Shows (headed keyword inside ++ parts) ts rest
    → ((l m n : ℕ) (mid next : List Item) → Shows inside mid (sign n s.RightParenthesis ∷ next) → Shows parts next rest → P (at l (undefined_name keyword) ∷ sign m s.LeftParenthesis ∷ mid)) → P ts
in_head P keyword inside parts ts rest h f =
    let p = shows_append (headed keyword inside) parts ts rest h in
    opened ts p.mid p.first p.second
  where
    closed : (l m : ℕ) (ts mid next : List Item) → Shows inside ts mid → Shows (layout.sign s.RightParenthesis ∷ layout.space ∷ []) mid next → Shows parts next rest
        → P (at l (undefined_name keyword) ∷ sign m s.LeftParenthesis ∷ ts)
    closed l m ts _ next i (shown {line = n} (unseen nothing)) j = f l m n ts next i j

    opened : (ts next : List Item) → Shows (headed keyword inside) ts next → Shows parts next rest → P ts
    opened _ next (shown {line = l} (unseen (shown {line = m} {ts = ts} i))) j =
        let p = shows_append inside (layout.sign s.RightParenthesis ∷ layout.space ∷ []) ts next i in
        closed l m ts p.mid next p.first p.second j

pub block_spelled : (kind : Kind) (margin : List ℕ) (inside : List Part) (given : Stmts) (ts rest : List Item)
    → ((ts rest : List Item) → Shows inside ts rest → RowAs kind given ts rest) → Shows (block margin inside) ts rest → ArmAs kind true given ts rest
block_spelled kind margin inside given _ rest spells (shown {line = l} (unseen {ts = ts} h)) =
    let p = shows_append inside (layout.gap margin ∷ layout.sign s.RightBrace ∷ []) ts rest h in
    closed p.mid p.second (spells ts p.mid p.first)
  where
    closed : (mid : List Item) → Shows (layout.gap margin ∷ layout.sign s.RightBrace ∷ []) mid rest → RowAs kind given ts mid → ArmAs kind true given (sign l s.LeftBrace ∷ ts) rest
    closed _ (unseen (shown {line = m} nothing)) r =
        let all = row_list kind ts ts (sign m s.RightBrace ∷ rest) [] r.stmts (record { levels = 0; spells = st.none }) r.row in
        record { stmts = r.stmts; levels = all.levels; spells = st.braces all.spells; same = r.same }

-- ---- the test of a trylock

-- Items spell this test, on some levels.
record TryAs (p : Place) (ts rest : List Item) : Type 0 where
  pub levels : ℕ
  pub spells : SpellsTry ts rest (tall p levels)

pub record ChoiceAs (c : Choice) (ts rest : List Item) : Type 0 where
  pub levels : ℕ
  pub spells : SpellsChoice ts rest (tall c levels)

try_spelled : (p : Place) (ts rest : List Item) → ShapedPlace p → Shows (called (codes "pthread_mutex_trylock") (address p)) ts rest → TryAs p ts rest
try_spelled p ts rest f h =
    object_spelled (codes "pthread_mutex_trylock") p (λ (all : List Item). TryAs p all rest) ts rest f h
    (λ l m n mid a. record { levels = a.levels; spells = st.try a.spells })

pub tried_spelled : (p : Place) (ts rest : List Item) → ShapedPlace p → Shows (tried p) ts rest → ChoiceAs (Taken p) ts rest
tried_spelled p ts rest f h =
    let behind = layout.space ∷ layout.sign s.Equal ∷ layout.space ∷ layout.number 0 ∷ [] in
    let a = shows_append (called (codes "pthread_mutex_trylock") (address p)) behind ts rest h in
    by a.mid (try_spelled p ts a.mid f a.first) a.second
  where
    by : (mid : List Item) → TryAs p ts mid → Shows (layout.space ∷ layout.sign s.Equal ∷ layout.space ∷ layout.number 0 ∷ []) mid rest → ChoiceAs (Taken p) ts rest
    by _ t (unseen (shown (unseen (shown nothing)))) = record { levels = suc t.levels; spells = st.zero t.spells }

-- ---- one statement from its parts

-- What stands after the first arm of an `if`: nothing, or `else` and these statements.
pub data Otherwise (kind : Kind) : List Item → List Item → Stmts → Type 0 where
  none : {ts : List Item} → Otherwise kind ts ts Nil
  arm : {b : Bool} {l : ℕ} {ts rest : List Item} {given : Stmts} → ArmAs kind b given ts rest → Otherwise kind (fixed l w.Else ∷ ts) rest given

pub if_spelled : (kind : Kind) (test : Expr) (one two : Stmts) (l m n : ℕ) (ts mid next rest : List Item) → SpelledAs loosest test ts (sign n s.RightParenthesis ∷ mid)
    → ArmAs kind true one mid next → Otherwise kind next rest two → StatementAs kind (If test one two) (fixed l w.If ∷ sign m s.LeftParenthesis ∷ ts) rest
if_spelled kind test one _ l m n ts mid next _ v a none = record {
  flag = false;
  stmt = lined.If l test (listed a.stmts) (listed []);
  levels = suc (max v.levels (max a.levels 0));
  spells = st.if_only (st.value v.spells) a.spells;
  same = ap (λ (ss : Stmts). If test ss Nil) a.same;
}
if_spelled kind test one two l m n ts mid _ rest v a (arm {b = b} c) = record {
  flag = b;
  stmt = lined.If l test (listed a.stmts) (listed c.stmts);
  levels = suc (max v.levels (max a.levels c.levels));
  spells = st.if_else (st.value v.spells) a.spells c.spells;
  same = ap (λ (ss : Stmts). If test ss (bare_stmts (listed c.stmts))) a.same ∙ ap (λ (ss : Stmts). If test one ss) c.same;
}

pub try_lock_spelled : (kind : Kind) (p : Place) (taken busy : Stmts) (l m n : ℕ) (ts mid next rest : List Item) → ChoiceAs (Taken p) ts (sign n s.RightParenthesis ∷ mid)
    → ArmAs kind true taken mid next → Otherwise kind next rest busy → StatementAs kind (TryLock p taken busy) (fixed l w.If ∷ sign m s.LeftParenthesis ∷ ts) rest
try_lock_spelled kind p taken _ l m n ts mid next _ v a none = record {
  flag = false;
  stmt = lined.TryLock l p (listed a.stmts) (listed []);
  levels = suc (max v.levels (max a.levels 0));
  spells = st.if_only v.spells a.spells;
  same = ap (λ (ss : Stmts). TryLock p ss Nil) a.same;
}
try_lock_spelled kind p taken busy l m n ts mid _ rest v a (arm {b = b} c) = record {
  flag = b;
  stmt = lined.TryLock l p (listed a.stmts) (listed c.stmts);
  levels = suc (max v.levels (max a.levels c.levels));
  spells = st.if_else v.spells a.spells c.spells;
  same = ap (λ (ss : Stmts). TryLock p ss (bare_stmts (listed c.stmts))) a.same ∙ ap (λ (ss : Stmts). TryLock p taken ss) c.same;
}

pub while_spelled : (kind : Kind) (test : Expr) (body : Stmts) (l m n : ℕ) (ts mid rest : List Item) → SpelledAs loosest test ts (sign n s.RightParenthesis ∷ mid)
    → ArmAs kind true body mid rest → StatementAs kind (While test body) (fixed l w.While ∷ sign m s.LeftParenthesis ∷ ts) rest
while_spelled kind test body l m n ts mid rest v a = record {
  flag = true;
  stmt = lined.While l test (listed a.stmts);
  levels = suc (max v.levels a.levels);
  spells = st.while v.spells a.spells;
  same = ap (λ (ss : Stmts). While test ss) a.same;
}

pub for_spelled : (kind : Kind) (first : Stmts) (test : Expr) (last body : Stmts) (l m n : ℕ) (ts mid rest : List Item)
    → ShapedFirst first → ShapedExpr test → ShapedStep last
    → Shows (part kind first ++ layout.sign s.Semicolon ∷ layout.space ∷ (expression test ++ layout.sign s.Semicolon ∷ layout.space ∷ part kind last)) ts (sign n s.RightParenthesis ∷ mid)
    → ArmAs kind true body mid rest → StatementAs kind (For first test last body) (fixed l w.For ∷ sign m s.LeftParenthesis ∷ ts) rest
for_spelled kind first test last body l m n ts mid rest f g q h a =
    let p = shows_append (part kind first) _ ts (sign n s.RightParenthesis ∷ mid) h in
    behind p.mid (first_spelled kind first ts p.mid f p.first) p.second
  where
    behind : (next : List Item) → FirstAs first ts next → Shows (layout.sign s.Semicolon ∷ layout.space ∷ (expression test ++ layout.sign s.Semicolon ∷ layout.space ∷ part kind last)) next (sign n s.RightParenthesis ∷ mid)
        → StatementAs kind (For first test last body) (fixed l w.For ∷ sign m s.LeftParenthesis ∷ ts) rest
    behind _ v (shown (unseen {ts = next} i)) =
        let e = before test s.Semicolon (layout.space ∷ part kind last) next (sign n s.RightParenthesis ∷ mid) (λ ts rest k. expression_spelled test ts rest g k) i in
        let z = last_spelled kind last e.mid (sign n s.RightParenthesis ∷ mid) q (past_gap _ _ e.mid (sign n s.RightParenthesis ∷ mid) e.after) in
        record {
          flag = true;
          stmt = lined.For l (listed v.stmts) test (listed z.stmts) (listed a.stmts);
          levels = max (max v.levels z.levels) (suc (max e.spelled.levels a.levels));
          spells = st.for v.spells (st.given e.spelled.spells) z.spells a.spells;
          same =
              ap (λ (ss : Stmts). For ss test (bare_stmts (listed z.stmts)) (bare_stmts (listed a.stmts))) v.same
              ∙ ap (λ (ss : Stmts). For first test ss (bare_stmts (listed a.stmts))) z.same ∙ ap (λ (ss : Stmts). For first test last ss) a.same;
        }

pub simple_line : (kind : Kind) (given : Stmt) (ts rest : List Item) → IsSimple given → ShapedStmt kind given → Shows (simple kind given ++ layout.sign s.Semicolon ∷ []) ts rest → StatementAs kind given ts rest
simple_line kind given ts rest one f h =
    let p = shows_append (simple kind given) (layout.sign s.Semicolon ∷ []) ts rest h in
    closed p.mid p.second (simple_spelled kind given ts p.mid one f p.first)
  where
    closed : (mid : List Item) → Shows (layout.sign s.Semicolon ∷ []) mid rest → SimpleAs kind given ts mid → StatementAs kind given ts rest
    closed _ (shown nothing) v = record { flag = true; stmt = v.stmt; levels = v.levels; spells = st.simple v.spells; same = v.same }
