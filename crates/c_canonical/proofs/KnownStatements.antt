-- Statements, arms and lists of them that seen items spell are shaped and writable.
use Rattle.std.proofs.Common.{ℕ, Bool, List, [], ◌∷◌, arith}
use Rattle.c_lexer.specs.declared.token.Sign.TheVariants as signs
use Rattle.c_tree.specs.declared.program.Kind.{Kind}
use Rattle.c_tree.specs.Expressions.{Expr, Place}
use Rattle.c_tree.specs.Bare.{Stmts, Nil, Cons, Assign}
use Rattle.c_tree.specs.Lined.{Stmt, listed, bare_stmts}
use Rattle.c_grammar.specs.Items.{Item, sign}
use Rattle.c_grammar.specs.Levels.{Tall}
use Rattle.c_grammar.specs.Statements as st
use Rattle.c_grammar.specs.Statements.{SpellsFirst, SpellsTest, SpellsLast, Choice, SpellsTry, SpellsChoice, choice, SpellsStatement, SpellsArm, SpellsList}
use Rattle.c_canonical.specs.Writable.{IsWritable, IsWritablePlace, AreWritableStmts}
use Rattle.c_canonical.specs.Shaped.{ShapedExpr, ShapedPlace, ShapedStep, ShapedFirst, ShapedStmts}
use Rattle.c_canonical.proofs.Seen.{Seen}
use Rattle.c_canonical.proofs.Usable.{name_known}
use Rattle.c_canonical.proofs.KnownExpressions.{Known, expression_known, KnownPlace, address_known}
use Rattle.c_canonical.proofs.KnownSimple.{KnownStmts, shaped_append, writable_append, KnownStep, step_known, simple_known}

-- ---- the parts of a `for`

-- What is known of the first part of a `for`, and of the items after it.
record KnownFirst (Bounded : Type 0) (all : List Stmt) (rest : List Item) : Type 0 where
  pub shaped : ShapedFirst (bare_stmts (listed all))
  pub writable : Bounded → AreWritableStmts (bare_stmts (listed all))
  pub after : Seen Bounded rest

step_is_first : (ss : Stmts) → ShapedStep ss → ShapedFirst ss
step_is_first Nil f = tt
step_is_first (Cons (Assign target value) Nil) f = f
step_is_first (Cons _ _) f = absurd f

first_known : {Bounded : Type 0} {ts rest : List Item} {y : Tall (List Stmt)} → SpellsFirst ts rest y → Seen Bounded ts → KnownFirst Bounded y.tree rest
first_known st.none s = record { shaped = tt; writable = λ u. tt; after = s }
first_known (st.declare {a = a} {x = n} q h) s =
    let m = name_known a n s.1.0 q in
    let v = expression_known h s.1.1.1 in
    record { shaped = (m.0, v.shaped); writable = λ u. ((m.1 u, v.writable u), tt); after = v.after }
first_known (st.step h) s = let v = step_known h s in record { shaped = step_is_first _ v.shaped; writable = v.writable; after = v.after }

test_known : {Bounded : Type 0} {ts rest : List Item} {y : Tall Expr} → SpellsTest ts rest y → Seen Bounded ts → Known Bounded y.tree rest
test_known st.missing s = record { shaped = tt; writable = λ u. omega arith; after = s }
test_known (st.given h) s = expression_known h s

last_known : {Bounded : Type 0} {ts rest : List Item} {y : Tall (List Stmt)} → SpellsLast ts rest y → Seen Bounded ts → KnownStep Bounded y.tree rest
last_known st.none s = record { shaped = tt; writable = λ u. tt; after = s }
last_known (st.step h) s = step_known h s

-- ---- what an `if` tests

abbrev ShapedChoice : Choice → Type 0
ShapedChoice (st.Value e) = ShapedExpr e
ShapedChoice (st.Taken p) = ShapedPlace p
ShapedChoice (st.Busy p) = ShapedPlace p

abbrev IsWritableChoice : Choice → Type 0
IsWritableChoice (st.Value e) = IsWritable e
IsWritableChoice (st.Taken p) = IsWritablePlace p
IsWritableChoice (st.Busy p) = IsWritablePlace p

-- What is known of it, and of the items after it.
record KnownChoice (Bounded : Type 0) (c : Choice) (rest : List Item) : Type 0 where
  pub shaped : ShapedChoice c
  pub writable : Bounded → IsWritableChoice c
  pub after : Seen Bounded rest

try_known : {Bounded : Type 0} {ts rest : List Item} {p : Tall Place} → SpellsTry ts rest p → Seen Bounded ts → KnownPlace Bounded p.tree rest
try_known (st.try h) s = let p = address_known h s.1.1 in record { shaped = p.shaped; writable = p.writable; after = p.after.1 }

choice_known : {Bounded : Type 0} {ts rest : List Item} {c : Tall Choice} → SpellsChoice ts rest c → Seen Bounded ts → KnownChoice Bounded c.tree rest
choice_known (st.value h) s = let e = expression_known h s in record { shaped = e.shaped; writable = e.writable; after = e.after }
choice_known (st.tried h) s = let p = try_known h s in record { shaped = p.shaped; writable = p.writable; after = p.after }
choice_known (st.not_tried h) s = let p = try_known h s.1 in record { shaped = p.shaped; writable = p.writable; after = p.after }
choice_known (st.zero h) s = let p = try_known h s in record { shaped = p.shaped; writable = p.writable; after = p.after.1.1 }
choice_known (st.other h) s = let p = try_known h s in record { shaped = p.shaped; writable = p.writable; after = p.after.1.1 }

-- with the arms that the two cases of a trylock order
chosen_known : {Bounded : Type 0} (k : Kind) (line : ℕ) (c : Choice) (one two : List Stmt) (behind rest : List Item) → KnownChoice Bounded c behind
    → ShapedStmts k (bare_stmts (listed one)) → (Bounded → AreWritableStmts (bare_stmts (listed one))) → ShapedStmts k (bare_stmts (listed two)) → (Bounded → AreWritableStmts (bare_stmts (listed two))) → Seen Bounded rest
    → KnownStmts Bounded k (choice line c one two ∷ []) rest
chosen_known k line (st.Value e) one two behind rest c f g p q s = record { shaped = ((c.shaped, f, p), tt); writable = λ u. ((c.writable u, g u, q u), tt); after = s }
chosen_known k line (st.Taken place) one two behind rest c f g p q s = record { shaped = ((c.shaped, f, p), tt); writable = λ u. ((c.writable u, g u, q u), tt); after = s }
chosen_known k line (st.Busy place) one two behind rest c f g p q s = record { shaped = ((c.shaped, p, f), tt); writable = λ u. ((c.writable u, q u, g u), tt); after = s }

-- ---- statements

mutual
  pub statement_known : {Bounded : Type 0} {k : Kind} {b : Bool} {ts rest : List Item} {y : Tall (List Stmt)} → SpellsStatement k b ts rest y → Seen Bounded ts → KnownStmts Bounded k y.tree rest
  statement_known (st.simple h) s = let v = simple_known h s in record { shaped = v.shaped; writable = v.writable; after = v.after.1 }
  statement_known st.empty s = record { shaped = tt; writable = λ u. tt; after = s.1 }
  statement_known {k = k} (st.if_only {l = l} {n = n} {mid = mid} {rest = rest} {c = c} {one = x} h i) s =
      let t = choice_known h s.1.1 in
      let one = arm_known i t.after.1 in
      chosen_known k l c.tree x.tree [] (sign n signs.RightParenthesis ∷ mid) rest t one.shaped one.writable tt (λ u. tt) one.after
  statement_known {k = k} (st.if_else {l = l} {n = n} {mid = mid} {rest = rest} {c = c} {one = x} {two = y} h i j) s =
      let t = choice_known h s.1.1 in
      let one = arm_known i t.after.1 in
      let two = arm_known j one.after.1 in
      chosen_known k l c.tree x.tree y.tree (sign n signs.RightParenthesis ∷ mid) rest t one.shaped one.writable two.shaped two.writable two.after
  statement_known (st.while h i) s =
      let e = expression_known h s.1.1 in
      let body = arm_known i e.after.1 in
      record { shaped = ((e.shaped, body.shaped), tt); writable = λ u. ((e.writable u, body.writable u), tt); after = body.after }
  statement_known (st.for h t l i) s =
      let first = first_known h s.1.1 in
      let e = test_known t first.after.1 in
      let last = last_known l e.after.1 in
      let body = arm_known i last.after.1 in
      record {
        shaped = ((first.shaped, e.shaped, last.shaped, body.shaped), tt);
        writable = λ u. ((first.writable u, e.writable u, last.writable u, body.writable u), tt);
        after = body.after;
      }

  pub arm_known : {Bounded : Type 0} {k : Kind} {b : Bool} {ts rest : List Item} {y : Tall (List Stmt)} → SpellsArm k b ts rest y → Seen Bounded ts → KnownStmts Bounded k y.tree rest
  arm_known (st.braces h) s = let v = list_known h s.1 in record { shaped = v.shaped; writable = v.writable; after = v.after.1 }
  arm_known (st.single h) s = statement_known h s

  pub list_known : {Bounded : Type 0} {k : Kind} {ts rest : List Item} {y : Tall (List Stmt)} → SpellsList k ts rest y → Seen Bounded ts → KnownStmts Bounded k y.tree rest
  list_known st.none s = record { shaped = tt; writable = λ u. tt; after = s }
  list_known {k = k} (st.then {all = all} {x = x} h i) s =
      let xs = list_known h s in
      let y = statement_known i xs.after in
      record { shaped = shaped_append k all.tree x.tree xs.shaped y.shaped; writable = λ u. writable_append all.tree x.tree (xs.writable u) (y.writable u); after = y.after }
