-- An edited statement has the shape.
use Rattle.std.proofs.Common.{◌≡◌, false, Some, refl, sym, subst, ap, ◌∙◌}
use Rattle.std.specs.Prelude.{IsTrue}
use Rattle.c_tree.specs.declared.program.Kind.{Kind}
use Rattle.c_tree.specs.Bare as bare
use Rattle.c_tree.specs.Everywhere.{Everywhere, EverywhereInside}
use Rattle.c_tree.specs.Lined.{Stmt, Stmts, Nil, Cons, Take, Give, bare_stmt, bare_stmts}
use Rattle.c_canonical.specs.Shaped.{ShapedStep, ShapedFirst, ShapedStmt, ShapedStmts}
use Rattle.kept_rules.specs.Edit.{Way, puts, EditOf, Edits}
use Rattle.kept_shape.specs.Edited.{UsesFit, PutsNone, HasPlainHeads, HavePlainHeads}

-- ---- the heads of `for`

-- a statement that may stand in one
abbrev IsHead : bare.Stmt → Type 0
IsHead (bare.Declare name value) = Unit {0}
IsHead (bare.Assign target value) = Unit {0}
IsHead s = ⊥

abbrev AreHeads : bare.Stmts → Type 0
AreHeads bare.Nil = Unit {0}
AreHeads (bare.Cons s ss) = IsHead s × AreHeads ss

step_heads : (ss : bare.Stmts) → ShapedStep ss → AreHeads ss
step_heads bare.Nil f = tt
step_heads (bare.Cons (bare.Assign target value) bare.Nil) f = (tt, tt)
step_heads (bare.Cons _ _) f = absurd f

first_heads : (ss : bare.Stmts) → ShapedFirst ss → AreHeads ss
first_heads bare.Nil f = tt
first_heads (bare.Cons (bare.Assign target value) bare.Nil) f = (tt, tt)
first_heads (bare.Cons (bare.Declare name (Some value)) bare.Nil) f = (tt, tt)
first_heads (bare.Cons _ _) f = absurd f

-- it is the same, lines apart
head_same : (r : Way) {s t : Stmt} → EditOf r s t → IsHead (bare_stmt t) → bare_stmt s ≡ bare_stmt t
head_same r (EditOf.same s t a b e) h = e
head_same r _ h = absurd h

heads_same : (r : Way) {ss ts : Stmts} → Edits r ss ts → PutsNone r ss → AreHeads (bare_stmts ts) → bare_stmts ss ≡ bare_stmts ts
heads_same r Edits.none f h = refl
heads_same r (Edits.put s ss ts is more) f h = absurd (cc (is, f.0))
heads_same r (Edits.keep s t ss ts e more) f h =
    ap (λ x. bare.Cons x (bare_stmts ss)) (head_same r e h.0) ∙ ap (bare.Cons (bare_stmt t)) (heads_same r more f.1 h.1)

-- ---- statements

put_shaped : (r : Way) (k : Kind) (s : Stmt) → IsTrue (puts r s) → ShapedStmt k (bare_stmt s)
put_shaped r k (Take line monitor) is = tt
put_shaped r k (Give line monitor) is = tt
put_shaped r k s is = absurd (cc is)

mutual
  pub edit_shaped : (r : Way) (k : Kind) {s t : Stmt} → UsesFit r.name (bare_stmt s) → EverywhereInside (UsesFit r.name) (bare_stmt s) → EditOf r s t → HasPlainHeads r s → ShapedStmt k (bare_stmt t) → ShapedStmt k (bare_stmt s)
  edit_shaped r k u v (EditOf.same s t a b e) h f = subst (ShapedStmt k) (sym e) f
  edit_shaped r k u v (EditOf.call l m target name args) h f = (f.0, u f.1, f.2)
  edit_shaped r k u v (EditOf.create l m slot name arg) h f = (f.0, u f.1, f.2)
  edit_shaped r k u v (EditOf.wait l m cond mutex takes others x) h f = f
  edit_shaped r k u v (EditOf.attempt l m place a b c d x y) h f = (f.0, edits_shaped r k v.0 x h.0 f.1, edits_shaped r k v.1 y h.1 f.2)
  edit_shaped r k u v (EditOf.branch l m test a b c d x y) h f = (f.0, edits_shaped r k v.0 x h.0 f.1, edits_shaped r k v.1 y h.1 f.2)
  edit_shaped r k u v (EditOf.loop l m test a c x) h f = (f.0, edits_shaped r k v x h f.1)
  edit_shaped r k u v (EditOf.counted l m test first_part step body first_other step_other other x y z) h f = (
    subst ShapedFirst (sym (heads_same r x h.0 (first_heads (bare_stmts first_other) f.0))) f.0,
    f.1,
    subst ShapedStep (sym (heads_same r y h.1 (step_heads (bare_stmts step_other) f.2))) f.2,
    edits_shaped r k v.2 z h.2 f.3,
  )

  pub edits_shaped : (r : Way) (k : Kind) {ss ts : Stmts} → Everywhere (UsesFit r.name) (bare_stmts ss) → Edits r ss ts → HavePlainHeads r ss → ShapedStmts k (bare_stmts ts) → ShapedStmts k (bare_stmts ss)
  edits_shaped r k u Edits.none h f = tt
  edits_shaped r k u (Edits.put s ss ts is more) h f = (put_shaped r k s is, edits_shaped r k u.2 more h.1 f)
  edits_shaped r k u (Edits.keep s t ss ts e more) h f = (edit_shaped r k u.0 u.1 e h.0 f.0, edits_shaped r k u.2 more h.1 f.1)

-- ---- where nothing may be put in

none_put : (r : Way) → ((s : Stmt) → puts r s ≡ false) → (ss : Stmts) → PutsNone r ss
none_put r n Nil = tt
none_put r n (Cons s ss) = (n s, none_put r n ss)

mutual
  plain_head : (r : Way) → ((s : Stmt) → puts r s ≡ false) → (s : Stmt) → HasPlainHeads r s
  plain_head r n (Stmt.If line test a b) = (plain_heads r n a, plain_heads r n b)
  plain_head r n (Stmt.While line test body) = plain_heads r n body
  plain_head r n (Stmt.For line first_part test step body) = (none_put r n first_part, none_put r n step, plain_heads r n body)
  plain_head r n (Stmt.TryLock line place a b) = (plain_heads r n a, plain_heads r n b)
  plain_head r n _ = tt

  pub plain_heads : (r : Way) → ((s : Stmt) → puts r s ≡ false) → (ss : Stmts) → HavePlainHeads r ss
  plain_heads r n Nil = tt
  plain_heads r n (Cons s ss) = (plain_head r n s, plain_heads r n ss)
