-- A simple statement that seen items spell is shaped and writable.
use Rattle.std.proofs.Common.{◌≡◌, ℕ, List, [], ◌∷◌, ◌++◌, ◌≤◌, Option, Some, None, refl, sym, ◌∙◌, ap, subst, append_assoc, append-nil, arith}
use Rattle.c_lexer.specs.Words.{largest}
use Rattle.c_layout.specs.Layout.{IsName}
use Rattle.c_tree.specs.declared.expr.Op.{Op}
use Rattle.c_tree.specs.declared.program.Kind.{Kind}
use Rattle.c_tree.specs.Expressions as tree
use Rattle.c_tree.specs.Expressions.{Expr, Place}
use Rattle.c_tree.specs.Lined.{Stmt, listed, bare_stmt, bare_stmts}
use Rattle.c_tree.specs.Bare.{Stmts, Nil, Cons, Assign}
use Rattle.c_grammar.specs.Items.{Item, sign}
use Rattle.c_grammar.specs.Levels.{Tall, together}
use Rattle.c_grammar.specs.Commas as c
use Rattle.c_grammar.specs.Commas.{Commas}
use Rattle.c_grammar.specs.Expressions.{indexed}
use Rattle.c_grammar.specs.Simple as x
use Rattle.c_grammar.specs.Simple.{SpellsStep, SpellsDeclarator, SpellsResult, SpellsNumber, SpellsSimple}
use Rattle.c_canonical.specs.Writable.{IsWritable, IsWritableIfAny, IsWritableStmt, AreWritableStmts}
use Rattle.c_canonical.specs.Shaped.{Usable, ShapedExpr, ShapedIfAny, ShapedResult, ShapedStep, ShapedStmt, ShapedStmts}
use Rattle.c_canonical.proofs.Seen.{Seen}
use Rattle.c_canonical.proofs.Usable.{name_known}
use Rattle.c_canonical.proofs.KnownLists.{all_nil, commas_known, IsSmallWhere, number_known}
use Rattle.c_canonical.proofs.KnownExpressions.{expression_known, KnownPlace, place_known, address_known, list_known, call_known, argument_known}

-- ---- lists of statements

-- What is known of statements of a function of this kind, and of the items after them.
pub record KnownStmts (Bounded : Type 0) (k : Kind) (all : List Stmt) (rest : List Item) : Type 0 where
  pub shaped : ShapedStmts k (bare_stmts (listed all))
  pub writable : Bounded → AreWritableStmts (bare_stmts (listed all))
  pub after : Seen Bounded rest

pub shaped_append : (k : Kind) (xs ys : List Stmt) → ShapedStmts k (bare_stmts (listed xs)) → ShapedStmts k (bare_stmts (listed ys)) → ShapedStmts k (bare_stmts (listed (xs ++ ys)))
shaped_append k [] ys f g = g
shaped_append k (x ∷ xs) ys f g = (f.0, shaped_append k xs ys f.1 g)

pub writable_append : (xs ys : List Stmt) → AreWritableStmts (bare_stmts (listed xs)) → AreWritableStmts (bare_stmts (listed ys)) → AreWritableStmts (bare_stmts (listed (xs ++ ys)))
writable_append [] ys f g = g
writable_append (x ∷ xs) ys f g = (f.0, writable_append xs ys f.1 g)

one_known : {Bounded : Type 0} (k : Kind) (x : Stmt) (rest : List Item) → ShapedStmt k (bare_stmt x) → (Bounded → IsWritableStmt (bare_stmt x)) → Seen Bounded rest → KnownStmts Bounded k (x ∷ []) rest
one_known k x rest f g a = record { shaped = (f, tt); writable = λ u. (g u, tt); after = a }

-- ---- assignments

-- What is known of the step of a `for`, and of the items after it.
pub record KnownStep (Bounded : Type 0) (all : List Stmt) (rest : List Item) : Type 0 where
  pub shaped : ShapedStep (bare_stmts (listed all))
  pub writable : Bounded → AreWritableStmts (bare_stmts (listed all))
  pub after : Seen Bounded rest

shaped_value : (n : List ℕ) (i : Option Expr) → Usable n → ShapedIfAny i → ShapedExpr (indexed n i)
shaped_value n None f g = f
shaped_value n (Some e) f g = (f, g)

writable_value : (n : List ℕ) (i : Option Expr) → IsName n → IsWritableIfAny i → IsWritable (indexed n i)
writable_value n None f g = f
writable_value n (Some e) f g = (f, g)

changed_known : {Bounded : Type 0} (l : ℕ) (o : Op) (p : Place) (value : Expr) (after rest : List Item) → KnownPlace Bounded p after → ShapedExpr value → (Bounded → IsWritable value) → Seen Bounded rest
    → KnownStep Bounded (x.changed l o p value ∷ []) rest
changed_known l o p value after rest q f g s = record {
  shaped = (q.shaped, (shaped_value p.name p.index q.shaped.0 q.shaped.1, f));
  writable = λ u. ((q.writable u, (writable_value p.name p.index (q.writable u).0 (q.writable u).1, g u)), tt);
  after = s;
}

pub step_known : {Bounded : Type 0} {ts rest : List Item} {y : Tall (List Stmt)} → SpellsStep ts rest y → Seen Bounded ts → KnownStep Bounded y.tree rest
step_known (x.assign h i) s =
    let p = place_known h s in
    let v = expression_known i p.after.1 in
    record { shaped = (p.shaped, v.shaped); writable = λ u. ((p.writable u, v.writable u), tt); after = v.after }
step_known (x.change {l = l} {ts = ts} {mid = mid} {rest = rest} {p = p} {e = e} {t = t} {o = o} h q i) s =
    let k = place_known h s in
    let v = expression_known i k.after.1 in
    changed_known _ o p.tree e.tree (sign l t ∷ mid) rest k v.shaped v.writable v.after
step_known (x.count_after {l = l} {ts = ts} {rest = rest} {p = p} {t = t} {o = o} h q) s =
    let k = place_known h s in
    changed_known _ o p.tree (tree.Number 1) (sign l t ∷ rest) rest k tt (λ u. omega arith) k.after.1
step_known (x.count_before {rest = rest} {p = p} {o = o} q h) s =
    let k = place_known h s.1 in
    changed_known _ o p.tree (tree.Number 1) rest rest k tt (λ u. omega arith) k.after

-- a step is one statement or none, in each kind of function
pub step_is_shaped : (k : Kind) (ss : Stmts) → ShapedStep ss → ShapedStmts k ss
step_is_shaped k Nil f = tt
step_is_shaped k (Cons (Assign target value) Nil) f = (f, tt)
step_is_shaped k (Cons _ _) f = absurd f

-- ---- declarations and results

declarator_known : {Bounded : Type 0} {k : Kind} {ts rest : List Item} {y : Tall (List Stmt)} → SpellsDeclarator ts rest y → Seen Bounded ts → KnownStmts Bounded k y.tree rest
declarator_known (x.bare {a = a} {n = n} q) s =
    let m = name_known a n s.0 q in record { shaped = ((m.0, tt), tt); writable = λ u. ((m.1 u, tt), tt); after = s.1 }
declarator_known (x.by_value {a = a} {n = n} q h) s =
    let m = name_known a n s.0 q in
    let v = expression_known h s.1.1 in
    record { shaped = ((m.0, v.shaped), tt); writable = λ u. ((m.1 u, v.writable u), tt); after = v.after }
declarator_known (x.by_call {a = a} {n = n} q h) s =
    let m = name_known a n s.0 q in
    let v = call_known h s.1.1 in
    record {
      shaped = ((m.0, tt), (((m.0, tt), v.callable, v.args.shaped), tt));
      writable = λ u. ((m.1 u, tt), (((m.1 u, tt), v.named u, v.args.writable u), tt));
      after = v.args.after;
    }

together_append : (xs ys : List (Tall (List Stmt))) → (together (xs ++ ys)).tree ≡ (together xs).tree ++ (together ys).tree
together_append [] ys = refl
together_append (x ∷ xs) ys = ap (λ (zs : List Stmt). x.tree ++ zs) (together_append xs ys) ∙ sym (append_assoc x.tree (together xs).tree (together ys).tree)

same_known : {Bounded : Type 0} (k : Kind) (xs ys : List Stmt) (rest : List Item) → xs ≡ ys → KnownStmts Bounded k xs rest → KnownStmts Bounded k ys rest
same_known {Bounded = Bounded} k xs ys rest e h = subst (λ (zs : List Stmt). KnownStmts Bounded k zs rest) e h

declarators_known : {Bounded : Type 0} {k : Kind} {ts rest : List Item} {all : List (Tall (List Stmt))} → Commas SpellsDeclarator ts rest all → Seen Bounded ts → KnownStmts Bounded k (together all).tree rest
declarators_known {k = k} (c.one {rest = rest} {a = a} h) s = same_known k a.tree (a.tree ++ []) rest (sym (append-nil a.tree)) (declarator_known h s)
declarators_known {k = k} (c.more {rest = rest} {all = all} {a = a} h i) s =
    let xs = declarators_known {k = k} h s in
    let y = declarator_known {k = k} i xs.after.1 in
    same_known k ((together all).tree ++ a.tree) (together (all ++ a ∷ [])).tree rest
    (ap (λ (zs : List Stmt). (together all).tree ++ zs) (sym (append-nil a.tree)) ∙ sym (together_append all (a ∷ [])))
    (record { shaped = shaped_append k (together all).tree a.tree xs.shaped y.shaped; writable = λ u. writable_append (together all).tree a.tree (xs.writable u) (y.writable u); after = y.after })

result_known : {Bounded : Type 0} {k : Kind} {ts rest : List Item} {r : Tall (Option Expr)} → SpellsResult k ts rest r → Seen Bounded ts → ShapedResult k r.tree × (Bounded → IsWritableIfAny r.tree) × Seen Bounded rest
result_known (x.of_main h) s = let v = expression_known h s in (v.shaped, v.writable, v.after)
result_known (x.of_int h) s = let v = expression_known h s in (v.shaped, v.writable, v.after)
result_known x.of_void s = (tt, λ u. tt, s)
result_known x.null_of_thread s = (tt, λ u. tt, s.1)
result_known x.zero_of_thread s = (tt, λ u. tt, s.1)

-- ---- simple statements

pub simple_known : {Bounded : Type 0} {k : Kind} {ts rest : List Item} {y : Tall (List Stmt)} → SpellsSimple k ts rest y → Seen Bounded ts → KnownStmts Bounded k y.tree rest
simple_known {k = k} (x.step h) s = let v = step_known h s in record { shaped = step_is_shaped k _ v.shaped; writable = v.writable; after = v.after }
simple_known (x.declare h) s = declarators_known h s.1
simple_known (x.call h) s = let v = call_known h s in record { shaped = ((tt, v.callable, v.args.shaped), tt); writable = λ u. ((tt, v.named u, v.args.writable u), tt); after = v.args.after }
simple_known (x.call_into h i) s =
    let p = place_known h s in
    let v = call_known i p.after.1 in
    record { shaped = ((p.shaped, v.callable, v.args.shaped), tt); writable = λ u. ((p.writable u, v.named u, v.args.writable u), tt); after = v.args.after }
simple_known (x.give_back h) s = let r = result_known h s.1 in record { shaped = (r.0, tt); writable = λ u. (r.1 u, tt); after = r.2 }
simple_known (x.scan h) s = let p = address_known h s.1.1.1.1 in record { shaped = (p.shaped, tt); writable = λ u. (p.writable u, tt); after = p.after.1 }
simple_known x.print s = record { shaped = (tt, tt); writable = λ u. ((s.1.1.0 u, tt), tt); after = s.1.1.1.1 }
simple_known (x.print_with h) s =
    let v = list_known h s.1.1.1.1 in
    record { shaped = (v.shaped, tt); writable = λ u. ((s.1.1.0 u, v.writable u), tt); after = v.after.1 }
simple_known (x.create {a = a} {f = f} h q i) s =
    let p = address_known h s.1.1 in
    let m = name_known a f p.after.1.1.1.0 q in
    let v = argument_known i p.after.1.1.1.1.1 in
    record { shaped = ((p.shaped, m.0, v.shaped), tt); writable = λ u. ((p.writable u, m.1 u, v.writable u), tt); after = v.after.1 }
simple_known (x.join h) s = let p = place_known h s.1.1 in record { shaped = (p.shaped, tt); writable = λ u. (p.writable u, tt); after = p.after.1.1.1 }
simple_known (x.init_mutex h) s = let p = address_known h s.1.1 in record { shaped = (p.shaped, tt); writable = λ u. (p.writable u, tt); after = p.after.1.1.1 }
simple_known (x.init_condition h) s = let p = address_known h s.1.1 in record { shaped = (p.shaped, tt); writable = λ u. (p.writable u, tt); after = p.after.1.1.1 }
simple_known (x.lock h) s = let p = address_known h s.1.1 in record { shaped = (p.shaped, tt); writable = λ u. (p.writable u, tt); after = p.after.1 }
simple_known (x.unlock h) s = let p = address_known h s.1.1 in record { shaped = (p.shaped, tt); writable = λ u. (p.writable u, tt); after = p.after.1 }
simple_known (x.wait h i) s =
    let p = address_known h s.1.1 in
    let q = address_known i p.after.1 in
    record { shaped = ((p.shaped, q.shaped), tt); writable = λ u. ((p.writable u, q.writable u, all_nil (λ n. n ≤ largest)), tt); after = q.after.1 }
simple_known {Bounded = Bounded} (x.controlled_wait h i c) s =
    let p = address_known h s.1.1 in
    let q = address_known i p.after.1 in
    let t = commas_known (IsSmallWhere Bounded) SpellsNumber (number_known Bounded) c q.after.1 in
    record { shaped = ((p.shaped, q.shaped), tt); writable = λ u. ((p.writable u, q.writable u, λ k d l. t.0 k d l u), tt); after = t.1.1.1.1.1 }
simple_known (x.signal h) s = let p = address_known h s.1.1 in record { shaped = (p.shaped, tt); writable = λ u. (p.writable u, tt); after = p.after.1 }
simple_known (x.broadcast h) s = let p = address_known h s.1.1 in record { shaped = (p.shaped, tt); writable = λ u. (p.writable u, tt); after = p.after.1 }
simple_known x.take s = record { shaped = (tt, tt); writable = λ u. (s.1.1.0 u, tt); after = s.1.1.1.1 }
simple_known x.give s = record { shaped = (tt, tt); writable = λ u. (s.1.1.0 u, tt); after = s.1.1.1.1 }
