-- An expression that seen items spell is shaped and writable, and so is a place, a list and a call.
use Rattle.std.proofs.Common.{ℕ, List, [], ◌∷◌, ◌++◌, arith}
use Rattle.c_layout.specs.Layout.{IsName}
use Rattle.c_tree.specs.Expressions.{Expr, Exprs, Place}
use Rattle.c_grammar.specs.Items.{Item}
use Rattle.c_grammar.specs.Levels.{Tall}
use Rattle.c_grammar.specs.Commas as c
use Rattle.c_grammar.specs.Commas.{Commas}
use Rattle.c_grammar.specs.Expressions as e
use Rattle.c_grammar.specs.Expressions.{SpellsCast, SpellsPrimary, SpellsUnary, SpellsExpression, SpellsWhole, SpellsExpressions, arguments, SpellsPlace, SpellsAddress, Called, SpellsCall, SpellsArgument}
use Rattle.c_canonical.specs.Writable.{IsWritable, AreWritable, IsWritablePlace}
use Rattle.c_canonical.specs.Shaped.{Callable, ShapedExpr, ShapedExprs, ShapedPlace}
use Rattle.c_canonical.proofs.Seen.{Seen}
use Rattle.c_canonical.proofs.Usable.{name_known, callee_known}

-- ---- expressions

-- What is known of an expression, and of the items after it.
pub record Known (Bounded : Type 0) (x : Expr) (rest : List Item) : Type 0 where
  pub shaped : ShapedExpr x
  pub writable : Bounded → IsWritable x
  pub after : Seen Bounded rest

cast_seen : (Bounded : Type 0) {ts rest : List Item} → SpellsCast ts rest → Seen Bounded ts → Seen Bounded rest
cast_seen Bounded e.long s = s.1.1.1
cast_seen Bounded e.int_pointer s = s.1.1.1

mutual
  pub primary_known : {Bounded : Type 0} {ts rest : List Item} {x : Tall Expr} → SpellsPrimary ts rest x → Seen Bounded ts → Known Bounded x.tree rest
  primary_known e.number s = record { shaped = tt; writable = s.0; after = s.1 }
  primary_known (e.name {a = a} {n = n} q) s = let k = name_known a n s.0 q in record { shaped = k.0; writable = k.1; after = s.1 }
  primary_known (e.element {a = a} {n = n} q h) s =
      let k = name_known a n s.0 q in
      let i = expression_known h s.1.1 in
      record { shaped = (k.0, i.shaped); writable = λ u. (k.1 u, i.writable u); after = i.after.1 }
  primary_known (e.parentheses h) s = let i = expression_known h s.1 in record { shaped = i.shaped; writable = i.writable; after = i.after.1 }
  primary_known (e.argument {a = a} {n = n} c q) s =
      let b = cast_seen _ c s in
      let k = name_known a n b.0 q in
      record { shaped = k.0; writable = k.1; after = b.1 }
  primary_known (e.int_argument {a = a} {n = n} c q) s =
      let b = cast_seen _ c s.1.1.1 in
      let k = name_known a n b.0 q in
      record { shaped = k.0; writable = k.1; after = b.1 }

  pub unary_known : {Bounded : Type 0} {ts rest : List Item} {x : Tall Expr} → SpellsUnary ts rest x → Seen Bounded ts → Known Bounded x.tree rest
  unary_known (e.not h) s = let i = unary_known h s.1 in record { shaped = i.shaped; writable = i.writable; after = i.after }
  unary_known (e.minus h) s = let i = unary_known h s.1 in record { shaped = i.shaped; writable = i.writable; after = i.after }
  unary_known (e.primary h) s = primary_known h s

  pub expression_known : {Bounded : Type 0} {k : ℕ} {ts rest : List Item} {x : Tall Expr} → SpellsExpression k ts rest x → Seen Bounded ts → Known Bounded x.tree rest
  expression_known (e.unary h) s = unary_known h s
  expression_known (e.tighter h) s = expression_known h s
  expression_known (e.binary h q r i) s =
      let a = expression_known h s in
      let b = expression_known i a.after.1 in
      record { shaped = (a.shaped, b.shaped); writable = λ u. (a.writable u, b.writable u); after = b.after }

-- ---- places

-- The same of a place.
pub record KnownPlace (Bounded : Type 0) (p : Place) (rest : List Item) : Type 0 where
  pub shaped : ShapedPlace p
  pub writable : Bounded → IsWritablePlace p
  pub after : Seen Bounded rest

pub place_known : {Bounded : Type 0} {ts rest : List Item} {p : Tall Place} → SpellsPlace ts rest p → Seen Bounded ts → KnownPlace Bounded p.tree rest
place_known (e.scalar {a = a} {n = n} q) s = let k = name_known a n s.0 q in record { shaped = (k.0, tt); writable = λ u. (k.1 u, tt); after = s.1 }
place_known (e.member {a = a} {n = n} q h) s =
    let k = name_known a n s.0 q in
    let i = expression_known h s.1.1 in
    record { shaped = (k.0, i.shaped); writable = λ u. (k.1 u, i.writable u); after = i.after.1 }

pub address_known : {Bounded : Type 0} {ts rest : List Item} {p : Tall Place} → SpellsAddress ts rest p → Seen Bounded ts → KnownPlace Bounded p.tree rest
address_known (e.address h) s = place_known h s.1

-- ---- lists

-- The same of expressions.
pub record KnownList (Bounded : Type 0) (xs : Exprs) (rest : List Item) : Type 0 where
  pub shaped : ShapedExprs xs
  pub writable : Bounded → AreWritable xs
  pub after : Seen Bounded rest

-- lists that are put together
shaped_append : (xs ys : List (Tall Expr)) → ShapedExprs (arguments xs) → ShapedExprs (arguments ys) → ShapedExprs (arguments (xs ++ ys))
shaped_append [] ys f g = g
shaped_append (x ∷ xs) ys f g = (f.0, shaped_append xs ys f.1 g)

writable_append : (xs ys : List (Tall Expr)) → AreWritable (arguments xs) → AreWritable (arguments ys) → AreWritable (arguments (xs ++ ys))
writable_append [] ys f g = g
writable_append (x ∷ xs) ys f g = (f.0, writable_append xs ys f.1 g)

pub list_known : {Bounded : Type 0} {ts rest : List Item} {all : List (Tall Expr)} → SpellsExpressions ts rest all → Seen Bounded ts → KnownList Bounded (arguments all) rest
list_known (c.one h) s = let i = expression_known h s in record { shaped = (i.shaped, tt); writable = λ u. (i.writable u, tt); after = i.after }
list_known (c.more {all = all} {a = a} h i) s =
    let xs = list_known h s in
    let x = expression_known i xs.after.1 in
    record {
      shaped = shaped_append all (a ∷ []) xs.shaped (x.shaped, tt);
      writable = λ u. writable_append all (a ∷ []) (xs.writable u) (x.writable u, tt);
      after = x.after;
    }

-- ---- calls

-- The same of a call.
pub record KnownCall (Bounded : Type 0) (call : Called) (rest : List Item) : Type 0 where
  pub callable : Callable call.function
  pub named : Bounded → IsName call.function
  pub args : KnownList Bounded call.args rest

pub call_known : {Bounded : Type 0} {ts rest : List Item} {call : Tall Called} → SpellsCall ts rest call → Seen Bounded ts → KnownCall Bounded call.tree rest
call_known (e.no_arguments {a = a} {f = f} q) s =
    let k = callee_known a f s.0 q in record { callable = k.0; named = k.1; args = record { shaped = tt; writable = λ u. tt; after = s.1.1.1 } }
call_known (e.with_arguments {a = a} {f = f} q h) s =
    let k = callee_known a f s.0 q in
    let i = list_known h s.1.1 in
    record { callable = k.0; named = k.1; args = record { shaped = i.shaped; writable = i.writable; after = i.after.1 } }

pub argument_known : {Bounded : Type 0} {ts rest : List Item} {x : Tall Expr} → SpellsArgument ts rest x → Seen Bounded ts → Known Bounded x.tree rest
argument_known e.null s = record { shaped = tt; writable = λ u. omega arith; after = s.1 }
argument_known (e.plain free h) s = unary_known h s.1.1.1.1
argument_known (e.cast c h) s = unary_known h (cast_seen _ c s.1.1.1.1)
