-- The canonical tokens of shaped places, lists and calls spell them.
use Rattle.std.proofs.Common.{◌≡◌, ℕ, List, [], ◌∷◌, ◌++◌, Option, Some, None, refl, sym, ap, subst, append_assoc, append-nil}
use Rattle.c_lexer.specs.declared.token.Sign.TheVariants as s
use Rattle.c_layout.specs.Layout as layout
use Rattle.c_layout.specs.Layout.{Item as Part}
use Rattle.c_tree.specs.Expressions.{Expr, Exprs, Place, Nil, Cons}
use Rattle.c_grammar.specs.Items.{Item, at, sign, undefined_name}
use Rattle.c_grammar.specs.Levels.{Tall, tall}
use Rattle.c_grammar.specs.Commas as c
use Rattle.c_grammar.specs.Commas.{Commas}
use Rattle.c_grammar.specs.Expressions as e
use Rattle.c_grammar.specs.Expressions.{SpellsWhole, SpellsExpressions, arguments, levels_of, SpellsPlace, SpellsAddress, Called, SpellsCall, SpellsArgument}
use Rattle.c_canonical.specs.Expressions.{expression, expressions, wrapped, is_binary, index, place, followed, separated}
use Rattle.c_canonical.specs.Statements.{address, called, argument_cast}
use Rattle.c_canonical.specs.Shown.{Shows, nothing, shown, unseen}
use Rattle.c_canonical.specs.Shaped.{Usable, Callable, ShapedExpr, ShapedExprs, ShapedIfAny, ShapedPlace}
use Rattle.c_canonical.proofs.Shown.{shows_append}
use Rattle.c_canonical.proofs.Steps.{at_sign, at_end}
use Rattle.c_canonical.proofs.SpelledExpressions.{ends, operand, expression_spelled, whole_spelled}

-- ---- places

-- Items spell this place, and this place behind an `&`, on some levels.
pub record PlaceAs (p : Place) (ts rest : List Item) : Type 0 where
  pub levels : ℕ
  pub spells : SpellsPlace ts rest (tall p levels)

pub record AddressAs (p : Place) (ts rest : List Item) : Type 0 where
  pub levels : ℕ
  pub spells : SpellsAddress ts rest (tall p levels)

named_spelled : (n : List ℕ) (i : Option Expr) (ts rest : List Item) → Usable n → ShapedIfAny i → Shows (layout.word n ∷ index i) ts rest → PlaceAs (record { name = n; index = i }) ts rest
named_spelled n None _ rest f g (shown nothing) = record { levels = 0; spells = e.scalar f }
named_spelled n (Some i) _ rest f g (shown (shown {ts = ts} h)) =
    let b = ends i s.RightBracket ts rest (λ ts rest k. expression_spelled i ts rest g k) h in
    record { levels = b.spelled.levels; spells = e.member f b.spelled.spells }

pub place_spelled : (p : Place) (ts rest : List Item) → ShapedPlace p → Shows (place p) ts rest → PlaceAs p ts rest
place_spelled p ts rest f h = named_spelled p.name p.index ts rest f.0 f.1 h

pub address_spelled : (p : Place) (ts rest : List Item) → ShapedPlace p → Shows (address p) ts rest → AddressAs p ts rest
address_spelled p _ rest f (shown {ts = ts} h) = let q = place_spelled p ts rest f h in record { levels = q.levels; spells = e.address q.spells }

-- ---- lists

-- Items from a start on spell these expressions and then others.
record Longer (start rest : List Item) (all : List (Tall Expr)) (xs : Exprs) : Type 0 where
  pub added : List (Tall Expr)
  pub spells : SpellsExpressions start rest (all ++ added)
  pub same : arguments added ≡ xs

followed_spelled : (xs : Exprs) (start ts rest : List Item) (all : List (Tall Expr)) → ShapedExprs xs → SpellsExpressions start ts all → Shows (followed (expressions xs)) ts rest → Longer start rest all xs
followed_spelled Nil start _ rest all f so nothing = record { added = []; spells = subst (λ (ys : List (Tall Expr)). SpellsExpressions start rest ys) (sym (append-nil all)) so; same = refl }
followed_spelled (Cons x xs) start _ rest all f so (shown (unseen {ts = ts} h)) =
    let p = shows_append (expression x) (followed (expressions xs)) ts rest h in
    let v = whole_spelled x ts p.mid f.0 p.first in
    let y = tall x v.levels in
    let r = followed_spelled xs start p.mid rest (all ++ y ∷ []) f.1 (c.more so v.spells) p.second in
    record {
      added = y ∷ r.added;
      spells = subst (λ (ys : List (Tall Expr)). SpellsExpressions start rest ys) (append_assoc all (y ∷ []) r.added) r.spells;
      same = ap (λ (ys : Exprs). Cons x ys) r.same;
    }

-- Items spell these expressions.
pub record ListAs (xs : Exprs) (ts rest : List Item) : Type 0 where
  pub all : List (Tall Expr)
  pub spells : SpellsExpressions ts rest all
  pub same : arguments all ≡ xs

pub list_spelled : (x : Expr) (xs : Exprs) (ts rest : List Item) → ShapedExpr x → ShapedExprs xs → Shows (expression x ++ followed (expressions xs)) ts rest → ListAs (Cons x xs) ts rest
list_spelled x xs ts rest f g h =
    let p = shows_append (expression x) (followed (expressions xs)) ts rest h in
    let v = whole_spelled x ts p.mid f p.first in
    let y = tall x v.levels in
    let r = followed_spelled xs ts p.mid rest (y ∷ []) g (c.one v.spells) p.second in
    record { all = y ∷ r.added; spells = r.spells; same = ap (λ (ys : Exprs). Cons x ys) r.same }

-- ---- calls

-- a name, and something in parentheses
pub in_call : (P : List Item → Type 0) (f : List ℕ) (inside : List Part) (ts rest : List Item) → Shows (called f inside) ts rest
    → ((l m n : ℕ) (mid : List Item) → Shows inside mid (sign n s.RightParenthesis ∷ rest) → P (at l (undefined_name f) ∷ sign m s.LeftParenthesis ∷ mid)) → P ts
in_call P f inside _ rest (shown {line = l} (shown {line = m} {ts = ts} h)) k =
    let p = shows_append inside (layout.sign s.RightParenthesis ∷ []) ts rest h in
    at_sign (λ (end : List Item). Shows inside ts end → P (at l (undefined_name f) ∷ sign m s.LeftParenthesis ∷ ts)) s.RightParenthesis [] p.mid rest p.second
    (λ n mid after. at_end (λ (end : List Item). Shows inside ts (sign n s.RightParenthesis ∷ end) → P (at l (undefined_name f) ∷ sign m s.LeftParenthesis ∷ ts)) after (λ i. k l m n ts i)) p.first

-- Items spell this call.
pub record CallAs (f : List ℕ) (xs : Exprs) (ts rest : List Item) : Type 0 where
  pub levels : ℕ
  pub spells : SpellsCall ts rest (tall (record { function = f; args = xs }) levels)

pub call_spelled : (f : List ℕ) (xs : Exprs) (ts rest : List Item) → Callable f → ShapedExprs xs → Shows (called f (separated (expressions xs))) ts rest → CallAs f xs ts rest
call_spelled f Nil ts rest q g h =
    in_call (λ (all : List Item). CallAs f Nil all rest) f [] ts rest h
    (λ l m n mid i. at_end (λ (end : List Item). CallAs f Nil (at l (undefined_name f) ∷ sign m s.LeftParenthesis ∷ end) rest) i (record { levels = 0; spells = e.no_arguments q }))
call_spelled f (Cons x xs) ts rest q g h =
    in_call (λ (all : List Item). CallAs f (Cons x xs) all rest) f (expression x ++ followed (expressions xs)) ts rest h
    (λ l m n mid i. let r = list_spelled x xs mid (sign n s.RightParenthesis ∷ rest) g.0 g.1 i in record {
      levels = levels_of r.all;
      spells = subst (λ (ys : Exprs). SpellsCall (at l (undefined_name f) ∷ sign m s.LeftParenthesis ∷ mid) rest (tall (record { function = f; args = ys }) (levels_of r.all))) r.same (e.with_arguments q r.spells);
    })

-- ---- the argument of a new thread

-- Items spell this argument.
pub record ArgumentAs (x : Expr) (ts rest : List Item) : Type 0 where
  pub levels : ℕ
  pub spells : SpellsArgument ts rest (tall x levels)

pub argument_spelled : (x : Expr) (ts rest : List Item) → ShapedExpr x → Shows (argument_cast ++ wrapped (is_binary x) (expression x)) ts rest → ArgumentAs x ts rest
argument_spelled x _ rest f (shown (shown (unseen (shown (shown (shown (shown (shown {ts = ts} h)))))))) =
    let u = operand x ts rest (λ ts rest k. expression_spelled x ts rest f k) h in record { levels = u.levels; spells = e.cast e.long u.spells }
