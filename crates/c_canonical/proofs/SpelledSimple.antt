-- The canonical tokens of a shaped statement of one line spell it.
use Rattle.std.proofs.Common.{◌≡◌, ℕ, suc, max, List, [], ◌∷◌, ◌++◌, take, codes, Option, Some, None, refl, sym, ◌∙◌, ap, subst, arith}
use Rattle.std.proofs.Math.Seq.{take-append_seam}
use Rattle.std.proofs.lemmas.List.{length-append}
use Rattle.c_lexer.specs.declared.token.Sign.TheVariants as s
use Rattle.c_layout.specs.Layout as layout
use Rattle.c_layout.specs.Layout.{Item as Part, in_quotes}
use Rattle.c_tree.specs.declared.program.Kind.{Kind}
use Rattle.c_tree.specs.declared.program.Kind.TheVariants as k
use Rattle.c_tree.specs.Expressions as tree
use Rattle.c_tree.specs.Expressions.{Expr, Exprs, Place}
use Rattle.c_tree.specs.Lined as lined
use Rattle.c_tree.specs.Lined.{bare_stmt}
use Rattle.c_tree.specs.Bare.{Stmt, Declare, Call, Return, Print, Create}
use Rattle.c_grammar.specs.declared.words.FixedWord.TheVariants as w
use Rattle.c_grammar.specs.Items.{What, Item, at, sign, fixed, line_at, unquoted}
use Rattle.c_grammar.specs.Levels.{tall}
use Rattle.c_grammar.specs.Commas as c
use Rattle.c_grammar.specs.Expressions.{arguments, levels_of}
use Rattle.c_grammar.specs.Simple as x
use Rattle.c_grammar.specs.Simple.{SpellsStep, SpellsResult, SpellsSimple}
use Rattle.c_canonical.specs.Expressions.{expression, expressions, is_binary, wrapped, place, followed, separated}
use Rattle.c_canonical.specs.Statements.{address, called, with_null, assigned, initial, argument_cast, returned, creation, simple}
use Rattle.c_canonical.specs.Shown.{Shows, nothing, shown, unseen}
use Rattle.c_canonical.specs.Shaped.{Usable, Callable, ShapedExpr, ShapedExprs, ShapedIfAny, ShapedPlace, ShapedTarget, ShapedResult}
use Rattle.c_canonical.proofs.Shown.{shows_append}
use Rattle.c_canonical.proofs.Steps.{at_sign, at_end, past_gap}
use Rattle.c_canonical.proofs.SpelledExpressions.{whole_spelled}
use Rattle.c_canonical.proofs.SpelledPlaces.{PlaceAs, AddressAs, place_spelled, address_spelled, list_spelled, in_call, CallAs, call_spelled, argument_spelled}

-- Items spell this statement, at some line and on some levels, in a function of this kind.
pub record SimpleAs (kind : Kind) (given : Stmt) (ts rest : List Item) : Type 0 where
  pub stmt : lined.Stmt
  pub levels : ℕ
  pub spells : SpellsSimple kind ts rest (tall (stmt ∷ []) levels)
  pub same : bare_stmt stmt ≡ given

-- ---- parts

-- NULL after a comma
pub at_null : (P : List Item → Type 0) (ts rest : List Item) → Shows with_null ts rest → ((i j : ℕ) → P (sign i s.Comma ∷ fixed j w.Null ∷ rest)) → P ts
at_null P _ rest (shown {line = i} (unseen (shown {line = j} nothing))) f = f i j

-- an assignment
pub record StepAs (target : Place) (value : Expr) (ts rest : List Item) : Type 0 where
  pub line : ℕ
  pub levels : ℕ
  pub spells : SpellsStep ts rest (tall (lined.Assign line target value ∷ []) levels)

pub step_spelled : (target : Place) (value : Expr) (ts rest : List Item) → ShapedPlace target → ShapedExpr value → Shows (place target ++ initial (Some value)) ts rest → StepAs target value ts rest
step_spelled target value ts rest f g h =
    let p = shows_append (place target) (initial (Some value)) ts rest h in
    behind p.mid p.second (place_spelled target ts p.mid f p.first)
  where
    behind : (mid : List Item) → Shows (initial (Some value)) mid rest → PlaceAs target ts mid → StepAs target value ts rest
    behind _ (unseen (shown (unseen {ts = next} i))) t =
        let v = whole_spelled value next rest g i in record { line = line_at ts; levels = suc (max t.levels v.levels); spells = x.assign t.spells v.spells }

pub declare_spelled : (kind : Kind) (name : List ℕ) (value : Option Expr) (ts rest : List Item) → Usable name → ShapedIfAny value
    → Shows (simple kind (Declare name value)) ts rest → SimpleAs kind (Declare name value) ts rest
declare_spelled kind name None _ rest f g (shown (unseen (shown {line = l} nothing))) =
    record { stmt = lined.Declare l name None; levels = 1; spells = x.declare (c.one (x.bare f)); same = refl }
declare_spelled kind name (Some value) _ rest f g (shown (unseen (shown {line = l} (unseen (shown (unseen {ts = ts} h)))))) =
    let v = whole_spelled value ts rest g h in
    record { stmt = lined.Declare l name (Some value); levels = max (suc v.levels) 0; spells = x.declare (c.one (x.by_value f v.spells)); same = refl }

pub call_simple : (kind : Kind) (target : Option Place) (f : List ℕ) (args : Exprs) (ts rest : List Item) → ShapedTarget target → Callable f → ShapedExprs args
    → Shows (assigned target ++ called f (separated (expressions args))) ts rest → SimpleAs kind (Call target f args) ts rest
call_simple kind None f args ts rest t q g h =
    let v = call_spelled f args ts rest q g h in record { stmt = lined.Call (line_at ts) None f args; levels = suc v.levels; spells = x.call v.spells; same = refl }
call_simple kind (Some target) f args ts rest t q g h =
    let p = shows_append (assigned (Some target)) (called f (separated (expressions args))) ts rest h in
    let v = call_spelled f args p.mid rest q g p.second in
    let r = shows_append (place target) (layout.space ∷ layout.sign s.Assign ∷ layout.space ∷ []) ts p.mid p.first in
    behind p.mid r.mid r.second (place_spelled target ts r.mid t r.first) v
  where
    behind : (next mid : List Item) → Shows (layout.space ∷ layout.sign s.Assign ∷ layout.space ∷ []) mid next → PlaceAs target ts mid → CallAs f args next rest → SimpleAs kind (Call (Some target) f args) ts rest
    behind next _ (unseen (shown (unseen nothing))) to v =
        record { stmt = lined.Call (line_at ts) (Some target) f args; levels = suc (max to.levels v.levels); spells = x.call_into to.spells v.spells; same = refl }

pub return_spelled : (kind : Kind) (value : Option Expr) (ts rest : List Item) → ShapedResult kind value → Shows (returned kind value) ts rest → SimpleAs kind (Return value) ts rest
return_spelled k.Main (Some e) _ rest f (shown {line = l} (unseen {ts = ts} h)) =
    let v = whole_spelled e ts rest f h in record { stmt = lined.Return l (Some e); levels = suc v.levels; spells = x.give_back (x.of_main v.spells); same = refl }
return_spelled k.Int (Some e) _ rest f (shown {line = l} (unseen {ts = ts} h)) =
    let v = whole_spelled e ts rest f h in record { stmt = lined.Return l (Some e); levels = suc v.levels; spells = x.give_back (x.of_int v.spells); same = refl }
return_spelled k.Void None _ rest f (shown {line = l} nothing) = record { stmt = lined.Return l None; levels = 1; spells = x.give_back x.of_void; same = refl }
return_spelled k.Thread None _ rest f (shown {line = l} (unseen (shown nothing))) = record { stmt = lined.Return l None; levels = 1; spells = x.give_back x.null_of_thread; same = refl }
return_spelled k.Main None ts rest f h = absurd f
return_spelled k.Int None ts rest f h = absurd f
return_spelled k.Void (Some e) ts rest f h = absurd f
return_spelled k.Thread (Some e) ts rest f h = absurd f

unquotes : (format : List ℕ) → unquoted (in_quotes format) ≡ format
unquotes format = ap (λ (n : ℕ). take n (format ++ 34 ∷ [])) (omega (arith, length-append format (34 ∷ []))) ∙ take-append_seam format (34 ∷ [])

pub at_quoted : (P : List Item → Type 0) (format : List ℕ) (parts : List Part) (ts rest : List Item) → Shows (layout.quoted format ∷ parts) ts rest
    → ((line : ℕ) (mid : List Item) → Shows parts mid rest → P (at line (What.Text format) ∷ mid)) → P ts
at_quoted P format parts _ rest (shown {line = line} {ts = mid} h) f =
    subst (λ (g : List ℕ). P (at line (What.Text g) ∷ mid)) (sym (unquotes format)) (f line mid h)

pub print_spelled : (kind : Kind) (format : List ℕ) (args : Exprs) (ts rest : List Item) → ShapedExprs args
    → Shows (called (codes "printf") (layout.quoted format ∷ followed (expressions args))) ts rest → SimpleAs kind (Print format args) ts rest
print_spelled kind format tree.Nil ts rest f h =
    in_call (λ (all : List Item). SimpleAs kind (Print format tree.Nil) all rest) (codes "printf") (layout.quoted format ∷ []) ts rest h
    (λ l m n mid i. at_quoted (λ (all : List Item). SimpleAs kind (Print format tree.Nil) (fixed l w.Print ∷ sign m s.LeftParenthesis ∷ all) rest) format [] mid (sign n s.RightParenthesis ∷ rest) i
    (λ line next j. at_end (λ (all : List Item). SimpleAs kind (Print format tree.Nil) (fixed l w.Print ∷ sign m s.LeftParenthesis ∷ at line (What.Text format) ∷ all) rest) j
    (record { stmt = lined.Print l format (arguments []); levels = 1; spells = x.print; same = refl })))
print_spelled kind format (tree.Cons e es) ts rest f h =
    in_call (λ (all : List Item). SimpleAs kind (Print format (tree.Cons e es)) all rest) (codes "printf") (layout.quoted format ∷ followed (expressions (tree.Cons e es))) ts rest h
    (λ l m n mid i. at_quoted (λ (all : List Item). SimpleAs kind (Print format (tree.Cons e es)) (fixed l w.Print ∷ sign m s.LeftParenthesis ∷ all) rest) format (followed (expressions (tree.Cons e es))) mid (sign n s.RightParenthesis ∷ rest) i
    (λ line next j. at_sign (λ (all : List Item). SimpleAs kind (Print format (tree.Cons e es)) (fixed l w.Print ∷ sign m s.LeftParenthesis ∷ at line (What.Text format) ∷ all) rest) s.Comma _ next (sign n s.RightParenthesis ∷ rest) j
    (λ o next g.
    let v = list_spelled e es next (sign n s.RightParenthesis ∷ rest) f.0 f.1 (past_gap _ _ next (sign n s.RightParenthesis ∷ rest) g) in
    record { stmt = lined.Print l format (arguments v.all); levels = suc (levels_of v.all); spells = x.print_with v.spells; same = ap (λ (xs : Exprs). Print format xs) v.same })))

pub create_spelled : (kind : Kind) (slot : Place) (f : List ℕ) (arg : Expr) (ts rest : List Item) → ShapedPlace slot → Usable f → ShapedExpr arg
    → Shows (called (codes "pthread_create") (creation slot f arg)) ts rest → SimpleAs kind (Create slot f arg) ts rest
create_spelled kind slot f arg ts rest p q g h =
    in_call (λ (all : List Item). SimpleAs kind (Create slot f arg) all rest) (codes "pthread_create") (creation slot f arg) ts rest h
    (λ l m n mid i.
    let a = shows_append (address slot) _ mid (sign n s.RightParenthesis ∷ rest) i in
    let b = shows_append with_null _ a.mid (sign n s.RightParenthesis ∷ rest) a.second in
    inside l m n mid a.mid b.mid (address_spelled slot mid a.mid p a.first) b.first b.second)
  where
    inside : (l m n : ℕ) (mid next after : List Item) → AddressAs slot mid next → Shows with_null next after
        → Shows (layout.sign s.Comma ∷ layout.space ∷ layout.word f ∷ layout.sign s.Comma ∷ layout.space ∷ (argument_cast ++ wrapped (is_binary arg) (expression arg))) after (sign n s.RightParenthesis ∷ rest)
        → SimpleAs kind (Create slot f arg) (fixed l w.Create ∷ sign m s.LeftParenthesis ∷ mid) rest
    inside l m n mid _ _ a (shown (unseen (shown nothing))) (shown (unseen (shown (shown (unseen {ts = last} h))))) =
        let v = argument_spelled arg last (sign n s.RightParenthesis ∷ rest) g h in
        record { stmt = lined.Create l slot f arg; levels = suc (max a.levels v.levels); spells = x.create a.spells q v.spells; same = refl }
