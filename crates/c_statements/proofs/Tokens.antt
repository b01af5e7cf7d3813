-- What statements and their parts begin with.
use Rattle.std.proofs.Common.{◌≡◌, ℕ, ◌≤◌, Bool, true, false, ◌||◌, List, [], ◌∷◌, ◌++◌, Some, None, refl, subst, sym, arith}
use Rattle.std.proofs.lemmas.Option.{none-some}
use Rattle.std.specs.Option.{is_some}
use Rattle.c_lexer.specs.declared.token.Sign.{Sign}
use Rattle.c_lexer.specs.declared.token.Sign.TheVariants as s
use Rattle.c_tree.specs.declared.program.Kind.{Kind}
use Rattle.c_tree.specs.declared.expr.Op.{Op}
use Rattle.c_tree.specs.Expressions.{Expr, Place}
use Rattle.c_tree.specs.Lined.{Stmt}
use Rattle.c_grammar.specs.declared.words.FixedWord.{FixedWord}
use Rattle.c_grammar.specs.declared.words.FixedWord.TheVariants as w
use Rattle.c_grammar.specs.Items.{What, Item, at, sign, fixed, name_of}
use Rattle.c_grammar.specs.Levels.{Tall, together}
use Rattle.c_grammar.specs.Commas.{Commas, one, more}
use Rattle.c_grammar.specs.Expressions as e
use Rattle.c_grammar.specs.Expressions.{SpellsUnary, SpellsExpression, SpellsPlace, SpellsCall, Called, operator}
use Rattle.c_grammar.specs.Simple as x
use Rattle.c_grammar.specs.Simple.{SpellsStep, SpellsDeclarator, SpellsSimple}
use Rattle.c_grammar.specs.Statements as g
use Rattle.c_grammar.specs.Statements.{SpellsStatement}
use Rattle.c_grammar.specs.Heads.{begins_statement, begins_expression}
use Rattle.c_grammar.proofs.Beginnings as begin
use Rattle.c_expressions.specs.Words.{is_sign}
use Rattle.c_expressions.specs.Parsers.{what_at}
use Rattle.c_expressions.proofs.Spelled.{is_sign_only}
use Rattle.c_expressions.proofs.Found.{unary_tall}
use Rattle.c_simple.specs.Words.{counter}
use Rattle.c_simple.specs.Parsers.{begins_simple_at}
use Rattle.c_statements.specs.declared.word.Opening.{Opening}
use Rattle.c_statements.specs.declared.word.Opening.TheVariants as o
use Rattle.c_statements.specs.declared.word.Start.TheVariants as f
use Rattle.c_statements.specs.declared.word.Thread.TheVariants as t
use Rattle.c_statements.specs.Words.{statement_opening, first_start, thread_opening, is_else, is_static, begins}
use Rattle.c_statements.proofs.Spelled.{static_only, else_only}

-- ---- single tokens

-- a step begins so, in some room
abbrev pub step_head : What → Bool
step_head a = is_some (name_of a) || is_some (counter a)

pub nothing_steps : (a : What) → first_start a ≡ f.Nothing → step_head a ≡ false
nothing_steps (What.Sign s.Semicolon) e = refl
nothing_steps (What.Fixed w.Int) e = absurd cc
nothing_steps _ e = absurd cc

pub int_steps : (a : What) → first_start a ≡ f.Int → step_head a ≡ false
int_steps (What.Sign s.Semicolon) e = absurd cc
int_steps (What.Fixed w.Int) e = refl
int_steps _ e = absurd cc

pub parenthesis_steps : (a : What) → is_sign s.RightParenthesis a ≡ true → step_head a ≡ false
parenthesis_steps a e = subst (λ (b : What). step_head b ≡ false) (sym (is_sign_only s.RightParenthesis a e)) refl

-- a statement that is no simple one begins so
pub other_opening : (a : What) (y : Opening) → statement_opening a ≡ y → (y ≡ o.Simple → ⊥) → begins_simple_at a ≡ false
other_opening (What.Sign s.Semicolon) y e h = refl
other_opening (What.Fixed w.If) y e h = refl
other_opening (What.Fixed w.While) y e h = refl
other_opening (What.Fixed w.For) y e h = refl
other_opening _ y e h = absurd (h (sym e))

pub brace_begins : (a : What) → is_sign s.LeftBrace a ≡ true → begins a ≡ false
brace_begins a e = subst (λ (b : What). begins b ≡ false) (sym (is_sign_only s.LeftBrace a e)) refl

pub expression_head : (u : Item) (ts : List Item) → begins_expression (u ∷ ts) ≡ true → is_sign s.Semicolon (what_at u) ≡ false
expression_head (at l a) ts b = go (is_sign s.Semicolon a) refl
  where
    go : (c : Bool) → is_sign s.Semicolon a ≡ c → c ≡ false
    go false q = refl
    go true q = absurd (differ (subst (λ (d : What). begins_expression (at l d ∷ ts) ≡ true) (is_sign_only s.Semicolon a q) b))
      where
        differ : false ≡ true → ⊥
        differ e = cc

pub right_brace : (a : What) → is_sign s.RightBrace a ≡ true → begins a ≡ false × (is_static a ≡ false) × (is_else a ≡ false)
right_brace a e = subst (λ (b : What). begins b ≡ false × (is_static b ≡ false) × (is_else b ≡ false)) (sym (is_sign_only s.RightBrace a e)) (refl, refl, refl)

-- each token but `else`
abbrev pub other_than_else : What → Bool
other_than_else (What.Fixed w.Else) = false
other_than_else other = true

pub no_else_is : (a : What) → other_than_else a ≡ true → is_else a ≡ false
no_else_is (What.Fixed w.Else) e = absurd cc
no_else_is _ e = refl

pub sign_no_else : (x : Sign) (a : What) → is_sign x a ≡ true → other_than_else a ≡ true
sign_no_else x a e = subst (λ (b : What). other_than_else b ≡ true) (sym (is_sign_only x a e)) refl

-- ---- what comes next

-- no `else`
abbrev pub NoElse : List Item → Type 0
NoElse [] = Unit {0}
NoElse (u ∷ rest) = is_else (what_at u) ≡ false

-- no name
abbrev pub NoName : List Item → Type 0
NoName [] = Unit {0}
NoName (u ∷ rest) = name_of (what_at u) ≡ None

-- no `else` where the text ends in an `if` without one
abbrev pub Allowed : Bool → List Item → Type 0
Allowed true rest = Unit {0}
Allowed false rest = NoElse rest

pub allowed : (b : Bool) (rest : List Item) → NoElse rest → Allowed b rest
allowed true rest h = tt
allowed false rest h = h

pub begun_no_else : (ts : List Item) → begins_statement ts ≡ true → NoElse ts
begun_no_else [] e = tt
begun_no_else (at l a ∷ rest) e = go (is_else a) refl
  where
    go : (c : Bool) → is_else a ≡ c → c ≡ false
    go false q = refl
    go true q = absurd (differ (subst (λ (d : What). begins_statement (at l d ∷ rest) ≡ true) (else_only a q) e))
      where
        differ : false ≡ true → ⊥
        differ e = cc

-- no statement begins with `else`
pub statement_no_else : {k : Kind} {b : Bool} {ts rest : List Item} {y : Tall (List Stmt)} → SpellsStatement k b ts rest y → NoElse ts
statement_no_else {k} {b} {ts} {rest} {y} d = begun_no_else ts (begin.statement_begins k b ts rest y d)

-- ---- statements that begin with `static` or `pthread_t`

pub no_static : (u : Item) (ts : List Item) → begins_statement (u ∷ ts) ≡ true → thread_opening (what_at u) ≡ t.Static → ⊥
no_static (at l a) ts b e = differ (subst (λ (d : What). begins_statement (at l d ∷ ts) ≡ true) (static_only a e) b)
  where
    differ : false ≡ true → ⊥
    differ e = cc

-- behind the first of these tokens no name comes
abbrev pub Behind : List Item → Type 0
Behind [] = Unit {0}
Behind (u ∷ rest) = NoName rest

-- nor if it is `pthread_t`
abbrev pub TypeApart : List Item → Type 0
TypeApart [] = Unit {0}
TypeApart (u ∷ rest) = thread_opening (what_at u) ≡ t.Type → NoName rest

type_behind : (ts : List Item) → Behind ts → TypeApart ts
type_behind [] h = tt
type_behind (u ∷ rest) h = λ e. h

place_apart : {ts rest : List Item} {p : Tall Place} → SpellsPlace ts rest p → NoName rest → Behind ts
place_apart (e.scalar q) h = h
place_apart (e.member q i) h = refl

call_apart : {ts rest : List Item} {c : Tall Called} → SpellsCall ts rest c → Behind ts
call_apart (e.no_arguments q) = refl
call_apart (e.with_arguments q all) = refl

step_apart : {ts rest : List Item} {y : Tall (List Stmt)} → SpellsStep ts rest y → TypeApart ts
step_apart {ts} (x.assign p v) = type_behind ts (place_apart p refl)
step_apart {ts} (x.change p q v) = type_behind ts (place_apart p refl)
step_apart {ts} (x.count_after p q) = type_behind ts (place_apart p refl)
step_apart (x.count_before q p) = λ d. absurd cc

simple_apart : {k : Kind} {ts rest : List Item} {y : Tall (List Stmt)} → SpellsSimple k ts rest y → TypeApart ts
simple_apart (x.step d) = step_apart d
simple_apart {ts = ts} (x.call d) = type_behind ts (call_apart d)
simple_apart {ts = ts} (x.call_into p d) = type_behind ts (place_apart p refl)
simple_apart (x.declare all) = λ d. absurd cc
simple_apart _ = λ d. absurd cc

-- behind `pthread_t` at the beginning of a statement no name comes
pub statement_apart : {k : Kind} {b : Bool} {ts rest : List Item} {y : Tall (List Stmt)} → SpellsStatement k b ts rest y → TypeApart ts
statement_apart (g.simple d) = simple_apart d
statement_apart g.empty = λ d. absurd cc
statement_apart (g.if_only d a) = λ d. absurd cc
statement_apart (g.if_else d a b) = λ d. absurd cc
statement_apart (g.while d a) = λ d. absurd cc
statement_apart (g.for a b c d) = λ d. absurd cc

-- ---- levels

declarator_tall : {ts rest : List Item} {y : Tall (List Stmt)} → SpellsDeclarator ts rest y → 1 ≤ y.levels
declarator_tall (x.bare q) = omega arith
declarator_tall (x.by_value q v) = omega arith
declarator_tall (x.by_call q c) = omega arith

together_grows : (all : List (Tall (List Stmt))) (y : Tall (List Stmt)) → y.levels ≤ (together (all ++ y ∷ [])).levels
together_grows [] y = omega arith
together_grows (z ∷ all) y = let le = together_grows all y in omega (arith, le)

declarators_tall : {ts rest : List Item} {all : List (Tall (List Stmt))} → Commas SpellsDeclarator ts rest all → 1 ≤ (together all).levels
declarators_tall (one d) = let le = declarator_tall d in omega (arith, le)
declarators_tall (more {all = all} {a = y} l d) = let le = declarator_tall d in let up = together_grows all y in omega (arith, le, up)

step_tall : {ts rest : List Item} {y : Tall (List Stmt)} → SpellsStep ts rest y → 1 ≤ y.levels
step_tall (x.assign p v) = omega arith
step_tall (x.change p q v) = omega arith
step_tall (x.count_after p q) = omega arith
step_tall (x.count_before q p) = omega arith

-- a simple statement takes a level
pub simple_tall : {k : Kind} {ts rest : List Item} {y : Tall (List Stmt)} → SpellsSimple k ts rest y → 1 ≤ y.levels
simple_tall (x.step d) = step_tall d
simple_tall (x.declare all) = declarators_tall all
simple_tall _ = omega arith

-- ---- expressions that begin as a trylock does

-- these tokens begin with `(`
pub data AtOpen : List Item → Type 0 where
  there : {l : ℕ} {ts : List Item} → AtOpen (sign l s.LeftParenthesis ∷ ts)

pub no_open : {l : ℕ} {ts : List Item} → AtOpen (sign l s.RightParenthesis ∷ ts) → ⊥
no_open h = elim h [ ]

operator_open : {l : ℕ} {t : Sign} {ts : List Item} {o : Op} → AtOpen (sign l t ∷ ts) → operator t ≡ Some o → ⊥
operator_open there q = none-some _ q

word_unary : {l m : ℕ} {word : FixedWord} {ts rest : List Item} {v : Tall Expr} → SpellsUnary (fixed l word ∷ sign m s.LeftParenthesis ∷ ts) rest v → AtOpen rest
word_unary (e.primary (e.name q)) = there
word_unary (e.primary (e.argument c q)) = elim c [ ]

-- no expression goes on behind a word and `(`
pub word_open : {k l m : ℕ} {word : FixedWord} {ts rest : List Item} {v : Tall Expr} → SpellsExpression k (fixed l word ∷ sign m s.LeftParenthesis ∷ ts) rest v → AtOpen rest
word_open (e.unary u) = word_unary u
word_open (e.tighter h) = word_open h
word_open (e.binary h q r i) = absurd (operator_open (word_open h) q)

-- nor where `!` stands before the word
pub not_word_open : {k j l m : ℕ} {word : FixedWord} {ts rest : List Item} {v : Tall Expr} → SpellsExpression k (sign j s.Not ∷ fixed l word ∷ sign m s.LeftParenthesis ∷ ts) rest v → AtOpen rest
not_word_open (e.unary (e.not u)) = word_unary u
not_word_open (e.unary (e.primary (e.name q))) = absurd (none-some _ q)
not_word_open (e.unary (e.primary (e.argument c q))) = elim c [ ]
not_word_open (e.tighter h) = not_word_open h
not_word_open (e.binary h q r i) = absurd (operator_open (not_word_open h) q)

-- `!` and what it stands before take two levels
pub not_tall : {k l : ℕ} {ts rest : List Item} {v : Tall Expr} → SpellsExpression k (sign l s.Not ∷ ts) rest v → 2 ≤ v.levels
not_tall (e.unary (e.not u)) = let le = unary_tall u in omega (arith, le)
not_tall (e.unary (e.primary (e.name q))) = absurd (none-some _ q)
not_tall (e.unary (e.primary (e.element q i))) = absurd (none-some _ q)
not_tall (e.unary (e.primary (e.argument c q))) = elim c [ ]
not_tall (e.tighter h) = not_tall h
not_tall (e.binary h q r i) = let le = not_tall h in omega (arith, le)
