-- What the grammar spells, from what is known of single tokens.
use Rattle.std.proofs.Common.{◌≡◌, ℕ, true, List, ◌∷◌, Some, None, refl, ap, subst}
use Rattle.std.proofs.lemmas.Bool.{eqb-true}
use Rattle.c_lexer.specs.declared.token.Sign.{Sign}
use Rattle.c_lexer.specs.declared.token.Sign.TheVariants as s
use Rattle.c_tree.specs.Expressions.{Expr, Place}
use Rattle.c_tree.specs.Lined as lined
use Rattle.c_tree.specs.Lined.{Stmt}
use Rattle.c_grammar.specs.declared.words.FixedWord.TheVariants as w
use Rattle.c_grammar.specs.Items.{What, Item, at, sign, fixed, name_of}
use Rattle.c_grammar.specs.Levels.{Tall, alone}
use Rattle.c_grammar.specs.Expressions.{SpellsWhole, SpellsAddress}
use Rattle.c_grammar.specs.Statements as g
use Rattle.c_grammar.specs.Statements.{SpellsFirst, SpellsTest, SpellsLast, SpellsTry, SpellsStatement, SpellsArm, SpellsList, SpellsSlot, chosen, repeated, counted}
use Rattle.c_expressions.specs.Words.{is_sign}
use Rattle.c_expressions.specs.Parsers.{what_at}
use Rattle.c_expressions.proofs.Spelled.{is_sign_only}
use Rattle.c_simple.specs.Words.{number_of}
use Rattle.c_simple.specs.Parsers.{line_in}
use Rattle.c_statements.specs.declared.word.Opening.TheVariants as o
use Rattle.c_statements.specs.declared.word.Question.TheVariants as q
use Rattle.c_statements.specs.declared.word.Comparison.TheVariants as c
use Rattle.c_statements.specs.declared.word.Start.TheVariants as f
use Rattle.c_statements.specs.declared.word.Thread.TheVariants as t
use Rattle.c_statements.specs.Words.{statement_opening, asks, behind_try, is_try, is_zero, first_start, thread_opening, is_else, is_thread_type}
use Rattle.c_statements.specs.Parsers.{slot_of}

-- ---- single tokens

-- a sign by its test, with its line
pub sign_at : (x : Sign) (u : Item) → is_sign x (what_at u) ≡ true → u ≡ sign (line_in u) x
sign_at x (at l a) e = ap (λ (b : What). at l b) (is_sign_only x a e)

empty_only : (a : What) → statement_opening a ≡ o.Empty → a ≡ What.Sign s.Semicolon
empty_only (What.Sign s.Semicolon) e = refl
empty_only (What.Fixed w.If) e = absurd cc
empty_only (What.Fixed w.While) e = absurd cc
empty_only (What.Fixed w.For) e = absurd cc
empty_only _ e = absurd cc

if_only : (a : What) → statement_opening a ≡ o.If → a ≡ What.Fixed w.If
if_only (What.Sign s.Semicolon) e = absurd cc
if_only (What.Fixed w.If) e = refl
if_only _ e = absurd cc

while_only : (a : What) → statement_opening a ≡ o.While → a ≡ What.Fixed w.While
while_only (What.Sign s.Semicolon) e = absurd cc
while_only (What.Fixed w.While) e = refl
while_only _ e = absurd cc

for_only : (a : What) → statement_opening a ≡ o.For → a ≡ What.Fixed w.For
for_only (What.Sign s.Semicolon) e = absurd cc
for_only (What.Fixed w.For) e = refl
for_only _ e = absurd cc

asks_try : (a : What) → asks a ≡ q.TryLock → a ≡ What.Fixed w.TryLock
asks_try (What.Fixed w.TryLock) e = refl
asks_try (What.Sign s.Not) e = absurd cc
asks_try _ e = absurd cc

asks_not : (a : What) → asks a ≡ q.Not → a ≡ What.Sign s.Not
asks_not (What.Fixed w.TryLock) e = absurd cc
asks_not (What.Sign s.Not) e = refl
asks_not _ e = absurd cc

end_only : (a : What) → behind_try a ≡ c.End → a ≡ What.Sign s.RightParenthesis
end_only (What.Sign s.RightParenthesis) e = refl
end_only (What.Sign s.Equal) e = absurd cc
end_only (What.Sign s.NotEqual) e = absurd cc
end_only _ e = absurd cc

equal_only : (a : What) → behind_try a ≡ c.Equal → a ≡ What.Sign s.Equal
equal_only (What.Sign s.RightParenthesis) e = absurd cc
equal_only (What.Sign s.Equal) e = refl
equal_only (What.Sign s.NotEqual) e = absurd cc
equal_only _ e = absurd cc

other_only : (a : What) → behind_try a ≡ c.NotEqual → a ≡ What.Sign s.NotEqual
other_only (What.Sign s.RightParenthesis) e = absurd cc
other_only (What.Sign s.Equal) e = absurd cc
other_only (What.Sign s.NotEqual) e = refl
other_only _ e = absurd cc

pub try_only : (a : What) → is_try a ≡ true → a ≡ What.Fixed w.TryLock
try_only (What.Fixed w.TryLock) e = refl
try_only _ e = absurd cc

zero_only : (a : What) → is_zero a ≡ true → a ≡ What.Number 0
zero_only (What.Number n) e = ap (λ (m : ℕ). What.Number m) (eqb-true n 0 e)
zero_only _ e = absurd cc

nothing_only : (a : What) → first_start a ≡ f.Nothing → a ≡ What.Sign s.Semicolon
nothing_only (What.Sign s.Semicolon) e = refl
nothing_only (What.Fixed w.Int) e = absurd cc
nothing_only _ e = absurd cc

int_only : (a : What) → first_start a ≡ f.Int → a ≡ What.Fixed w.Int
int_only (What.Sign s.Semicolon) e = absurd cc
int_only (What.Fixed w.Int) e = refl
int_only _ e = absurd cc

pub else_only : (a : What) → is_else a ≡ true → a ≡ What.Fixed w.Else
else_only (What.Fixed w.Else) e = refl
else_only _ e = absurd cc

pub static_only : (a : What) → thread_opening a ≡ t.Static → a ≡ What.Fixed w.Static
static_only (What.Fixed w.Static) e = refl
static_only (What.Fixed w.Thread) e = absurd cc
static_only _ e = absurd cc

thread_only : (a : What) → thread_opening a ≡ t.Type → a ≡ What.Fixed w.Thread
thread_only (What.Fixed w.Static) e = absurd cc
thread_only (What.Fixed w.Thread) e = refl
thread_only _ e = absurd cc

type_only : (a : What) → is_thread_type a ≡ true → a ≡ What.Fixed w.Thread
type_only (What.Fixed w.Thread) e = refl
type_only _ e = absurd cc

number_only : (a : What) (n : ℕ) → number_of a ≡ Some n → a ≡ What.Number n
number_only (What.Number m) n e = cc
number_only _ n e = absurd cc

-- the same of tokens with their lines
pub empty_at : (u : Item) → statement_opening (what_at u) ≡ o.Empty → u ≡ sign (line_in u) s.Semicolon
empty_at (at l a) e = ap (λ (b : What). at l b) (empty_only a e)

pub if_at : (u : Item) → statement_opening (what_at u) ≡ o.If → u ≡ fixed (line_in u) w.If
if_at (at l a) e = ap (λ (b : What). at l b) (if_only a e)

pub while_at : (u : Item) → statement_opening (what_at u) ≡ o.While → u ≡ fixed (line_in u) w.While
while_at (at l a) e = ap (λ (b : What). at l b) (while_only a e)

pub for_at : (u : Item) → statement_opening (what_at u) ≡ o.For → u ≡ fixed (line_in u) w.For
for_at (at l a) e = ap (λ (b : What). at l b) (for_only a e)

pub asks_try_at : (u : Item) → asks (what_at u) ≡ q.TryLock → u ≡ fixed (line_in u) w.TryLock
asks_try_at (at l a) e = ap (λ (b : What). at l b) (asks_try a e)

pub asks_not_at : (u : Item) → asks (what_at u) ≡ q.Not → u ≡ sign (line_in u) s.Not
asks_not_at (at l a) e = ap (λ (b : What). at l b) (asks_not a e)

pub end_at : (u : Item) → behind_try (what_at u) ≡ c.End → u ≡ sign (line_in u) s.RightParenthesis
end_at (at l a) e = ap (λ (b : What). at l b) (end_only a e)

pub equal_at : (u : Item) → behind_try (what_at u) ≡ c.Equal → u ≡ sign (line_in u) s.Equal
equal_at (at l a) e = ap (λ (b : What). at l b) (equal_only a e)

pub other_at : (u : Item) → behind_try (what_at u) ≡ c.NotEqual → u ≡ sign (line_in u) s.NotEqual
other_at (at l a) e = ap (λ (b : What). at l b) (other_only a e)

pub try_at : (u : Item) → is_try (what_at u) ≡ true → u ≡ fixed (line_in u) w.TryLock
try_at (at l a) e = ap (λ (b : What). at l b) (try_only a e)

pub zero_at : (u : Item) → is_zero (what_at u) ≡ true → u ≡ at (line_in u) (What.Number 0)
zero_at (at l a) e = ap (λ (b : What). at l b) (zero_only a e)

pub nothing_at : (u : Item) → first_start (what_at u) ≡ f.Nothing → u ≡ sign (line_in u) s.Semicolon
nothing_at (at l a) e = ap (λ (b : What). at l b) (nothing_only a e)

pub int_at : (u : Item) → first_start (what_at u) ≡ f.Int → u ≡ fixed (line_in u) w.Int
int_at (at l a) e = ap (λ (b : What). at l b) (int_only a e)

pub else_at : (u : Item) → is_else (what_at u) ≡ true → u ≡ fixed (line_in u) w.Else
else_at (at l a) e = ap (λ (b : What). at l b) (else_only a e)

pub static_at : (u : Item) → thread_opening (what_at u) ≡ t.Static → u ≡ fixed (line_in u) w.Static
static_at (at l a) e = ap (λ (b : What). at l b) (static_only a e)

pub thread_at : (u : Item) → thread_opening (what_at u) ≡ t.Type → u ≡ fixed (line_in u) w.Thread
thread_at (at l a) e = ap (λ (b : What). at l b) (thread_only a e)

pub type_at : (u : Item) → is_thread_type (what_at u) ≡ true → u ≡ fixed (line_in u) w.Thread
type_at (at l a) e = ap (λ (b : What). at l b) (type_only a e)

pub number_at : (u : Item) (n : ℕ) → number_of (what_at u) ≡ Some n → u ≡ at (line_in u) (What.Number n)
number_at (at l a) n e = ap (λ (b : What). at l b) (number_only a n e)

-- ---- trylocks

-- a trylock, from its first two tokens and its place
pub try_spelled : (u t : Item) (n : ℕ) (ts rest : List Item) (p : Tall Place) → u ≡ fixed (line_in u) w.TryLock → is_sign s.LeftParenthesis (what_at t) ≡ true → SpellsAddress ts (sign n s.RightParenthesis ∷ rest) p → SpellsTry (u ∷ t ∷ ts) rest p
try_spelled u t n ts rest p d e y = rw (d, sign_at s.LeftParenthesis t e) (g.try y)

-- what stands behind one
pub try_then : (ts rest : List Item) (p : Tall Place) (a b : Item) → a ≡ b → SpellsTry ts (a ∷ rest) p → SpellsTry ts (b ∷ rest) p
try_then ts rest p a b e y = subst (λ (t : Item). SpellsTry ts (t ∷ rest) p) e y

pub try_compared : (ts rest : List Item) (p : Tall Place) (a b x i j k : Item) → a ≡ i → b ≡ j → x ≡ k → SpellsTry ts (a ∷ b ∷ x ∷ rest) p → SpellsTry ts (i ∷ j ∷ k ∷ rest) p
try_compared ts rest p a b x i j k d e f y =
    subst (λ (t : Item). SpellsTry ts (t ∷ j ∷ k ∷ rest) p) d (subst (λ (t : Item). SpellsTry ts (a ∷ t ∷ k ∷ rest) p) e (subst (λ (t : Item). SpellsTry ts (a ∷ b ∷ t ∷ rest) p) f y))

-- ---- names

pub declare_spelled : (l j : ℕ) (m : Item) (x : List ℕ) (ts rest : List Item) (e : Tall Expr) → name_of (what_at m) ≡ Some x → SpellsWhole ts rest e
    → SpellsFirst (fixed l w.Int ∷ m ∷ sign j s.Assign ∷ ts) rest (alone (lined.Declare (line_in m) x (Some e.tree)) e.levels)
declare_spelled l j (at i a) x ts rest e q y = g.declare q y

pub one_spelled : (m : Item) (n : List ℕ) (rest : List Item) → name_of (what_at m) ≡ Some n → SpellsSlot (m ∷ rest) rest (slot_of (line_in m) n None)
one_spelled (at l a) n rest q = g.one q

pub several_spelled : (m : Item) (n : List ℕ) (i j h len : ℕ) (rest : List Item) → name_of (what_at m) ≡ Some n
    → SpellsSlot (m ∷ sign i s.LeftBracket ∷ at j (What.Number len) ∷ sign h s.RightBracket ∷ rest) rest (slot_of (line_in m) n (Some len))
several_spelled (at l a) n i j h len rest q = g.several q
