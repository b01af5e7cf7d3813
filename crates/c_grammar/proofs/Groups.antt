-- Trees, definitions, casts and names that are not spelled.
use Rattle.std.proofs.Common.{◌≡◌, ℕ, suc, Bool, true, false, List, [], ◌∷◌, Option, Some, refl, sym, ap, subst, ◌∙◌, ◌<◌, arith}
use Rattle.std.proofs.lemmas.Option.{none-some}
use Rattle.std.specs.Prelude.{codes, unwrap_or}
use Rattle.c_lexer.specs.Lexeme.{lexeme}
use Rattle.c_lexer.specs.Words.{name_of, number_of}
use Rattle.c_lexer.specs.Signs.{single, double}
use Rattle.c_lexer.specs.Classes.{is_word}
use Rattle.c_lexer.specs.Directives.{after_include, definition, defined_name, defined_number}
use Rattle.c_lexer.specs.declared.token.Sign.{Sign}
use Rattle.c_lexer.specs.declared.token.Sign.TheVariants as s
use Rattle.c_tree.specs.declared.expr.Op.{Op}
use Rattle.c_tree.specs.declared.expr.Op.TheVariants as op
use Rattle.c_tree.specs.Expressions as tree
use Rattle.c_tree.specs.Expressions.{Expr}
use Rattle.c_tree.specs.Lined.{Program}
use Rattle.c_grammar.specs.declared.words.FixedWord.TheVariants as w
use Rattle.c_grammar.specs.Items.{What, Item, at, sign, fixed}
use Rattle.c_grammar.specs.Levels.{Tall, over}
use Rattle.c_grammar.specs.Expressions as e
use Rattle.c_grammar.specs.Expressions.{SpellsPrimary, SpellsUnary, SpellsExpression, SpellsArgument, operator, looseness, joined}
use Rattle.c_tree.specs.declared.program.Object.{Object}
use Rattle.c_tree.specs.declared.program.Slot.{Slot}
use Rattle.c_grammar.specs.Statements as st
use Rattle.c_grammar.specs.Statements.{SpellsStatic, SpellsSlots}
use Rattle.c_grammar.specs.Declarations as d
use Rattle.c_grammar.specs.Declarations.{Declared, SpellsCell, SpellsCells, Head, SpellsHead, Sort, SpellsObjects, Defined, SpellsFunction}
use Rattle.c_grammar.specs.Programs as p
use Rattle.c_grammar.specs.Programs.{SpellsOuter, SpellsProgram}
use Rattle.c_grammar.specs.NotSpelled.{GroupsLeft, DefinedTwice, CastOfArgument, KeptNames}
use Rattle.c_grammar.proofs.NotSpelledSamples.{first_part, false_true}

-- ---- a - b - c

abbrev just : List ℕ → Tall Expr
just n = over (tree.Name n) 0

abbrev third : List Item
third = fixed 1 w.ConditionParameter ∷ []

abbrev second : List Item
second = at 1 (What.Name (codes "b")) ∷ sign 1 s.Minus ∷ third

abbrev first : List Item
first = at 1 (What.Name (codes "a")) ∷ sign 1 s.Minus ∷ second

-- How far an expression can go from `c` on, and what it is then.
data Third : List Item → Tall Expr → Type 0 where
  c : Third [] (just (codes "c"))

third_unary : {rest : List Item} {v : Tall Expr} → SpellsUnary third rest v → Third rest v
third_unary (e.primary (e.name q)) = subst (λ (n : Option (List ℕ)). Third [] (just (unwrap_or n []))) q c
third_unary (e.primary (e.argument h q)) = elim h [ ]

third_ends : {i : Item} {ts : List Item} {v : Tall Expr} → Third (i ∷ ts) v → ⊥
third_ends h = elim h [ ]

third_is : {k : ℕ} {rest : List Item} {v : Tall Expr} → SpellsExpression k third rest v → Third rest v
third_is (e.unary u) = third_unary u
third_is (e.tighter h) = third_is h
third_is (e.binary h q r i) = absurd (third_ends (third_is h))

-- The same from `b` on, with operators that bind tighter than `-`.
data Second : List Item → Tall Expr → Type 0 where
  b : Second (sign 1 s.Minus ∷ third) (just (codes "b"))

second_unary : {rest : List Item} {v : Tall Expr} → SpellsUnary second rest v → Second rest v
second_unary (e.primary (e.name q)) = subst (λ (n : Option (List ℕ)). Second (sign 1 s.Minus ∷ third) (just (unwrap_or n []))) q b
second_unary (e.primary (e.argument h q)) = elim h [ ]

minus_looseness : {o : Op} {j : ℕ} → Some op.Sub ≡ Some o → looseness o ≡ j → 2 ≡ j
minus_looseness q r = ap (λ (o : Option Op). looseness (unwrap_or o op.Or)) q ∙ r

second_minus : {l j : ℕ} {t : Sign} {ts : List Item} {v : Tall Expr} {o : Op} → Second (sign l t ∷ ts) v → operator t ≡ Some o → looseness o ≡ j → 2 ≡ j
second_minus b q r = minus_looseness q r

second_is : {k : ℕ} {rest : List Item} {v : Tall Expr} → k < 2 → SpellsExpression k second rest v → Second rest v
second_is z (e.unary u) = second_unary u
second_is z (e.tighter h) = second_is (omega (arith, z)) h
second_is z (e.binary h q r i) = absurd (omega (arith, z, second_minus (second_is z h) q r))

-- The same from `a` on, with any operators.
data First : List Item → Tall Expr → Type 0 where
  a : First (sign 1 s.Minus ∷ second) (just (codes "a"))
  a_b : First (sign 1 s.Minus ∷ third) (joined op.Sub (just (codes "a")) (just (codes "b")))
  a_b_c : First [] (joined op.Sub (joined op.Sub (just (codes "a")) (just (codes "b"))) (just (codes "c")))

first_unary : {rest : List Item} {v : Tall Expr} → SpellsUnary first rest v → First rest v
first_unary (e.primary (e.name q)) = subst (λ (n : Option (List ℕ)). First (sign 1 s.Minus ∷ second) (just (unwrap_or n []))) q a
first_unary (e.primary (e.argument h q)) = elim h [ ]

then_b : {rest : List Item} {v : Tall Expr} {o : Op} → Some op.Sub ≡ Some o → Second rest v → First rest (joined o (just (codes "a")) v)
then_b q b = subst (λ (o : Option Op). First (sign 1 s.Minus ∷ third) (joined (unwrap_or o op.Or) (just (codes "a")) (just (codes "b")))) q a_b

then_c : {rest : List Item} {v : Tall Expr} {o : Op} → Some op.Sub ≡ Some o → Third rest v
    → First rest (joined o (joined op.Sub (just (codes "a")) (just (codes "b"))) v)
then_c q c = subst (λ (o : Option Op). First [] (joined (unwrap_or o op.Or) (joined op.Sub (just (codes "a")) (just (codes "b"))) (just (codes "c")))) q a_b_c

go_on : {k l : ℕ} {t : Sign} {o : Op} {mid rest : List Item} {u v : Tall Expr}
    → First (sign l t ∷ mid) u → operator t ≡ Some o → looseness o ≡ suc k → SpellsExpression k mid rest v → First rest (joined o u v)
go_on a q r i = then_b q (second_is (omega (arith, minus_looseness q r)) i)
go_on a_b q r i = then_c q (third_is i)

first_is : {k : ℕ} {rest : List Item} {v : Tall Expr} → SpellsExpression k first rest v → First rest v
first_is (e.unary u) = first_unary u
first_is (e.tighter h) = first_is h
first_is (e.binary h q r i) = go_on (first_is h) q r i

abbrev right_is_binary : Expr → Bool
right_is_binary (tree.Binary o x (tree.Binary n y z)) = true
right_is_binary v = false

not_right : {rest : List Item} {v : Tall Expr} → First rest v → right_is_binary v.tree ≡ false
not_right a = refl
not_right a_b = refl
not_right a_b_c = refl

pub groups_left : GroupsLeft
unfolding lexeme name_of number_of single double is_word after_include definition defined_name defined_number
groups_left rest v h q = false_true (sym (not_right (first_is h)) ∙ ap right_is_binary q)

-- ---- two definitions

abbrev twice : List Item
twice = at 1 What.Definition ∷ at 2 What.Repeated ∷ []

-- How far a program can go.
data Passed : List Item → Type 0 where
  nothing : Passed twice
  one : Passed (at 2 What.Repeated ∷ [])

definition_passed : {l : ℕ} {rest : List Item} → Passed (at l What.Definition ∷ rest) → Passed rest
definition_passed nothing = one

no_cells : {mid rest : List Item} {all : List Declared} → Passed mid → SpellsCells mid rest all → ⊥
no_cells nothing (d.cells z cs) = elim z [ ]
no_cells one (d.cells z cs) = elim z [ ]

no_objects : {mid rest : List Item} {o : Sort} {all : List Object} → Passed mid → SpellsObjects o mid rest all → ⊥
no_objects nothing (d.objects z cs) = elim z [ ]
no_objects one (d.objects z cs) = elim z [ ]

no_slots : {mid rest : List Item} {all : List Slot} → Passed mid → SpellsSlots mid rest all → ⊥
no_slots nothing (st.slots z cs) = elim z [ ]
no_slots one (st.slots z cs) = elim z [ ]

no_function : {mid rest : List Item} {f : Tall Defined} → Passed mid → SpellsFunction mid rest f → ⊥
no_function nothing (d.function st.absent h body) = elim h [ ]
no_function one (d.function st.absent h body) = elim h [ ]

passed : {start v : Tall Program} {rest : List Item} → SpellsOuter start twice rest v → Passed rest
passed p.none = nothing
passed (p.then_definition h) = definition_passed (passed h)
passed (p.then_cells h x) = absurd (no_cells (passed h) x)
passed (p.then_objects h x) = absurd (no_objects (passed h) x)
passed (p.then_slots h x) = absurd (no_slots (passed h) x)
passed (p.then_function h x) = absurd (no_function (passed h) x)

not_passed : Passed [] → ⊥
not_passed h = elim h [ ]

twice_is_none : (end : ℕ) (v : Tall Program) → SpellsProgram end twice v → ⊥
twice_is_none end v (p.plain h) = not_passed (passed h)
twice_is_none end v (p.with_capacities k h) = elim k [ ]

pub defined_twice : DefinedTwice
unfolding lexeme name_of number_of single double is_word after_include definition defined_name defined_number
defined_twice = twice_is_none

-- ---- casts and names

cast_of_name : (rest : List Item) (v : Tall Expr)
    → SpellsArgument
    (sign 1 s.LeftParenthesis ∷ fixed 1 w.Void ∷ sign 1 s.Star ∷ sign 1 s.RightParenthesis ∷ sign 1 s.LeftParenthesis ∷ fixed 1 w.Long ∷ sign 1 s.RightParenthesis
    ∷ at 1 (What.Name (codes "x")) ∷ []) rest v
    → v.tree ≡ tree.Name (codes "x")
cast_of_name rest v (e.plain n u) = absurd (n _ e.long)
cast_of_name rest v (e.cast e.long (e.primary (e.name q))) = sym (ap (λ (n : Option (List ℕ)). tree.Name (unwrap_or n [])) q)
cast_of_name rest v (e.cast e.long (e.primary (e.argument h q))) = elim h [ ]

pub cast_of_argument : CastOfArgument
unfolding lexeme name_of number_of single double is_word after_include definition defined_name defined_number
cast_of_argument = cast_of_name

capacity_cell : (rest : List Item) (all : List Declared) → SpellsCells (fixed 1 w.Int ∷ fixed 1 w.Capacities ∷ sign 1 s.Semicolon ∷ []) rest all → ⊥
capacity_cell rest all (d.cells st.absent cs) = no_cell (first_part cs).2
  where
    no_cell : {after : List Item} {x : Declared} → SpellsCell (fixed 1 w.Capacities ∷ sign 1 s.Semicolon ∷ []) after x → ⊥
    no_cell (d.scalar q) = none-some _ q

capacity_array : (rest : List Item) (all : List Declared)
    → SpellsCells (fixed 1 w.Static ∷ fixed 1 w.Int ∷ fixed 1 w.Capacities ∷ sign 1 s.LeftBracket ∷ at 1 (What.Number 1) ∷ sign 1 s.RightBracket ∷ sign 1 s.Semicolon ∷ []) rest all → ⊥
capacity_array rest all (d.cells st.present cs) = no_cell (first_part cs).2
  where
    no_cell : {after : List Item} {x : Declared}
        → SpellsCell (fixed 1 w.Capacities ∷ sign 1 s.LeftBracket ∷ at 1 (What.Number 1) ∷ sign 1 s.RightBracket ∷ sign 1 s.Semicolon ∷ []) after x → ⊥
    no_cell (d.scalar q) = none-some _ q
    no_cell (d.array q) = none-some _ q

void_main : (rest : List Item) (h : Head) → SpellsHead (fixed 1 w.Void ∷ fixed 1 w.Main ∷ sign 1 s.LeftParenthesis ∷ sign 1 s.RightParenthesis ∷ []) rest h → ⊥
void_main rest h (d.void_function q ps) = none-some _ q

main_of_int : (rest : List Item) (h : Head)
    → SpellsHead (fixed 1 w.Int ∷ fixed 1 w.Main ∷ sign 1 s.LeftParenthesis ∷ fixed 1 w.Int ∷ at 1 (What.Name (codes "x")) ∷ sign 1 s.RightParenthesis ∷ []) rest h → ⊥
main_of_int rest h (d.main v) = elim v [ ]
main_of_int rest h (d.int_function q ps) = none-some _ q

pub kept_names : KeptNames
unfolding lexeme name_of number_of single double is_word after_include definition defined_name defined_number
kept_names = (capacity_cell, capacity_array, void_main, main_of_int)
