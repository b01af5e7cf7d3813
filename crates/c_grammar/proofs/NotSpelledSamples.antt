-- The samples that are not spelled, by what stands at the front of each.
use Rattle.std.proofs.Common.{◌≡◌, ℕ, Bool, true, false, List, [], ◌∷◌, Option, Some, None, refl, sym, ap, subst, ◌∙◌}
use Rattle.std.proofs.lemmas.Option.{none-some}
use Rattle.std.specs.Prelude.{codes}
use Rattle.c_lexer.specs.Lexeme.{lexeme}
use Rattle.c_lexer.specs.Words.{name_of, number_of}
use Rattle.c_lexer.specs.Signs.{single, double}
use Rattle.c_lexer.specs.Classes.{is_word}
use Rattle.c_lexer.specs.Directives.{after_include, definition, defined_name, defined_number}
use Rattle.c_lexer.specs.declared.token.Sign.{Sign}
use Rattle.c_lexer.specs.declared.token.Sign.TheVariants as s
use Rattle.c_tree.specs.declared.expr.Op.{Op}
use Rattle.c_tree.specs.declared.program.Kind.{Kind}
use Rattle.c_tree.specs.declared.program.Kind.TheVariants as kind
use Rattle.c_tree.specs.Expressions.{Expr, Place}
use Rattle.c_tree.specs.Lined.{Stmt}
use Rattle.c_grammar.specs.declared.words.FixedWord.{FixedWord}
use Rattle.c_grammar.specs.declared.words.FixedWord.TheVariants as w
use Rattle.c_grammar.specs.Items.{What, Item, at, sign, fixed, name_of as name_of_token, callee}
use Rattle.c_grammar.specs.Levels.{Tall}
use Rattle.c_grammar.specs.Commas as comma
use Rattle.c_grammar.specs.Commas.{Commas}
use Rattle.c_grammar.specs.Expressions as e
use Rattle.c_grammar.specs.Expressions.{SpellsExpression, SpellsWhole, SpellsExpressions, SpellsPlace, SpellsCall, Called, operator}
use Rattle.c_grammar.specs.Simple as x
use Rattle.c_grammar.specs.Simple.{SpellsStep, SpellsDeclarator, SpellsNumber}
use Rattle.c_grammar.specs.Statements as st
use Rattle.c_grammar.specs.Statements.{SpellsStatement, Choice, SpellsChoice}
use Rattle.c_grammar.specs.Heads.{begins_statement, begins_expression, Wanted, end_of}
use Rattle.c_grammar.specs.Samples.{items_of}
use Rattle.c_grammar.specs.NotSpelled.{NoStatement, Never, OtherStatements, CallsInside, Unfinished, OtherReturns, OtherCalls, OtherTrylocks}
use Rattle.c_grammar.proofs.Beginnings.{statement_begins, expressions_end, expression_begins}

pub false_true : false ≡ true → ⊥
false_true q = subst (λ b. elim b as (λ b. Type 0) [ true ↦ ⊥ | false ↦ Unit {0} ]) q tt

-- A text whose first token begins no statement.
no_head : (ts : List Item) → begins_statement ts ≡ false → (k : Kind) (b : Bool) (rest : List Item) (y : Tall (List Stmt)) → SpellsStatement k b ts rest y → ⊥
no_head ts q k b rest y h = false_true (sym q ∙ statement_begins k b ts rest y h)

pub other_statements : OtherStatements
unfolding lexeme name_of number_of single double is_word after_include definition defined_name defined_number
other_statements = (no_head _ refl, no_head _ refl, no_head _ refl, no_head _ refl, no_head _ refl, no_head _ refl, no_head _ refl, no_head _ refl, no_head _ refl, no_head _ refl, no_head _ refl, no_head _ refl)

-- ---- inversions

pub first_part : {A : Type 0} {Part : List Item → List Item → A → Type 0} {ts rest : List Item} {all : List A}
    → Commas Part ts rest all → (mid : List Item) × (a : A) × Part ts mid a
first_part {ts = ts} (comma.one {rest = rest} {a = a} h) = (rest, a, h)
first_part (comma.more hs h) = first_part hs

no_first : {ts rest : List Item} {all : List (Tall Expr)} → begins_expression ts ≡ false → SpellsExpressions ts rest all → ⊥
no_first q hs = false_true (sym q ∙ expression_begins (first_part hs).2)

-- A `;` stands here.
abbrev at_semicolon : Option (List Item) → Bool
at_semicolon (Some (at l (What.Sign s.Semicolon) ∷ ts)) = true
at_semicolon _ = false

no_end : {k m : ℕ} {ts rest : List Item} {v : Tall Expr} → at_semicolon (end_of Wanted ts) ≡ false → SpellsExpression k ts (sign m s.Semicolon ∷ rest) v → ⊥
no_end {k} {m} {ts} {rest} {v} q h = false_true (sym q ∙ ap at_semicolon (expressions_end k ts (sign m s.Semicolon ∷ rest) v h))

-- What stands behind a name and `=` is an expression or a call, and then a `;`.
data Right (ts rest : List Item) : Type 0 where
  value : {l : ℕ} {v : Tall Expr} → SpellsWhole ts (sign l s.Semicolon ∷ rest) v → Right ts rest
  called : {l : ℕ} {c : Tall Called} → SpellsCall ts (sign l s.Semicolon ∷ rest) c → Right ts rest

right_of : {k : Kind} {b : Bool} {i j : ℕ} {n : List ℕ} {ts rest : List Item} {y : Tall (List Stmt)}
    → SpellsStatement k b (at i (What.Name n) ∷ sign j s.Assign ∷ ts) rest y → Right ts rest
right_of (st.simple (x.step (x.assign (e.scalar n) v))) = value v
right_of (st.simple (x.step (x.change (e.scalar n) q v))) = absurd (none-some _ q)
right_of (st.simple (x.step (x.count_after (e.scalar n) q))) = absurd (none-some _ q)
right_of (st.simple (x.call h)) = elim h [ ]
right_of (st.simple (x.call_into (e.scalar n) h)) = called h

-- A keyword is no place, so it begins no assignment.
no_place : {l : ℕ} {a : What} {ts rest : List Item} {p : Tall Place} → name_of_token a ≡ None → SpellsPlace (at l a ∷ ts) rest p → ⊥
no_place r (e.scalar q) = none-some _ (sym r ∙ q)
no_place r (e.member q i) = none-some _ (sym r ∙ q)

word_step : {l : ℕ} {word : FixedWord} {ts rest : List Item} {y : Tall (List Stmt)} → name_of_token (What.Fixed word) ≡ None → SpellsStep (at l (What.Fixed word) ∷ ts) rest y → ⊥
word_step r (x.assign p v) = no_place r p
word_step r (x.change p q v) = no_place r p
word_step r (x.count_after p q) = no_place r p

-- No assignment has a `(` for its second token.
paren_step : {l m : ℕ} {a : What} {ts rest : List Item} {y : Tall (List Stmt)} → SpellsStep (at l a ∷ sign m s.LeftParenthesis ∷ ts) rest y → ⊥
paren_step (x.assign p v) = elim p [ ]
paren_step (x.change (e.scalar n) q v) = none-some _ q
paren_step (x.count_after (e.scalar n) q) = none-some _ q
paren_step (x.count_before q p) = no_place refl p

paren_call : {l m : ℕ} {a : What} {ts rest : List Item} {c : Tall Called} → callee a ≡ None → SpellsCall (at l a ∷ sign m s.LeftParenthesis ∷ ts) rest c → ⊥
paren_call r (e.no_arguments q) = none-some _ (sym r ∙ q)
paren_call r (e.with_arguments q all) = none-some _ (sym r ∙ q)

-- ---- calls inside expressions

call_behind_right : {rest : List Item} → Right (items_of (codes "1 + f ( ) ;" ∷ [])) rest → ⊥
unfolding lexeme name_of number_of single double is_word after_include definition defined_name defined_number
call_behind_right (value v) = no_end refl v
call_behind_right (called c) = elim c [ ]

call_behind : Never (codes "x = 1 + f ( ) ;")
unfolding lexeme name_of number_of single double is_word after_include definition defined_name defined_number
call_behind k b rest y h = call_behind_right (right_of h)

call_before_right : {rest : List Item} → Right (items_of (codes "f ( ) + 1 ;" ∷ [])) rest → ⊥
unfolding lexeme name_of number_of single double is_word after_include definition defined_name defined_number
call_before_right (value v) = no_end refl v
call_before_right (called (e.with_arguments q all)) = no_first refl all

call_before : Never (codes "x = f ( ) + 1 ;")
unfolding lexeme name_of number_of single double is_word after_include definition defined_name defined_number
call_before k b rest y h = call_before_right (right_of h)

call_inside_right : {rest : List Item} → Right (items_of (codes "( f ( ) ) ;" ∷ [])) rest → ⊥
unfolding lexeme name_of number_of single double is_word after_include definition defined_name defined_number
call_inside_right (value v) = no_end refl v
call_inside_right (called c) = elim c [ ]

call_inside : Never (codes "x = ( f ( ) ) ;")
unfolding lexeme name_of number_of single double is_word after_include definition defined_name defined_number
call_inside k b rest y h = call_inside_right (right_of h)

call_given_back : Never (codes "return f ( ) ;")
unfolding lexeme name_of number_of single double is_word after_include definition defined_name defined_number
call_given_back k b rest y (st.simple (x.give_back (x.of_main v))) = no_end refl v
call_given_back k b rest y (st.simple (x.give_back (x.of_int v))) = no_end refl v
call_given_back k b rest y (st.simple (x.call h)) = elim h [ ]
call_given_back k b rest y (st.simple (x.call_into p h)) = elim p [ ]
call_given_back k b rest y (st.simple (x.step h)) = word_step refl h

pub calls_inside : CallsInside
calls_inside = (call_behind, call_before, call_inside, call_given_back)

-- ---- what is unfinished

name_alone : Never (codes "x ;")
unfolding lexeme name_of number_of single double is_word after_include definition defined_name defined_number
name_alone k b rest y (st.simple (x.step (x.assign p v))) = elim p [ ]
name_alone k b rest y (st.simple (x.step (x.change (e.scalar n) q v))) = absurd (none-some _ q)
name_alone k b rest y (st.simple (x.step (x.count_after p q))) = elim p [ ]
name_alone k b rest y (st.simple (x.call h)) = elim h [ ]
name_alone k b rest y (st.simple (x.call_into p h)) = elim p [ ]

sum_alone : Never (codes "x + 1 ;")
unfolding lexeme name_of number_of single double is_word after_include definition defined_name defined_number
sum_alone k b rest y (st.simple (x.step (x.assign p v))) = elim p [ ]
sum_alone k b rest y (st.simple (x.step (x.change (e.scalar n) q v))) = absurd (none-some _ q)
sum_alone k b rest y (st.simple (x.step (x.count_after p q))) = elim p [ ]
sum_alone k b rest y (st.simple (x.call h)) = elim h [ ]
sum_alone k b rest y (st.simple (x.call_into p h)) = elim p [ ]

assignment_open_right : {rest : List Item} → Right (items_of (codes "1" ∷ [])) rest → ⊥
unfolding lexeme name_of number_of single double is_word after_include definition defined_name defined_number
assignment_open_right (value v) = no_end refl v
assignment_open_right (called c) = elim c [ ]

assignment_open : Never (codes "x = 1")
unfolding lexeme name_of number_of single double is_word after_include definition defined_name defined_number
assignment_open k b rest y h = assignment_open_right (right_of h)

count_open : Never (codes "x ++")
unfolding lexeme name_of number_of single double is_word after_include definition defined_name defined_number
count_open k b rest y (st.simple (x.step (x.assign p v))) = elim p [ ]
count_open k b rest y (st.simple (x.step (x.change (e.scalar n) q v))) = absurd (none-some _ q)
count_open k b rest y (st.simple (x.step (x.count_after p q))) = elim p [ ]
count_open k b rest y (st.simple (x.call h)) = elim h [ ]
count_open k b rest y (st.simple (x.call_into p h)) = elim p [ ]

no_declarator : {l : ℕ} {ts rest : List Item} {v : ℕ} {y : Tall (List Stmt)} → SpellsDeclarator (at l (What.Number v) ∷ ts) rest y → ⊥
no_declarator (x.bare q) = none-some _ q
no_declarator (x.by_value q v) = none-some _ q
no_declarator (x.by_call q h) = none-some _ q

number_declared : Never (codes "int 3 ;")
unfolding lexeme name_of number_of single double is_word after_include definition defined_name defined_number
number_declared k b rest y (st.simple (x.declare hs)) = no_declarator (first_part hs).2
number_declared k b rest y (st.simple (x.step h)) = word_step refl h
number_declared k b rest y (st.simple (x.call h)) = elim h [ ]
number_declared k b rest y (st.simple (x.call_into p h)) = elim p [ ]

pub unfinished : Unfinished
unfinished = (name_alone, sum_alone, assignment_open, count_open, number_declared)

-- ---- returns

value_of_void : NoStatement kind.Void (codes "return 1 ;")
unfolding lexeme name_of number_of single double is_word after_include definition defined_name defined_number
value_of_void b rest y (st.simple (x.give_back r)) = elim r [ ]
value_of_void b rest y (st.simple (x.step h)) = word_step refl h
value_of_void b rest y (st.simple (x.call h)) = elim h [ ]
value_of_void b rest y (st.simple (x.call_into p h)) = elim p [ ]

no_value_of_int : NoStatement kind.Int (codes "return ;")
unfolding lexeme name_of number_of single double is_word after_include definition defined_name defined_number
no_value_of_int b rest y (st.simple (x.give_back (x.of_int v))) = false_true (expression_begins v)
no_value_of_int b rest y (st.simple (x.step h)) = word_step refl h
no_value_of_int b rest y (st.simple (x.call h)) = elim h [ ]
no_value_of_int b rest y (st.simple (x.call_into p h)) = elim p [ ]

no_value_of_main : NoStatement kind.Main (codes "return ;")
unfolding lexeme name_of number_of single double is_word after_include definition defined_name defined_number
no_value_of_main b rest y (st.simple (x.give_back (x.of_main v))) = false_true (expression_begins v)
no_value_of_main b rest y (st.simple (x.step h)) = word_step refl h
no_value_of_main b rest y (st.simple (x.call h)) = elim h [ ]
no_value_of_main b rest y (st.simple (x.call_into p h)) = elim p [ ]

value_of_thread : NoStatement kind.Thread (codes "return 1 ;")
unfolding lexeme name_of number_of single double is_word after_include definition defined_name defined_number
value_of_thread b rest y (st.simple (x.give_back r)) = elim r [ ]
value_of_thread b rest y (st.simple (x.step h)) = word_step refl h
value_of_thread b rest y (st.simple (x.call h)) = elim h [ ]
value_of_thread b rest y (st.simple (x.call_into p h)) = elim p [ ]

no_value_of_thread : NoStatement kind.Thread (codes "return ;")
unfolding lexeme name_of number_of single double is_word after_include definition defined_name defined_number
no_value_of_thread b rest y (st.simple (x.give_back r)) = elim r [ ]
no_value_of_thread b rest y (st.simple (x.step h)) = word_step refl h
no_value_of_thread b rest y (st.simple (x.call h)) = elim h [ ]
no_value_of_thread b rest y (st.simple (x.call_into p h)) = elim p [ ]

pub other_returns : OtherReturns
other_returns = (value_of_void, no_value_of_int, no_value_of_main, value_of_thread, no_value_of_thread)

-- ---- calls of the words that the grammar spells out

print_of_name : Never (codes "printf ( x ) ;")
unfolding lexeme name_of number_of single double is_word after_include definition defined_name defined_number
print_of_name k b rest y (st.simple (x.step h)) = paren_step h
print_of_name k b rest y (st.simple (x.call h)) = paren_call refl h
print_of_name k b rest y (st.simple (x.call_into p h)) = elim p [ ]

scan_of_two_items : (k : Kind) (b : Bool) (rest : List Item) (y : Tall (List Stmt)) → SpellsStatement k b
    (fixed 1 w.Scan ∷ sign 1 s.LeftParenthesis ∷ at 1 (What.Text (codes "%d%d")) ∷ sign 1 s.Comma ∷ sign 1 s.Ampersand ∷ at 1 (What.Name (codes "x")) ∷ sign 1 s.RightParenthesis
    ∷ sign 1 s.Semicolon ∷ []) rest y → ⊥
scan_of_two_items k b rest y (st.simple (x.step h)) = paren_step h
scan_of_two_items k b rest y (st.simple (x.call h)) = paren_call refl h
scan_of_two_items k b rest y (st.simple (x.call_into p h)) = elim p [ ]

scan_of_two : Never (codes "scanf ( \"%d%d\" , & x ) ;")
unfolding lexeme name_of number_of single double is_word after_include definition defined_name defined_number
scan_of_two = scan_of_two_items

lock_of_value : Never (codes "pthread_mutex_lock ( m ) ;")
unfolding lexeme name_of number_of single double is_word after_include definition defined_name defined_number
lock_of_value k b rest y (st.simple (x.step h)) = paren_step h
lock_of_value k b rest y (st.simple (x.call h)) = paren_call refl h
lock_of_value k b rest y (st.simple (x.call_into p h)) = elim p [ ]
lock_of_value k b rest y (st.simple (x.lock a)) = elim a [ ]

join_with_number_items : (k : Kind) (b : Bool) (rest : List Item) (y : Tall (List Stmt)) → SpellsStatement k b
    (fixed 1 w.Join ∷ sign 1 s.LeftParenthesis ∷ at 1 (What.Name (codes "t")) ∷ sign 1 s.Comma ∷ at 1 (What.Number 0) ∷ sign 1 s.RightParenthesis ∷ sign 1 s.Semicolon ∷ []) rest y → ⊥
join_with_number_items k b rest y (st.simple (x.step h)) = paren_step h
join_with_number_items k b rest y (st.simple (x.call h)) = paren_call refl h
join_with_number_items k b rest y (st.simple (x.call_into p h)) = elim p [ ]
join_with_number_items k b rest y (st.simple (x.join p)) = elim p [ ]

join_with_number : Never (codes "pthread_join ( t , 0 ) ;")
unfolding lexeme name_of number_of single double is_word after_include definition defined_name defined_number
join_with_number = join_with_number_items

create_with_number_items : (k : Kind) (b : Bool) (rest : List Item) (y : Tall (List Stmt)) → SpellsStatement k b
    (fixed 1 w.Create ∷ sign 1 s.LeftParenthesis ∷ sign 1 s.Ampersand ∷ at 1 (What.Name (codes "t")) ∷ sign 1 s.Comma ∷ at 1 (What.Number 0) ∷ sign 1 s.Comma
    ∷ at 1 (What.Name (codes "f")) ∷ sign 1 s.Comma ∷ fixed 1 w.Null ∷ sign 1 s.RightParenthesis ∷ sign 1 s.Semicolon ∷ []) rest y → ⊥
create_with_number_items k b rest y (st.simple (x.step h)) = paren_step h
create_with_number_items k b rest y (st.simple (x.call h)) = paren_call refl h
create_with_number_items k b rest y (st.simple (x.call_into p h)) = elim p [ ]
create_with_number_items k b rest y (st.simple (x.create (e.address p) q g)) = elim p [ ]

create_with_number : Never (codes "pthread_create ( & t , 0 , f , NULL ) ;")
unfolding lexeme name_of number_of single double is_word after_include definition defined_name defined_number
create_with_number = create_with_number_items

take_of_name : Never (codes "gd_take ( x ) ;")
unfolding lexeme name_of number_of single double is_word after_include definition defined_name defined_number
take_of_name k b rest y (st.simple (x.step h)) = paren_step h
take_of_name k b rest y (st.simple (x.call h)) = paren_call refl h
take_of_name k b rest y (st.simple (x.call_into p h)) = elim p [ ]

null_called : Never (codes "NULL ( ) ;")
unfolding lexeme name_of number_of single double is_word after_include definition defined_name defined_number
null_called k b rest y (st.simple (x.step h)) = paren_step h
null_called k b rest y (st.simple (x.call h)) = paren_call refl h
null_called k b rest y (st.simple (x.call_into p h)) = elim p [ ]

no_number : {l : ℕ} {ts rest : List Item} {n : ℕ} → SpellsNumber (sign l s.Minus ∷ ts) rest n → ⊥
no_number h = elim h [ ]

wait_without_takes_items : (k : Kind) (b : Bool) (rest : List Item) (y : Tall (List Stmt)) → SpellsStatement k b
    (fixed 1 w.ControlledWait ∷ sign 1 s.LeftParenthesis ∷ sign 1 s.Ampersand ∷ fixed 1 w.ConditionParameter ∷ sign 1 s.Comma ∷ sign 1 s.Ampersand ∷ fixed 1 w.MutexParameter ∷ sign 1 s.Comma ∷ sign 1 s.Minus ∷ at 1 (What.Number 1) ∷ sign 1 s.RightParenthesis ∷ sign 1 s.Semicolon ∷ [])
    rest y → ⊥
wait_without_takes_items k b rest y (st.simple (x.step h)) = paren_step h
wait_without_takes_items k b rest y (st.simple (x.call h)) = paren_call refl h
wait_without_takes_items k b rest y (st.simple (x.call_into p h)) = elim p [ ]
wait_without_takes_items k b rest y (st.simple (x.controlled_wait (e.address (e.scalar n)) (e.address (e.scalar m)) hs)) = no_number (first_part hs).2

wait_without_takes : Never (codes "gd_cond_wait ( & c , & m , - 1 ) ;")
unfolding lexeme name_of number_of single double is_word after_include definition defined_name defined_number
wait_without_takes = wait_without_takes_items

pub other_calls : OtherCalls
other_calls = (print_of_name, scan_of_two, lock_of_value, join_with_number, create_with_number, take_of_name, null_called, wait_without_takes)

-- ---- trylocks elsewhere

trylock_alone : Never (codes "pthread_mutex_trylock ( & a ) ;")
unfolding lexeme name_of number_of single double is_word after_include definition defined_name defined_number
trylock_alone k b rest y (st.simple (x.step h)) = paren_step h
trylock_alone k b rest y (st.simple (x.call h)) = paren_call refl h
trylock_alone k b rest y (st.simple (x.call_into p h)) = elim p [ ]

trylock_assigned_right : {rest : List Item} → Right (fixed 1 w.TryLock ∷ sign 1 s.LeftParenthesis ∷ sign 1 s.Ampersand ∷ at 1 (What.Name (codes "a")) ∷ sign 1 s.RightParenthesis ∷ sign 1 s.Semicolon ∷ []) rest → ⊥
trylock_assigned_right (value v) = no_end refl v
trylock_assigned_right (called (e.with_arguments q all)) = none-some _ q

trylock_assigned_items : (k : Kind) (b : Bool) (rest : List Item) (y : Tall (List Stmt)) → SpellsStatement k b
    (at 1 (What.Name (codes "x")) ∷ sign 1 s.Assign ∷ fixed 1 w.TryLock ∷ sign 1 s.LeftParenthesis ∷ sign 1 s.Ampersand ∷ at 1 (What.Name (codes "a")) ∷ sign 1 s.RightParenthesis ∷ sign 1 s.Semicolon ∷ [])
    rest y → ⊥
trylock_assigned_items k b rest y h = trylock_assigned_right (right_of h)

trylock_assigned : Never (codes "x = pthread_mutex_trylock ( & a ) ;")
unfolding lexeme name_of number_of single double is_word after_include definition defined_name defined_number
trylock_assigned = trylock_assigned_items

-- These tokens begin with a `(`.
data AtParenthesis : List Item → Type 0 where
  there : {l : ℕ} {ts : List Item} → AtParenthesis (sign l s.LeftParenthesis ∷ ts)

-- An expression that begins with a word before `(` is that word.
word_alone : {l m : ℕ} {word : FixedWord} {ts rest : List Item} {j : ℕ} {v : Tall Expr}
    → SpellsExpression j (fixed l word ∷ sign m s.LeftParenthesis ∷ ts) rest v → AtParenthesis rest
word_alone (e.unary (e.primary (e.name q))) = there
word_alone (e.unary (e.primary (e.argument c q))) = elim c [ ]
word_alone (e.tighter h) = word_alone h
word_alone (e.binary h q r i) = absurd (no_operator (word_alone h) q)
  where
    no_operator : {l : ℕ} {t : Sign} {ts : List Item} {o : Op} → AtParenthesis (sign l t ∷ ts) → operator t ≡ Some o → ⊥
    no_operator there q = none-some _ q

no_parenthesis : {l : ℕ} {ts : List Item} → AtParenthesis (sign l s.RightParenthesis ∷ ts) → ⊥
no_parenthesis h = elim h [ ]

compared_with_one : (l : ℕ) (rest : List Item) (c : Tall Choice)
    → SpellsChoice (fixed 1 w.TryLock ∷ sign 1 s.LeftParenthesis ∷ sign 1 s.Ampersand ∷ at 1 (What.Name (codes "a")) ∷ sign 1 s.RightParenthesis ∷ sign 1 s.Equal
    ∷ at 1 (What.Number 1) ∷ sign 1 s.RightParenthesis ∷ sign 1 s.Semicolon ∷ []) (sign l s.RightParenthesis ∷ rest) c → ⊥
compared_with_one l rest c (st.value v) = no_parenthesis (word_alone v)
compared_with_one l rest c (st.tried (st.try (e.address p))) = elim p [ ]
compared_with_one l rest c (st.zero (st.try (e.address p))) = elim p [ ]
compared_with_one l rest c (st.other (st.try (e.address p))) = elim p [ ]

trylock_is_one_items : (k : Kind) (b : Bool) (rest : List Item) (y : Tall (List Stmt)) → SpellsStatement k b
    (fixed 1 w.If ∷ sign 1 s.LeftParenthesis ∷ fixed 1 w.TryLock ∷ sign 1 s.LeftParenthesis ∷ sign 1 s.Ampersand ∷ at 1 (What.Name (codes "a")) ∷ sign 1 s.RightParenthesis ∷ sign 1 s.Equal ∷ at 1 (What.Number 1) ∷ sign 1 s.RightParenthesis ∷ sign 1 s.Semicolon ∷ [])
    rest y → ⊥
trylock_is_one_items k b rest y (st.if_only c one) = compared_with_one _ _ _ c
trylock_is_one_items k b rest y (st.if_else c one two) = compared_with_one _ _ _ c
trylock_is_one_items k b rest y (st.simple (x.step h)) = word_step refl h
trylock_is_one_items k b rest y (st.simple (x.call h)) = paren_call refl h
trylock_is_one_items k b rest y (st.simple (x.call_into p h)) = elim p [ ]

trylock_is_one : Never (codes "if ( pthread_mutex_trylock ( & a ) == 1 ) ;")
unfolding lexeme name_of number_of single double is_word after_include definition defined_name defined_number
trylock_is_one = trylock_is_one_items

pub other_trylocks : OtherTrylocks
other_trylocks = (trylock_alone, trylock_assigned, trylock_is_one)
