-- What every statement begins with, and where an expression can end.
use Rattle.std.proofs.Common.{◌≡◌, ℕ, Bool, true, ◌||◌, is_some, List, ◌∷◌, Option, Some, refl, ap, ◌∙◌}
use Rattle.std.proofs.lemmas.Option.{none-some}
use Rattle.c_lexer.specs.declared.token.Sign.{Sign}
use Rattle.c_lexer.specs.declared.token.Sign.TheVariants as s
use Rattle.c_tree.specs.declared.expr.Op.{Op}
use Rattle.c_tree.specs.declared.program.Kind.{Kind}
use Rattle.c_tree.specs.Expressions.{Expr, Place}
use Rattle.c_tree.specs.Lined.{Stmt}
use Rattle.c_grammar.specs.declared.words.FixedWord.{FixedWord}
use Rattle.c_grammar.specs.declared.words.FixedWord.TheVariants as w
use Rattle.c_grammar.specs.Items.{What, Item, at, sign, name_of, callee}
use Rattle.c_grammar.specs.Levels.{Tall}
use Rattle.c_grammar.specs.Expressions as e
use Rattle.c_grammar.specs.Expressions.{SpellsCast, SpellsPrimary, SpellsUnary, SpellsExpression, SpellsPlace, SpellsCall, Called, operator}
use Rattle.c_grammar.specs.Simple as x
use Rattle.c_grammar.specs.Simple.{SpellsStep, SpellsSimple, counting}
use Rattle.c_grammar.specs.Statements as st
use Rattle.c_grammar.specs.Statements.{SpellsStatement}
use Rattle.c_grammar.specs.Heads.{is_head, begins_statement, Wanted, Present, wanted, after_operator, end_of, or_here, begins_expression}

-- ---- the heads of statements

name_begins : (a : What) {n : List ℕ} → name_of a ≡ Some n → is_some (name_of a) || is_head a ≡ true
name_begins a q = ap (λ (o : Option (List ℕ)). is_some o || is_head a) q

counting_begins : (t : Sign) {o : Op} → counting t ≡ Some o → is_head (What.Sign t) ≡ true
counting_begins s.Increment q = refl
counting_begins s.Decrement q = refl
counting_begins _ q = absurd (none-some _ q)

place_begins : {ts rest : List Item} {p : Tall Place} → SpellsPlace ts rest p → begins_statement ts ≡ true
place_begins (e.scalar {a = a} q) = name_begins a q
place_begins (e.member {a = a} q i) = name_begins a q

callee_name : (a : What) {f : List ℕ} → callee a ≡ Some f → is_some (name_of a) ≡ true
callee_name (What.Name n) q = refl
callee_name (What.Fixed w.Main) q = refl
callee_name (What.Fixed w.Parameter) q = refl
callee_name (What.Fixed w.ConditionParameter) q = refl
callee_name (What.Fixed w.MutexParameter) q = refl
callee_name (What.Fixed _) q = absurd (none-some _ q)
callee_name _ q = absurd (none-some _ q)

callee_begins : (a : What) {f : List ℕ} → callee a ≡ Some f → is_some (name_of a) || is_head a ≡ true
callee_begins a q = ap (λ b. b || is_head a) (callee_name a q)

call_begins : {ts rest : List Item} {c : Tall Called} → SpellsCall ts rest c → begins_statement ts ≡ true
call_begins (e.no_arguments {a = a} q) = callee_begins a q
call_begins (e.with_arguments {a = a} q all) = callee_begins a q

step_begins : {ts rest : List Item} {y : Tall (List Stmt)} → SpellsStep ts rest y → begins_statement ts ≡ true
step_begins (x.assign p v) = place_begins p
step_begins (x.change p q v) = place_begins p
step_begins (x.count_after p q) = place_begins p
step_begins (x.count_before {t = t} q p) = counting_begins t q

simple_begins : {k : Kind} {ts rest : List Item} {y : Tall (List Stmt)} → SpellsSimple k ts rest y → begins_statement ts ≡ true
simple_begins (x.step h) = step_begins h
simple_begins (x.call h) = call_begins h
simple_begins (x.call_into p h) = place_begins p
simple_begins (x.declare _) = refl
simple_begins _ = refl

pub statement_begins : (k : Kind) (b : Bool) (ts rest : List Item) (y : Tall (List Stmt)) → SpellsStatement k b ts rest y → begins_statement ts ≡ true
statement_begins k b ts rest y (st.simple h) = simple_begins h
statement_begins k b ts rest y _ = refl

-- ---- the ends of expressions

wanted_name : (l : ℕ) (a : What) {n : List ℕ} (rest : List Item) → name_of a ≡ Some n → end_of Wanted (at l a ∷ rest) ≡ end_of Present rest
wanted_name l (What.Name n) rest q = refl
wanted_name l (What.Fixed w.Int) rest q = absurd (none-some _ q)
wanted_name l (What.Fixed _) rest q = refl
wanted_name l _ rest q = absurd (none-some _ q)

present_name : (l : ℕ) (a : What) {n : List ℕ} (rest : List Item) → name_of a ≡ Some n → end_of Present (at l a ∷ rest) ≡ end_of Present rest
present_name l (What.Name n) rest q = refl
present_name l (What.Fixed _) rest q = refl
present_name l _ rest q = absurd (none-some _ q)

cast_end : {ts rest : List Item} → SpellsCast ts rest → end_of Wanted ts ≡ end_of Present rest
cast_end e.long = refl
cast_end e.int_pointer = refl

operator_end : (l : ℕ) (t : Sign) {o : Op} (rest : List Item) → operator t ≡ Some o → end_of Present (sign l t ∷ rest) ≡ end_of Wanted rest
operator_end l s.LeftBracket rest q = absurd (none-some _ q)
operator_end l s.RightBracket rest q = absurd (none-some _ q)
operator_end l s.RightParenthesis rest q = absurd (none-some _ q)
operator_end l t rest q = ap (λ (o : Option Op). or_here (after_operator o) (Some (sign l t ∷ rest)) (λ next. end_of next rest)) q

mutual
  primary_end : {ts rest : List Item} {v : Tall Expr} → SpellsPrimary ts rest v → end_of Wanted ts ≡ end_of Present rest
  primary_end e.number = refl
  primary_end (e.name {l = l} {a = a} {rest = rest} q) = wanted_name l a rest q
  primary_end (e.element {l = l} {m = m} {a = a} {ts = ts} q i) = wanted_name l a (sign m s.LeftBracket ∷ ts) q ∙ expression_end i
  primary_end (e.parentheses i) = expression_end i
  primary_end (e.argument {l = l} {a = a} {rest = rest} c q) = cast_end c ∙ present_name l a rest q
  primary_end (e.int_argument {j = j} {a = a} {rest = rest} c q) = cast_end c ∙ present_name j a rest q

  unary_end : {ts rest : List Item} {v : Tall Expr} → SpellsUnary ts rest v → end_of Wanted ts ≡ end_of Present rest
  unary_end (e.not u) = unary_end u
  unary_end (e.minus u) = unary_end u
  unary_end (e.primary u) = primary_end u

  expression_end : {k : ℕ} {ts rest : List Item} {v : Tall Expr} → SpellsExpression k ts rest v → end_of Wanted ts ≡ end_of Present rest
  expression_end (e.unary u) = unary_end u
  expression_end (e.tighter h) = expression_end h
  expression_end (e.binary {l = l} {mid = mid} {t = t} h q r i) = expression_end h ∙ (operator_end l t mid q ∙ expression_end i)

pub expressions_end : (k : ℕ) (ts rest : List Item) (v : Tall Expr) → SpellsExpression k ts rest v → end_of Wanted ts ≡ end_of Present rest
expressions_end k ts rest v h = expression_end h

-- ---- the heads of expressions

word_wanted : (word : FixedWord) → is_some (wanted (What.Fixed word)) ≡ true
word_wanted w.Int = refl
word_wanted _ = refl

name_wanted : (a : What) {n : List ℕ} → name_of a ≡ Some n → is_some (wanted a) ≡ true
name_wanted (What.Name n) q = refl
name_wanted (What.Fixed word) q = word_wanted word
name_wanted _ q = absurd (none-some _ q)

cast_begins : {ts rest : List Item} → SpellsCast ts rest → begins_expression ts ≡ true
cast_begins e.long = refl
cast_begins e.int_pointer = refl

primary_begins : {ts rest : List Item} {v : Tall Expr} → SpellsPrimary ts rest v → begins_expression ts ≡ true
primary_begins e.number = refl
primary_begins (e.name {a = a} q) = name_wanted a q
primary_begins (e.element {a = a} q i) = name_wanted a q
primary_begins (e.parentheses i) = refl
primary_begins (e.argument c q) = cast_begins c
primary_begins (e.int_argument c q) = refl

unary_begins : {ts rest : List Item} {v : Tall Expr} → SpellsUnary ts rest v → begins_expression ts ≡ true
unary_begins (e.not u) = refl
unary_begins (e.minus u) = refl
unary_begins (e.primary u) = primary_begins u

pub expression_begins : {k : ℕ} {ts rest : List Item} {v : Tall Expr} → SpellsExpression k ts rest v → begins_expression ts ≡ true
expression_begins (e.unary u) = unary_begins u
expression_begins (e.tighter h) = expression_begins h
expression_begins (e.binary h q r i) = expression_begins h

pub expressions_begin : (k : ℕ) (ts rest : List Item) (v : Tall Expr) → SpellsExpression k ts rest v → begins_expression ts ≡ true
expressions_begin k ts rest v h = expression_begins h
