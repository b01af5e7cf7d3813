-- What the grammar spells, from what is known of single tokens.
use Rattle.std.proofs.Common.{◌≡◌, ℕ, max, Bool, true, false, List, [], ◌∷◌, ◌++◌, Option, Some, None, refl, sym, ap, subst, append_assoc, arith, inl, inr, ◌⊎◌}
use Rattle.std.proofs.lemmas.Bool.{eqb-true}
use Rattle.std.proofs.lemmas.List.{append-nil}
use Rattle.std.proofs.lemmas.Slice.Eq.{bytes_eq-Decides}
use Rattle.c_lexer.specs.declared.token.Sign.{Sign}
use Rattle.c_lexer.specs.declared.token.Sign.TheVariants as s
use Rattle.c_tree.specs.declared.expr.Op.{Op}
use Rattle.c_tree.specs.declared.program.Kind.{Kind}
use Rattle.c_tree.specs.declared.program.Kind.TheVariants as kind
use Rattle.c_tree.specs.Expressions as tree
use Rattle.c_tree.specs.Expressions.{Expr, Place}
use Rattle.c_tree.specs.Lined as lined
use Rattle.c_tree.specs.Lined.{Stmt}
use Rattle.c_grammar.specs.declared.words.FixedWord.{FixedWord}
use Rattle.c_grammar.specs.declared.words.FixedWord.TheVariants as w
use Rattle.c_grammar.specs.Items.{What, Item, at, sign, fixed, callee, name_of}
use Rattle.c_grammar.specs.Levels.{Tall, tall, over, alone, followed, together, gathered}
use Rattle.c_grammar.specs.Commas.{Commas, one, more}
use Rattle.c_grammar.specs.Expressions.{SpellsWhole, primary, SpellsExpressions, SpellsPlace, SpellsAddress, SpellsArgument, Called, SpellsCall}
use Rattle.c_grammar.specs.Simple as g
use Rattle.c_grammar.specs.Simple.{changing, counting, number_format, SpellsNumber, number, SpellsStep, SpellsDeclarator, SpellsSimple}
use Rattle.c_expressions.specs.Words.{is_sign}
use Rattle.c_expressions.specs.Parsers.{what_at, as_arguments, no_arguments}
use Rattle.c_expressions.proofs.Spelled.{is_sign_only, whole, name_spelled}
use Rattle.c_simple.specs.declared.token.Way.TheVariants as way
use Rattle.c_simple.specs.declared.token.Routine.{Routine}
use Rattle.c_simple.specs.declared.token.Routine.TheVariants as routine
use Rattle.c_simple.specs.Words.{way_by, way_of, counter, if_null, routine_of, is_null, is_no_value, is_one, number_of, text_of, is_number_format}
use Rattle.c_simple.specs.Parsers.{line_in, name_value, Source, Value, Call, set_to, change_by, counted, bare, declared_as, returned, printed, created, waited, call_statement}

-- ---- single tokens

-- a sign by its test, in any relation of what stands there
pub closed_by : (x : Sign) (R : List Item → Type 0) (t : Item) (rest : List Item) → is_sign x (what_at t) ≡ true → R (t ∷ rest) → (l : ℕ) × R (sign l x ∷ rest)
closed_by x R (at l a) rest e d = (l, subst (λ (b : What). R (at l b ∷ rest)) (is_sign_only x a e) d)

null_only : (a : What) → is_null a ≡ true → a ≡ What.Fixed w.Null
null_only (What.Fixed w.Null) e = refl
null_only _ e = absurd cc

changes : (m n : Option Op) (o : Op) → way_by m n ≡ way.Change o → m ≡ Some o
changes (Some p) n o e = cc
changes None (Some p) o e = absurd cc
changes None None o e = absurd cc

counts : (m n : Option Op) (o : Op) → way_by m n ≡ way.Count o → n ≡ Some o
counts (Some p) n o e = absurd cc
counts None (Some p) o e = cc
counts None None o e = absurd cc

sets : (m n : Option Op) → way_by m n ≡ way.Set → ⊥
sets (Some p) n e = cc
sets None (Some p) e = cc
sets None None e = cc

pub way_set : (a : What) → way_of a ≡ way.Set → a ≡ What.Sign s.Assign
way_set (What.Sign s.Assign) e = refl
way_set (What.Sign t) e = absurd (sets (changing t) (counting t) e)
way_set _ e = absurd cc

pub way_change : (a : What) (o : Op) → way_of a ≡ way.Change o → (t : Sign) × (a ≡ What.Sign t) × (changing t ≡ Some o)
way_change (What.Sign s.Assign) o e = absurd cc
way_change (What.Sign t) o e = (t, refl, changes (changing t) (counting t) o e)
way_change _ o e = absurd cc

pub way_count : (a : What) (o : Op) → way_of a ≡ way.Count o → (t : Sign) × (a ≡ What.Sign t) × (counting t ≡ Some o)
way_count (What.Sign s.Assign) o e = absurd cc
way_count (What.Sign t) o e = (t, refl, counts (changing t) (counting t) o e)
way_count _ o e = absurd cc

pub counter_is : (a : What) (o : Op) → counter a ≡ Some o → (t : Sign) × (a ≡ What.Sign t) × (counting t ≡ Some o)
counter_is (What.Sign t) o e = (t, refl, e)
counter_is _ o e = absurd cc

-- ---- values

-- an expression, or a call
abbrev pub SpellsSource : List Item → List Item → Source → Type 0
SpellsSource ts rest (Value e) = SpellsWhole ts rest e
SpellsSource ts rest (Call c) = SpellsCall ts rest c

callee_name : (a : What) (f : List ℕ) → callee a ≡ Some f → name_of a ≡ Some f
callee_name (What.Name n) f d = d
callee_name (What.Fixed w.Main) f d = d
callee_name (What.Fixed w.Parameter) f d = d
callee_name (What.Fixed w.ConditionParameter) f d = d
callee_name (What.Fixed w.MutexParameter) f d = d
callee_name _ f d = absurd cc

-- a name alone is a value
pub name_alone_spelled : (t : Item) (rest : List Item) (f : List ℕ) → callee (what_at t) ≡ Some f → SpellsSource (t ∷ rest) rest (name_value f)
name_alone_spelled t rest f d = whole (t ∷ rest) rest (over (tree.Name f) 0) (primary (name_spelled t rest f (callee_name (what_at t) f d)))

-- ---- assignments

pub set_spelled : (k : Kind) (t t2 : Item) (ts mid rest : List Item) (p : Tall Place) (x : Source) → way_of (what_at t2) ≡ way.Set → SpellsPlace (t ∷ ts) (t2 ∷ mid) p → SpellsSource mid rest x
    → SpellsSimple k (t ∷ ts) rest (set_to (line_in t) p x)
set_spelled k (at l a) (at m b) ts mid rest p (Value e) q d y = g.step (g.assign (subst (λ (z : What). SpellsPlace (at l a ∷ ts) (at m z ∷ mid) p) (way_set b q) d) y)
set_spelled k (at l a) (at m b) ts mid rest p (Call c) q d y = g.call_into (subst (λ (z : What). SpellsPlace (at l a ∷ ts) (at m z ∷ mid) p) (way_set b q) d) y

pub assign_spelled : (t t2 : Item) (ts mid rest : List Item) (p : Tall Place) (e : Tall Expr) → way_of (what_at t2) ≡ way.Set → SpellsPlace (t ∷ ts) (t2 ∷ mid) p → SpellsWhole mid rest e
    → SpellsStep (t ∷ ts) rest (set_to (line_in t) p (Value e))
assign_spelled (at l a) (at m b) ts mid rest p e q d y = g.assign (subst (λ (z : What). SpellsPlace (at l a ∷ ts) (at m z ∷ mid) p) (way_set b q) d) y

pub change_spelled : (t t2 : Item) (ts mid rest : List Item) (p : Tall Place) (e : Tall Expr) (o : Op) → way_of (what_at t2) ≡ way.Change o → SpellsPlace (t ∷ ts) (t2 ∷ mid) p → SpellsWhole mid rest e
    → SpellsStep (t ∷ ts) rest (change_by (line_in t) o p e)
change_spelled (at l a) (at m b) ts mid rest p e o q d y =
    let z = way_change b o q in g.change (subst (λ (c : What). SpellsPlace (at l a ∷ ts) (at m c ∷ mid) p) z.1 d) z.2 y

pub count_after_spelled : (t t2 : Item) (ts rest : List Item) (p : Tall Place) (o : Op) → way_of (what_at t2) ≡ way.Count o → SpellsPlace (t ∷ ts) (t2 ∷ rest) p → SpellsStep (t ∷ ts) rest (counted (line_in t) o p)
count_after_spelled (at l a) (at m b) ts rest p o q d =
    let z = way_count b o q in g.count_after (subst (λ (c : What). SpellsPlace (at l a ∷ ts) (at m c ∷ rest) p) z.1 d) z.2

pub count_before_spelled : (t : Item) (ts rest : List Item) (p : Tall Place) (o : Op) → counter (what_at t) ≡ Some o → SpellsPlace ts rest p → SpellsStep (t ∷ ts) rest (counted (line_in t) o p)
count_before_spelled (at l a) ts rest p o q d = let z = counter_is a o q in rw z.1 (g.count_before z.2 d)

-- ---- declarations

pub bare_spelled : (t : Item) (rest : List Item) (n : List ℕ) → name_of (what_at t) ≡ Some n → SpellsDeclarator (t ∷ rest) rest (bare (line_in t) n)
bare_spelled (at l a) rest n e = g.bare e

pub declared_spelled : (t t2 : Item) (ts rest : List Item) (n : List ℕ) (x : Source) → name_of (what_at t) ≡ Some n → is_sign s.Assign (what_at t2) ≡ true → SpellsSource ts rest x
    → SpellsDeclarator (t ∷ t2 ∷ ts) rest (declared_as (line_in t) n x)
declared_spelled (at l a) (at m b) ts rest n (Value e) d q y = rw (is_sign_only s.Assign b q) (g.by_value d y)
declared_spelled (at l a) (at m b) ts rest n (Call c) d q y = rw (is_sign_only s.Assign b q) (g.by_call d y)

pub together_one : (x : Tall (List Stmt)) → together (x ∷ []) ≡ x
together_one x = let p : max x.levels 0 ≡ x.levels = omega arith in rw (append-nil x.tree) (ap (λ (l : ℕ). tall x.tree l) p)

pub together_more : (all : List (Tall (List Stmt))) (x : Tall (List Stmt)) → together (all ++ x ∷ []) ≡ followed (together all) x
together_more [] x = let p : max x.levels 0 ≡ max 0 x.levels = omega arith in rw (append-nil x.tree) (ap (λ (l : ℕ). tall x.tree l) p)
together_more (y ∷ all) x =
    let p : max y.levels (max (together all).levels x.levels) ≡ max (max y.levels (together all).levels) x.levels = omega arith in
    rw (together_more all x) (rw (append_assoc y.tree (together all).tree x.tree) (ap (λ (l : ℕ). tall (y.tree ++ ((together all).tree ++ x.tree)) l) p))

pub comma_spelled : (t : Item) (ts mid rest : List Item) (all : List (Tall (List Stmt))) (x : Tall (List Stmt)) → is_sign s.Comma (what_at t) ≡ true → Commas SpellsDeclarator ts (t ∷ mid) all → SpellsDeclarator mid rest x
    → Commas SpellsDeclarator ts rest (all ++ x ∷ [])
comma_spelled (at l a) ts mid rest all x q d f = more (subst (λ (z : What). Commas SpellsDeclarator ts (at l z ∷ mid) all) (is_sign_only s.Comma a q) d) f

pub declare_spelled : (k : Kind) (t : Item) (ts rest : List Item) (all : List (Tall (List Stmt))) (a : Tall (List Stmt)) → what_at t ≡ What.Fixed w.Int → Commas SpellsDeclarator ts rest all → together all ≡ a → SpellsSimple k (t ∷ ts) rest a
declare_spelled k (at l b) ts rest all a e d h = rw (e, sym h) (g.declare d)

-- ---- results

pub no_value_only : (a : What) → is_no_value a ≡ true → (a ≡ What.Fixed w.Null) ⊎ (a ≡ What.Number 0)
no_value_only (What.Fixed w.Null) e = inl refl
no_value_only (What.Number n) e = inr (ap (λ (m : ℕ). What.Number m) (eqb-true n 0 e))
no_value_only _ e = absurd cc

-- ---- calls of the library

-- the word of a call
abbrev pub word_of : Routine → FixedWord
word_of routine.Print = w.Print
word_of routine.Scan = w.Scan
word_of routine.Create = w.Create
word_of routine.Join = w.Join
word_of routine.InitMutex = w.InitMutex
word_of routine.InitCondition = w.InitCondition
word_of routine.Lock = w.Lock
word_of routine.Unlock = w.Unlock
word_of routine.Wait = w.Wait
word_of routine.Signal = w.Signal
word_of routine.Broadcast = w.Broadcast
word_of routine.Take = w.Take
word_of routine.Give = w.Give
word_of routine.ControlledWait = w.ControlledWait

-- what is called is a word
is_word : (word : FixedWord) (x y : Routine) → word ≡ word_of y → Some y ≡ Some x → What.Fixed word ≡ What.Fixed (word_of x)
is_word word x y e d = let same : y ≡ x = cc in rw (e, same) refl

is_word_by : (null : Bool) (word : FixedWord) (x y : Routine) → word ≡ word_of y → if_null null y ≡ Some x → What.Fixed word ≡ What.Fixed (word_of x)
is_word_by true word x y e d = is_word word x y e d
is_word_by false word x y e d = absurd cc

pub routine_word : (null : Bool) (a : What) (x : Routine) → routine_of null a ≡ Some x → a ≡ What.Fixed (word_of x)
routine_word null (What.Fixed w.Print) x e = is_word w.Print x routine.Print refl e
routine_word null (What.Fixed w.Scan) x e = is_word w.Scan x routine.Scan refl e
routine_word null (What.Fixed w.Create) x e = is_word_by null w.Create x routine.Create refl e
routine_word null (What.Fixed w.Join) x e = is_word_by null w.Join x routine.Join refl e
routine_word null (What.Fixed w.InitMutex) x e = is_word_by null w.InitMutex x routine.InitMutex refl e
routine_word null (What.Fixed w.InitCondition) x e = is_word_by null w.InitCondition x routine.InitCondition refl e
routine_word null (What.Fixed w.Lock) x e = is_word w.Lock x routine.Lock refl e
routine_word null (What.Fixed w.Unlock) x e = is_word w.Unlock x routine.Unlock refl e
routine_word null (What.Fixed w.Wait) x e = is_word w.Wait x routine.Wait refl e
routine_word null (What.Fixed w.Signal) x e = is_word w.Signal x routine.Signal refl e
routine_word null (What.Fixed w.Broadcast) x e = is_word w.Broadcast x routine.Broadcast refl e
routine_word null (What.Fixed w.Take) x e = is_word w.Take x routine.Take refl e
routine_word null (What.Fixed w.Give) x e = is_word w.Give x routine.Give refl e
routine_word null (What.Fixed w.ControlledWait) x e = is_word w.ControlledWait x routine.ControlledWait refl e
routine_word null _ x e = absurd cc

pub number_is : (a : What) (n : ℕ) → number_of a ≡ Some n → a ≡ What.Number n
number_is (What.Number m) n e = let same : m ≡ n = cc in ap (λ (x : ℕ). What.Number x) same
number_is _ n e = absurd cc

pub text_is : (a : What) (f : List ℕ) → text_of a ≡ Some f → a ≡ What.Text f
text_is (What.Text h) f e = let same : h ≡ f = cc in ap (λ (x : List ℕ). What.Text x) same
text_is _ f e = absurd cc

-- a word, the parenthesis behind it, and what they begin
pub called_spelled : (k : Kind) (t t2 : Item) (ts rest : List Item) (x : Routine) (y : Tall (List Stmt)) → what_at t ≡ What.Fixed (word_of x) → is_sign s.LeftParenthesis (what_at t2) ≡ true
    → ((m : ℕ) → SpellsSimple k (fixed (line_in t) (word_of x) ∷ sign m s.LeftParenthesis ∷ ts) rest y) → SpellsSimple k (t ∷ t2 ∷ ts) rest y
called_spelled k (at l a) (at m b) ts rest x y e q h = rw (e, is_sign_only s.LeftParenthesis b q) (h m)

-- , NULL ) behind any relation
pub null_spelled : (R : List Item → Type 0) (t1 t2 t3 : Item) (rest : List Item) → is_sign s.Comma (what_at t1) ≡ true → is_null (what_at t2) ≡ true → is_sign s.RightParenthesis (what_at t3) ≡ true
    → R (t1 ∷ t2 ∷ t3 ∷ rest) → (n i j : ℕ) × R (sign n s.Comma ∷ fixed i w.Null ∷ sign j s.RightParenthesis ∷ rest)
null_spelled R (at n a) (at i b) (at j c) rest q1 q2 q3 d = (
  n,
  i,
  j,
  subst (λ (z : What). R (sign n s.Comma ∷ fixed i w.Null ∷ at j z ∷ rest)) (is_sign_only s.RightParenthesis c q3)
      (subst (λ (z : What). R (sign n s.Comma ∷ at i z ∷ at j c ∷ rest)) (null_only b q2)
      (subst (λ (z : What). R (at n z ∷ at i b ∷ at j c ∷ rest)) (is_sign_only s.Comma a q1) d)),
)

format_only : (a : What) → is_number_format a ≡ true → a ≡ What.Text number_format
format_only (What.Text f) e = ap (λ (x : List ℕ). What.Text x) ((bytes_eq-Decides f number_format).0 e)
format_only _ e = absurd cc

pub scan_spelled : (k : Kind) (l m : ℕ) (t1 t2 : Item) (ts rest : List Item) (p : Tall Place) → is_number_format (what_at t1) ≡ true → is_sign s.Comma (what_at t2) ≡ true
    → (n : ℕ) × SpellsAddress ts (sign n s.RightParenthesis ∷ rest) p → SpellsSimple k (fixed l w.Scan ∷ sign m s.LeftParenthesis ∷ t1 ∷ t2 ∷ ts) rest (alone (lined.Read l p.tree) p.levels)
scan_spelled k l m (at n a) (at i b) ts rest p q1 q2 d = rw (format_only a q1, is_sign_only s.Comma b q2) (g.scan d.1)

pub print_spelled : (k : Kind) (l m : ℕ) (t1 t2 : Item) (rest : List Item) (f : List ℕ) → what_at t1 ≡ What.Text f → what_at t2 ≡ What.Sign s.RightParenthesis
    → SpellsSimple k (fixed l w.Print ∷ sign m s.LeftParenthesis ∷ t1 ∷ t2 ∷ rest) rest (printed l f no_arguments)
print_spelled k l m (at n a) (at i b) rest f q1 q2 = rw (q1, q2) g.print

pub print_with_spelled : (k : Kind) (l m : ℕ) (t1 t2 t3 : Item) (ts rest : List Item) (f : List ℕ) (all : List (Tall Expr)) (a : Tall (List Expr)) → what_at t1 ≡ What.Text f → what_at t2 ≡ What.Sign s.Comma
    → is_sign s.RightParenthesis (what_at t3) ≡ true → SpellsExpressions ts (t3 ∷ rest) all → gathered all ≡ a
    → SpellsSimple k (fixed l w.Print ∷ sign m s.LeftParenthesis ∷ t1 ∷ t2 ∷ ts) rest (printed l f (as_arguments a))
print_with_spelled k l m (at n a) (at i b) (at j c) ts rest f all x q1 q2 q3 d e =
    rw (q1, q2, sym e) (g.print_with (subst (λ (z : What). SpellsExpressions ts (at j z ∷ rest) all) (is_sign_only s.RightParenthesis c q3) d))

pub create_spelled : (k : Kind) (l m : ℕ) (t1 t2 t3 t4 t5 t6 : Item) (ts mid rest : List Item) (p : Tall Place) (f : List ℕ) (e : Tall Expr) → is_sign s.Comma (what_at t1) ≡ true → is_null (what_at t2) ≡ true
    → is_sign s.Comma (what_at t3) ≡ true → name_of (what_at t4) ≡ Some f → is_sign s.Comma (what_at t5) ≡ true → is_sign s.RightParenthesis (what_at t6) ≡ true
    → SpellsAddress ts (t1 ∷ t2 ∷ t3 ∷ t4 ∷ t5 ∷ mid) p → SpellsArgument mid (t6 ∷ rest) e
    → SpellsSimple k (fixed l w.Create ∷ sign m s.LeftParenthesis ∷ ts) rest (created l p f e)
create_spelled k l m (at n a) (at i b) (at j c) (at h d) (at o x) (at z y) ts mid rest p f e q1 q2 q3 q4 q5 q6 u v =
    let one = subst (λ (w : What). SpellsAddress ts (at n w ∷ at i b ∷ at j c ∷ at h d ∷ at o x ∷ mid) p) (is_sign_only s.Comma a q1) u in
    let two = subst (λ (w : What). SpellsAddress ts (sign n s.Comma ∷ at i w ∷ at j c ∷ at h d ∷ at o x ∷ mid) p) (null_only b q2) one in
    let three = subst (λ (z : What). SpellsAddress ts (sign n s.Comma ∷ fixed i w.Null ∷ at j z ∷ at h d ∷ at o x ∷ mid) p) (is_sign_only s.Comma c q3) two in
    let five = subst (λ (z : What). SpellsAddress ts (sign n s.Comma ∷ fixed i w.Null ∷ sign j s.Comma ∷ at h d ∷ at o z ∷ mid) p) (is_sign_only s.Comma x q5) three in
    g.create five q4 (subst (λ (w : What). SpellsArgument mid (at z w ∷ rest) e) (is_sign_only s.RightParenthesis y q6) v)

pub wait_spelled : (k : Kind) (l m : ℕ) (t1 : Item) (ts mid rest : List Item) (p q : Tall Place) → is_sign s.Comma (what_at t1) ≡ true → SpellsAddress ts (t1 ∷ mid) p
    → (n : ℕ) × SpellsAddress mid (sign n s.RightParenthesis ∷ rest) q → SpellsSimple k (fixed l w.Wait ∷ sign m s.LeftParenthesis ∷ ts) rest (waited l p q [])
wait_spelled k l m (at n a) ts mid rest p q e d f = g.wait (subst (λ (z : What). SpellsAddress ts (at n z ∷ mid) p) (is_sign_only s.Comma a e) d) f.1

one_only : (a : What) → is_one a ≡ true → a ≡ What.Number 1
one_only (What.Number n) e = ap (λ (m : ℕ). What.Number m) (eqb-true n 1 e)
one_only _ e = absurd cc

pub first_take_spelled : (t1 t2 : Item) (rest : List Item) (k : ℕ) → what_at t1 ≡ What.Number k → is_sign s.Comma (what_at t2) ≡ true → (l : ℕ) × Commas SpellsNumber (t1 ∷ t2 ∷ rest) (sign l s.Comma ∷ rest) (k ∷ [])
first_take_spelled (at n a) (at i b) rest k q1 q2 = rw (q1, is_sign_only s.Comma b q2) (i, one number)

-- one number more, and the comma behind it
pub take_spelled : (t1 t2 : Item) (ts rest : List Item) (all : List ℕ) (k : ℕ) → what_at t1 ≡ What.Number k → is_sign s.Comma (what_at t2) ≡ true → (l : ℕ) × Commas SpellsNumber ts (sign l s.Comma ∷ t1 ∷ t2 ∷ rest) all
    → (l : ℕ) × Commas SpellsNumber ts (sign l s.Comma ∷ rest) (all ++ k ∷ [])
take_spelled (at n a) (at i b) ts rest all k q1 q2 d =
    let first = subst (λ (z : What). Commas SpellsNumber ts (sign d.0 s.Comma ∷ at n z ∷ at i b ∷ rest) all) q1 d.1 in
    (i, more (subst (λ (z : What). Commas SpellsNumber ts (sign d.0 s.Comma ∷ at n (What.Number k) ∷ at i z ∷ rest) all) (is_sign_only s.Comma b q2) first) number)

-- the numbers, up to their end
abbrev pub Takes : List Item → List Item → List ℕ → Type 0
Takes ts rest all = (j g h d : ℕ) × Commas SpellsNumber ts (sign j s.Comma ∷ sign g s.Minus ∷ at h (What.Number 1) ∷ sign d s.RightParenthesis ∷ rest) all

pub takes_spelled : (t1 t2 t3 : Item) (ts rest : List Item) (all : List ℕ) → is_sign s.Minus (what_at t1) ≡ true → is_one (what_at t2) ≡ true → is_sign s.RightParenthesis (what_at t3) ≡ true
    → (l : ℕ) × Commas SpellsNumber ts (sign l s.Comma ∷ t1 ∷ t2 ∷ t3 ∷ rest) all → Takes ts rest all
takes_spelled (at n a) (at i b) (at o c) ts rest all q1 q2 q3 d = (
  d.0,
  n,
  i,
  o,
  subst (λ (z : What). Commas SpellsNumber ts (sign d.0 s.Comma ∷ sign n s.Minus ∷ at i (What.Number 1) ∷ at o z ∷ rest) all) (is_sign_only s.RightParenthesis c q3)
      (subst (λ (z : What). Commas SpellsNumber ts (sign d.0 s.Comma ∷ sign n s.Minus ∷ at i z ∷ at o c ∷ rest) all) (one_only b q2)
      (subst (λ (z : What). Commas SpellsNumber ts (sign d.0 s.Comma ∷ at n z ∷ at i b ∷ at o c ∷ rest) all) (is_sign_only s.Minus a q1) d.1)),
)

pub controlled_wait_spelled : (k : Kind) (l m : ℕ) (t1 t2 : Item) (ts mid next rest : List Item) (p q : Tall Place) (all : List ℕ) → is_sign s.Comma (what_at t1) ≡ true → is_sign s.Comma (what_at t2) ≡ true
    → SpellsAddress ts (t1 ∷ mid) p → SpellsAddress mid (t2 ∷ next) q → Takes next rest all → SpellsSimple k (fixed l w.ControlledWait ∷ sign m s.LeftParenthesis ∷ ts) rest (waited l p q all)
controlled_wait_spelled k l m (at n a) (at i b) ts mid next rest p q all q1 q2 x y z =
    let one = subst (λ (w : What). SpellsAddress ts (at n w ∷ mid) p) (is_sign_only s.Comma a q1) x in
    g.controlled_wait one (subst (λ (w : What). SpellsAddress mid (at i w ∷ next) q) (is_sign_only s.Comma b q2) y) z.4

pub number_spelled : (R : List Item → Type 0) (t1 t2 : Item) (rest : List Item) (x : ℕ) → what_at t1 ≡ What.Number x → is_sign s.RightParenthesis (what_at t2) ≡ true
    → ((n i : ℕ) → R (at n (What.Number x) ∷ sign i s.RightParenthesis ∷ rest)) → R (t1 ∷ t2 ∷ rest)
number_spelled R (at n a) (at i b) rest x q1 q2 h = rw (q1, is_sign_only s.RightParenthesis b q2) (h n i)

-- ---- words of statements

pub return_spelled : (k : Kind) (t : Item) (ts rest : List Item) (e : Tall (Option Expr)) → what_at t ≡ What.Fixed w.Return → g.SpellsResult k ts rest e → SpellsSimple k (t ∷ ts) rest (returned (line_in t) e.tree e.levels)
return_spelled k (at l a) ts rest e q d = rw q (g.give_back d)

pub no_value_spelled : (t : Item) (rest : List Item) → is_no_value (what_at t) ≡ true → g.SpellsResult kind.Thread (t ∷ rest) rest (tall None 0)
no_value_spelled (at l a) rest e = go (no_value_only a e)
  where
    go : (a ≡ What.Fixed w.Null) ⊎ (a ≡ What.Number 0) → g.SpellsResult kind.Thread (at l a ∷ rest) rest (tall None 0)
    go (inl q) = rw q g.null_of_thread
    go (inr q) = rw q g.zero_of_thread

pub call_spelled : (k : Kind) (t : Item) (ts rest : List Item) (c : Tall Called) → SpellsCall (t ∷ ts) rest c → SpellsSimple k (t ∷ ts) rest (call_statement (line_in t) c)
call_spelled k (at l a) ts rest c d = g.call d
