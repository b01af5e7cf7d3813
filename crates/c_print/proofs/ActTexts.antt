-- The texts of statements, part by part.
use Rattle.std.proofs.Common.{◌≡◌, ◌<◌, ℕ, length, arith, List, [], ◌∷◌, ◌++◌, codes, map, refl, sym, ◌∙◌, ap, append_assoc, Option, Some}
use Rattle.std.proofs.lemmas.Fmt.{decimal_digit}
use Rattle.c_lexer.specs.declared.token.Sign.TheVariants as s
use Rattle.c_layout.specs.Layout.{Item, text, word, number, sign, space}
use Rattle.c_layout.proofs.Readings.{text_append}
use Rattle.c_tree.specs.declared.program.Kind.{Kind}
use Rattle.c_tree.specs.declared.program.Kind.TheVariants as k
use Rattle.c_tree.specs.Expressions.{Expr, Exprs, Place}
use Rattle.c_tree.specs.Bare.{Stmts, Declare, Call, Read, Print, Create}
use Rattle.c_canonical.specs.Expressions.{expression, expressions, place, is_binary, wrapped, followed, separated, numeral}
use Rattle.c_canonical.specs.Statements.{called, address, with_null, assigned, initial, argument_cast, returned, taking, waited, simple, part, tried, headed}
use Rattle.c_print.proofs.Chains.{chain2, chain3, chain4, chain5, chain6, chain7}

-- the end of a call
abbrev closed : List Item
closed = sign s.RightParenthesis ∷ []

-- the last argument of a create, behind a comma and a space
abbrev cast_text : Expr → List ℕ
cast_text arg = 44 ∷ 32 ∷ text (argument_cast ++ wrapped (is_binary arg) (expression arg))

-- the arguments of a create behind the first
abbrev started : List ℕ → Expr → List Item
started function arg = with_null ++ sign s.Comma ∷ space ∷ word function ∷ sign s.Comma ∷ space ∷ (argument_cast ++ wrapped (is_binary arg) (expression arg))

-- the parts of a `for`
abbrev pub for_rest : Kind → Expr → Stmts → List Item
for_rest kind test step = sign s.Semicolon ∷ space ∷ (expression test ++ sign s.Semicolon ∷ space ∷ part kind step)

abbrev pub for_parts : Kind → Stmts → Expr → Stmts → List Item
for_parts kind first_part test step = part kind first_part ++ for_rest kind test step

for_shape : (kind : Kind) (first_part : Stmts) (test : Expr) (step : Stmts) → text (headed (codes "for") (for_parts kind first_part test step))
    ≡ codes "for (" ++ (text (part kind first_part) ++ (codes "; " ++ (text (expression test) ++ (codes "; " ++ (text (part kind step) ++ codes ") ")))))
for_shape kind first_part test step =
    let f = text (part kind first_part) in
    let middle = text (expression test) ++ 59 ∷ 32 ∷ text (part kind step) in
    let inner : text (for_rest kind test step) ≡ 59 ∷ 32 ∷ middle = ap (λ x. 59 ∷ 32 ∷ x) (text_append (expression test) (sign s.Semicolon ∷ space ∷ part kind step)) in
    ap (λ x. codes "for (" ++ x) (text_append (for_parts kind first_part test step) (sign s.RightParenthesis ∷ space ∷ [])
    ∙ ap (λ x. x ++ codes ") ") (text_append (part kind first_part) (for_rest kind test step) ∙ ap (λ x. f ++ x) inner)
    ∙ append_assoc f (59 ∷ 32 ∷ middle) (codes ") ")
    ∙ ap (λ x. f ++ 59 ∷ 32 ∷ x) (append_assoc (text (expression test)) (59 ∷ 32 ∷ text (part kind step)) (codes ") ")))

pub declare_text : (old first second third : List ℕ) (kind : Kind) (name : List ℕ) (value : Option Expr)
    → first ≡ old ++ codes "int " → second ≡ first ++ name → third ≡ second ++ text (initial value) → third ≡ old ++ text (simple kind (Declare name value))
declare_text old first second third kind name value p0 p1 p2 =
    chain3 old first second third (codes "int ") name (text (initial value)) (text (simple kind (Declare name value))) p0 p1 p2
    refl

pub call_text : (old first second third fourth fifth : List ℕ) (kind : Kind) (target : Option Place) (function : List ℕ) (args : Exprs)
    → first ≡ old ++ text (assigned target) → second ≡ first ++ function → third ≡ second ++ codes "(" → fourth ≡ third ++ text (separated (expressions args)) → fifth ≡ fourth ++ codes ")" → fifth ≡ old ++ text (simple kind (Call target function args))
call_text old first second third fourth fifth kind target function args p0 p1 p2 p3 p4 =
    chain5 old first second third fourth fifth (text (assigned target)) function (codes "(") (text (separated (expressions args))) (codes ")") (text (simple kind (Call target function args))) p0 p1 p2 p3 p4
    (text_append (assigned target) (called function (separated (expressions args)))
    ∙ ap (λ x. text (assigned target) ++ (function ++ 40 ∷ x)) (text_append (separated (expressions args)) closed))

pub return_value_text : (old first second : List ℕ) (e : Expr)
    → first ≡ old ++ codes "return " → second ≡ first ++ text (expression e) → second ≡ old ++ text (returned k.Main (Some e))
return_value_text old first second e p0 p1 =
    chain2 old first second (codes "return ") (text (expression e)) (text (returned k.Main (Some e))) p0 p1
    refl

pub read_text : (old first second third : List ℕ) (kind : Kind) (target : Place)
    → first ≡ old ++ codes "scanf(\"%d\", &" → second ≡ first ++ text (place target) → third ≡ second ++ codes ")" → third ≡ old ++ text (simple kind (Read target))
read_text old first second third kind target p0 p1 p2 =
    chain3 old first second third (codes "scanf(\"%d\", &") (text (place target)) (codes ")") (text (simple kind (Read target))) p0 p1 p2
    (ap (λ x. codes "scanf(\"%d\", &" ++ x) (text_append (place target) closed))

pub print_text : (old first second third fourth fifth : List ℕ) (kind : Kind) (format : List ℕ) (args : Exprs)
    → first ≡ old ++ codes "printf(\"" → second ≡ first ++ format → third ≡ second ++ codes "\"" → fourth ≡ third ++ text (followed (expressions args)) → fifth ≡ fourth ++ codes ")" → fifth ≡ old ++ text (simple kind (Print format args))
print_text old first second third fourth fifth kind format args p0 p1 p2 p3 p4 =
    chain5 old first second third fourth fifth (codes "printf(\"") format (codes "\"") (text (followed (expressions args))) (codes ")") (text (simple kind (Print format args))) p0 p1 p2 p3 p4
    (ap (λ x. codes "printf(\"" ++ x) (append_assoc format (34 ∷ []) (text (followed (expressions args) ++ closed))
    ∙ ap (λ x. format ++ 34 ∷ x) (text_append (followed (expressions args)) closed)))

pub create_argument_text : (old first second : List ℕ) (arg : Expr)
    → first ≡ old ++ codes ", (void *)(long)" → second ≡ first ++ text (wrapped (is_binary arg) (expression arg)) → second ≡ old ++ cast_text arg
create_argument_text old first second arg p0 p1 =
    chain2 old first second (codes ", (void *)(long)") (text (wrapped (is_binary arg) (expression arg))) (cast_text arg) p0 p1
    refl

pub create_text : (old first second third fourth fifth sixth : List ℕ) (kind : Kind) (slot : Place) (function : List ℕ) (arg : Expr)
    → first ≡ old ++ codes "pthread_create(&" → second ≡ first ++ text (place slot) → third ≡ second ++ codes ", NULL, " → fourth ≡ third ++ function → fifth ≡ fourth ++ cast_text arg → sixth ≡ fifth ++ codes ")" → sixth ≡ old ++ text (simple kind (Create slot function arg))
create_text old first second third fourth fifth sixth kind slot function arg p0 p1 p2 p3 p4 p5 =
    chain6 old first second third fourth fifth sixth (codes "pthread_create(&") (text (place slot)) (codes ", NULL, ") function (cast_text arg) (codes ")") (text (simple kind (Create slot function arg))) p0 p1 p2 p3 p4 p5
    (ap (λ x. codes "pthread_create(&" ++ x) (text_append (place slot ++ started function arg) closed
    ∙ ap (λ x. x ++ codes ")") (text_append (place slot) (started function arg))
    ∙ append_assoc (text (place slot)) (text (started function arg)) (codes ")")
    ∙ ap (λ x. text (place slot) ++ (codes ", NULL, " ++ x)) (append_assoc function (cast_text arg) (codes ")"))))

pub init_call_text : (old first second third fourth : List ℕ) (function : List ℕ) (object : Place)
    → first ≡ old ++ function → second ≡ first ++ codes "(&" → third ≡ second ++ text (place object) → fourth ≡ third ++ codes ", NULL)" → fourth ≡ old ++ text (called function (address object ++ with_null))
init_call_text old first second third fourth function object p0 p1 p2 p3 =
    chain4 old first second third fourth function (codes "(&") (text (place object)) (codes ", NULL)") (text (called function (address object ++ with_null))) p0 p1 p2 p3
    (ap (λ x. function ++ (codes "(&" ++ x)) (text_append (place object ++ with_null) closed
    ∙ ap (λ x. x ++ codes ")") (text_append (place object) with_null) ∙ append_assoc (text (place object)) (codes ", NULL") (codes ")")))

pub object_call_text : (old first second third fourth : List ℕ) (function : List ℕ) (object : Place)
    → first ≡ old ++ function → second ≡ first ++ codes "(&" → third ≡ second ++ text (place object) → fourth ≡ third ++ codes ")" → fourth ≡ old ++ text (called function (address object))
object_call_text old first second third fourth function object p0 p1 p2 p3 =
    chain4 old first second third fourth function (codes "(&") (text (place object)) (codes ")") (text (called function (address object))) p0 p1 p2 p3
    (ap (λ x. function ++ (codes "(&" ++ x)) (text_append (place object) closed))

pub wait_text : (old first second third fourth fifth : List ℕ) (cond : Place) (mutex : Place)
    → first ≡ old ++ codes "pthread_cond_wait(&" → second ≡ first ++ text (place cond) → third ≡ second ++ codes ", &" → fourth ≡ third ++ text (place mutex) → fifth ≡ fourth ++ codes ")" → fifth ≡ old ++ text (waited cond mutex [])
wait_text old first second third fourth fifth cond mutex p0 p1 p2 p3 p4 =
    chain5 old first second third fourth fifth (codes "pthread_cond_wait(&") (text (place cond)) (codes ", &") (text (place mutex)) (codes ")") (text (waited cond mutex [])) p0 p1 p2 p3 p4
    (ap (λ x. codes "pthread_cond_wait(&" ++ x) (text_append (place cond ++ sign s.Comma ∷ space ∷ address mutex) closed
    ∙ ap (λ x. x ++ codes ")") (text_append (place cond) (sign s.Comma ∷ space ∷ address mutex))
    ∙ append_assoc (text (place cond)) (text (sign s.Comma ∷ space ∷ address mutex)) (codes ")")))

-- what follows the mutex of a wait that takes tokens, and the end of the call
taking_shape : (monitors : List ℕ) → text (taking monitors ++ closed) ≡ text (followed (map numeral monitors)) ++ codes ", -1)"
taking_shape monitors =
    let last : List Item = sign s.Comma ∷ space ∷ sign s.Minus ∷ number 1 ∷ [] in
    text_append (taking monitors) closed ∙ ap (λ x. x ++ codes ")") (text_append (followed (map numeral monitors)) last
    ∙ ap (λ x. text (followed (map numeral monitors)) ++ (codes ", -" ++ (x ++ []))) (decimal_digit 1 (omega arith)))
    ∙ append_assoc (text (followed (map numeral monitors))) (codes ", -1") (codes ")")

-- A list that has a first item.
pub record Begun (all : List ℕ) : Type 0 where
  pub first : ℕ
  pub more : List ℕ
  pub is : all ≡ first ∷ more

pub begun : (all : List ℕ) → 0 < length all → Begun all
begun [] some = absurd (omega (arith, some))
begun (k ∷ ks) some = record { first = k; more = ks; is = refl }

pub taking_text : (old first second third fourth fifth sixth : List ℕ) (cond mutex : Place) (given : List ℕ) (k : ℕ) (ks : List ℕ) → given ≡ k ∷ ks
    → first ≡ old ++ codes "gd_cond_wait(&" → second ≡ first ++ text (place cond) → third ≡ second ++ codes ", &" → fourth ≡ third ++ text (place mutex)
    → fifth ≡ fourth ++ text (followed (map numeral given)) → sixth ≡ fifth ++ codes ", -1)" → sixth ≡ old ++ text (waited cond mutex given)
taking_text old first second third fourth fifth sixth cond mutex given k ks is p0 p1 p2 p3 p4 p5 =
    let numbers = text (followed (map numeral given)) in
    let behind = address mutex ++ taking (k ∷ ks) in
    chain6 old first second third fourth fifth sixth (codes "gd_cond_wait(&") (text (place cond)) (codes ", &") (text (place mutex)) numbers (codes ", -1)") (text (waited cond mutex given)) p0 p1 p2 p3 p4 p5
    (ap (λ x. text (waited cond mutex x)) is
    ∙ ap (λ x. codes "gd_cond_wait(&" ++ text x) (append_assoc (place cond) (sign s.Comma ∷ space ∷ behind) closed)
    ∙ ap (λ x. codes "gd_cond_wait(&" ++ x) (text_append (place cond) (sign s.Comma ∷ space ∷ (behind ++ closed)))
    ∙ ap (λ x. codes "gd_cond_wait(&" ++ (text (place cond) ++ (codes ", &" ++ text x))) (append_assoc (place mutex) (taking (k ∷ ks)) closed)
    ∙ ap (λ x. codes "gd_cond_wait(&" ++ (text (place cond) ++ (codes ", &" ++ x))) (text_append (place mutex) (taking (k ∷ ks) ++ closed) ∙ ap (λ x. text (place mutex) ++ x) (taking_shape (k ∷ ks)))
    ∙ ap (λ x. codes "gd_cond_wait(&" ++ (text (place cond) ++ (codes ", &" ++ (text (place mutex) ++ (text (followed (map numeral x)) ++ codes ", -1)"))))) (sym is))

pub try_head_text : (old first second third : List ℕ) (mutex : Place)
    → first ≡ old ++ codes "if (pthread_mutex_trylock(&" → second ≡ first ++ text (place mutex) → third ≡ second ++ codes ") == 0) " → third ≡ old ++ text (headed (codes "if") (tried mutex))
try_head_text old first second third mutex p0 p1 p2 =
    let behind : List Item = space ∷ sign s.Equal ∷ space ∷ number 0 ∷ [] in
    let end : List Item = sign s.RightParenthesis ∷ space ∷ [] in
    chain3 old first second third (codes "if (pthread_mutex_trylock(&") (text (place mutex)) (codes ") == 0) ") (text (headed (codes "if") (tried mutex))) p0 p1 p2
    (ap (λ x. codes "if (pthread_mutex_trylock(&" ++ text x) (append_assoc (place mutex ++ closed) behind end ∙ append_assoc (place mutex) closed (behind ++ end))
    ∙ ap (λ x. codes "if (pthread_mutex_trylock(&" ++ x) (text_append (place mutex) (closed ++ (behind ++ end)))
    ∙ ap (λ x. codes "if (pthread_mutex_trylock(&" ++ (text (place mutex) ++ (codes ") == " ++ (x ++ codes ") ")))) (decimal_digit 0 (omega arith)))

pub for_head_text : (old first second third fourth fifth sixth seventh : List ℕ) (kind : Kind) (first_part : Stmts) (test : Expr) (step : Stmts)
    → first ≡ old ++ codes "for (" → second ≡ first ++ text (part kind first_part) → third ≡ second ++ codes "; " → fourth ≡ third ++ text (expression test) → fifth ≡ fourth ++ codes "; " → sixth ≡ fifth ++ text (part kind step) → seventh ≡ sixth ++ codes ") " → seventh ≡ old ++ text (headed (codes "for") (for_parts kind first_part test step))
for_head_text old first second third fourth fifth sixth seventh kind first_part test step p0 p1 p2 p3 p4 p5 p6 =
    chain7 old first second third fourth fifth sixth seventh (codes "for (") (text (part kind first_part)) (codes "; ") (text (expression test)) (codes "; ") (text (part kind step)) (codes ") ") (text (headed (codes "for") (for_parts kind first_part test step))) p0 p1 p2 p3 p4 p5 p6
    (for_shape kind first_part test step)
