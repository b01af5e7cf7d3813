-- Which uses of a statement name functions.
use Rattle.std.proofs.Common.{List, [], ap, cond, false, inl, inr, refl, sym, true, ℕ, ◌++◌, ◌∙◌, ◌∷◌, ◌≡◌, ◌⊎◌}
use Rattle.std.specs.Prelude.{None, Some, is_some}
use Rattle.std.specs.declared.option.Option.{Option}
use Rattle.c_tree.specs.Lined.{Assign, Broadcast, Call, Create, Declare, For, Give, If, InitCond, InitMutex, Join, Lock, Print, Read, Return, Signal, Stmt, Take, TryLock, Unlock, Wait, While}
use Rattle.c_tree.specs.Expressions.{Arg, Binary, Element, Expr, Exprs, Minus, Name, Not, Number, Place}
use Rattle.c_tree.specs.Expressions as tree
use Rattle.c_rules.specs.declared.role.Role.{Role}
use Rattle.c_rules.specs.declared.role.Role.TheVariants.{Called, Cast, OfCondition, OfMutex, OfThread, Start, Value}
use Rattle.c_rules.specs.Uses.{Use, of_expr, of_exprs, of_place, of_target, of_value, plain, uses_of}
use Rattle.c_rules.proofs.Members.{In, in_append_cases}
use Rattle.rule_facts.proofs.Tests.{first_part}
use Rattle.rule_facts.specs.Meant.{names_function}

-- what names a function is called or started
pub data NamesFunction (s : Stmt) (u : Use) : Type 0 where
  calls_it : (line : ℕ) (target : Option Place) (args : Exprs) → s ≡ Call line target u.name args → NamesFunction s u
  starts_it : (line : ℕ) (slot : Place) (arg : Expr) → s ≡ Create line slot u.name arg → NamesFunction s u

-- none of these uses names a function
abbrev NoFunctions : List Use → Type 0
NoFunctions us = (u : Use) → In u us → names_function u.role ≡ false

join_none : (us vs : List Use) → NoFunctions us → NoFunctions vs → NoFunctions (us ++ vs)
join_none us vs a b u at = elim (in_append_cases us vs u at) [ inl h ↦ a u h | inr h ↦ b u h ]

one_none : (v : Use) (us : List Use) → names_function v.role ≡ false → NoFunctions us → NoFunctions (v ∷ us)
one_none v us a b u (inl e) = ap (λ (w : Use). names_function w.role) (sym e) ∙ a
one_none v us a b u (inr h) = b u h

expr_none : (e : Expr) → NoFunctions (of_expr e)
expr_none (Number k) = λ u at. absurd at
expr_none (Name name) = one_none (plain Value name) [] refl (λ u at. absurd at)
expr_none (Element name index) = one_none (record { name = name; role = Value; indexed = true }) (of_expr index) refl (expr_none index)
expr_none (Arg name) = one_none (plain Cast name) [] refl (λ u at. absurd at)
expr_none (Not operand) = expr_none operand
expr_none (Minus operand) = expr_none operand
expr_none (Binary op left right) = join_none (of_expr left) (of_expr right) (expr_none left) (expr_none right)

exprs_none : (es : Exprs) → NoFunctions (of_exprs es)
exprs_none tree.Nil = λ u at. absurd at
exprs_none (tree.Cons e es) = join_none (of_expr e) (of_exprs es) (expr_none e) (exprs_none es)

value_none : (o : Option Expr) → NoFunctions (of_value o)
value_none None = λ u at. absurd at
value_none (Some e) = expr_none e

place_none : (role : Role) (place : Place) → names_function role ≡ false → NoFunctions (of_place role place)
place_none role place is = one_none (record { name = place.name; role = role; indexed = is_some place.index }) (of_value place.index) is (value_none place.index)

target_none : (o : Option Place) → NoFunctions (of_target o)
target_none None = λ u at. absurd at
target_none (Some place) = place_none Value place refl

quiet : (s : Stmt) (u : Use) → NoFunctions (uses_of s) → In u (uses_of s) → names_function u.role ≡ true → NamesFunction s u
quiet s u free at is = let k : false ≡ true = sym (free u at) ∙ is in absurd (cc k)

of_call : (line : ℕ) (target : Option Place) (name : List ℕ) (args : Exprs) (u : Use) → In u (of_target target) ⊎ In u (plain (Called (is_some target)) name ∷ of_exprs args) → names_function u.role ≡ true
    → NamesFunction (Call line target name args) u
of_call line target name args u (inl h) is = let k : false ≡ true = sym (target_none target u h) ∙ is in absurd (cc k)
of_call line target name args u (inr (inl e)) is = NamesFunction.calls_it line target args (ap (λ (w : Use). Call line target w.name args) e)
of_call line target name args u (inr (inr h)) is = let k : false ≡ true = sym (exprs_none args u h) ∙ is in absurd (cc k)

of_create : (line : ℕ) (slot : Place) (name : List ℕ) (arg : Expr) (u : Use) → In u (of_place OfThread slot) ⊎ In u (plain Start name ∷ of_expr arg) → names_function u.role ≡ true → NamesFunction (Create line slot name arg) u
of_create line slot name arg u (inl h) is = let k : false ≡ true = sym (place_none OfThread slot refl u h) ∙ is in absurd (cc k)
of_create line slot name arg u (inr (inl e)) is = NamesFunction.starts_it line slot arg (ap (λ (w : Use). Create line slot w.name arg) e)
of_create line slot name arg u (inr (inr h)) is = let k : false ≡ true = sym (expr_none arg u h) ∙ is in absurd (cc k)

pub names_it : (s : Stmt) (u : Use) → In u (uses_of s) → names_function u.role ≡ true → NamesFunction s u
names_it (Declare line name value) u = quiet (Declare line name value) u (value_none value)
names_it (Assign line target value) u = quiet (Assign line target value) u (join_none (of_place Value target) (of_expr value) (place_none Value target refl) (expr_none value))
names_it (Call line target name args) u = λ at. of_call line target name args u (in_append_cases (of_target target) (plain (Called (is_some target)) name ∷ of_exprs args) u at)
names_it (If line test a b) u = quiet (If line test a b) u (expr_none test)
names_it (While line test body) u = quiet (While line test body) u (expr_none test)
names_it (For line first_part test step body) u = quiet (For line first_part test step body) u (expr_none test)
names_it (Return line value) u = quiet (Return line value) u (value_none value)
names_it (Read line target) u = quiet (Read line target) u (place_none Value target refl)
names_it (Print line format args) u = quiet (Print line format args) u (exprs_none args)
names_it (Create line slot name arg) u = λ at. of_create line slot name arg u (in_append_cases (of_place OfThread slot) (plain Start name ∷ of_expr arg) u at)
names_it (Join line slot) u = quiet (Join line slot) u (place_none OfThread slot refl)
names_it (InitMutex line place) u = quiet (InitMutex line place) u (place_none OfMutex place refl)
names_it (InitCond line place) u = quiet (InitCond line place) u (place_none OfCondition place refl)
names_it (Lock line place) u = quiet (Lock line place) u (place_none OfMutex place refl)
names_it (TryLock line place a b) u = quiet (TryLock line place a b) u (place_none OfMutex place refl)
names_it (Unlock line place) u = quiet (Unlock line place) u (place_none OfMutex place refl)
names_it (Wait line cond mutex takes) u =
    quiet (Wait line cond mutex takes) u (join_none (of_place OfCondition cond) (of_place OfMutex mutex) (place_none OfCondition cond refl) (place_none OfMutex mutex refl))
names_it (Signal line cond) u = quiet (Signal line cond) u (place_none OfCondition cond refl)
names_it (Broadcast line cond) u = quiet (Broadcast line cond) u (place_none OfCondition cond refl)
names_it (Take line monitor) u = quiet (Take line monitor) u (λ v at. absurd at)
names_it (Give line monitor) u = quiet (Give line monitor) u (λ v at. absurd at)
