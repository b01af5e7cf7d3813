-- An edited statement uses the names that the statement uses, functions through r.
use Rattle.std.proofs.Common.{List, ap, cond, false, refl, true, ℕ, ◌++◌, ◌∙◌, ◌∷◌, ◌≡◌}
use Rattle.std.specs.Prelude.{IsTrue, None, Some, if◌then◌else◌, is_some, map}
use Rattle.std.proofs.lemmas.List.{map-append}
use Rattle.std.specs.declared.option.Option.{Option}
use Rattle.c_tree.specs.Bare as bare
use Rattle.c_tree.specs.Lined.{Assign, Broadcast, Call, Create, Declare, For, Give, If, InitCond, InitMutex, Join, Lock, Print, Read, Return, Signal, Stmt, Take, TryLock, Unlock, Wait, While}
use Rattle.c_tree.specs.Expressions.{Arg, Binary, Element, Expr, Exprs, Minus, Name, Not, Number, Place}
use Rattle.c_tree.specs.Expressions as tree
use Rattle.c_rules.specs.declared.role.Role.{Role}
use Rattle.c_rules.specs.declared.role.Role.TheVariants.{Called, OfCondition, OfMutex, OfThread, Start, Value}
use Rattle.c_rules.specs.Uses.{Use, of_expr, of_exprs, of_place, of_target, of_value, plain, uses_of}
use Rattle.rule_facts.proofs.Tests.{first_part}
use Rattle.rule_facts.specs.Meant.{names_function}
use Rattle.kept_rules.proofs.Lines.{by_lines, put_on}
use Rattle.kept_rules.specs.Edit.{EditOf, Way, is_simple}

-- a use of q as one of p
abbrev pub read : Way → Use → Use
read r u = record { name = if names_function u.role then r.name u.name else u.name; role = u.role; indexed = u.indexed }

read_expr : (r : Way) (e : Expr) → map (read r) (of_expr e) ≡ of_expr e
read_expr r (Number k) = refl
read_expr r (Name name) = refl
read_expr r (Element name index) = ap (λ us. record { name = name; role = Value; indexed = true } ∷ us) (read_expr r index)
read_expr r (Arg name) = refl
read_expr r (Not operand) = read_expr r operand
read_expr r (Minus operand) = read_expr r operand
read_expr r (Binary op left right) =
    let a = read_expr r left in let b = read_expr r right in map-append (read r) (of_expr left) (of_expr right) ∙ cc (a, b)

read_exprs : (r : Way) (es : Exprs) → map (read r) (of_exprs es) ≡ of_exprs es
read_exprs r tree.Nil = refl
read_exprs r (tree.Cons e es) = let a = read_expr r e in let b = read_exprs r es in map-append (read r) (of_expr e) (of_exprs es) ∙ cc (a, b)

read_value : (r : Way) (e : Option Expr) → map (read r) (of_value e) ≡ of_value e
read_value r None = refl
read_value r (Some e) = read_expr r e

read_place : (r : Way) (role : Role) (place : Place) → names_function role ≡ false → map (read r) (of_place role place) ≡ of_place role place
read_place r role place e =
    ap (λ b. record { name = if b then r.name place.name else place.name; role = role; indexed = is_some place.index } ∷ map (read r) (of_value place.index)) e
    ∙ ap (λ us. record { name = place.name; role = role; indexed = is_some place.index } ∷ us) (read_value r place.index)

read_target : (r : Way) (target : Option Place) → map (read r) (of_target target) ≡ of_target target
read_target r None = refl
read_target r (Some place) = read_place r Value place refl

two : (r : Way) (xs ys : List Use) → map (read r) xs ≡ xs → map (read r) ys ≡ ys → map (read r) (xs ++ ys) ≡ xs ++ ys
two r xs ys a b = map-append (read r) xs ys ∙ cc (a, b)

read_simple : (r : Way) (s : Stmt) → IsTrue (is_simple s) → map (read r) (uses_of s) ≡ uses_of s
read_simple r (Declare line name value) is = read_value r value
read_simple r (Assign line target value) is = two r (of_place Value target) (of_expr value) (read_place r Value target refl) (read_expr r value)
read_simple r (Call line target function args) is = cc is
read_simple r (If line test a b) is = cc is
read_simple r (While line test body) is = cc is
read_simple r (For line first_part test step body) is = cc is
read_simple r (Return line value) is = read_value r value
read_simple r (Read line target) is = read_place r Value target refl
read_simple r (Print line format args) is = read_exprs r args
read_simple r (Create line slot function arg) is = cc is
read_simple r (Join line slot) is = read_place r OfThread slot refl
read_simple r (InitMutex line place) is = read_place r OfMutex place refl
read_simple r (InitCond line place) is = read_place r OfCondition place refl
read_simple r (Lock line place) is = read_place r OfMutex place refl
read_simple r (Unlock line place) is = read_place r OfMutex place refl
read_simple r (TryLock line place a b) is = cc is
read_simple r (Wait line cond mutex takes) is = cc is
read_simple r (Signal line cond) is = read_place r OfCondition cond refl
read_simple r (Broadcast line cond) is = read_place r OfCondition cond refl
read_simple r (Take line monitor) is = refl
read_simple r (Give line monitor) is = refl

uses_on : (l m : ℕ) (b : bare.Stmt) → uses_of (put_on l b) ≡ uses_of (put_on m b)
uses_on l m (bare.Declare name value) = refl
uses_on l m b = refl

pub uses_read : (r : Way) (s t : Stmt) → EditOf r s t → map (read r) (uses_of s) ≡ uses_of t
uses_read r s t (EditOf.same u v a b e) = read_simple r s a ∙ by_lines uses_of uses_on s t a b e
uses_read r s t (EditOf.call l m target name args) =
    let a = read_target r target in let b = read_exprs r args in
    map-append (read r) (of_target target) (plain (Called (is_some target)) name ∷ of_exprs args) ∙ cc (a, b)
uses_read r s t (EditOf.create l m slot name arg) =
    let a = read_place r OfThread slot refl in let b = read_expr r arg in
    map-append (read r) (of_place OfThread slot) (plain Start name ∷ of_expr arg) ∙ cc (a, b)
uses_read r s t (EditOf.branch l m test a b c d x y) = read_expr r test
uses_read r s t (EditOf.loop l m test a c x) = read_expr r test
uses_read r s t (EditOf.counted l m test f st b fo so o x y z) = read_expr r test
uses_read r s t (EditOf.wait l m cond mutex takes others x) =
    two r (of_place OfCondition cond) (of_place OfMutex mutex) (read_place r OfCondition cond refl) (read_place r OfMutex mutex refl)
uses_read r s t (EditOf.attempt l m place a b c d x y) = read_place r OfMutex place refl
