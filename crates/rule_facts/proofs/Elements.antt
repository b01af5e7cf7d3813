-- Members that are read or set are of arrays.
use Rattle.std.proofs.Common.{List, ap, cond, inl, inr, refl, true, ℕ, ◌++◌, ◌∙◌, ◌∷◌, ◌≡◌}
use Rattle.std.specs.Prelude.{None, Some, is_some, map}
use Rattle.std.specs.List.{enumerate_from}
use Rattle.std.specs.declared.option.Option.{Option}
use Rattle.c_tree.specs.declared.program.Mode.{Mode}
use Rattle.c_tree.specs.Bare as bare
use Rattle.c_tree.specs.Lined.{Assign, Broadcast, Call, Create, Declare, For, Function, Give, If, InitCond, InitMutex, Join, Lock, Print, Program, Read, Return, Signal, Stmt, Take, TryLock, Unlock, Wait, While, bare_array, bare_stmt}
use Rattle.c_tree.specs.Expressions.{Arg, Binary, Element, Expr, Exprs, Minus, Name, Not, Number, Place}
use Rattle.c_tree.specs.Expressions as tree
use Rattle.c_rules.specs.declared.rule.Rule.TheVariants as rule
use Rattle.c_rules.specs.Sites.{Site, sites_in}
use Rattle.c_rules.specs.Formed.{KeepsRules}
use Rattle.c_rules.specs.declared.role.Role.{Role}
use Rattle.c_rules.specs.declared.role.Role.TheVariants.{Called, OfCondition, OfMutex, OfThread, Start, Value}
use Rattle.c_rules.specs.Declarations.{Thing, named}
use Rattle.c_rules.specs.Declarations as thing
use Rattle.c_rules.specs.Declarations.{Declaration}
use Rattle.c_rules.specs.Uses.{Use, fits, of_expr, of_exprs, of_place, of_target, of_value, plain, uses_of}
use Rattle.c_rules.specs.Meaning.{meaning}
use Rattle.c_rules.proofs.Members.{In, contains_of, in_append_left, in_append_right, in_flat_map, in_map}
use Rattle.rule_facts.proofs.Apart.{Declares}
use Rattle.rule_facts.proofs.Fixed.{in_fixed, is_function, taken}
use Rattle.rule_facts.proofs.Meant.{use_meant}
use Rattle.rule_facts.proofs.Objects.{DeclaredAs, declared_as, meant_outside}
use Rattle.rule_facts.proofs.Tests.{first_part}
use Rattle.rule_facts.specs.Elements.{ElementsFit, ElementsOf, ElementsOfAll, ElementsOfValue, MemberOf, NamesArray, TargetOf}

array_as : (p : Program) (d : Declaration) (n : List ℕ) → d.name ≡ n → d.thing ≡ thing.Array → DeclaredAs p d → NamesArray (map bare_array p.arrays) n
array_as p d n name is (DeclaredAs.cell c at e) = let k : thing.Scalar ≡ thing.Array = ap (λ (x : Declaration). x.thing) e ∙ is in absurd (cc k)
array_as p d n name is (DeclaredAs.mutex m at e) = let k : thing.Mutex m.len ≡ thing.Array = ap (λ (x : Declaration). x.thing) e ∙ is in absurd (cc k)
array_as p d n name is (DeclaredAs.condition c at e) = let k : thing.Condition c.len ≡ thing.Array = ap (λ (x : Declaration). x.thing) e ∙ is in absurd (cc k)
array_as p d n name is (DeclaredAs.slot t at e) = let k : thing.Thread t.len ≡ thing.Array = ap (λ (x : Declaration). x.thing) e ∙ is in absurd (cc k)
array_as p d n name is (DeclaredAs.array a at e) =
    record { array = bare_array a; listed = contains_of (map bare_array p.arrays) (bare_array a) (in_map bare_array p.arrays a at); named = ap (λ (x : Declaration). x.name) e ∙ name }

array_meant : (p : Program) (x : Site) (n : List ℕ) → meaning p x n ≡ Some thing.Array → NamesArray (map bare_array p.arrays) n
array_meant p x n e = by (meant_outside p x n thing.Array refl e)
  where
    by : Declares p n thing.Array → NamesArray (map bare_array p.arrays) n
    by (Declares.declares d at name is) = array_as p d n name is (declared_as p d (in_fixed p d at (ap is_function is)))

fits_member : (th : Thing) → fits th Value true ≡ true → th ≡ thing.Array
fits_member thing.Array e = refl
fits_member th e = absurd (cc e)

-- each of these uses that reads or sets a member is of an array
abbrev Members : List bare.Array → List Use → Type 0
Members arrays us = (n : List ℕ) → In (record { name = n; role = Value; indexed = true }) us → NamesArray arrays n

members_left : (arrays : List bare.Array) (us vs : List Use) → Members arrays (us ++ vs) → Members arrays us
members_left arrays us vs all n at = all n (in_append_left us vs (record { name = n; role = Value; indexed = true }) at)

members_right : (arrays : List bare.Array) (us vs : List Use) → Members arrays (us ++ vs) → Members arrays vs
members_right arrays us vs all n at = all n (in_append_right us vs (record { name = n; role = Value; indexed = true }) at)

elements_of : (arrays : List bare.Array) (e : Expr) → Members arrays (of_expr e) → ElementsOf arrays e
elements_of arrays (Number k) all = tt
elements_of arrays (Name name) all = tt
elements_of arrays (Element name index) all = (all name (inl refl), elements_of arrays index (λ n at. all n (inr at)))
elements_of arrays (Arg name) all = tt
elements_of arrays (Not operand) all = elements_of arrays operand all
elements_of arrays (Minus operand) all = elements_of arrays operand all
elements_of arrays (Binary op left right) all =
    (elements_of arrays left (members_left arrays (of_expr left) (of_expr right) all), elements_of arrays right (members_right arrays (of_expr left) (of_expr right) all))

elements_of_all : (arrays : List bare.Array) (es : Exprs) → Members arrays (of_exprs es) → ElementsOfAll arrays es
elements_of_all arrays tree.Nil all = tt
elements_of_all arrays (tree.Cons e es) all =
    (elements_of arrays e (members_left arrays (of_expr e) (of_exprs es) all), elements_of_all arrays es (members_right arrays (of_expr e) (of_exprs es) all))

elements_of_value : (arrays : List bare.Array) (o : Option Expr) → Members arrays (of_value o) → ElementsOfValue arrays o
elements_of_value arrays None all = tt
elements_of_value arrays (Some e) all = elements_of arrays e all

member_of : (arrays : List bare.Array) (name : List ℕ) (index : Option Expr) → Members arrays (of_place Value (record { name = name; index = index })) → MemberOf arrays name index
member_of arrays name None all = tt
member_of arrays name (Some index) all = (all name (inl refl), elements_of arrays index (λ n at. all n (inr at)))

target_of : (arrays : List bare.Array) (o : Option Place) → Members arrays (of_target o) → TargetOf arrays o
target_of arrays None all = tt
target_of arrays (Some place) all = member_of arrays place.name place.index all

index_of : (arrays : List bare.Array) (role : Role) (place : Place) → Members arrays (of_place role place) → ElementsOfValue arrays place.index
index_of arrays role place all = elements_of_value arrays place.index (λ n at. all n (inr at))

fit_here : (arrays : List bare.Array) (s : Stmt) → Members arrays (uses_of s) → ElementsFit arrays (bare_stmt s)
fit_here arrays (Declare line name value) all = elements_of_value arrays value all
fit_here arrays (Assign line target value) all = (
  member_of arrays target.name target.index (members_left arrays (of_place Value target) (of_expr value) all),
  elements_of arrays value (members_right arrays (of_place Value target) (of_expr value) all),
)
fit_here arrays (Call line target name args) all =
    let u : Use = plain (Called (is_some target)) name in (
      target_of arrays target (members_left arrays (of_target target) (u ∷ of_exprs args) all),
      elements_of_all arrays args (λ n at. members_right arrays (of_target target) (u ∷ of_exprs args) all n (inr at)),
    )
fit_here arrays (If line test a b) all = elements_of arrays test all
fit_here arrays (While line test body) all = elements_of arrays test all
fit_here arrays (For line first_part test step body) all = elements_of arrays test all
fit_here arrays (Return line value) all = elements_of_value arrays value all
fit_here arrays (Read line target) all = member_of arrays target.name target.index all
fit_here arrays (Print line format args) all = elements_of_all arrays args all
fit_here arrays (Create line place name arg) all =
    let u : Use = plain Start name in (
      index_of arrays OfThread place (members_left arrays (of_place OfThread place) (u ∷ of_expr arg) all),
      elements_of arrays arg (λ n at. members_right arrays (of_place OfThread place) (u ∷ of_expr arg) all n (inr at)),
    )
fit_here arrays (Join line place) all = index_of arrays OfThread place all
fit_here arrays (InitMutex line place) all = index_of arrays OfMutex place all
fit_here arrays (InitCond line place) all = index_of arrays OfCondition place all
fit_here arrays (Lock line place) all = index_of arrays OfMutex place all
fit_here arrays (TryLock line place taken busy) all = index_of arrays OfMutex place all
fit_here arrays (Unlock line place) all = index_of arrays OfMutex place all
fit_here arrays (Wait line cond mutex takes) all = (
  index_of arrays OfCondition cond (members_left arrays (of_place OfCondition cond) (of_place OfMutex mutex) all),
  index_of arrays OfMutex mutex (members_right arrays (of_place OfCondition cond) (of_place OfMutex mutex) all),
)
fit_here arrays (Signal line cond) all = index_of arrays OfCondition cond all
fit_here arrays (Broadcast line cond) all = index_of arrays OfCondition cond all
fit_here arrays (Take line monitor) all = tt
fit_here arrays (Give line monitor) all = tt

pub elements_well : (p : Program) (mode : Mode) → KeepsRules p mode → (f : ℕ × Function) (x : Site) → In f (enumerate_from 0 p.functions) → In x (sites_in f) → ElementsFit (map bare_array p.arrays) (bare_stmt x.stmt)
elements_well p mode keeps f x at here = fit_here (map bare_array p.arrays) x.stmt (λ n of. member n of)
  where
    member : (n : List ℕ) → In (record { name = n; role = Value; indexed = true }) (uses_of x.stmt) → NamesArray (map bare_array p.arrays) n
    member n of =
        let m = use_meant p (keeps rule.Unknown) (keeps rule.WrongKind) x (record { name = n; role = Value; indexed = true }) (in_flat_map sites_in (enumerate_from 0 p.functions) f x at here) of in
        array_meant p x n (m.meant ∙ ap (λ t. Some t) (fits_member m.thing m.fit))
