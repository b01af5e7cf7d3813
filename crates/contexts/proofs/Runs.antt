-- A constant has its value in each frame that agrees with what is known.
use Rattle.std.specs.Prelude.{◌≡◌, ℕ, ℤ, Bool, true, false, if◌then◌else◌, List, [], ◌∷◌, bytes_eq, Some, None, option_map, option_and_then}
use Rattle.std.specs.declared.option.Option.{Option}
use Rattle.std.specs.FinMap as finite
use Rattle.std.proofs.Common.{refl, ap, subst, sym, ◌∙◌}
use Rattle.c_tree.specs.Bare as bare
use Rattle.c_tree.specs.Expressions as tree
use Rattle.c_tree.specs.Expressions.{Expr, Exprs, Place}
use Rattle.c_tree.specs.Numbering.{scalar_cell, mutex_of}
use Rattle.c_meaning.specs.State.{Locals, State}
use Rattle.c_meaning.specs.Places.{scalar_value, values_of, evaluated, evaluated_if_any, evaluated_all, in_front, mutex_at}
use Rattle.c_meaning.specs.Calls as calls
use Rattle.c_meaning.proofs.Reading.{some_is, same_bytes}
use Rattle.contexts.specs.Constants.{Constants, among, constant_in, known_declared, with_value}
use Rattle.contexts.specs.Resolved.{resolved, known_index, constants_of, passed}
use Rattle.contexts.specs.Agreeing.{Agrees, IsScoped}
use Rattle.contexts.proofs.Grows.{Grows, value_grows, constant_value}
use Rattle.contexts.proofs.Agreeing.{get_inserted, agrees_declared}

scalar_grows : (p : bare.Program) (writes : List (List ℕ)) (known : Constants) (cells : List ℤ) (locals : Locals) → Agrees known locals → IsScoped p writes known → (name : List ℕ)
    → Grows (known name) ((values_of p cells locals).scalar name)
scalar_grows p writes known cells locals agrees scoped name z e = by (scalar_cell p name) refl
  where
    by : (o : Option ℕ) → scalar_cell p name ≡ o → scalar_value cells (finite.get locals name) o ≡ Some z
    by None is = agrees name z e
    by (Some cell) is = absurd (let bad : Some z ≡ None = sym e ∙ scoped.unwritten name (scoped.cells name cell is) in cc bad)

pub constant_runs : (p : bare.Program) (writes : List (List ℕ)) (known : Constants) (s : State) (locals : Locals) → Agrees known locals → IsScoped p writes known → (x : Expr)
    → Grows (constant_in known x) (evaluated p s locals x)
constant_runs p writes known s locals agrees scoped x z e =
    value_grows known (values_of p s.cells locals) x (scalar_grows p writes known s.cells locals agrees scoped) z (constant_value known x z e)

-- a place that is resolved is that mutex where it is reached
pub resolves_runs : (p : bare.Program) (writes : List (List ℕ)) (known : Constants) (s : State) (locals : Locals) → Agrees known locals → IsScoped p writes known → (place : Place) (r : ℕ)
    → resolved p known place ≡ Some r → mutex_at p s locals place ≡ Some r
resolves_runs p writes known s locals agrees scoped place r e = by place.index e
  where
    found : (x : Expr) (o : Option ℤ) → constant_in known x ≡ o → option_and_then (mutex_of p place.name) (option_map (λ z. Some z) o) ≡ Some r
        → option_and_then (mutex_of p place.name) (option_map (λ z. Some z) (evaluated p s locals x)) ≡ Some r
    found x None is e = absurd (cc e)
    found x (Some z) is e = ap (λ o. option_and_then (mutex_of p place.name) (option_map (λ z. Some z) o)) (constant_runs p writes known s locals agrees scoped x z is) ∙ e

    by : (index : Option Expr) → option_and_then (mutex_of p place.name) (known_index known index) ≡ Some r
        → option_and_then (mutex_of p place.name) (evaluated_if_any p s locals index) ≡ Some r
    by None e = e
    by (Some x) e = found x (constant_in known x) refl e

-- ---- declarations

unmasked : (c : Bool) (o : Option ℤ) (w : ℤ) → (if c then None else o) ≡ Some w → o ≡ Some w
unmasked true o w e = absurd (cc e)
unmasked false o w e = e

-- what is known behind a declaration is so in the frame behind it
pub declared_runs : (p : bare.Program) (writes : List (List ℕ)) (known : Constants) (s : State) (locals : Locals) → Agrees known locals → IsScoped p writes known → (name : List ℕ) (e : Expr) (z : ℤ)
    → evaluated p s locals e ≡ Some z → Agrees (with_value known name (known_declared writes known name (Some e))) (finite.insert locals name z)
declared_runs p writes known s locals agrees scoped name e z is = agrees_declared known locals name (known_declared writes known name (Some e)) z agrees
    (λ w there. some_is z w (sym is ∙ constant_runs p writes known s locals agrees scoped e w (unmasked (among writes name) (constant_in known e) w there)))

-- ---- parameters

-- what is known where a function begins is so in the frame that a call makes
pub passed_agrees : (p : bare.Program) (inner writes : List (List ℕ)) (known : Constants) (s : State) (locals : Locals) → Agrees known locals → IsScoped p writes known
    → (params : List (List ℕ)) (args : Exprs) (values : List ℤ) → evaluated_all p s locals args ≡ Some values → Agrees (passed inner params (constants_of known args)) (calls.passed params values)
passed_agrees p inner writes known s locals agrees scoped [] args values is q w e = absurd (cc e)
passed_agrees p inner writes known s locals agrees scoped (name ∷ names) tree.Nil values is q w e = absurd (cc e)
passed_agrees p inner writes known s locals agrees scoped (name ∷ names) (tree.Cons x args) values is q w e = by (evaluated p s locals x) (evaluated_all p s locals args)
    (λ zs all. passed_agrees p inner writes known s locals agrees scoped names args zs all) refl refl is
  where
    by : (o : Option ℤ) (os : Option (List ℤ)) → ((zs : List ℤ) → evaluated_all p s locals args ≡ Some zs → Agrees (passed inner names (constants_of known args)) (calls.passed names zs))
        → evaluated p s locals x ≡ o → evaluated_all p s locals args ≡ os → in_front o os ≡ Some values → finite.get (calls.passed (name ∷ names) values) q ≡ Some w
    by None os later first all is = absurd (cc is)
    by (Some z) None later first all is = absurd (cc is)
    by (Some z) (Some zs) later first all is =
        subst (λ vs. finite.get (calls.passed (name ∷ names) vs) q ≡ Some w) (some_is (z ∷ zs) values is) (get_inserted (calls.passed names zs) name z q ∙ at (bytes_eq q name) e)
      where
        at : (b : Bool) → (if b then (if among inner name then None else constant_in known x) else passed inner names (constants_of known args) q) ≡ Some w
            → (if b then Some z else finite.get (calls.passed names zs) q) ≡ Some w
        at true e = sym first ∙ constant_runs p writes known s locals agrees scoped x w (unmasked (among inner name) (constant_in known x) w e)
        at false e = later zs all q w e

-- what is written into isn't known where a function begins
pub passed_unwritten : (writes params : List (List ℕ)) (args : List (Option ℤ)) (q : List ℕ) → among writes q ≡ true → passed writes params args q ≡ None
passed_unwritten writes [] args q is = refl
passed_unwritten writes (name ∷ names) [] q is = refl
passed_unwritten writes (name ∷ names) (z ∷ args) q is = by (passed_unwritten writes names args q is) (bytes_eq q name) refl
  where
    by : passed writes names args q ≡ None → (b : Bool) → bytes_eq q name ≡ b → (if b then (if among writes name then None else z) else passed writes names args q) ≡ None
    by later true same = ap (λ c. if c then None else z) (ap (among writes) (sym (same_bytes q name same)) ∙ is)
    by later false other = later
