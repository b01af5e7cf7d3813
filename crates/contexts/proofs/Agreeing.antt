-- What is known in a frame stays true where its locals are set.
use Rattle.std.specs.Prelude.{◌≡◌, ℕ, ℤ, Bool, true, false, if◌then◌else◌, List, bytes_eq, Some, None}
use Rattle.std.specs.declared.option.Option.{Option}
use Rattle.std.specs.FinMap as finite
use Rattle.std.specs.Cmp.Lexicographic.{nat_list_cmp_total}
use Rattle.std.proofs.Common.{refl, ap, sym, ◌∙◌}
use Rattle.std.proofs.lemmas.Map.Text.{is_eq-slice_cmp}
use Rattle.c_tree.specs.Bare as bare
use Rattle.c_tree.specs.Expressions.{Expr}
use Rattle.c_tree.specs.Lined.{Stmt, Stmts, Nil, Cons, Declare}
use Rattle.c_meaning.specs.State.{Locals}
use Rattle.c_meaning.proofs.Reading.{same_bytes}
use Rattle.contexts.specs.Constants.{Constants, Weaker, among, constant_in, with_value, known_declared, known_after, known_end, declared}
use Rattle.contexts.specs.Agreeing.{Agrees, IsScoped}
use Rattle.contexts.proofs.Names.{without_weaker}

-- ---- locals

pub get_inserted : (m : Locals) (name : List ℕ) (z : ℤ) (q : List ℕ) → finite.get (finite.insert m name z) q ≡ (if bytes_eq q name then Some z else finite.get m q)
get_inserted m name z q = finite.get-insert nat_list_cmp_total m name z q ∙ ap (λ b. if b then Some z else finite.get m q) (is_eq-slice_cmp q name)

pub get_removed : (m : Locals) (name q : List ℕ) → finite.get (finite.remove m name) q ≡ (if bytes_eq q name then None else finite.get m q)
get_removed m name q = finite.get-remove nat_list_cmp_total m name q ∙ ap (λ b. if b then None else finite.get m q) (is_eq-slice_cmp q name)

-- a name of which nothing is known is set
pub agrees_set : (known : Constants) (locals : Locals) (name : List ℕ) (z : ℤ) → Agrees known locals → known name ≡ None → Agrees known (finite.insert locals name z)
agrees_set known locals name z agrees none q w e = get_inserted locals name z q ∙ by (bytes_eq q name) refl
  where
    by : (b : Bool) → bytes_eq q name ≡ b → (if b then Some z else finite.get locals q) ≡ Some w
    by true same = absurd (let none_q : known q ≡ None = ap known (same_bytes q name same) ∙ none in let bad : Some w ≡ None = sym e ∙ none_q in cc bad)
    by false other = agrees q w e

pub weaker_agrees : (less known : Constants) (locals : Locals) → Weaker less known → Agrees known locals → Agrees less locals
weaker_agrees less known locals w agrees name z e = agrees name z (w name z e)

-- a name is declared with the value that is known of it, or none is known
pub agrees_declared : (known : Constants) (locals : Locals) (name : List ℕ) (found : Option ℤ) (z : ℤ) → Agrees known locals → ((w : ℤ) → found ≡ Some w → z ≡ w)
    → Agrees (with_value known name found) (finite.insert locals name z)
agrees_declared known locals name found z agrees same q w e = get_inserted locals name z q ∙ by (bytes_eq q name) e
  where
    by : (b : Bool) → (if b then found else known q) ≡ Some w → (if b then Some z else finite.get locals q) ≡ Some w
    by true e = ap (λ (v : ℤ). Some v) (same w e)
    by false e = agrees q w e

-- a name is declared without a value
pub agrees_removed : (known : Constants) (locals : Locals) (name : List ℕ) → Agrees known locals → Agrees (with_value known name None) (finite.remove locals name)
agrees_removed known locals name agrees q w e = get_removed locals name q ∙ by (bytes_eq q name) e
  where
    by : (b : Bool) → (if b then None else known q) ≡ Some w → (if b then None else finite.get locals q) ≡ Some w
    by true e = absurd (cc e)
    by false e = agrees q w e

-- ---- names that are written into

pub weaker_none : (less known : Constants) (name : List ℕ) → Weaker less known → known name ≡ None → less name ≡ None
weaker_none less known name w none = by (less name) refl
  where
    by : (o : Option ℤ) → less name ≡ o → o ≡ None
    by None e = refl
    by (Some z) e = absurd (let bad : Some z ≡ None = sym (w name z e) ∙ none in cc bad)

pub weaker_scoped : (p : bare.Program) (writes : List (List ℕ)) (less known : Constants) → Weaker less known → IsScoped p writes known → IsScoped p writes less
weaker_scoped p writes less known w scoped = record { unwritten = λ name e. weaker_none less known name w (scoped.unwritten name e); cells = scoped.cells }

declared_scoped : (p : bare.Program) (writes : List (List ℕ)) (known : Constants) (name : List ℕ) (e : Option Expr) → IsScoped p writes known
    → IsScoped p writes (with_value known name (known_declared writes known name e))
declared_scoped p writes known name e scoped = record { cells = scoped.cells; unwritten = λ q is. by q is (bytes_eq q name) refl }
  where
    value_none : (e : Option Expr) → among writes name ≡ true → known_declared writes known name e ≡ None
    value_none None is = refl
    value_none (Some x) is = ap (λ b. if b then None else constant_in known x) is

    by : (q : List ℕ) → among writes q ≡ true → (b : Bool) → bytes_eq q name ≡ b → (if b then known_declared writes known name e else known q) ≡ None
    by q is true same = value_none e (ap (among writes) (sym (same_bytes q name same)) ∙ is)
    by q is false other = scoped.unwritten q is

-- what is known behind a statement isn't written into
pub after_scoped : (p : bare.Program) (writes : List (List ℕ)) (known : Constants) (s : Stmt) → IsScoped p writes known → IsScoped p writes (known_after writes known s)
after_scoped p writes known (Declare line name e) scoped = declared_scoped p writes known name e scoped
after_scoped p writes known s scoped = weaker_scoped p writes _ known (without_weaker (declared s) known) scoped

pub end_scoped : (p : bare.Program) (writes : List (List ℕ)) (known : Constants) (ss : Stmts) → IsScoped p writes known → IsScoped p writes (known_end writes known ss)
end_scoped p writes known Nil scoped = scoped
end_scoped p writes known (Cons s rest) scoped = end_scoped p writes (known_after writes known s) rest (after_scoped p writes known s scoped)
