-- What functions and other names mean in an edited program that are used at like sites.
use Rattle.std.proofs.Common.{Bool, List, ap, false, refl, subst, sym, true, ℕ, ◌∙◌, ◌≡◌}
use Rattle.std.specs.Prelude.{Some, if◌then◌else◌, option_map}
use Rattle.std.specs.List.{enumerate_from}
use Rattle.c_tree.specs.declared.program.Mode.{Mode}
use Rattle.c_tree.specs.Lined.{Function, Program}
use Rattle.c_rules.specs.declared.rule.Rule.TheVariants as rule
use Rattle.c_rules.specs.Sites.{Site, sites}
use Rattle.c_rules.specs.Formed.{KeepsRules}
use Rattle.c_rules.specs.Names.{mentions}
use Rattle.c_rules.specs.Declarations.{Declaration, Thing, declaration_of, named, outer}
use Rattle.c_rules.specs.Declarations as thing
use Rattle.c_rules.specs.Uses.{Use, fits, uses_of}
use Rattle.c_rules.specs.Meaning.{local_thing, meaning, visible}
use Rattle.c_rules.proofs.Members.{In, contains_of, in_map, in_of}
use Rattle.rule_facts.proofs.Apart.{Declares, declared_thing, names}
use Rattle.rule_facts.proofs.Fixed.{apart_kept, declares_function, is_function}
use Rattle.rule_facts.proofs.Meant.{fits_function, fits_other, function_meant, use_meant}
use Rattle.rule_facts.proofs.Scope.{IsInner, visible_inner}
use Rattle.rule_facts.proofs.Scope.{is_inner}
use Rattle.rule_facts.specs.Apart.{Apart}
use Rattle.rule_facts.specs.Meant.{names_function}
use Rattle.kept_rules.proofs.Heads.{apart_edited}
use Rattle.kept_rules.proofs.Sited.{Like}
use Rattle.kept_rules.proofs.Twice.{apart_from_inner}
use Rattle.kept_rules.proofs.Unknown.{meaning_same, visible_same}
use Rattle.kept_rules.proofs.Used.{read, uses_read}
use Rattle.kept_rules.specs.Edit.{Way}
use Rattle.kept_rules.specs.Programs.{IsEditOf, IsFunctionEdit}

-- ---- functions that are called or started

-- q's function of a name and p's function of its name there
pub record CalledAs (r : Way) (place : ℕ → ℕ) (q p : Program) (x y : Site) (u : Use) : Type 0 where
  pub here : ℕ
  pub function : Function
  pub other : Function
  pub meant : meaning q x u.name ≡ Some (thing.Function here function)
  pub was : meaning p y (r.name u.name) ≡ Some (thing.Function (place here) other)
  pub fit : fits (thing.Function (place here) other) u.role u.indexed ≡ true
  pub edited : IsFunctionEdit r function other

pub in_like : (r : Way) (g f : ℕ × Function) (x y : Site) → Like r g f x y → (u : Use) → In u (uses_of x.stmt) → In (read r u) (uses_of y.stmt)
in_like r g f x y like u at = subst (In (read r u)) (uses_read r x.stmt y.stmt like.stmt) (in_map (read r) (uses_of x.stmt) u at)

pub read_other : (r : Way) (u : Use) → names_function u.role ≡ false → read r u ≡ u
read_other r u is = ap (λ b. record { name = if b then r.name u.name else u.name; role = u.role; indexed = u.indexed }) is

pub read_function : (r : Way) (u : Use) → names_function u.role ≡ true → (read r u).name ≡ r.name u.name
read_function r u is = ap (λ b. if b then r.name u.name else u.name) is

name_in : (q : Program) (n : List ℕ) (th : Thing) → Declares q n th → In n (names (outer q))
name_in q n th (Declares.declares d at name is) = subst (λ m. In m (names (outer q))) name (in_map (λ (d : Declaration). d.name) (outer q) d at)

-- a function's name isn't hidden
pub not_hidden : (r : Way) (place : ℕ → ℕ) (q p : Program) (mode : Mode) → IsEditOf r place q p → KeepsRules p mode → (y : Site) → In y (sites p) → (n : List ℕ) → In n (names (outer q))
    → mentions (visible y) n ≡ false
not_hidden r place q p mode e keeps y in_p n at = go (mentions (visible y) n) refl
  where
    of : IsInner p n → ⊥
    of (is_inner l among name) = apart_from_inner r place q p mode e keeps l among (subst (λ m. In m (names (outer q))) (sym name) at)

    go : (b : Bool) → mentions (visible y) n ≡ b → mentions (visible y) n ≡ false
    go false is = is
    go true is = absurd (of (visible_inner p y in_p n is))

outside_meant : (q : Program) (x : Site) (n : List ℕ) (th : Thing) → Apart (names (outer q)) → mentions (visible x) n ≡ false → Declares q n th → meaning q x n ≡ Some th
outside_meant q x n th apart hidden d =
    ap (λ b. if b then Some (local_thing x.function n) else option_map (λ (d : Declaration). d.thing) (declaration_of q n)) hidden ∙ declared_thing q n th apart d

pub function_is : (th : Thing) → is_function th ≡ true → (k : ℕ) × (f : Function) × (th ≡ thing.Function k f)
function_is (thing.Function k f) is = (k, f, refl)
function_is th is = absurd (cc is)

pub called_as : (r : Way) (place : ℕ → ℕ) (q p : Program) (mode : Mode) → IsEditOf r place q p → KeepsRules p mode → (g f : ℕ × Function) (x y : Site) → In x (sites q) → In y (sites p)
    → Like r g f x y → (u : Use) → In u (uses_of x.stmt) → names_function u.role ≡ true → CalledAs r place q p x y u
called_as r place q p mode e keeps g f x y in_q in_p like u at is =
    let a = e.called x u (contains_of (sites q) x in_q) (contains_of (uses_of x.stmt) u at) is in
    let s = e.functions (a.place, a.function) a.listed in
    let declared_there = declares_function q a.place a.function u.name (in_of (enumerate_from 0 q.functions) (a.place, a.function) a.listed) a.named in
    let hidden : mentions (visible x) u.name ≡ false =
    ap (λ ns. mentions ns u.name) (visible_same r g f x y like) ∙ not_hidden r place q p mode e keeps y in_p u.name (name_in q u.name (thing.Function a.place a.function) declared_there) in
    let m = use_meant p (keeps rule.Unknown) (keeps rule.WrongKind) y (read r u) in_p (in_like r g f x y like u at) in
    let th = function_is m.thing (fits_function m.thing u.role u.indexed is m.fit) in
    let was : meaning p y (r.name u.name) ≡ Some (thing.Function th.0 th.1) = ap (meaning p y) (sym (read_function r u is)) ∙ (m.meant ∙ ap (λ t. Some t) th.2) in
    let k = function_meant p y (r.name u.name) th.0 th.1 was in
    let one = declared_thing p (r.name u.name) (thing.Function th.0 th.1) (apart_kept p mode keeps) (declares_function p th.0 th.1 (r.name u.name) k.listed k.named) in
    let two = declared_thing p (r.name u.name) (thing.Function (place a.place) s.function) (apart_kept p mode keeps)
    (declares_function p (place a.place) s.function (r.name u.name) (in_of (enumerate_from 0 p.functions) (place a.place, s.function) s.listed) (sym s.edit.name ∙ ap r.name a.named)) in
    let equal : thing.Function th.0 th.1 ≡ thing.Function (place a.place) s.function = cc (one, two) in
    record {
      here = a.place;
      function = a.function;
      other = s.function;
      meant = outside_meant q x u.name (thing.Function a.place a.function) (apart_edited r place q p mode e keeps) hidden declared_there;
      was = was ∙ ap (λ t. Some t) equal;
      fit = ap (λ t. fits t u.role u.indexed) (sym (th.2 ∙ equal)) ∙ m.fit;
      edited = s.edit;
    }

-- what isn't a function
pub record MeantAs (q p : Program) (x y : Site) (u : Use) : Type 0 where
  pub thing : Thing
  pub meant : meaning q x u.name ≡ Some thing
  pub was : meaning p y u.name ≡ Some thing
  pub fit : fits thing u.role u.indexed ≡ true

pub meant_as : (r : Way) (place : ℕ → ℕ) (q p : Program) (mode : Mode) → IsEditOf r place q p → KeepsRules p mode → (g f : ℕ × Function) (x y : Site) → In x (sites q) → In y (sites p)
    → IsFunctionEdit r g.1 f.1 → Like r g f x y → (u : Use) → In u (uses_of x.stmt) → names_function u.role ≡ false → MeantAs q p x y u
meant_as r place q p mode e keeps g f x y in_q in_p fe like u at is =
    let m = use_meant p (keeps rule.Unknown) (keeps rule.WrongKind) y u in_p (subst (λ v. In v (uses_of y.stmt)) (read_other r u is) (in_like r g f x y like u at)) in
    record {
      thing = m.thing;
      meant = meaning_same r place q p g f x y e (apart_edited r place q p mode e keeps) fe like u.name m.thing (fits_other m.thing u.role u.indexed is m.fit) m.meant;
      was = m.meant;
      fit = m.fit;
    }
