-- Each use of a name means something that it fits and that is within reach.
use Rattle.std.proofs.Common.{Bool, List, ap, arith, false, inl, inr, not, refl, subst, sym, true, ℕ, ◌&&◌, ◌∙◌, ◌≡◌, ◌≤◌, ◌⊎◌}
use Rattle.std.specs.Prelude.{Contains, None, Some, if◌then◌else◌, nat_lt, option_map}
use Rattle.std.specs.List.{enumerate_from, list_any}
use Rattle.std.specs.declared.option.Option.{Option}
use Rattle.c_tree.specs.declared.program.Mode.{Mode}
use Rattle.c_tree.specs.Lined.{Function, Program}
use Rattle.c_tree.specs.Lined as lined
use Rattle.c_tree.specs.declared.program.Kind.{Kind}
use Rattle.c_tree.specs.declared.program.Kind.TheVariants as kind
use Rattle.c_rules.specs.declared.rule.Rule.TheVariants as rule
use Rattle.c_rules.specs.Sites.{Site, sites}
use Rattle.c_rules.specs.Formed.{Formed}
use Rattle.c_rules.specs.declared.role.Role.{Role}
use Rattle.c_rules.specs.declared.role.Role.TheVariants.{Called, Start}
use Rattle.c_rules.specs.Names.{mentions}
use Rattle.c_rules.specs.Declarations.{Declaration, Thing, declaration_of, named, of_function}
use Rattle.c_rules.specs.Declarations as thing
use Rattle.c_rules.specs.Uses.{Use, fits, is_callable, is_start, uses_of}
use Rattle.c_rules.specs.Meaning.{is_out_of_reach, local_thing, meaning, visible}
use Rattle.c_rules.specs.Using.{is_misused, unknown_names, wrong_kinds}
use Rattle.c_rules.proofs.Members.{Image, In, from_map, image, in_append_cases, in_of}
use Rattle.rule_facts.proofs.Apart.{Declares, thing_declared}
use Rattle.rule_facts.proofs.Fixed.{fixed, fixed_other, functions_of, is_function}
use Rattle.rule_facts.proofs.Tests.{none_any, none_there}
use Rattle.rule_facts.specs.Meant.{Meant, names_function}

abbrev pub is_unknown : Program → Site → Bool
is_unknown p site = list_any (λ (u : Use). is_out_of_reach site.place (meaning p site u.name)) (uses_of site.stmt)

abbrev pub is_wrong : Program → Site → Bool
is_wrong p site = list_any (λ (u : Use). is_misused u (meaning p site u.name)) (uses_of site.stmt)

pub use_meant : (p : Program) → ((line : ℕ) → Contains (unknown_names p) line → ⊥) → ((line : ℕ) → Contains (wrong_kinds p) line → ⊥)
    → (site : Site) (u : Use) → In site (sites p) → In u (uses_of site.stmt) → Meant p site u
use_meant p known right site u at of =
    by (meaning p site u.name) refl
    (none_any (λ (v : Use). is_out_of_reach site.place (meaning p site v.name)) (uses_of site.stmt) (none_there (is_unknown p) p known site at) u of)
    (none_any (λ (v : Use). is_misused v (meaning p site v.name)) (uses_of site.stmt) (none_there (is_wrong p) p right site at) u of)
  where
    fit_of : (th : Thing) (b : Bool) → fits th u.role u.indexed ≡ b → not b ≡ false → fits th u.role u.indexed ≡ true
    fit_of th true e f = e
    fit_of th false e f = absurd (cc f)

    by : (o : Option Thing) → meaning p site u.name ≡ o → is_out_of_reach site.place (meaning p site u.name) ≡ false → is_misused u (meaning p site u.name) ≡ false → Meant p site u
    by None e a b = let k : is_out_of_reach site.place None ≡ false = ap (is_out_of_reach site.place) (sym e) ∙ a in absurd (cc k)
    by (Some th) e a b = record {
      thing = th;
      meant = e;
      fit = fit_of th (fits th u.role u.indexed) refl (ap (is_misused u) (sym e) ∙ b);
      reached = ap (is_out_of_reach site.place) (sym e) ∙ a;
    }

-- so of each use of a well-formed program
pub each_meant : (p : Program) (mode : Mode) → Formed p mode → (site : Site) (u : Use) → Contains (sites p) site → Contains (uses_of site.stmt) u → Meant p site u
each_meant p mode formed site u at of = use_meant p (formed.keeps_rules rule.Unknown) (formed.keeps_rules rule.WrongKind) site u (in_of (sites p) site at) (in_of (uses_of site.stmt) u of)

-- ---- functions that are meant

pub local_other : (f : lined.Function) (n : List ℕ) → is_function (local_thing f n) ≡ false
local_other f n = go (is_start f.kind && mentions f.params n)
  where
    go : (b : Bool) → is_function (if b then thing.Argument else thing.Local) ≡ false
    go true = refl
    go false = refl

pub other_reached : (here : ℕ) (th : Thing) → is_function th ≡ false → is_out_of_reach here (Some th) ≡ false
other_reached here (thing.Function place f) e = absurd (cc e)
other_reached here th e = refl

pub fits_other : (th : Thing) (role : Role) (indexed : Bool) → names_function role ≡ false → fits th role indexed ≡ true → is_function th ≡ false
fits_other (thing.Function place f) Start indexed a b = absurd (cc a)
fits_other (thing.Function place f) (Called result) indexed a b = absurd (cc a)
fits_other (thing.Function place f) role indexed a b = absurd (cc b)
fits_other th role indexed a b = refl

pub fits_function : (th : Thing) (role : Role) (indexed : Bool) → names_function role ≡ true → fits th role indexed ≡ true → is_function th ≡ true
fits_function (thing.Function place f) role indexed a b = refl
fits_function th Start indexed a b = absurd (cc b)
fits_function th (Called result) indexed a b = absurd (cc b)
fits_function th role indexed a b = absurd (cc a)

-- the function that a name means
pub record Names (p : Program) (n : List ℕ) (place : ℕ) (f : lined.Function) : Type 0 where
  pub listed : In (place, f) (enumerate_from 0 p.functions)
  pub named : f.name ≡ n

pub function_meant : (p : Program) (site : Site) (n : List ℕ) (place : ℕ) (f : lined.Function) → meaning p site n ≡ Some (thing.Function place f) → Names p n place f
function_meant p site n place f e = go (mentions (visible site) n) e
  where
    of_image : (d : Declaration) → d.name ≡ n → d.thing ≡ thing.Function place f → Image of_function (enumerate_from 0 p.functions) d → Names p n place f
    of_image d name is (image g at same) =
        let k : thing.Function g.0 g.1 ≡ thing.Function place f = ap (λ (x : Declaration). x.thing) same ∙ is in
        let a : g.0 ≡ place = cc k in
        let b : g.1 ≡ f = cc k in
        record { listed = subst (λ h. In h (enumerate_from 0 p.functions)) (λ i. (a i, b i)) at; named = ap (λ (h : lined.Function). h.name) (sym b) ∙ (ap (λ (x : Declaration). x.name) same ∙ name) }

    of : Declares p n (thing.Function place f) → Names p n place f
    of (Declares.declares d at name is) = elim (in_append_cases (fixed p) (functions_of p) d at) [
      | inl h ↦ let k : false ≡ true = sym (fixed_other p d h) ∙ ap is_function is in absurd (cc k)
      | inr h ↦ of_image d name is (from_map of_function (enumerate_from 0 p.functions) d h)
    ]

    go : (b : Bool) → (if b then Some (local_thing site.function n) else option_map (λ (d : Declaration). d.thing) (declaration_of p n)) ≡ Some (thing.Function place f) → Names p n place f
    go true k = let l : local_thing site.function n ≡ thing.Function place f = cc k in let m : false ≡ true = sym (local_other site.function n) ∙ ap is_function l in absurd (cc m)
    go false k = of (thing_declared p n (thing.Function place f) k)

-- ---- kinds

pub callable : (k : Kind) (result : Bool) → is_callable k result ≡ true → (k ≡ kind.Int) ⊎ ((k ≡ kind.Void) × (result ≡ false))
callable kind.Int result e = inl refl
callable kind.Void true e = absurd (cc e)
callable kind.Void false e = inr (refl, refl)
callable kind.Main result e = absurd (cc e)
callable kind.Thread result e = absurd (cc e)

pub not_below : (here place : ℕ) → nat_lt here place ≡ false → place ≤ here
not_below here place e = grind arith
