-- What calls name.
use Rattle.std.proofs.Common.{List, [], ap, arith, false, inl, inr, length, not, refl, subst, sym, true, ℕ, ◌++◌, ◌<◌, ◌==◌, ◌∙◌, ◌∷◌, ◌≡◌, ◌≤◌}
use Rattle.std.specs.Prelude.{Contains, Some, bytes_eq, is_some}
use Rattle.std.specs.List.{enumerate_from}
use Rattle.std.proofs.lemmas.Slice.Eq.{bytes_eq-Decides}
use Rattle.std.specs.declared.option.Option.{Option}
use Rattle.std.proofs.lemmas.Bool.{cases_eq}
use Rattle.c_tree.specs.declared.program.Mode.{Mode}
use Rattle.c_tree.specs.Lined.{Call, Function, Program, Stmt, bare_stmt}
use Rattle.c_tree.specs.Expressions.{Exprs, Place}
use Rattle.c_rules.specs.declared.rule.Rule.TheVariants as rule
use Rattle.c_rules.specs.Sites.{Site, lines_where, listed, sites, sites_in}
use Rattle.c_rules.specs.Formed.{KeepsRules}
use Rattle.c_rules.specs.declared.role.Role.TheVariants.{Called}
use Rattle.c_rules.specs.Declarations.{Thing, named}
use Rattle.c_rules.specs.Declarations as thing
use Rattle.c_rules.specs.Uses.{Use, fits, of_exprs, of_target, plain, uses_of}
use Rattle.c_rules.specs.Meaning.{is_out_of_reach, meaning}
use Rattle.c_rules.specs.Using.{calls, capacity_count_lines, count_of, is_miscounted, takes_others, wrong_counts}
use Rattle.c_rules.proofs.Members.{In, contains_of, in_append_right, in_flat_map, in_of}
use Rattle.rule_facts.proofs.Apart.{declared_thing}
use Rattle.rule_facts.proofs.Everything.{site_of}
use Rattle.rule_facts.proofs.Fixed.{apart_kept, declares_function}
use Rattle.rule_facts.proofs.Meant.{callable, function_meant, not_below, use_meant}
use Rattle.rule_facts.proofs.Places.{one_at}
use Rattle.rule_facts.proofs.Ranges.{given_lines, value_lines}
use Rattle.rule_facts.proofs.Tests.{last_part, no_lines, none_there}
use Rattle.rule_facts.specs.Statements.{Callee, CallsAbove}

pub one_name : (p : Program) (mode : Mode) → KeepsRules p mode → (j k : ℕ) (f g : Function) → Contains (enumerate_from 0 p.functions) (j, f) → Contains (enumerate_from 0 p.functions) (k, g) → f.name ≡ g.name
    → (j ≡ k) × (f ≡ g)
one_name p mode keeps j k f g a b same =
    let one = declared_thing p g.name (thing.Function j f) (apart_kept p mode keeps) (declares_function p j f g.name (in_of (enumerate_from 0 p.functions) (j, f) a) same) in
    let two = declared_thing p g.name (thing.Function k g) (apart_kept p mode keeps) (declares_function p k g g.name (in_of (enumerate_from 0 p.functions) (k, g) b) refl) in
    let equal : thing.Function j f ≡ thing.Function k g = cc (one, two) in (cc equal, cc equal)

-- ---- calls

sites_free : (p : Program) (mode : Mode) → KeepsRules p mode → (x : Site) → In x (sites p) → is_miscounted p x x.stmt ≡ false
sites_free p mode keeps x at =
    let count_sites = lines_where (λ site. is_miscounted p site site.stmt) p in
    none_there (λ site. is_miscounted p site site.stmt) p
    (λ l c. last_part (value_lines p ++ given_lines p ++ capacity_count_lines p) count_sites (no_lines (wrong_counts p) (keeps rule.WrongCount)) l (in_of count_sites l c)) x at

not_other : (a b : ℕ) → not (a == b) ≡ false → a ≡ b
not_other a b e = grind arith

lt_of : (a b : ℕ) → a ≤ b → (a ≡ b → ⊥) → a < b
lt_of a b h n = grind arith

strictly : (p : Program) (f : ℕ × Function) (name : List ℕ) (place : ℕ) (g : Function) → In f (enumerate_from 0 p.functions) → In (place, g) (enumerate_from 0 p.functions) → g.name ≡ name → place ≤ f.0
    → bytes_eq name f.1.name ≡ false → place < f.0
strictly p f name place g at listed named below other = elim (cases_eq place f.0) [
  | inr n ↦ lt_of place f.0 below n
  | inl e ↦
      let same : g ≡ f.1 = one_at 0 p.functions f.0 g f.1 (subst (λ k. In (k, g) (enumerate_from 0 p.functions)) e listed) at in
      let is : bytes_eq name f.1.name ≡ true = (bytes_eq-Decides name f.1.name).1 (sym named ∙ ap (λ (h : Function). h.name) same) in absurd (cc (is, other))
]

callee : (p : Program) (mode : Mode) → KeepsRules p mode → (f : ℕ × Function) (x : Site) → In f (enumerate_from 0 p.functions) → In x (sites_in f) → (line : ℕ) (target : Option Place) (name : List ℕ) (args : Exprs)
    → x.stmt ≡ Call line target name args → Callee p f.0 target name args
callee p mode keeps f x at here line target name args is =
    let in_p = in_flat_map sites_in (enumerate_from 0 p.functions) f x at here in
    let own = site_of f [] f.1.params f.1.body x here in
    let u : Use = plain (Called (is_some target)) name in
    let m = use_meant p (keeps rule.Unknown) (keeps rule.WrongKind) x u in_p (subst (λ s. In u (uses_of s)) (sym is) (in_append_right (of_target target) (u ∷ of_exprs args) u (inl refl))) in
    let count : takes_others (meaning p x name) (count_of args) ≡ false = ap (is_miscounted p x) (sym is) ∙ sites_free p mode keeps x in_p in
    let free : calls x.function.name (Call line target name args) ≡ false =
    ap (calls x.function.name) (sym is) ∙ none_there (λ y. calls y.function.name y.stmt) p (keeps rule.Recursion) x in_p in
    by m.thing m.meant m.fit m.reached count own (ap (λ (g : Function). bytes_eq name g.name) (sym own.1) ∙ free)
  where
    by : (th : Thing) → meaning p x name ≡ Some th → fits th (Called (is_some target)) false ≡ true → is_out_of_reach x.place (Some th) ≡ false → takes_others (meaning p x name) (count_of args) ≡ false
        → (x.place ≡ f.0) × (x.function ≡ f.1) → bytes_eq name f.1.name ≡ false → Callee p f.0 target name args
    by (thing.Function place g) e fit reach count own other =
        let k = function_meant p x name place g e in
        record {
          place = place;
          function = g;
          listed = contains_of (enumerate_from 0 p.functions) (place, g) k.listed;
          above = strictly p f name place g at k.listed k.named (subst (λ h. place ≤ h) own.0 (not_below x.place place reach)) other;
          named = k.named;
          kind = callable g.kind (is_some target) fit;
          params = not_other (length g.params) (count_of args) (ap (λ o. takes_others o (count_of args)) (sym e) ∙ count);
        }
    by th e fit reach count own other = absurd (cc fit)

pub calls_well : (p : Program) (mode : Mode) → KeepsRules p mode → (f : ℕ × Function) (x : Site) → In f (enumerate_from 0 p.functions) → In x (sites_in f) → CallsAbove p f.0 (bare_stmt x.stmt)
calls_well p mode keeps f x at here = go x.stmt refl
  where
    go : (s : Stmt) → x.stmt ≡ s → CallsAbove p f.0 (bare_stmt s)
    go (Call line target name args) is = callee p mode keeps f x at here line target name args is
    go s is = tt
