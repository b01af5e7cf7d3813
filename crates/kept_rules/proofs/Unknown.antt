-- Names are known in an edited program, and mean the same.
use Rattle.std.proofs.Common.{Bool, List, [], ap, arith, false, refl, subst, sym, true, ℕ, ◌∙◌, ◌≡◌, ◌≤◌}
use Rattle.std.specs.Prelude.{Contains, IsTrue, Some, if◌then◌else◌, nat_lt, option_map}
use Rattle.std.specs.List.{enumerate_from}
use Rattle.c_tree.specs.declared.program.Mode.{Mode}
use Rattle.c_tree.specs.Lined.{Function, Give, Program, Stmt, Take}
use Rattle.c_rules.specs.declared.rule.Rule.TheVariants as rule
use Rattle.c_rules.specs.Sites.{Site, sites}
use Rattle.c_rules.specs.Formed.{KeepsRules}
use Rattle.c_rules.specs.Names.{mentions}
use Rattle.c_rules.specs.Declarations.{Declaration, Thing, declaration_of, named, of_function, outer}
use Rattle.c_rules.specs.Declarations as thing
use Rattle.c_rules.specs.Uses.{Use, is_start, uses_of}
use Rattle.c_rules.specs.Meaning.{is_out_of_reach, local_thing, meaning, visible}
use Rattle.c_rules.specs.Using.{unknown_names}
use Rattle.c_rules.proofs.Members.{In, contains_of, in_map, in_of}
use Rattle.rule_facts.proofs.Apart.{Declares, declared_thing, names, thing_declared}
use Rattle.rule_facts.proofs.Fixed.{is_function, of_functions}
use Rattle.rule_facts.proofs.Meant.{fits_other, is_unknown, local_other, other_reached, use_meant}
use Rattle.rule_facts.proofs.Tests.{any_none, none_listed}
use Rattle.rule_facts.specs.Apart.{Apart}
use Rattle.rule_facts.specs.Meant.{names_function}
use Rattle.kept_rules.proofs.Heads.{apart_edited, declared_same_way}
use Rattle.kept_rules.proofs.Like.{monitor_of}
use Rattle.kept_rules.proofs.Lines.{opened_same}
use Rattle.kept_rules.proofs.Origin.{Origin, origin}
use Rattle.kept_rules.proofs.Sited.{Like}
use Rattle.kept_rules.proofs.Used.{read, uses_read}
use Rattle.kept_rules.specs.Edit.{Way, is_monitor_call}
use Rattle.kept_rules.specs.Programs.{Above, IsEditOf, IsFunctionEdit}

-- ---- what is in scope

pub visible_same : (r : Way) (g f : ℕ × Function) (x y : Site) → Like r g f x y → visible x ≡ visible y
visible_same r g f x y like = let a = opened_same r x.stmt y.stmt like.stmt in let b = like.scope in cc (a, b)

pub local_same : (r : Way) (g f : ℕ × Function) (x y : Site) → IsFunctionEdit r g.1 f.1 → Like r g f x y → (n : List ℕ) → local_thing x.function n ≡ local_thing y.function n
local_same r g f x y e like n =
    ap (λ h. local_thing h n) like.function.0 ∙ (by_parts (g.1) (f.1) e.kind e.params ∙ ap (λ h. local_thing h n) (sym like.function.1))
  where
    by_parts : (a b : Function) → a.kind ≡ b.kind → a.params ≡ b.params → local_thing a n ≡ local_thing b n
    by_parts a b k ps = let s = ap is_start k in let m = ap (λ ns. mentions ns n) ps in rw (s, m)

-- what isn't a function is meant at both
pub meaning_same : (r : Way) (place : ℕ → ℕ) (q p : Program) (g f : ℕ × Function) (x y : Site) → IsEditOf r place q p → Apart (names (outer q))
    → IsFunctionEdit r g.1 f.1 → Like r g f x y → (n : List ℕ) (th : Thing) → is_function th ≡ false → meaning p y n ≡ Some th → meaning q x n ≡ Some th
meaning_same r place q p g f x y e apart fe like n th other is =
    ap (λ ns. if mentions ns n then Some (local_thing x.function n) else option_map (λ (d : Declaration). d.thing) (declaration_of q n)) (visible_same r g f x y like)
    ∙ go (mentions (visible y) n) is
  where
    go : (b : Bool) → (if b then Some (local_thing y.function n) else option_map (λ (d : Declaration). d.thing) (declaration_of p n)) ≡ Some th
        → (if b then Some (local_thing x.function n) else option_map (λ (d : Declaration). d.thing) (declaration_of q n)) ≡ Some th
    go true k = ap (λ t. Some t) (local_same r g f x y fe like n) ∙ k
    go false k = declared_thing q n th apart (declared_same_way r place q p e n th other (thing_declared p n th k))

-- ---- what is out of reach

within_reach : (here place : ℕ) → place ≤ here → nat_lt here place ≡ false
within_reach here place h = grind arith

-- a function that is declared above, or a local that hides it
above_reached : (q : Program) (x : Site) (n : List ℕ) → Apart (names (outer q)) → Above q x.place n → is_out_of_reach x.place (meaning q x n) ≡ false
above_reached q x n apart a = go (mentions (visible x) n)
  where
    declared : option_map (λ (d : Declaration). d.thing) (declaration_of q n) ≡ Some (thing.Function a.place a.function)
    declared = declared_thing q n (thing.Function a.place a.function) apart
        (Declares.declares (of_function (a.place, a.function)) (of_functions q (a.place, a.function) (in_of (enumerate_from 0 q.functions) (a.place, a.function) a.listed)) a.named refl)

    go : (b : Bool) → is_out_of_reach x.place (if b then Some (local_thing x.function n) else option_map (λ (d : Declaration). d.thing) (declaration_of q n)) ≡ false
    go true = other_reached x.place (local_thing x.function n) (local_other x.function n)
    go false = ap (is_out_of_reach x.place) declared ∙ within_reach x.place a.place a.above

pub no_uses : (q : Program) (x : Site) (s : Stmt) → IsTrue (is_monitor_call s) → uses_of s ≡ []
no_uses q x (Take line monitor) is = refl
no_uses q x (Give line monitor) is = refl
no_uses q x s is = cc is

pub kept_unknown : (r : Way) (place : ℕ → ℕ) (q p : Program) (mode : Mode) → IsEditOf r place q p → KeepsRules p mode
    → (line : ℕ) → Contains (unknown_names q) line → ⊥
kept_unknown r place q p mode e keeps = none_listed (is_unknown q) q (λ x at. at_site x at (origin r place q p x e.functions at))
  where
    apart : Apart (names (outer q))
    apart = apart_edited r place q p mode e keeps

    at_like : (g f : ℕ × Function) (x y : Site) → In x (sites q) → In y (sites p) → IsFunctionEdit r g.1 f.1 → Like r g f x y → (u : Use) → In u (uses_of x.stmt)
        → (b : Bool) → names_function u.role ≡ b → is_out_of_reach x.place (meaning q x u.name) ≡ false
    at_like g f x y in_q in_p fe like u at true is = above_reached q x u.name apart (e.called x u (contains_of (sites q) x in_q) (contains_of (uses_of x.stmt) u at) is)
    at_like g f x y in_q in_p fe like u at false is =
        let same : read r u ≡ u = ap (λ b. record { name = if b then r.name u.name else u.name; role = u.role; indexed = u.indexed }) is in
        let in_y : In u (uses_of y.stmt) = subst (λ v. In v (uses_of y.stmt)) same (subst (In (read r u)) (uses_read r x.stmt y.stmt like.stmt) (in_map (read r) (uses_of x.stmt) u at)) in
        let m = use_meant p (keeps rule.Unknown) (keeps rule.WrongKind) y u in_p in_y in
        let other = fits_other m.thing u.role u.indexed is m.fit in
        ap (is_out_of_reach x.place) (meaning_same r place q p g f x y e apart fe like u.name m.thing other m.meant) ∙ other_reached x.place m.thing other

    at_site : (x : Site) → In x (sites q) → Origin r place p x → is_unknown q x ≡ false
    at_site x at (Origin.put is) = any_none (λ (u : Use). is_out_of_reach x.place (meaning q x u.name)) (uses_of x.stmt) (λ u of. absurd (subst (In u) (no_uses q x x.stmt (monitor_of r x.stmt is)) of))
    at_site x at (Origin.like g f y among fe in_p like) =
        any_none (λ (u : Use). is_out_of_reach x.place (meaning q x u.name)) (uses_of x.stmt) (λ u of. at_like g (place g.0, f) x y at in_p fe like u of (names_function u.role) refl)
