-- Objects are initialised as early in an edited program.
use Rattle.std.proofs.Common.{Bool, List, [], ap, false, not, refl, sym, ℕ, ◌&&◌, ◌||◌, ◌∙◌, ◌∷◌, ◌≡◌}
use Rattle.std.specs.Prelude.{Contains, IsTrue}
use Rattle.std.specs.List.{list_any}
use Rattle.c_tree.specs.declared.program.Mode.{Mode}
use Rattle.c_tree.specs.Lined.{Function, Give, Program, Stmt, Take}
use Rattle.c_rules.specs.declared.rule.Rule.TheVariants as rule
use Rattle.c_rules.specs.Sites.{Site, Standing, inside, is_main}
use Rattle.c_rules.specs.Formed.{KeepsRules}
use Rattle.c_rules.specs.Objects.{has_active, init_late, is_active, is_init}
use Rattle.rule_facts.proofs.Tests.{none_listed, none_there}
use Rattle.kept_rules.proofs.Like.{inside_stands, monitor_of}
use Rattle.kept_rules.proofs.Lines.{active_same, init_same}
use Rattle.kept_rules.proofs.Origin.{Origin, origin}
use Rattle.kept_rules.proofs.Sited.{EditBefore, Like, Stands}
use Rattle.kept_rules.specs.Edit.{EditOf, Way, is_monitor_call}
use Rattle.kept_rules.specs.Programs.{IsEditOf, IsFunctionEdit}

-- a test that calls of monitors don't pass, and that edits don't change
stands_any : (r : Way) (test : Stmt → Bool) → ((s : Stmt) → IsTrue (is_monitor_call s) → test s ≡ false) → ((s t : Stmt) → EditOf r s t → test s ≡ test t)
    → (xs ys : List Standing) → Stands r xs ys → list_any (λ (x : Standing). test x.stmt) xs ≡ list_any (λ (y : Standing). test y.stmt) ys
stands_any r test at_put at_edit xs ys Stands.none = refl
stands_any r test at_put at_edit xs ys (Stands.put x us vs is more) =
    ap (λ b. b || list_any (λ (u : Standing). test u.stmt) us) (at_put x.stmt (monitor_of r x.stmt is)) ∙ stands_any r test at_put at_edit us vs more
stands_any r test at_put at_edit xs ys (Stands.keep s t scope us vs like more) =
    ap (λ b. b || list_any (λ (u : Standing). test u.stmt) us) (at_edit s t like) ∙ ap (λ b. test t || b) (stands_any r test at_put at_edit us vs more)

pub before_any : (r : Way) (test : Stmt → Bool) → ((s : Stmt) → IsTrue (is_monitor_call s) → test s ≡ false) → ((s t : Stmt) → EditOf r s t → test s ≡ test t)
    → (bs cs : List Stmt) → EditBefore r bs cs → list_any test bs ≡ list_any test cs
before_any r test at_put at_edit bs cs EditBefore.none = refl
before_any r test at_put at_edit bs cs (EditBefore.put s us vs is more) =
    ap (λ b. b || list_any test us) (at_put s is) ∙ before_any r test at_put at_edit us vs more
before_any r test at_put at_edit bs cs (EditBefore.keep s t us vs like more) =
    ap (λ b. b || list_any test us) (at_edit s t like) ∙ ap (λ b. test t || b) (before_any r test at_put at_edit us vs more)

not_active : (s : Stmt) → IsTrue (is_monitor_call s) → is_active s ≡ false
not_active (Take line monitor) is = refl
not_active (Give line monitor) is = refl
not_active s is = cc is

none_active : (s : Stmt) → IsTrue (is_monitor_call s) → has_active s ≡ false
none_active (Take line monitor) is = refl
none_active (Give line monitor) is = refl
none_active s is = cc is

pub no_init : (s : Stmt) → IsTrue (is_monitor_call s) → is_init s ≡ false
no_init (Take line monitor) is = refl
no_init (Give line monitor) is = refl
no_init s is = cc is

has_same : (r : Way) (s t : Stmt) → EditOf r s t → has_active s ≡ has_active t
has_same r s t e =
    ap (λ b. b || list_any (λ (x : Standing). is_active x.stmt) (inside [] s)) (active_same r s t e)
    ∙ ap (λ b. is_active t || b) (stands_any r is_active not_active (active_same r) (inside [] s) (inside [] t) (inside_stands r [] s t e))

abbrev is_late : Site → Bool
is_late site = is_init site.stmt && (not (is_main site.function) || list_any has_active (site.holder ∷ site.before))

late_same : (r : Way) (g f : ℕ × Function) (x y : Site) → IsFunctionEdit r g.1 f.1 → Like r g f x y → is_late x ≡ is_late y
late_same r g f x y e like =
    let m : is_main x.function ≡ is_main y.function = ap is_main like.function.0 ∙ (e.main ∙ sym (ap is_main like.function.1)) in
    let i = init_same r x.stmt y.stmt like.stmt in
    let h = has_same r x.holder y.holder like.holder in
    let b = before_any r has_active none_active (has_same r) x.before y.before like.before in
    rw (i, m, h, b)

pub kept_late : (r : Way) (place : ℕ → ℕ) (q p : Program) (mode : Mode) → IsEditOf r place q p → KeepsRules p mode
    → (line : ℕ) → Contains (init_late q) line → ⊥
kept_late r place q p mode e keeps = none_listed is_late q (λ x at. at_site x (origin r place q p x e.functions at))
  where
    at_site : (x : Site) → Origin r place p x → is_late x ≡ false
    at_site x (Origin.put is) = ap (λ b. b && (not (is_main x.function) || list_any has_active (x.holder ∷ x.before))) (no_init x.stmt (monitor_of r x.stmt is))
    at_site x (Origin.like g f y among fe in_p like) = late_same r g (place g.0, f) x y fe like ∙ none_there is_late p (keeps rule.InitLate) y in_p
