-- Uses fit names in an edited program, numbers of arguments match, and no function calls itself.
use Rattle.std.proofs.Common.{Bool, List, ap, cond, false, inl, length, not, refl, subst, sym, true, ℕ, ◌==◌, ◌∙◌, ◌∷◌, ◌≡◌}
use Rattle.std.specs.Prelude.{Contains, IsTrue, Some, bytes_eq, is_some}
use Rattle.std.proofs.lemmas.Slice.Eq.{bytes_eq-Decides}
use Rattle.c_tree.specs.declared.program.Mode.{Mode}
use Rattle.c_tree.specs.Bare as bare
use Rattle.c_tree.specs.Lined.{Call, Function, Give, Program, Stmt, Take}
use Rattle.c_rules.specs.declared.rule.Rule.TheVariants as rule
use Rattle.c_rules.specs.Sites.{Site, sites}
use Rattle.c_rules.specs.Formed.{KeepsRules}
use Rattle.c_rules.specs.declared.role.Role.{Role}
use Rattle.c_rules.specs.declared.role.Role.TheVariants.{Called, Start}
use Rattle.c_rules.specs.Declarations as thing
use Rattle.c_rules.specs.Uses.{Use, fits, is_callable, is_start, of_exprs, of_target, plain, uses_of}
use Rattle.c_rules.specs.Meaning.{meaning}
use Rattle.c_rules.specs.Using.{calls, count_of, is_miscounted, is_misused, recursions, takes_others, wrong_kinds}
use Rattle.c_rules.proofs.Members.{In, in_append_right}
use Rattle.rule_facts.proofs.Meant.{is_wrong}
use Rattle.rule_facts.proofs.Tests.{any_none}
use Rattle.rule_facts.specs.Meant.{names_function}
use Rattle.kept_rules.proofs.Called.{called_as, meant_as}
use Rattle.kept_rules.proofs.Lines.{by_lines, put_on}
use Rattle.kept_rules.proofs.Origin.{kept_where}
use Rattle.kept_rules.proofs.Sited.{Like}
use Rattle.kept_rules.proofs.Unknown.{no_uses}
use Rattle.kept_rules.specs.Edit.{EditOf, Way, is_monitor_call, is_simple}
use Rattle.kept_rules.specs.Programs.{IsEditOf, IsFunctionEdit}

-- ---- uses that fit

fits_kind : (role : Role) (indexed : Bool) (j k : ℕ) (a b : Function) → a.kind ≡ b.kind → fits (thing.Function j a) role indexed ≡ fits (thing.Function k b) role indexed
fits_kind Start indexed j k a b e = ap is_start e
fits_kind (Called result) indexed j k a b e = ap (λ kind. is_callable kind result) e
fits_kind role indexed j k a b e = refl

pub kept_kinds : (r : Way) (place : ℕ → ℕ) (q p : Program) (mode : Mode) → IsEditOf r place q p → KeepsRules p mode
    → (line : ℕ) → Contains (wrong_kinds q) line → ⊥
kept_kinds r place q p mode e keeps =
    kept_where r place q p e.functions (is_wrong q) (is_wrong p)
    (λ x at is. any_none (λ (u : Use). is_misused u (meaning q x u.name)) (uses_of x.stmt) (λ u of. absurd (subst (In u) (no_uses q x x.stmt is) of)))
    (λ g f x y in_q in_p fe like free. any_none (λ (u : Use). is_misused u (meaning q x u.name)) (uses_of x.stmt) (λ u at. at_use g f x y in_q in_p fe like u at (names_function u.role) refl))
    (keeps rule.WrongKind)
  where
    at_use : (g f : ℕ × Function) (x y : Site) → In x (sites q) → In y (sites p) → IsFunctionEdit r g.1 f.1 → Like r g f x y → (u : Use) → In u (uses_of x.stmt)
        → (b : Bool) → names_function u.role ≡ b → is_misused u (meaning q x u.name) ≡ false
    at_use g f x y in_q in_p fe like u at true is =
        let c = called_as r place q p mode e keeps g f x y in_q in_p like u at is in
        ap (is_misused u) c.meant ∙ ap not (fits_kind u.role u.indexed c.here (place c.here) c.function c.other c.edited.kind ∙ c.fit)
    at_use g f x y in_q in_p fe like u at false is =
        let m = meant_as r place q p mode e keeps g f x y in_q in_p fe like u at is in
        ap (is_misused u) m.meant ∙ ap not m.fit

-- ---- numbers of arguments

counted_on : (q : Program) (x : Site) (l m : ℕ) (b : bare.Stmt) → is_miscounted q x (put_on l b) ≡ is_miscounted q x (put_on m b)
counted_on q x l m (bare.Declare name value) = refl
counted_on q x l m b = refl

counted_there : (q p : Program) (x y : Site) (s : Stmt) → IsTrue (is_simple s) → is_miscounted q x s ≡ is_miscounted p y s
counted_there q p x y (Call line target name args) is = cc is
counted_there q p x y s is = refl

pub none_counted : (q : Program) (x : Site) (s : Stmt) → IsTrue (is_monitor_call s) → is_miscounted q x s ≡ false
none_counted q x (Take line monitor) is = refl
none_counted q x (Give line monitor) is = refl
none_counted q x s is = cc is

pub kept_counts_at : (r : Way) (place : ℕ → ℕ) (q p : Program) (mode : Mode) → IsEditOf r place q p → KeepsRules p mode → (g f : ℕ × Function) (x y : Site) → In x (sites q) → In y (sites p)
    → Like r g f x y → is_miscounted p y y.stmt ≡ false → is_miscounted q x x.stmt ≡ false
kept_counts_at r place q p mode e keeps g f x y in_q in_p like free = by x.stmt y.stmt refl refl like.stmt free
  where
    by : (s t : Stmt) → x.stmt ≡ s → y.stmt ≡ t → EditOf r s t → is_miscounted p y t ≡ false → is_miscounted q x s ≡ false
    by s t a b (EditOf.same u v c d is) h = by_lines (is_miscounted q x) (counted_on q x) s t c d is ∙ (counted_there q p x y t d ∙ h)
    by s t a b (EditOf.call l m target name args) h =
        let u : Use = plain (Called (is_some target)) name in
        let c = called_as r place q p mode e keeps g f x y in_q in_p like u (subst (λ z. In u (uses_of z)) (sym a) (in_append_right (of_target target) (u ∷ of_exprs args) u (inl refl))) refl in
        let ps : length c.function.params ≡ length c.other.params = ap length c.edited.params in
        let w : takes_others (Some (thing.Function (place c.here) c.other)) (count_of args) ≡ false = ap (λ o. takes_others o (count_of args)) (sym c.was) ∙ h in
        ap (λ o. takes_others o (count_of args)) c.meant ∙ (ap (λ n. not (n == count_of args)) ps ∙ w)
    by s t a b (EditOf.create l m slot name arg) h = refl
    by s t a b (EditOf.wait l m cond mutex takes others v) h = refl
    by s t a b (EditOf.attempt l m place c d ce de v w) h = refl
    by s t a b (EditOf.branch l m test c d ce de v w) h = refl
    by s t a b (EditOf.loop l m test c d v) h = refl
    by s t a b (EditOf.counted l m test fi st bo fo so o v w z) h = refl

-- ---- recursion

simple_calls : (n : List ℕ) (s : Stmt) → IsTrue (is_simple s) → calls n s ≡ false
simple_calls n (Call line target name args) is = cc is
simple_calls n s is = refl

monitor_calls : (n : List ℕ) (s : Stmt) → IsTrue (is_monitor_call s) → calls n s ≡ false
monitor_calls n (Take line monitor) is = refl
monitor_calls n (Give line monitor) is = refl
monitor_calls n s is = cc is

calls_edit : (r : Way) (a b : List ℕ) (s t : Stmt) → r.name a ≡ b → EditOf r s t → calls b t ≡ false → calls a s ≡ false
calls_edit r a b s t e (EditOf.same u v c d is) h = simple_calls a s c
calls_edit r a b s t e (EditOf.call l m target name args) h = go (bytes_eq name a) refl
  where
    go : (x : Bool) → bytes_eq name a ≡ x → bytes_eq name a ≡ false
    go false is = is
    go true is = let k : bytes_eq (r.name name) b ≡ true = (bytes_eq-Decides (r.name name) b).1 (ap r.name ((bytes_eq-Decides name a).0 is) ∙ e) in absurd (cc (k, h))
calls_edit r a b s t e like h = refl

pub kept_recursion : (r : Way) (place : ℕ → ℕ) (q p : Program) (mode : Mode) → IsEditOf r place q p → KeepsRules p mode
    → (line : ℕ) → Contains (recursions q) line → ⊥
kept_recursion r place q p mode e keeps =
    kept_where r place q p e.functions (λ x. calls x.function.name x.stmt) (λ y. calls y.function.name y.stmt)
    (λ x at is. monitor_calls x.function.name x.stmt is)
    (λ g f x y in_q in_p fe like free. calls_edit r x.function.name y.function.name x.stmt y.stmt
    (ap (λ (h : Function). r.name h.name) like.function.0 ∙ (fe.name ∙ ap (λ (h : Function). h.name) (sym like.function.1))) like.stmt free)
    (keeps rule.Recursion)
