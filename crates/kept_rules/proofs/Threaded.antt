-- Threads are created and joined at fixed places in an edited program, with constant arguments.
use Rattle.std.proofs.Common.{List, ap, false, inl, not, refl, subst, sym, ℕ, ◌&&◌, ◌++◌, ◌||◌, ◌∙◌, ◌∷◌, ◌≡◌}
use Rattle.std.specs.Prelude.{Contains, IsTrue, is_some}
use Rattle.std.specs.List.{list_any}
use Rattle.c_tree.specs.declared.program.Mode.{Mode}
use Rattle.c_tree.specs.Bare as bare
use Rattle.c_tree.specs.Lined.{Create, Function, Give, Join, Program, Stmt, Take, bare_stmt, line_of}
use Rattle.c_tree.specs.Expressions.{Place}
use Rattle.c_rules.specs.declared.rule.Rule.TheVariants as rule
use Rattle.c_rules.specs.Sites.{Site, is_main, sites}
use Rattle.c_rules.specs.Threads.{arg_not_constant, create_not_fixed, creates_in, has_open_argument, is_fixed, is_fixed_index, is_unfixed_create, is_unfixed_join, join_not_fixed, joins_in, thread_len}
use Rattle.c_rules.specs.Formed.{KeepsRules}
use Rattle.c_rules.specs.declared.role.Role.TheVariants.{OfThread, Start}
use Rattle.c_rules.specs.Uses.{Use, of_expr, of_value, plain, uses_of}
use Rattle.c_rules.specs.Meaning.{meaning}
use Rattle.c_rules.proofs.Members.{In}
use Rattle.kept_rules.proofs.Called.{meant_as}
use Rattle.kept_rules.proofs.Late.{before_any}
use Rattle.kept_rules.proofs.Lines.{by_lines, put_on, put_same}
use Rattle.kept_rules.proofs.Origin.{kept_where}
use Rattle.kept_rules.proofs.Sited.{Like}
use Rattle.kept_rules.specs.Edit.{EditOf, Way, is_monitor_call, is_simple}
use Rattle.kept_rules.specs.Programs.{IsEditOf, IsFunctionEdit}

-- ---- arguments

open_on : (l m : ℕ) (b : bare.Stmt) → has_open_argument (put_on l b) ≡ has_open_argument (put_on m b)
open_on l m (bare.Declare name value) = refl
open_on l m b = refl

open_same : (r : Way) (s t : Stmt) → EditOf r s t → has_open_argument s ≡ has_open_argument t
open_same r s t (EditOf.same u v a b e) = by_lines has_open_argument open_on s t a b e
open_same r s t e = refl

none_open : (s : Stmt) → IsTrue (is_monitor_call s) → has_open_argument s ≡ false
none_open (Take line monitor) is = refl
none_open (Give line monitor) is = refl
none_open s is = cc is

pub kept_arguments : (r : Way) (place : ℕ → ℕ) (q p : Program) (mode : Mode) → IsEditOf r place q p → KeepsRules p mode
    → (line : ℕ) → Contains (arg_not_constant q) line → ⊥
kept_arguments r place q p mode e keeps =
    kept_where r place q p e.functions (λ x. has_open_argument x.stmt) (λ y. has_open_argument y.stmt) (λ x at is. none_open x.stmt is)
    (λ g f x y in_q in_p fe like free. open_same r x.stmt y.stmt like.stmt ∙ free) (keeps rule.ArgNotConstant)

-- ---- what is created and joined before

creates_on : (slot : Place) (l m : ℕ) (b : bare.Stmt) → creates_in slot (put_on l b) ≡ creates_in slot (put_on m b)
creates_on slot l m (bare.Declare name value) = refl
creates_on slot l m b = refl

pub creates_same : (slot : Place) (r : Way) (s t : Stmt) → EditOf r s t → creates_in slot s ≡ creates_in slot t
creates_same slot r s t (EditOf.same u v a b e) = by_lines (creates_in slot) (creates_on slot) s t a b e
creates_same slot r s t e = refl

none_created : (slot : Place) (s : Stmt) → IsTrue (is_monitor_call s) → creates_in slot s ≡ false
none_created slot (Take line monitor) is = refl
none_created slot (Give line monitor) is = refl
none_created slot s is = cc is

joins_on : (slot : Place) (l m : ℕ) (b : bare.Stmt) → joins_in slot (put_on l b) ≡ joins_in slot (put_on m b)
joins_on slot l m (bare.Declare name value) = refl
joins_on slot l m b = refl

joins_same : (slot : Place) (r : Way) (s t : Stmt) → EditOf r s t → joins_in slot s ≡ joins_in slot t
joins_same slot r s t (EditOf.same u v a b e) = by_lines (joins_in slot) (joins_on slot) s t a b e
joins_same slot r s t e = refl

none_joined : (slot : Place) (s : Stmt) → IsTrue (is_monitor_call s) → joins_in slot s ≡ false
none_joined slot (Take line monitor) is = refl
none_joined slot (Give line monitor) is = refl
none_joined slot s is = cc is

-- ---- fixed places

fixed_same : (r : Way) (place : ℕ → ℕ) (q p : Program) (mode : Mode) → IsEditOf r place q p → KeepsRules p mode → (g f : ℕ × Function) (x y : Site) → In x (sites q) → In y (sites p)
    → IsFunctionEdit r g.1 f.1 → Like r g f x y → (slot : Place) (us : List Use) → uses_of x.stmt ≡ record { name = slot.name; role = OfThread; indexed = is_some slot.index } ∷ us
    → is_fixed q x slot ≡ is_fixed p y slot
fixed_same r place q p mode e keeps g f x y in_q in_p fe like slot us is =
    let u : Use = record { name = slot.name; role = OfThread; indexed = is_some slot.index } in
    let m = meant_as r place q p mode e keeps g f x y in_q in_p fe like u (subst (In u) (sym is) (inl refl)) refl in
    let main : is_main x.function ≡ is_main y.function = ap is_main like.function.0 ∙ (fe.main ∙ sym (ap is_main like.function.1)) in
    let own = like.own in
    let a : meaning q x slot.name ≡ meaning p y slot.name = m.meant ∙ sym m.was in
    ap (λ b. b && x.own && is_fixed_index (thread_len (meaning q x slot.name)) slot.index) main
    ∙ (ap (λ b. is_main y.function && b && is_fixed_index (thread_len (meaning q x slot.name)) slot.index) own
    ∙ ap (λ t. is_main y.function && y.own && is_fixed_index (thread_len t) slot.index) a)

simple_create : (q : Program) (x : Site) (s : Stmt) → IsTrue (is_simple s) → is_unfixed_create q x s ≡ false
simple_create q x (Create line slot name arg) is = cc is
simple_create q x s is = refl

monitor_create : (q : Program) (x : Site) (s : Stmt) → IsTrue (is_monitor_call s) → is_unfixed_create q x s ≡ false
monitor_create q x (Create line slot name arg) is = cc is
monitor_create q x s is = refl

pub kept_creates : (r : Way) (place : ℕ → ℕ) (q p : Program) (mode : Mode) → IsEditOf r place q p → KeepsRules p mode
    → (line : ℕ) → Contains (create_not_fixed q) line → ⊥
kept_creates r place q p mode e keeps =
    kept_where r place q p e.functions (λ x. is_unfixed_create q x x.stmt) (λ y. is_unfixed_create p y y.stmt) (λ x at is. monitor_create q x x.stmt is)
    (λ g f x y in_q in_p fe like free. by g f x y in_q in_p fe like x.stmt y.stmt refl like.stmt free) (keeps rule.CreateNotFixed)
  where
    by : (g f : ℕ × Function) (x y : Site) → In x (sites q) → In y (sites p) → IsFunctionEdit r g.1 f.1 → Like r g f x y
        → (s t : Stmt) → x.stmt ≡ s → EditOf r s t → is_unfixed_create p y t ≡ false → is_unfixed_create q x s ≡ false
    by g f x y in_q in_p fe like s t a (EditOf.same u v c d is) h = simple_create q x s c
    by g f x y in_q in_p fe like s t a (EditOf.create l m slot name arg) h =
        ap (λ b. not b || list_any (creates_in slot) x.before)
        (fixed_same r place q p mode e keeps g f x y in_q in_p fe like slot (of_value slot.index ++ plain Start name ∷ of_expr arg) (ap uses_of a))
        ∙ (ap (λ b. not (is_fixed p y slot) || b) (before_any r (creates_in slot) (none_created slot) (creates_same slot r) x.before y.before like.before) ∙ h)
    by g f x y in_q in_p fe like s t a other h = refl

monitor_join : (q : Program) (x : Site) (s : Stmt) → IsTrue (is_monitor_call s) → is_unfixed_join q x s ≡ false
monitor_join q x (Join line slot) is = cc is
monitor_join q x s is = refl

pub kept_joins : (r : Way) (place : ℕ → ℕ) (q p : Program) (mode : Mode) → IsEditOf r place q p → KeepsRules p mode
    → (line : ℕ) → Contains (join_not_fixed q) line → ⊥
kept_joins r place q p mode e keeps =
    kept_where r place q p e.functions (λ x. is_unfixed_join q x x.stmt) (λ y. is_unfixed_join p y y.stmt) (λ x at is. monitor_join q x x.stmt is)
    (λ g f x y in_q in_p fe like free. by g f x y in_q in_p fe like x.stmt y.stmt refl like.stmt free) (keeps rule.JoinNotFixed)
  where
    at_simple : (g f : ℕ × Function) (x y : Site) → In x (sites q) → In y (sites p) → IsFunctionEdit r g.1 f.1 → Like r g f x y
        → (s : Stmt) (m : ℕ) → x.stmt ≡ s → is_unfixed_join p y (put_on m (bare_stmt s)) ≡ false → is_unfixed_join q x s ≡ false
    at_simple g f x y in_q in_p fe like (Join l slot) m a h =
        ap (λ b. not b || not (list_any (creates_in slot) x.before) || list_any (joins_in slot) x.before)
        (fixed_same r place q p mode e keeps g f x y in_q in_p fe like slot (of_value slot.index) (ap uses_of a))
        ∙ (ap (λ b. not (is_fixed p y slot) || not b || list_any (joins_in slot) x.before) (before_any r (creates_in slot) (none_created slot) (creates_same slot r) x.before y.before like.before)
        ∙ (ap (λ b. not (is_fixed p y slot) || not (list_any (creates_in slot) y.before) || b) (before_any r (joins_in slot) (none_joined slot) (joins_same slot r) x.before y.before like.before) ∙ h))
    at_simple g f x y in_q in_p fe like s m a h = refl

    by : (g f : ℕ × Function) (x y : Site) → In x (sites q) → In y (sites p) → IsFunctionEdit r g.1 f.1 → Like r g f x y
        → (s t : Stmt) → x.stmt ≡ s → EditOf r s t → is_unfixed_join p y t ≡ false → is_unfixed_join q x s ≡ false
    by g f x y in_q in_p fe like s t a (EditOf.same u v c d is) h = at_simple g f x y in_q in_p fe like s (line_of t) a (ap (is_unfixed_join p y) (put_same s t d is) ∙ h)
    by g f x y in_q in_p fe like s t a other h = refl
