-- Simple statements on other lines.
use Rattle.std.proofs.Common.{ap, cond, refl, sym, ℕ, ◌∙◌, ◌≡◌}
use Rattle.std.specs.Prelude.{IsTrue, None}
use Rattle.c_tree.specs.Bare as bare
use Rattle.c_tree.specs.Lined.{Assign, Broadcast, Call, Create, Declare, For, Give, If, InitCond, InitMutex, Join, Lock, Print, Read, Return, Signal, Stmt, Take, TryLock, Unlock, Wait, While, bare_stmt, line_of}
use Rattle.c_rules.specs.Meaning.{opened}
use Rattle.c_rules.specs.Objects.{is_active, is_init}
use Rattle.rule_facts.proofs.Tests.{first_part}
use Rattle.kept_rules.proofs.Like.{locals_same}
use Rattle.kept_rules.specs.Edit.{EditOf, Way, is_simple}

-- a simple statement on a line
abbrev pub put_on : ℕ → bare.Stmt → Stmt
put_on line (bare.Declare name value) = Declare line name value
put_on line (bare.Assign target value) = Assign line target value
put_on line (bare.Return value) = Return line value
put_on line (bare.Read target) = Read line target
put_on line (bare.Print format args) = Print line format args
put_on line (bare.Join slot) = Join line slot
put_on line (bare.InitMutex place) = InitMutex line place
put_on line (bare.InitCond place) = InitCond line place
put_on line (bare.Lock place) = Lock line place
put_on line (bare.Unlock place) = Unlock line place
put_on line (bare.Signal cond) = Signal line cond
put_on line (bare.Broadcast cond) = Broadcast line cond
put_on line (bare.Take monitor) = Take line monitor
put_on line (bare.Give monitor) = Give line monitor
put_on line s = Return line None

put_back : (s : Stmt) → IsTrue (is_simple s) → put_on (line_of s) (bare_stmt s) ≡ s
put_back (Call line target function args) is = cc is
put_back (Create line slot function arg) is = cc is
put_back (If line test a b) is = cc is
put_back (While line test body) is = cc is
put_back (For line first_part test step body) is = cc is
put_back (TryLock line place a b) is = cc is
put_back (Wait line cond mutex takes) is = cc is
put_back s is = refl

pub by_lines : {X : Type 0} (f : Stmt → X) → ((l m : ℕ) (b : bare.Stmt) → f (put_on l b) ≡ f (put_on m b)) → (s t : Stmt) → IsTrue (is_simple s) → IsTrue (is_simple t)
    → bare_stmt s ≡ bare_stmt t → f s ≡ f t
by_lines f any s t a b e =
    ap f (sym (put_back s a)) ∙ (any (line_of s) (line_of t) (bare_stmt s) ∙ (ap (λ u. f (put_on (line_of t) u)) e ∙ ap f (put_back t b)))

opened_on : (l m : ℕ) (b : bare.Stmt) → opened (put_on l b) ≡ opened (put_on m b)
opened_on l m (bare.Declare name value) = refl
opened_on l m b = refl

pub opened_same : (r : Way) (s t : Stmt) → EditOf r s t → opened s ≡ opened t
opened_same r s t (EditOf.same u v a b e) = by_lines opened opened_on s t a b e
opened_same r s t (EditOf.counted l m test f st b fo so o x y z) = locals_same r f fo x
opened_same r s t e = refl

active_on : (l m : ℕ) (b : bare.Stmt) → is_active (put_on l b) ≡ is_active (put_on m b)
active_on l m (bare.Declare name value) = refl
active_on l m b = refl

pub active_same : (r : Way) (s t : Stmt) → EditOf r s t → is_active s ≡ is_active t
active_same r s t (EditOf.same u v a b e) = by_lines is_active active_on s t a b e
active_same r s t e = refl

init_on : (l m : ℕ) (b : bare.Stmt) → is_init (put_on l b) ≡ is_init (put_on m b)
init_on l m (bare.Declare name value) = refl
init_on l m b = refl

pub init_same : (r : Way) (s t : Stmt) → EditOf r s t → is_init s ≡ is_init t
init_same r s t (EditOf.same u v a b e) = by_lines is_init init_on s t a b e
init_same r s t e = refl

pub put_same : (s t : Stmt) → IsTrue (is_simple t) → bare_stmt s ≡ bare_stmt t → put_on (line_of t) (bare_stmt s) ≡ t
put_same s t is e = ap (put_on (line_of t)) e ∙ put_back t is
