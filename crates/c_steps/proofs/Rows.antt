-- What the rows of the table of effects give, and what may be set.
use Rattle.std.proofs.lemmas.Option.{same_Some}
use Rattle.std.proofs.Common.{◌≡◌, ◌≤◌, ◌<◌, get_or, length, arith, ◌++◌, Bool, true, false, ℕ, zero, suc, List, [], ◌∷◌, drop, Option, Some, None, refl, sym, ap, subst}
use Rattle.std.specs.Prelude.{ℤ, slice_get, slice_set, option_map}
use Rattle.std.specs.FinMap as finite
use Rattle.c_tree.specs.declared.stmt.Stmt as tree_stmt
use Rattle.c_meaning.specs.Shown.{shown_stmt, shown_body}
use Rattle.c_tree.specs.Bare as bare
use Rattle.c_tree.specs.Bare.{Stmt, Stmts, Cons, Function}
use Rattle.c_tree.specs.Expressions.{Expr, Exprs, Place}
use Rattle.c_frames.specs.Positions.{first_of}
use Rattle.c_tree.specs.declared.program.Program.{Program}
use Rattle.c_steps.specs.Running.{Runs}
use Rattle.c_steps.specs.Standing.{At, does}
use Rattle.c_steps.specs.Answers.{Answers}
use Rattle.c_steps.specs.Asking.{asks_at}
use Rattle.c_steps.specs.declared.state.Stepped.{Stepped}
use Rattle.c_meaning.specs.Branching.{for_begun}
use Rattle.state_parts.proofs.Newest.{set_twice}
use Rattle.c_meaning.specs.State.{State, Locals, Frame, Status, Running, frame, goes_on}
use Rattle.c_meaning.specs.Outcome.{Undefined, moved}
use Rattle.c_meaning.specs.Calls.{passed, called}
use Rattle.c_meaning.specs.Setting as setting
use Rattle.c_meaning.specs.Setting.{declared_local}
use Rattle.c_meaning.specs.Places as places
use Rattle.c_frames.specs.LocalValues.{changed}
use Rattle.c_steps.specs.Setting.{MaySet, MaySetTarget}
use Rattle.state_parts.specs.Targets.{IsTargetOf}
use Rattle.c_steps.specs.declared.state.State as code
use Rattle.state_parts.specs.declared.target.Target.{Target}
use Rattle.state_parts.specs.declared.target.Target.TheVariants.{Cell, Local}

pub declared : (s : State) (t : ℕ) (locals : Locals) (rest : Stmts) (more : List Frame) (name : List ℕ) (v : Option ℤ)
    → declared_local s t locals rest more name (Some v) ≡ moved s t (frame (changed locals name v) rest ∷ more)
declared s t locals rest more name (Some z) = refl
declared s t locals rest more name None = refl

-- what is set doesn't depend on the input
pub set_input : (s : State) (input : List ℤ) (t : ℕ) (locals : Locals) (rest : Stmts) (more : List Frame) (target : places.Target) (z : ℤ)
    → setting.set (record s { input = input }) t locals rest more target z ≡ record (setting.set s t locals rest more target z) { input = input }
set_input s input t locals rest more (places.Cell cell) z = refl
set_input s input t locals rest more (places.Local name) z = refl

pub may_target : (s : code.State) (t : ℕ) (name : List ℕ) (target : Target) → MaySet s t name → IsTargetOf name target → MaySetTarget s t target
may_target s t name (Cell cell) may is = tt
may_target s t name (Local n) may is = subst (MaySet s t) (sym is) may

-- what is left of a list from a place on
pub drop_there : {A : Type 0} (xs : List A) (k : ℕ) (x : A) → slice_get xs k ≡ Some x → drop k xs ≡ x ∷ drop (suc k) xs
drop_there [] k x e = absurd (cc e)
drop_there (y ∷ xs) zero x e = ap (λ z. z ∷ xs) (same_Some y x e)
drop_there (y ∷ xs) (suc k) x e = drop_there xs k x e

pub drop_past : {A : Type 0} (xs : List A) (k : ℕ) → slice_get xs k ≡ None → drop k xs ≡ []
drop_past [] zero e = refl
drop_past [] (suc k) e = refl
drop_past (y ∷ xs) zero e = absurd (cc e)
drop_past (y ∷ xs) (suc k) e = drop_past xs k e

-- a thread goes on twice
pub goes_twice : (s : State) (t : ℕ) (first then : List Frame) → goes_on (goes_on s t first) t then ≡ goes_on s t then
goes_twice s t first then = ap {A = List Status} (λ threads. record s { threads = threads }) (set_twice s.threads t (Running first) (Running then))

pub set_after : (s : State) (t : ℕ) (first : List Frame) (locals : Locals) (rest : Stmts) (more : List Frame) (target : places.Target) (z : ℤ)
    → setting.set (goes_on s t first) t locals rest more target z ≡ setting.set s t locals rest more target z
set_after s t first locals rest more (places.Cell cell) z = ap {A = State} (λ x. record x { cells = slice_set s.cells cell z }) (goes_twice s t first (frame locals rest ∷ more))
set_after s t first locals rest more (places.Local name) z = goes_twice s t first (frame (finite.insert locals name z) rest ∷ more)

abbrev pub at_of : (p : Program) (s : code.State) (t : ℕ) (locals : Locals) (act : Stmt) (rest : Stmts) (more : List Frame) → Runs p s t (frame locals (Cons act rest)) more → At p s t act
at_of p s t locals act rest more r = record { thread = r.thread; there = r.there; runs = r.runs; locals = locals; rest = rest; more = more; stands = r.stands }

pub first_call : (begun : Bool) (target : Option Place) (function : List ℕ) (args : Exprs) → first_of begun (bare.Call target function args) ≡ bare.Call target function args
first_call true target function args = refl
first_call false target function args = refl

pub nothing_before : (old : List ℤ) → old ≡ [] → (o : Option (List ℤ)) → option_map (λ zs. old ++ zs) o ≡ o
nothing_before old none None = refl
nothing_before old none (Some zs) = ap (λ l. Some (l ++ zs)) none

pub no_values : (s : State) (t : ℕ) (frames : List Frame) (o : Option Function) → called s t frames o None ≡ Undefined
no_values s t frames None = refl
no_values s t frames (Some f) = refl

pub no_call : (s : State) (t : ℕ) (frames : List Frame) (o : Option Function) (values : List ℤ) → None ≡ option_map (λ f. frame (passed f.params values) f.body) o
    → called s t frames o (Some values) ≡ Undefined
no_call s t frames None values e = refl
no_call s t frames (Some f) values e = absurd (cc e)

pub a_call : (s : State) (t : ℕ) (frames : List Frame) (o : Option Function) (values : List ℤ) (x : Frame) → Some x ≡ option_map (λ f. frame (passed f.params values) f.body) o
    → called s t frames o (Some values) ≡ moved s t (x ∷ frames)
a_call s t frames None values x e = absurd (cc e)
a_call s t frames (Some f) values x e = ap (λ g. moved s t (g ∷ frames)) (sym (same_Some x (frame (passed f.params values) f.body) e))

-- a first part of more than one statement is undefined
pub two_parts : (p : bare.Program) (s : State) (t : ℕ) (locals : Locals) (rest : Stmts) (more : List Frame) (a b : Stmt) (others : Stmts)
    → for_begun p s t locals rest more (Cons a (Cons b others)) ≡ Undefined
two_parts p s t locals rest more (bare.Declare name e) b others = refl
two_parts p s t locals rest more (bare.Assign target e) b others = refl
two_parts p s t locals rest more (bare.Call target function args) b others = refl
two_parts p s t locals rest more (bare.If test then_arm else_arm) b others = refl
two_parts p s t locals rest more (bare.While test body) b others = refl
two_parts p s t locals rest more (bare.For first_part test step body) b others = refl
two_parts p s t locals rest more (bare.Return e) b others = refl
two_parts p s t locals rest more (bare.Read target) b others = refl
two_parts p s t locals rest more (bare.Print format args) b others = refl
two_parts p s t locals rest more (bare.Create slot function arg) b others = refl
two_parts p s t locals rest more (bare.Join slot) b others = refl
two_parts p s t locals rest more (bare.InitMutex place) b others = refl
two_parts p s t locals rest more (bare.InitCond place) b others = refl
two_parts p s t locals rest more (bare.Lock place) b others = refl
two_parts p s t locals rest more (bare.TryLock place taken busy) b others = refl
two_parts p s t locals rest more (bare.Unlock place) b others = refl
two_parts p s t locals rest more (bare.Wait cond mutex takes) b others = refl
two_parts p s t locals rest more (bare.Signal cond) b others = refl
two_parts p s t locals rest more (bare.Broadcast cond) b others = refl
two_parts p s t locals rest more (bare.Take monitor) b others = refl
two_parts p s t locals rest more (bare.Give monitor) b others = refl

pub carried : (p : Program) (s : code.State) (t : ℕ) (act other : Stmt) (result : Stepped) (old new : State) → act ≡ other → ((at : At p s t other) → Answers (asks_at other) (does p s t other at) result old new)
    → (at : At p s t act) → Answers (asks_at act) (does p s t act at) result old new
carried p s t act other result old new e f = subst (λ a. (at : At p s t a) → Answers (asks_at a) (does p s t a at) result old new) (sym e) f

-- the same, where it is known whether memory may be wanted
pub carried_with : (asks : Bool) (p : Program) (s : code.State) (t : ℕ) (act other : Stmt) (result : Stepped) (old new : State) → act ≡ other
    → ((at : At p s t other) → Answers asks (does p s t other at) result old new) → (at : At p s t act) → Answers asks (does p s t act at) result old new
carried_with asks p s t act other result old new e f = subst (λ a. (at : At p s t a) → Answers asks (does p s t a at) result old new) (sym e) f

pub no_for_asks : (begun : Bool) (first_part : Stmts) (test : Expr) (step body : Stmts) → false ≡ asks_at (first_of begun (bare.For first_part test step body))
no_for_asks true first_part test step body = refl
no_for_asks false first_part test step body = refl

pub one_of : (xs : List tree_stmt.Stmt) (x : tree_stmt.Stmt) → 1 ≤ length xs → length xs < 2 → x ≡ get_or xs 0 x → xs ≡ x ∷ []
one_of [] x some few is = absurd (omega (arith, some))
one_of (y ∷ []) x some few is = ap (λ z. z ∷ []) (sym is)
one_of (y ∷ z ∷ xs) x some few is = absurd (omega (arith, few))

pub record More (ss : Stmts) : Type 0 where
  pub first : Stmt
  pub next : Stmt
  pub others : Stmts
  pub is : ss ≡ Cons first (Cons next others)

pub more_of : (xs : List tree_stmt.Stmt) → 2 ≤ length xs → More (shown_body xs)
more_of [] more = absurd (omega (arith, more))
more_of (x ∷ []) more = absurd (omega (arith, more))
more_of (x ∷ y ∷ xs) more = record { first = shown_stmt x; next = shown_stmt y; others = shown_body xs; is = refl }

abbrev pub IsNoFor : Stmt → Type 0
IsNoFor (bare.For first_part test step body) = ⊥
IsNoFor (bare.Declare name e) = Unit {0}
IsNoFor (bare.Assign target e) = Unit {0}
IsNoFor (bare.Call target function args) = Unit {0}
IsNoFor (bare.If test then_arm else_arm) = Unit {0}
IsNoFor (bare.While test body) = Unit {0}
IsNoFor (bare.Return e) = Unit {0}
IsNoFor (bare.Read target) = Unit {0}
IsNoFor (bare.Print format args) = Unit {0}
IsNoFor (bare.Create slot function arg) = Unit {0}
IsNoFor (bare.Join slot) = Unit {0}
IsNoFor (bare.InitMutex place) = Unit {0}
IsNoFor (bare.InitCond place) = Unit {0}
IsNoFor (bare.Lock place) = Unit {0}
IsNoFor (bare.TryLock place taken busy) = Unit {0}
IsNoFor (bare.Unlock place) = Unit {0}
IsNoFor (bare.Wait cond mutex takes) = Unit {0}
IsNoFor (bare.Signal cond) = Unit {0}
IsNoFor (bare.Broadcast cond) = Unit {0}
IsNoFor (bare.Take monitor) = Unit {0}
IsNoFor (bare.Give monitor) = Unit {0}

pub first_stays : (act : Stmt) → IsNoFor act → (begun : Bool) → first_of begun act ≡ act
first_stays (bare.For first_part test step body) isnt begun = absurd isnt
first_stays (bare.Declare name e) isnt true = refl
first_stays (bare.Declare name e) isnt false = refl
first_stays (bare.Assign target e) isnt true = refl
first_stays (bare.Assign target e) isnt false = refl
first_stays (bare.Call target function args) isnt true = refl
first_stays (bare.Call target function args) isnt false = refl
first_stays (bare.If test then_arm else_arm) isnt true = refl
first_stays (bare.If test then_arm else_arm) isnt false = refl
first_stays (bare.While test body) isnt true = refl
first_stays (bare.While test body) isnt false = refl
first_stays (bare.Return e) isnt true = refl
first_stays (bare.Return e) isnt false = refl
first_stays (bare.Read target) isnt true = refl
first_stays (bare.Read target) isnt false = refl
first_stays (bare.Print format args) isnt true = refl
first_stays (bare.Print format args) isnt false = refl
first_stays (bare.Create slot function arg) isnt true = refl
first_stays (bare.Create slot function arg) isnt false = refl
first_stays (bare.Join slot) isnt true = refl
first_stays (bare.Join slot) isnt false = refl
first_stays (bare.InitMutex place) isnt true = refl
first_stays (bare.InitMutex place) isnt false = refl
first_stays (bare.InitCond place) isnt true = refl
first_stays (bare.InitCond place) isnt false = refl
first_stays (bare.Lock place) isnt true = refl
first_stays (bare.Lock place) isnt false = refl
first_stays (bare.TryLock place taken busy) isnt true = refl
first_stays (bare.Unlock place) isnt true = refl
first_stays (bare.TryLock place taken busy) isnt false = refl
first_stays (bare.Unlock place) isnt false = refl
first_stays (bare.Wait cond mutex takes) isnt true = refl
first_stays (bare.Wait cond mutex takes) isnt false = refl
first_stays (bare.Signal cond) isnt true = refl
first_stays (bare.Signal cond) isnt false = refl
first_stays (bare.Broadcast cond) isnt true = refl
first_stays (bare.Broadcast cond) isnt false = refl
first_stays (bare.Take monitor) isnt true = refl
first_stays (bare.Take monitor) isnt false = refl
first_stays (bare.Give monitor) isnt true = refl
first_stays (bare.Give monitor) isnt false = refl
