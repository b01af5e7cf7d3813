-- Bodies in which each lock stands where nothing is held.
use Rattle.std.proofs.Common.{◌≡◌, ℕ, true, false, List, [], ◌∷◌, map, Option, Some, None, refl}
use Rattle.std.specs.Prelude.{◌&&◌, ⊤}
use Rattle.std.specs.Option.{is_none}
use Rattle.c_tree.specs.Expressions.{Place}
use Rattle.c_tree.specs.Bare.{Stmt, Stmts, Nil, Cons, Assign, Return, Create, Join, Lock, Unlock, Function, Program}
use Rattle.c_tree.specs.Lined as lined
use Rattle.c_tree.specs.Lined.{bare_stmt, bare_stmts, bare_function, bare_program, line_of}
use Rattle.c_rules.specs.Names.{mentions}
use Rattle.first_form.specs.FirstForm.{mutexes_of, is_thread_body, is_joining, is_main_body, has_first_functions, holds_some, nested_line, or_line, first_line, is_first_form, first_nested}
use Rattle.c_meaning.proofs.Reading.{both_true, if_none, none_is, Each}

-- a mutex that is no array
pub record IsMutex (p : Program) (place : Place) : Type 0 where
  pub scalar : place.index ≡ None
  pub named : mentions (mutexes_of p) place.name ≡ true

-- a lock with what stands above it, and what stands below
pub record QuietLock (p : Program) (above : List Stmt) (place : Place) (Below : Type 0) : Type 0 where
  pub free : holds_some p above ≡ false
  pub mutex : IsMutex p place
  pub below : Below

pub record QuietUnlock (p : Program) (place : Place) (Below : Type 0) : Type 0 where
  pub mutex : IsMutex p place
  pub below : Below

-- below these statements, each lock stands where nothing is held, and only acts of the first form stand
abbrev pub IsQuiet : Program → List Stmt → Stmts → Type 0
IsQuiet p above Nil = ⊤
IsQuiet p above (Cons (Assign target e) rest) = IsQuiet p (Assign target e ∷ above) rest
IsQuiet p above (Cons (Lock place) rest) = QuietLock p above place (IsQuiet p (Lock place ∷ above) rest)
IsQuiet p above (Cons (Unlock place) rest) = QuietUnlock p place (IsQuiet p (Unlock place ∷ above) rest)
IsQuiet p above (Cons (Create slot function arg) rest) = IsQuiet p (Create slot function arg ∷ above) rest
IsQuiet p above (Cons (Join slot) rest) = IsQuiet p (Join slot ∷ above) rest
IsQuiet p above (Cons (Return e) rest) = ⊤
IsQuiet p above (Cons s rest) = ⊥

mutex_from : (p : Program) (place : Place) → (is_none place.index && mentions (mutexes_of p) place.name) ≡ true → IsMutex p place
mutex_from p place e = let parts = both_true _ _ e in record { scalar = none_is place.index parts.0; named = parts.1 }

quiet_thread : (p : Program) (above : List Stmt) (ss : lined.Stmts) → is_thread_body p (bare_stmts ss) ≡ true → nested_line p above ss ≡ None → IsQuiet p above (bare_stmts ss)
quiet_thread p above lined.Nil body flat = tt
quiet_thread p above (lined.Cons (lined.Assign line target e) rest) body flat =
    quiet_thread p (Assign target e ∷ above) rest (both_true _ _ body).1 flat
quiet_thread p above (lined.Cons (lined.Lock line place) rest) body flat =
    let parts = both_true _ _ body in
    let free = if_none (holds_some p above) line (nested_line p (Lock place ∷ above) rest) flat in
    record { free = free.0; mutex = mutex_from p place parts.0; below = quiet_thread p (Lock place ∷ above) rest parts.1 free.1 }
quiet_thread p above (lined.Cons (lined.Unlock line place) rest) body flat =
    let parts = both_true _ _ body in
    record { mutex = mutex_from p place parts.0; below = quiet_thread p (Unlock place ∷ above) rest parts.1 flat }
quiet_thread p above (lined.Cons (lined.Return line e) rest) body flat = tt
quiet_thread p above (lined.Cons s rest) body flat = absurd (cc body)

quiet_joining : (p : Program) (above : List Stmt) (ss : Stmts) → is_joining p ss ≡ true → IsQuiet p above ss
quiet_joining p above Nil body = tt
quiet_joining p above (Cons (Return e) rest) body = tt
quiet_joining p above (Cons (Join slot) rest) body = quiet_joining p (Join slot ∷ above) rest (both_true _ _ body).1
quiet_joining p above (Cons s rest) body = absurd (cc body)

quiet_main : (p : Program) (above : List Stmt) (ss : Stmts) → is_main_body p ss ≡ true → IsQuiet p above ss
quiet_main p above (Cons (Create slot function arg) rest) body = quiet_main p (Create slot function arg ∷ above) rest (both_true _ _ body).1
quiet_main p above ss body = quiet_joining p above ss body

-- a function whose body is quiet
abbrev pub QuietFunction : Program → Function → Type 0
QuietFunction p f = IsQuiet p [] f.body

none_first : (a b : Option ℕ) → or_line a b ≡ None → (a ≡ None) × (b ≡ None)
none_first (Some line) b e = absurd (cc e)
none_first None b e = (refl, e)

quiet_functions : (p : Program) (fs : List lined.Function) → has_first_functions p (map bare_function fs) ≡ true → first_line p fs ≡ None → Each (QuietFunction p) (map bare_function fs)
quiet_functions p [] are flat = tt
quiet_functions p (f ∷ []) are flat = (quiet_main p [] (bare_stmts f.body) (both_true _ _ (both_true _ _ are).0).1, tt)
quiet_functions p (f ∷ g ∷ fs) are flat =
    let parts = both_true _ _ are in
    let lines = none_first (nested_line p [] f.body) (first_line p (g ∷ fs)) flat in
    (quiet_thread p [] f.body (both_true _ _ parts.0).1 lines.0, quiet_functions p (g ∷ fs) parts.1 lines.1)

-- each function of a program of the first form without nested locks is quiet
pub quiet_program : (p : lined.Program) → is_first_form (bare_program p) ≡ true → first_nested p ≡ None → Each (QuietFunction (bare_program p)) (bare_program p).functions
quiet_program p form flat = quiet_functions (bare_program p) p.functions (both_true _ _ (both_true _ _ form).0).1 flat
