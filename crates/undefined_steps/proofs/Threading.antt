-- A well-formed program creates threads in main's own list, and joins those that it creates.
use Rattle.std.proofs.Common.{◌≡◌, ℕ, suc, ◌+◌, ◌<◌, Bool, true, false, ◌||◌, List, [], ◌∷◌, length, Some, None, cond, ◌⊎◌, inl, inr, refl, sym, ap, subst, arith}
use Rattle.std.specs.Prelude.{not, position, option_map}
use Rattle.std.specs.List.{list_any, position_or_len}
use Rattle.std.proofs.lemmas.Bool.{lt-ltb}
use Rattle.c_tree.specs.Expressions.{Place}
use Rattle.c_tree.specs.Bare as bare
use Rattle.c_tree.specs.Everywhere.{Everywhere}
use Rattle.c_tree.specs.Lined.{Stmts, Nil, Cons, bare_stmt, bare_stmts}
use Rattle.c_tree.specs.Numbering.{Creation, creations_of, creations, same_slot, thread_in, thread_count}
use Rattle.c_meaning.proofs.Reading.{or_right}
use Rattle.rule_facts.specs.Threading.{ThreadFree, ThreadsOwn, ThreadsBehind, creates_slot}
use Rattle.rule_facts.proofs.Everything.{everywhere_inside, each_inside}
use Rattle.reached_states.specs.Creating.{CreatesNone, CreatesItself}

-- ---- creates

free_creates : (s : bare.Stmt) → ThreadFree s → CreatesNone s
free_creates (bare.Create slot name arg) free = free
free_creates s free = tt

pub creates_itself : (ss : Stmts) → ThreadsOwn (bare_stmts ss) → CreatesItself (bare_stmts ss)
creates_itself Nil own = tt
creates_itself (Cons s rest) own =
    (everywhere_inside CreatesNone [] s (λ x at. free_creates (bare_stmt x.stmt) (each_inside ThreadFree [] s own.0 x at)), creates_itself rest own.1)

-- ---- joins

-- some creation has this slot
abbrev creates_it : Place → Creation → Bool
creates_it slot c = same_slot c.slot slot

any_before : {X : Type 0} (test : X → Bool) (xs : List X) → list_any test xs ≡ true → position_or_len test xs < length xs
any_before test [] any = absurd (cc any)
any_before test (x ∷ xs) any = by (test x) (any_before test xs) any
  where
    by : (b : Bool) → (list_any test xs ≡ true → position_or_len test xs < length xs) → (b || list_any test xs) ≡ true → cond (not b) (1 + position_or_len test xs) 0 < suc (length xs)
    by true later e = omega arith
    by false later e = let more = later e in omega (arith, more)

-- a slot means a thread
abbrev pub HasThread : bare.Program → Place → Type 0
HasThread p slot = (u : ℕ) × (thread_in p slot ≡ Some u) × (u < thread_count p)

made_thread : (p : bare.Program) (slot : Place) → list_any (creates_it slot) (creations p) ≡ true → HasThread p slot
made_thread p slot any =
    let k = position_or_len (creates_it slot) (creations p) in
    let below = any_before (creates_it slot) (creations p) any in
    let at : position (creates_it slot) (creations p) ≡ Some k = ap (λ b. cond b (Some k) None) (lt-ltb k (length (creations p)) below) in
    (k + 1, ap (option_map (λ n. n + 1)) at, omega (arith, below))

abbrev pub JoinsThread : bare.Program → bare.Stmt → Type 0
JoinsThread p (bare.Join slot) = HasThread p slot
JoinsThread p s = Unit {0}

free_joins : (p : bare.Program) (s : bare.Stmt) → ThreadFree s → JoinsThread p s
free_joins p (bare.Join slot) free = absurd free
free_joins p s free = tt

either : (a b : Bool) → (a || b) ≡ true → (a ≡ true) ⊎ (b ≡ true)
either true b e = inl refl
either false b e = inr e

or_left : (a b : Bool) → a ≡ true → (a || b) ≡ true
or_left a b e = ap (λ c. c || b) e

module _ (p : bare.Program) where
  -- what is created by these statements, or by those of a list, is created
  abbrev Before : List bare.Stmt → Type 0
  Before before = (slot : Place) → list_any (creates_slot slot) before ≡ true → list_any (creates_it slot) (creations p) ≡ true

  abbrev Among : bare.Stmts → Type 0
  Among ss = (slot : Place) → list_any (creates_it slot) (creations_of ss) ≡ true → list_any (creates_it slot) (creations p) ≡ true

  step_before : (before : List bare.Stmt) (s : bare.Stmt) (rest : bare.Stmts) → Before before → Among (bare.Cons s rest) → Before (s ∷ before)
  step_before before (bare.Create other name arg) rest so_far all slot e = elim (either (same_slot other slot) (list_any (creates_slot slot) before) e) [
    | inl here ↦ all slot (or_left (same_slot other slot) (list_any (creates_it slot) (creations_of rest)) here)
    | inr later ↦ so_far slot later
  ]
  step_before before s rest so_far all slot e = so_far slot e

  step_among : (s : bare.Stmt) (rest : bare.Stmts) → Among (bare.Cons s rest) → Among rest
  step_among (bare.Create other name arg) rest all slot e = all slot (or_right (same_slot other slot) (list_any (creates_it slot) (creations_of rest)) e)
  step_among s rest all slot e = all slot e

  joins_here : (before : List bare.Stmt) (s : bare.Stmt) (rest : bare.Stmts) → Before before → ThreadsBehind before (bare.Cons s rest) → JoinsThread p s
  joins_here before (bare.Join slot) rest so_far behind = made_thread p slot (so_far slot behind.0.0)
  joins_here before s rest so_far behind = tt

  joins_threads : (before : List bare.Stmt) (ss : Stmts) → ThreadsOwn (bare_stmts ss) → ThreadsBehind before (bare_stmts ss) → Before before → Among (bare_stmts ss) → Everywhere (JoinsThread p) (bare_stmts ss)
  joins_threads before Nil own behind so_far all = tt
  joins_threads before (Cons s rest) own behind so_far all = (
    joins_here before (bare_stmt s) (bare_stmts rest) so_far behind,
    everywhere_inside (JoinsThread p) [] s (λ x at. free_joins p (bare_stmt x.stmt) (each_inside ThreadFree [] s own.0 x at)),
    joins_threads (bare_stmt s ∷ before) rest own.1 behind.1 (step_before before (bare_stmt s) (bare_stmts rest) so_far all) (step_among (bare_stmt s) (bare_stmts rest) all),
  )

  -- main's own list
  pub main_joins : (ss : Stmts) → ThreadsOwn (bare_stmts ss) → ThreadsBehind [] (bare_stmts ss) → creations p ≡ creations_of (bare_stmts ss) → Everywhere (JoinsThread p) (bare_stmts ss)
  main_joins ss own behind same = joins_threads [] ss own behind (λ slot e. absurd (cc e)) (λ slot e. subst (λ cs. list_any (creates_it slot) cs ≡ true) (sym same) e)
