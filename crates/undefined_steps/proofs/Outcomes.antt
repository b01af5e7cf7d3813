-- Where each kind of act is undefined.
use Rattle.std.proofs.Common.{◌≡◌, ℕ, zero, suc, Bool, true, false, List, [], ◌∷◌, Option, Some, None, refl, ap, ◌∙◌}
use Rattle.std.specs.Prelude.{ℤ, ◌==◌, nat_lt, sum, slice_get, if◌then◌else◌, ⊤}
use Rattle.std.specs.List.{list_any}
use Rattle.std.proofs.lemmas.Option.{same_Some}
use Rattle.c_tree.specs.Expressions.{Expr}
use Rattle.c_tree.specs.Bare.{Stmts, Function}
use Rattle.c_meaning.specs.State.{Locals, Frame, Status, NotBegun, Running, Waiting, Reacquiring, Ended, State}
use Rattle.c_meaning.specs.Outcome.{Outcome, NotEnabled, Undefined, Done}
use Rattle.c_meaning.specs.Places.{Target}
use Rattle.c_meaning.specs.Setting.{assigned, declared_local, read_into}
use Rattle.c_meaning.specs.Printing.{printed}
use Rattle.c_meaning.specs.Branching.{branched, looped}
use Rattle.c_meaning.specs.Calls.{called}
use Rattle.c_meaning.specs.Threads.{first_frame, created_in, created, joined_to, joined}
use Rattle.c_meaning.specs.Locks.{initialised, locked, locked_by, tried, tried_by, unlocked, unlocked_by, taken, given, given_from, held_by}
use Rattle.c_meaning.specs.Waits.{waited, waited_by, signalled, signalled_to, woken_by, broadcast, waits_on}
use Rattle.c_meaning.specs.Stuck.{is_owner}
use Rattle.step_effects.specs.Effects.{Is}

-- a fact where an outcome is undefined
abbrev pub IfUndefined : Outcome → Type 0 → Type 0
IfUndefined NotEnabled C = ⊤
IfUndefined Undefined C = C
IfUndefined (Done done next) C = ⊤

-- ---- where each kind of act is undefined

module _ (C : Type 0) (s : State) (t : ℕ) where
  pub if_one : (b : Bool) (one other : Outcome) → (b ≡ true → IfUndefined one C) → (b ≡ false → IfUndefined other C) → IfUndefined (if b then one else other) C
  if_one true one other f g = f refl
  if_one false one other f g = g refl

  pub declares : (l : Locals) (rest : Stmts) (more : List Frame) (name : List ℕ) (o : Option (Option ℤ)) → (o ≡ None → C) → IfUndefined (declared_local s t l rest more name o) C
  declares l rest more name (Some (Some z)) f = tt
  declares l rest more name (Some None) f = tt
  declares l rest more name None f = f refl

  pub assigns : (l : Locals) (rest : Stmts) (more : List Frame) (o : Option Target) (z : Option ℤ) → (o ≡ None → C) → (z ≡ None → C) → IfUndefined (assigned s t l rest more o z) C
  assigns l rest more (Some target) (Some z) f g = tt
  assigns l rest more (Some target) None f g = g refl
  assigns l rest more None z f g = f refl

  pub reads : (l : Locals) (rest : Stmts) (more : List Frame) (o : Option Target) (input : List ℤ) → (o ≡ None → C) → IfUndefined (read_into s t l rest more o input) C
  reads l rest more (Some target) (z ∷ input) f = tt
  reads l rest more (Some target) [] f = tt
  reads l rest more None input f = f refl

  pub branches : (l : Locals) (rest : Stmts) (more : List Frame) (a b : Stmts) (o : Option ℤ) → (o ≡ None → C) → IfUndefined (branched s t l rest more a b o) C
  branches l rest more a b (Some z) f = tt
  branches l rest more a b None f = f refl

  pub loops : (l : Locals) (rest : Stmts) (more : List Frame) (test : Expr) (body : Stmts) (o : Option ℤ) → (o ≡ None → C) → IfUndefined (looped s t l rest more test body o) C
  loops l rest more test body (Some z) f = tt
  loops l rest more test body None f = f refl

  pub prints : (next : List Frame) (format : List ℕ) (o : Option (List ℤ)) → (o ≡ None → C) → IfUndefined (printed s t next format o) C
  prints next format (Some values) f = tt
  prints next format None f = f refl

  pub calls : (frames : List Frame) (f : Option Function) (values : Option (List ℤ)) → (f ≡ None → C) → (values ≡ None → C) → IfUndefined (called s t frames f values) C
  calls frames (Some f) (Some values) g h = tt
  calls frames (Some f) None g h = h refl
  calls frames None values g h = g refl

  pub initialises : (next : List Frame) (o : Option ℕ) → (o ≡ None → C) → IfUndefined (initialised s t next o) C
  initialises next (Some object) f = tt
  initialises next None f = f refl

  pub signals : (next : List Frame) (o : Option ℕ) → (o ≡ None → C) → IfUndefined (signalled s t next o) C
  signals next (Some c) f = if_one (list_any (waits_on c) s.threads) NotEnabled _ (λ some. tt) (λ none. tt)
  signals next None f = f refl

  pub chooses : (next : List Frame) (u : ℕ) (o : Option ℕ) → (o ≡ None → C) → IfUndefined (signalled_to s t next u o) C
  chooses next u None f = f refl
  chooses next u (Some c) f = by (slice_get s.threads u)
    where
      by : (o : Option Status) → IfUndefined (woken_by s t next c u o) C
      by (Some (Waiting d m waiting)) = if_one (d == c) _ NotEnabled (λ same. tt) (λ other. tt)
      by (Some NotBegun) = tt
      by (Some (Running fs)) = tt
      by (Some (Reacquiring m takes fs)) = tt
      by (Some Ended) = tt
      by None = tt

  pub broadcasts : (next : List Frame) (o : Option ℕ) → (o ≡ None → C) → IfUndefined (broadcast s t next o) C
  broadcasts next (Some c) f = tt
  broadcasts next None f = f refl

  -- where a mutex is there, its owner or none is
  pub locks : (next : List Frame) (o : Option ℕ) → (o ≡ None → C) → ((m : ℕ) → o ≡ Some m → slice_get s.owners m ≡ None → C) → IfUndefined (locked s t next o) C
  locks next None f g = f refl
  locks next (Some m) f g = by (slice_get s.owners m) refl
    where
      by : (o : Option (Option ℕ)) → slice_get s.owners m ≡ o → IfUndefined (locked_by s t next m o) C
      by (Some None) e = tt
      by (Some (Some owner)) e = tt
      by None e = g m refl e

  pub tries : (a b : List Frame) (o : Option ℕ) → (o ≡ None → C) → ((m : ℕ) → o ≡ Some m → slice_get s.owners m ≡ None → C) → IfUndefined (tried s t a b o) C
  tries a b None f g = f refl
  tries a b (Some m) f g = by (slice_get s.owners m) refl
    where
      by : (o : Option (Option ℕ)) → slice_get s.owners m ≡ o → IfUndefined (tried_by s t a b m o) C
      by (Some None) e = tt
      by (Some (Some owner)) e = tt
      by None e = g m refl e

  pub unlocks : (next : List Frame) (o : Option ℕ) → (o ≡ None → C) → ((m : ℕ) → o ≡ Some m → is_owner t (slice_get s.owners m) ≡ false → C) → IfUndefined (unlocked s t next o) C
  unlocks next None f g = f refl
  unlocks next (Some m) f g = by (slice_get s.owners m) refl
    where
      by : (o : Option (Option ℕ)) → slice_get s.owners m ≡ o → IfUndefined (unlocked_by s t next m o) C
      by (Some (Some owner)) e = if_one (owner == t) _ Undefined (λ same. tt) (λ other. g m refl (ap (is_owner t) e ∙ other))
      by (Some None) e = g m refl (ap (is_owner t) e)
      by None e = g m refl (ap (is_owner t) e)

  pub waits : (frames : List Frame) (c m : Option ℕ) → (c ≡ None → C) → (m ≡ None → C) → ((k : ℕ) → m ≡ Some k → is_owner t (slice_get s.owners k) ≡ false → C) → IfUndefined (waited s t frames c m) C
  waits frames None m f g h = f refl
  waits frames (Some c) None f g h = g refl
  waits frames (Some c) (Some m) f g h = by (slice_get s.owners m) refl
    where
      by : (o : Option (Option ℕ)) → slice_get s.owners m ≡ o → IfUndefined (waited_by s t frames c m o) C
      by (Some (Some owner)) e = if_one (owner == t) _ Undefined (λ same. tt) (λ other. h m refl (ap (is_owner t) e ∙ other))
      by (Some None) e = h m refl (ap (is_owner t) e)
      by None e = h m refl (ap (is_owner t) e)

  pub takes : (status : Status) (k : ℕ) (c : Option ℕ) (row : Option (List ℕ)) → (c ≡ None → C) → (row ≡ None → C) → IfUndefined (taken s t status k c row) C
  takes status k (Some capacity) (Some row) f g = if_one (nat_lt (sum row) capacity) _ NotEnabled (λ free. tt) (λ full. tt)
  takes status k (Some capacity) None f g = g refl
  takes status k None row f g = f refl

  pub gives : (next : List Frame) (k : ℕ) (row : Option (List ℕ)) → (row ≡ None → C) → ((r : List ℕ) → row ≡ Some r → held_by r t ≡ 0 → C) → IfUndefined (given s t next k row) C
  gives next k None f g = f refl
  gives next k (Some row) f g = by (held_by row t) refl
    where
      by : (n : ℕ) → held_by row t ≡ n → IfUndefined (given_from s t next k row n) C
      by zero e = g row refl e
      by (suc left) e = tt

  pub joins : (next : List Frame) (o : Option ℕ) → (o ≡ None → C) → ((u : ℕ) → o ≡ Some u → slice_get s.threads u ≡ None → C) → IfUndefined (joined s t next o) C
  joins next None f g = f refl
  joins next (Some u) f g = by (slice_get s.threads u) refl
    where
      by : (o : Option Status) → slice_get s.threads u ≡ o → IfUndefined (joined_to s t next u o) C
      by (Some Ended) e = tt
      by (Some NotBegun) e = tt
      by (Some (Running fs)) e = tt
      by (Some (Waiting c m fs)) e = tt
      by (Some (Reacquiring m ks fs)) e = tt
      by None e = g u refl e

  -- a thread that hasn't begun begins, with a function that is there and an argument that has a value
  pub creates : (next : List Frame) (u : Option ℕ) (f : Option Function) (z : Option ℤ) (v : ℕ) (g : Function) (w : ℤ) → u ≡ Some v → Is s v NotBegun → f ≡ Some g → z ≡ Some w
      → IfUndefined (created s t next u (first_frame f z)) C
  creates next None f z v g w at fresh named value = absurd (cc at)
  creates next (Some u) f z v g w at fresh named value = let same : u ≡ v = same_Some u v at in by (slice_get s.threads u) (ap (slice_get s.threads) same ∙ fresh) f z named value
    where
      by : (o : Option Status) → o ≡ Some NotBegun → (f : Option Function) (z : Option ℤ) → f ≡ Some g → z ≡ Some w → IfUndefined (created_in s t next u o (first_frame f z)) C
      by (Some NotBegun) e (Some f) (Some z) named value = tt
      by (Some NotBegun) e (Some f) None named value = absurd (cc value)
      by (Some NotBegun) e None z named value = absurd (cc named)
      by (Some (Running fs)) e f z named value = absurd (cc e)
      by (Some (Waiting c m fs)) e f z named value = absurd (cc e)
      by (Some (Reacquiring m ks fs)) e f z named value = absurd (cc e)
      by (Some Ended) e f z named value = absurd (cc e)
      by None e f z named value = absurd (cc e)
