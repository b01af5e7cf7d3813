-- What the rules say of each statement of a function, as far as its outline needs it.
use Rattle.std.specs.Prelude.{◌≡◌, ℕ, Bool, true, false, ◌||◌, List, [], ◌∷◌, ◌++◌, map, reverse, Some, None, ⊤}
use Rattle.std.specs.declared.option.Option.{Option}
use Rattle.std.specs.List.{enumerate_from}
use Rattle.std.proofs.Common.{refl, ap, subst, inl, inr}
use Rattle.std.proofs.lemmas.Grind.{reverse_onto}
use Rattle.c_tree.specs.Bare as bare
use Rattle.c_tree.specs.Everywhere.{Everywhere, EverywhereInside}
use Rattle.c_tree.specs.Expressions.{Place}
use Rattle.c_tree.specs.Lined.{Stmt, Stmts, Nil, Cons, Function, Program, Assign, Call, If, While, For, Read, TryLock, bare_stmt, bare_stmts, bare_program}
use Rattle.c_meaning.proofs.Reading.{bytes_eq_itself}
use Rattle.c_rules.proofs.Members.{In, contains_of, in_append_cases}
use Rattle.rule_facts.specs.Apart.{Listed}
use Rattle.rule_facts.specs.FromLast.{CallsBehind, CallsNamed, from_last, named_in}
use Rattle.rule_facts.specs.Regular.{Regular}
use Rattle.rule_facts.specs.Threading.{StartsWell}
use Rattle.rule_facts.proofs.Behind.{calls_behind}
use Rattle.contexts.specs.Constants.{among, before, target_names, written, written_all}
use Rattle.contexts.specs.Resolved.{writes_of}
use Rattle.contexts.specs.Outlined.{IsCreation, IsTarget}
use Rattle.contexts.specs.Firsts.{FirstFits, ForFits, HasFirstParts}
use Rattle.contexts.proofs.Names.{in_first, in_second}

-- a statement of a function that writes into these names, in a program, with functions of these names above
abbrev pub IsSteady : bare.Program → (List ℕ → Bool) → List (List ℕ) → bare.Stmt → Type 0
IsSteady p named writes (bare.Assign target e) = among writes target.name ≡ true
IsSteady p named writes (bare.Call target name args) = (named name ≡ true) × IsTarget writes target
IsSteady p named writes (bare.For first_part test step body) = FirstFits first_part
IsSteady p named writes (bare.Read target) = among writes target.name ≡ true
IsSteady p named writes (bare.Create slot name arg) = IsCreation p slot name arg
IsSteady p named writes s = ⊤

abbrev pub Steady : bare.Program → (List ℕ → Bool) → List (List ℕ) → Stmts → Type 0
Steady p named writes ss = Everywhere (IsSteady p named writes) (bare_stmts ss)

-- functions, the last first: each is so, and none behind it has its name
abbrev pub SteadyBehind : bare.Program → List (ℕ × Function) → Type 0
SteadyBehind p [] = ⊤
SteadyBehind p (f ∷ fs) = Steady p (named_in fs) (writes_of p f.1) f.1.body × (named_in fs f.1.name ≡ false) × SteadyBehind p fs

-- ---- facts of each statement

mutual
  both_inside : (P Q R : bare.Stmt → Type 0) → ((s : bare.Stmt) → P s → Q s → R s) → (s : bare.Stmt) → EverywhereInside P s → EverywhereInside Q s → EverywhereInside R s
  both_inside P Q R make (bare.If test a b) ps qs = (both_everywhere P Q R make a ps.0 qs.0, both_everywhere P Q R make b ps.1 qs.1)
  both_inside P Q R make (bare.While test body) ps qs = both_everywhere P Q R make body ps qs
  both_inside P Q R make (bare.For first_part test step body) ps qs =
      (both_everywhere P Q R make first_part ps.0 qs.0, both_everywhere P Q R make step ps.1 qs.1, both_everywhere P Q R make body ps.2 qs.2)
  both_inside P Q R make (bare.TryLock place a b) ps qs = (both_everywhere P Q R make a ps.0 qs.0, both_everywhere P Q R make b ps.1 qs.1)
  both_inside P Q R make s ps qs = tt

  pub both_everywhere : (P Q R : bare.Stmt → Type 0) → ((s : bare.Stmt) → P s → Q s → R s) → (ss : bare.Stmts) → Everywhere P ss → Everywhere Q ss → Everywhere R ss
  both_everywhere P Q R make bare.Nil ps qs = tt
  both_everywhere P Q R make (bare.Cons s rest) ps qs = (make s ps.0 qs.0, both_inside P Q R make s ps.1 qs.1, both_everywhere P Q R make rest ps.2 qs.2)

pub everywhere_before : (P : bare.Stmt → Type 0) (a rest : Stmts) → Everywhere P (bare_stmts a) → Everywhere P (bare_stmts rest) → Everywhere P (bare_stmts (before a rest))
everywhere_before P Nil rest first second = second
everywhere_before P (Cons s a) rest first second = (first.0, first.1, everywhere_before P a rest first.2 second)

-- ---- what a function writes into

abbrev IsWritten : List (List ℕ) → bare.Stmt → Type 0
IsWritten writes (bare.Assign target e) = among writes target.name ≡ true
IsWritten writes (bare.Call target name args) = IsTarget writes target
IsWritten writes (bare.Read target) = among writes target.name ≡ true
IsWritten writes s = ⊤

-- all of these names are among others
abbrev Within : List (List ℕ) → List (List ℕ) → Type 0
Within names writes = (q : List ℕ) → among names q ≡ true → among writes q ≡ true

itself_among : (name : List ℕ) → among (name ∷ []) name ≡ true
itself_among name = ap (λ b. b || false) (bytes_eq_itself name)

target_within : (writes : List (List ℕ)) (target : Option Place) → Within (target_names target) writes → IsTarget writes target
target_within writes None within = tt
target_within writes (Some place) within = within place.name (itself_among place.name)

mutual
  own_written : (writes : List (List ℕ)) (s : Stmt) → Within (written s) writes → IsWritten writes (bare_stmt s)
  own_written writes (Assign line target e) within = within target.name (itself_among target.name)
  own_written writes (Call line target name args) within = target_within writes target within
  own_written writes (Read line target) within = within target.name (itself_among target.name)
  own_written writes s within = tt

  inside_written : (writes : List (List ℕ)) (s : Stmt) → Within (written s) writes → EverywhereInside (IsWritten writes) (bare_stmt s)
  inside_written writes (If line test a b) within =
      (written_everywhere writes a (λ q e. within q (in_first q (written_all a) (written_all b) e)), written_everywhere writes b (λ q e. within q (in_second q (written_all a) (written_all b) e)))
  inside_written writes (While line test body) within = written_everywhere writes body within
  inside_written writes (For line first_part test step body) within = (
    written_everywhere writes first_part (λ q e. within q (in_first q (written_all first_part ++ written_all step) (written_all body) (in_first q (written_all first_part) (written_all step) e))),
    written_everywhere writes step (λ q e. within q (in_first q (written_all first_part ++ written_all step) (written_all body) (in_second q (written_all first_part) (written_all step) e))),
    written_everywhere writes body (λ q e. within q (in_second q (written_all first_part ++ written_all step) (written_all body) e)),
  )
  inside_written writes (TryLock line place a b) within =
      (written_everywhere writes a (λ q e. within q (in_first q (written_all a) (written_all b) e)), written_everywhere writes b (λ q e. within q (in_second q (written_all a) (written_all b) e)))
  inside_written writes s within = tt

  written_everywhere : (writes : List (List ℕ)) (ss : Stmts) → Within (written_all ss) writes → Everywhere (IsWritten writes) (bare_stmts ss)
  written_everywhere writes Nil within = tt
  written_everywhere writes (Cons s rest) within = (
    own_written writes s (λ q e. within q (in_first q (written s) (written_all rest) e)),
    inside_written writes s (λ q e. within q (in_first q (written s) (written_all rest) e)),
    written_everywhere writes rest (λ q e. within q (in_second q (written s) (written_all rest) e)),
  )

-- ---- from the rules

abbrev Fits : Program → ℕ × Function → bare.Stmt → Type 0
Fits p f s = ForFits s × StartsWell p f s × IsWritten (writes_of (bare_program p) f.1) s

steady_of : (p : Program) (named : List ℕ → Bool) (f : ℕ × Function) (s : bare.Stmt) → Fits p f s → CallsNamed named s → IsSteady (bare_program p) named (writes_of (bare_program p) f.1) s
steady_of p named f (bare.Assign target e) fits calls = fits.2
steady_of p named f (bare.Call target name args) fits calls = (calls, fits.2)
steady_of p named f (bare.For first_part test step body) fits calls = fits.0
steady_of p named f (bare.Read target) fits calls = fits.2
steady_of p named f (bare.Create slot name arg) fits calls = record { creation = fits.1.1.creation; created = fits.1.1.created; thread = fits.1.1.thread }
steady_of p named f s fits calls = tt

fits_everywhere : (p : Program) → Regular p → HasFirstParts p → (f : ℕ × Function) → Listed p f → Everywhere (Fits p f) (bare_stmts f.1.body)
fits_everywhere p regular firsts f listed =
    both_everywhere ForFits (λ s. StartsWell p f s × IsWritten (writes_of (bare_program p) f.1) s) (Fits p f) (λ s x y. (x, y.0, y.1)) (bare_stmts f.1.body) (firsts f listed)
    (both_everywhere (StartsWell p f) (IsWritten (writes_of (bare_program p) f.1)) (λ s. StartsWell p f s × IsWritten (writes_of (bare_program p) f.1) s) (λ s x y. (x, y)) (bare_stmts f.1.body)
    (regular.starts f listed)
    (written_everywhere (writes_of (bare_program p) f.1) f.1.body (λ q e. in_first q (written_all f.1.body) (map (λ c. c.name) (bare_program p).ints) e)))

steady_behind : (p : Program) (fs : List (ℕ × Function)) → ((f : ℕ × Function) → In f fs → Everywhere (Fits p f) (bare_stmts f.1.body)) → CallsBehind fs → SteadyBehind (bare_program p) fs
steady_behind p [] fits calls = tt
steady_behind p (f ∷ fs) fits calls = (
  both_everywhere (Fits p f) (CallsNamed (named_in fs)) (IsSteady (bare_program p) (named_in fs) (writes_of (bare_program p) f.1)) (λ s x y. steady_of p (named_in fs) f s x y) (bare_stmts f.1.body)
      (fits f (inl refl)) calls.0,
  calls.1,
  steady_behind p fs (λ g at. fits g (inr at)) calls.2,
)

pub from_reversed : {X : Type 0} (xs : List X) (x : X) → In x (reverse xs) → In x xs
from_reversed [] x at = absurd at
from_reversed (y ∷ xs) x at = elim (in_append_cases (reverse xs) (y ∷ []) x (subst (λ zs. In x zs) (reverse_onto xs y []) at)) [
  | inl here ↦ inr (from_reversed xs x here)
  | inr last ↦ elim last [ inl e ↦ inl e | inr none ↦ absurd none ]
]

-- what the rules say of the functions of a program, the last first
pub steady : (p : Program) → Regular p → HasFirstParts p → SteadyBehind (bare_program p) (from_last p)
steady p regular firsts =
    steady_behind p (from_last p) (λ f at. fits_everywhere p regular firsts f (contains_of (enumerate_from 0 p.functions) f (from_reversed (enumerate_from 0 p.functions) f at))) (calls_behind p regular)
