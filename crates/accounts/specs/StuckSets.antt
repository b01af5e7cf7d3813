-- Stuck sets of reached states, as those of markings.
use Rattle.std.specs.Prelude.{◌≡◌, ◌↔◌, ℕ, ℤ, Bool, true, IsTrue, List, Some, slice_get}
use Rattle.certificate.specs.declared.Line.{Line}
use Rattle.c_tree.specs.declared.program.Mode.{Mode}
use Rattle.c_tree.specs.Bare as bare
use Rattle.c_tree.specs.Lined.{Program, bare_program}
use Rattle.c_meaning.specs.State.{State}
use Rattle.c_meaning.specs.Run.{Reached}
use Rattle.c_meaning.specs.Stuck.{is_taken, Blocked, IsStuck, NeverStuck}
use Rattle.net_laws.specs.Net.{Net}
use Rattle.net_laws.specs.Siphons.{InSiphon, LiesIn}
use Rattle.net_laws.specs.Candidates.{IsCandidate}
use Rattle.net_laws.specs.Lines.{IsCovered, HasLines, IsValid}
use Rattle.net_laws.specs.Markings as marking
use Rattle.outlines.specs.Outline.{Thread}
use Rattle.accounts.specs.Points.{points_of}
use Rattle.accounts.specs.Accounts.{IsNetOfProgram, Accounts}

-- a program with its net, a state that it reaches, and the points of the state's threads
pub record IsMarked (p : Program) (mode : Mode) (es : List Thread) (places : List ℕ) (n : Net) (counts : ℕ → List ℕ) (input : List ℤ) (s : State) (points : ℕ → ℕ) : Type 0 where
  pub net : IsNetOfProgram p mode es places n counts
  pub reached : Reached (bare_program p) input s
  pub accounts : Accounts p es places n s points

-- R is what the threads of a set are blocked for
abbrev pub IsWanted : bare.Program → State → (ℕ → Bool) → (ℕ → Bool) → Type 0
IsWanted p s threads R = (r : ℕ) → IsTrue (R r) ↔ ((t : ℕ) × IsTrue (threads t) × Blocked p s t r)

-- ---- stuck sets

abbrev pub BlockedAreMarked : Type 0
BlockedAreMarked =
    (p : Program) (mode : Mode) (es : List Thread) (places : List ℕ) (n : Net) (counts : ℕ → List ℕ) (input : List ℤ) (s : State) (points : ℕ → ℕ)
    → IsMarked p mode es places n counts input s points → (t r : ℕ) → Blocked (bare_program p) s t r → marking.Blocked n (points_of es points) t r

abbrev pub StuckAreMarked : Type 0
StuckAreMarked =
    (p : Program) (mode : Mode) (es : List Thread) (places : List ℕ) (n : Net) (counts : ℕ → List ℕ) (input : List ℤ) (s : State) (points : ℕ → ℕ)
    → IsMarked p mode es places n counts input s points → (threads : ℕ → Bool) → IsStuck (bare_program p) s threads → marking.IsStuck n (points_of es points) threads

-- ---- what they are blocked for

-- some set is what they are blocked for
abbrev pub StuckAreWanted : Type 0
StuckAreWanted =
    (p : Program) (mode : Mode) (es : List Thread) (places : List ℕ) (n : Net) (counts : ℕ → List ℕ) (input : List ℤ) (s : State) (points : ℕ → ℕ)
    → IsMarked p mode es places n counts input s points → (threads : ℕ → Bool) → IsStuck (bare_program p) s threads → (R : ℕ → Bool) × IsWanted (bare_program p) s threads R

-- no thread is at a point of its least siphon
abbrev pub StuckLeaveNoThread : Type 0
StuckLeaveNoThread =
    (p : Program) (mode : Mode) (es : List Thread) (places : List ℕ) (n : Net) (counts : ℕ → List ℕ) (input : List ℤ) (s : State) (points : ℕ → ℕ)
    → IsMarked p mode es places n counts input s points → (threads R : ℕ → Bool) → IsStuck (bare_program p) s threads → IsWanted (bare_program p) s threads R
    → (u : ℕ) (th : Thread) → slice_get es u ≡ Some th → InSiphon n R (points u) → ⊥

-- no token of its resources is free
abbrev pub StuckLeaveNoToken : Type 0
StuckLeaveNoToken =
    (p : bare.Program) (s : State) (threads R : ℕ → Bool) → IsStuck p s threads → IsWanted p s threads R → (r : ℕ) → IsTrue (R r) → is_taken p s r ≡ true

-- some candidate among them has its least siphon inside
abbrev pub StuckHaveCandidates : Type 0
StuckHaveCandidates =
    (p : Program) (mode : Mode) (es : List Thread) (places : List ℕ) (n : Net) (counts : ℕ → List ℕ) (input : List ℤ) (s : State) (points : ℕ → ℕ)
    → IsMarked p mode es places n counts input s points → (threads R : ℕ → Bool) → IsStuck (bare_program p) s threads → IsWanted (bare_program p) s threads R
    → (C : ℕ → Bool) × IsCandidate n C × LiesIn n C R

-- ---- programs that never get stuck

-- each candidate has a line for a set whose least siphon lies in its own
abbrev pub LinesKeepUnstuck : Type 0
LinesKeepUnstuck =
    (p : Program) (mode : Mode) (es : List Thread) (places : List ℕ) (n : Net) (counts : ℕ → List ℕ) → IsNetOfProgram p mode es places n counts → HasLines n → NeverStuck (bare_program p)

-- the net is covered
abbrev pub CoveredAreUnstuck : Type 0
CoveredAreUnstuck =
    (p : Program) (mode : Mode) (es : List Thread) (places : List ℕ) (n : Net) (counts : ℕ → List ℕ) → IsNetOfProgram p mode es places n counts → IsCovered n → NeverStuck (bare_program p)

-- a certificate of these lines is valid
abbrev pub ValidAreUnstuck : Type 0
ValidAreUnstuck =
    (p : Program) (mode : Mode) (es : List Thread) (places : List ℕ) (n : Net) (counts : ℕ → List ℕ) (lines : List Line)
    → IsNetOfProgram p mode es places n counts → IsValid n lines → NeverStuck (bare_program p)
