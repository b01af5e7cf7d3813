-- What is held at places and where it is refused, place by place.
use Rattle.std.specs.Prelude.{ℕ, zero, suc, Bool, true, false, not, ◌&&◌, ◌||◌, if◌then◌else◌, List, [], ◌∷◌, Option, Some, None, unwrap_or, slice_get, nat_lt}
use Rattle.std.specs.Option.{option_or}
use Rattle.edges.specs.declared.Point.{Point}
use Rattle.held_counts.specs.declared.HeldKind.TheVariants.{Relock, NotHeld, HeldDiffers, HeldAtEnd, HeldAtJoin, WaitNotHeld}
use Rattle.held_counts.specs.Counts.{raise, lower}
use Rattle.held_counts.specs.Refusals.{Refusal, refuse, is_held, differ, differs_from}
use Rattle.outline_pieces.specs.declared.pieces.Piece.{Piece}
use Rattle.outline_pieces.specs.declared.pieces.Piece.TheVariants.{Begin, Pass, Fork, Loop, Inner, Leave, Else, ArmsEnd, LoopEnd, InnerEnd, Finish}
use Rattle.outline_pieces.specs.declared.pieces.Deed.{Deed}
use Rattle.outline_pieces.specs.declared.pieces.Deed.TheVariants as deed
use Rattle.outline_pieces.specs.declared.pieces.Place.{Place}
use Rattle.outline_pieces.specs.declared.walk.Arms.{Arms}
use Rattle.outline_pieces.specs.declared.walk.Looped.{Looped}
use Rattle.outline_pieces.specs.declared.walk.Caller.{Caller}
use Rattle.outline_pieces.specs.declared.walk.Walk.{Walk}
use Rattle.outline_pieces.specs.Places.{sleeps}

-- with so much held, where control comes or doesn't; what was held at the function's first exit, and whether it is a start function
abbrev pub walk : List ℕ → Bool → Option (List ℕ) → Bool → List Arms → List Looped → List Caller → Walk
walk here reached exit starts arms loops callers =
    record { here = here; reached = reached; exit = exit; starts = starts; arms = arms; loops = loops; callers = callers }

abbrev pub start : List ℕ → Walk
start nothing = walk nothing false None false [] [] []

-- the walk with other counts, and the rest as it is
abbrev pub with_here : List ℕ → Walk → Walk
with_here here w = walk here w.reached w.exit w.starts w.arms w.loops w.callers

abbrev pub behind : List ℕ → Deed → List ℕ
behind here deed.Plain = here
behind here deed.Join = here
behind here (deed.Acquire r) = raise here r
behind here (deed.Release r) = lower here r
behind here (deed.Wait r) = lower here r
behind here deed.Sleep = here
behind here (deed.Take r) = raise here r
behind here (deed.Retake r) = raise here r

abbrev pub if_taken : List ℕ → Option ℕ → List ℕ
if_taken here None = here
if_taken here (Some r) = raise here r

abbrev pub begun : List ℕ → Walk → Walk
begun nothing w = walk nothing true None true w.arms w.loops w.callers

abbrev pub arms_of : ℕ → List ℕ → Bool → Arms
arms_of line held passed = record { line = line; held = held; passed = passed }

abbrev pub forked : ℕ → Option ℕ → Walk → Walk
forked line tried w = walk (if_taken w.here tried) w.reached w.exit w.starts (arms_of line w.here false ∷ w.arms) w.loops w.callers

abbrev pub turned : List Arms → Walk → Walk
turned [] w = w
turned (a ∷ more) w = walk a.held true w.exit w.starts (arms_of a.line w.here w.reached ∷ more) w.loops w.callers

abbrev pub met : List Arms → Walk → Walk
met [] w = w
met (a ∷ more) w = walk (if a.passed then a.held else w.here) (a.passed || w.reached) w.exit w.starts more w.loops w.callers

abbrev pub looped_at : ℕ → List ℕ → Looped
looped_at line held = record { line = line; held = held }

abbrev pub looped : ℕ → Walk → Walk
looped line w = walk w.here w.reached w.exit w.starts w.arms (looped_at line w.here ∷ w.loops) w.callers

abbrev pub out_of : List Looped → Walk → Walk
out_of [] w = w
out_of (l ∷ more) w = walk l.held true w.exit w.starts w.arms more w.callers

abbrev pub caller : Option (List ℕ) → Bool → Caller
caller exit starts = record { exit = exit; starts = starts }

abbrev pub called : Walk → Walk
called w = walk w.here w.reached None false w.arms w.loops (caller w.exit w.starts ∷ w.callers)

abbrev pub returned : List Caller → Walk → Walk
returned [] w = w
returned (c ∷ more) w = walk (unwrap_or w.exit w.here) true c.exit c.starts w.arms w.loops more

abbrev pub left : Walk → Walk
left w = walk w.here false (option_or w.exit (Some w.here)) w.starts w.arms w.loops w.callers

abbrev pub step : List ℕ → Walk → Piece → Walk
step nothing w (Begin line) = begun nothing w
step nothing w (Pass line d) = with_here (behind w.here d) w
step nothing w (Fork line tried) = forked line tried w
step nothing w (Loop line) = looped line w
step nothing w (Inner line) = called w
step nothing w (Leave line) = left w
step nothing w Else = turned w.arms w
step nothing w ArmsEnd = met w.arms w
step nothing w LoopEnd = out_of w.loops w
step nothing w InnerEnd = returned w.callers w
step nothing w (Finish line) = w

-- what is refused
abbrev pub refused_deed : ℕ → List ℕ → List ℕ → ℕ → Deed → Option Refusal
refused_deed m nothing here line deed.Plain = None
refused_deed m nothing here line deed.Join = refuse (differ here nothing) HeldAtJoin line
refused_deed m nothing here line (deed.Acquire r) = refuse (nat_lt r m && is_held here r) Relock line
refused_deed m nothing here line (deed.Release r) = refuse (not (is_held here r)) NotHeld line
refused_deed m nothing here line (deed.Wait r) = refuse (not (is_held here r)) WaitNotHeld line
refused_deed m nothing here line deed.Sleep = None
refused_deed m nothing here line (deed.Take r) = None
refused_deed m nothing here line (deed.Retake r) = None

abbrev pub refused_fork : ℕ → List ℕ → ℕ → Option ℕ → Option Refusal
refused_fork m here line None = None
refused_fork m here line (Some r) = refuse (nat_lt r m && is_held here r) Relock line

abbrev pub refused_leave : List ℕ → ℕ → Walk → Option Refusal
refused_leave nothing line w = option_or (refuse (differs_from w.exit w.here) HeldDiffers line) (refuse (w.starts && differ w.here nothing) HeldAtEnd line)

abbrev pub refused_arms : Option Arms → Walk → Option Refusal
refused_arms None w = None
refused_arms (Some a) w = refuse (a.passed && w.reached && differ a.held w.here) HeldDiffers a.line

abbrev pub refused_loop : Option Looped → Walk → Option Refusal
refused_loop None w = None
refused_loop (Some l) w = refuse (w.reached && differ w.here l.held) HeldDiffers l.line

abbrev pub refused_at : ℕ → List ℕ → Walk → Piece → Option Refusal
refused_at m nothing w (Begin line) = None
refused_at m nothing w (Pass line d) = refused_deed m nothing w.here line d
refused_at m nothing w (Fork line tried) = refused_fork m w.here line tried
refused_at m nothing w (Loop line) = None
refused_at m nothing w (Inner line) = None
refused_at m nothing w (Leave line) = refused_leave nothing line w
refused_at m nothing w Else = None
refused_at m nothing w ArmsEnd = refused_arms (slice_get w.arms 0) w
refused_at m nothing w LoopEnd = refused_loop (slice_get w.loops 0) w
refused_at m nothing w InnerEnd = None
refused_at m nothing w (Finish line) = None

-- the point of a place
abbrev pub point : ℕ → ℕ → Bool → List ℕ → Point
point t line waiting held = record { thread = t; line = line; waiting = waiting; held = held }

abbrev pub begin_point : ℕ → ℕ → List ℕ → Option Point
begin_point zero line nothing = None
begin_point (suc t) line nothing = Some (point (suc t) line false nothing)

abbrev pub point_of : List ℕ → Walk → ℕ → Piece → Option Point
point_of nothing w t (Begin line) = begin_point t line nothing
point_of nothing w t (Pass line d) = Some (point t line (sleeps d) w.here)
point_of nothing w t (Fork line tried) = Some (point t line false w.here)
point_of nothing w t (Loop line) = Some (point t line false w.here)
point_of nothing w t (Inner line) = Some (point t line false w.here)
point_of nothing w t (Leave line) = Some (point t line false w.here)
point_of nothing w t Else = None
point_of nothing w t ArmsEnd = None
point_of nothing w t LoopEnd = None
point_of nothing w t InnerEnd = None
point_of nothing w t (Finish line) = Some (point t line false nothing)

abbrev pub with_point : Option Point → List Point → List Point
with_point None ps = ps
with_point (Some p) ps = p ∷ ps

-- the points of places, or the first refusal
pub data Outcome : Type 0 where
  Refused : Refusal → Outcome
  Held : List Point → Outcome

abbrev pub refused_or : Option Refusal → Outcome → Outcome
refused_or None o = o
refused_or (Some r) o = Refused r

abbrev pub mapped : (List Point → List Point) → Outcome → Outcome
mapped f (Refused r) = Refused r
mapped f (Held ps) = Held (f ps)

abbrev pub walked : ℕ → List ℕ → Walk → List Place → Outcome
walked m nothing w [] = Held []
walked m nothing w (p ∷ ps) =
    refused_or (refused_at m nothing w p.piece) (mapped (with_point (point_of nothing w p.thread p.piece)) (walked m nothing (step nothing w p.piece) ps))
