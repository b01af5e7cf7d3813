-- Which pieces are kept, and how they are numbered, piece by piece.
use Rattle.std.specs.Prelude.{ℕ, suc, Bool, true, false, ◌&&◌, ◌||◌, List, [], ◌∷◌, Option, Some, None}
use Rattle.outline_pieces.specs.declared.pieces.Piece.{Piece}
use Rattle.outline_pieces.specs.declared.pieces.Piece.TheVariants.{Begin, Pass, Fork, Loop, Inner, Leave, Else, ArmsEnd, LoopEnd, InnerEnd, Finish}
use Rattle.outline_pieces.specs.declared.pieces.Place.{Place}
use Rattle.outline_pieces.specs.declared.course.Open.{Open}
use Rattle.outline_pieces.specs.declared.course.Course.{Course}
use Rattle.outline_pieces.specs.Places.{place, first_in}

abbrev pub course : List Open → Bool → ℕ → ℕ → Course
course around reached next thread = record { around = around; reached = reached; next = next; thread = thread }

abbrev pub start : Course
start = course [] false 0 0

-- a point, where control reaches it
abbrev pub count : Bool → ℕ → ℕ
count true p = suc p
count false p = p

abbrev pub counted : Course → Course
counted c = course c.around c.reached (count c.reached c.next) c.thread

abbrev pub entered : Bool → Course → Course
entered passed c = course (record { reached = c.reached; at = c.next; passed = passed && c.reached } ∷ c.around) c.reached (count c.reached c.next) c.thread

-- from the first arm to the second
abbrev pub turned : List Open → Course → Course
turned [] c = c
turned (o ∷ os) c = course (record { reached = o.reached; at = o.at; passed = c.reached } ∷ os) o.reached c.next c.thread

-- the end of what is open
abbrev pub closed : List Open → Course → Course
closed [] c = c
closed (o ∷ os) c = course os (o.passed || c.reached) c.next c.thread

abbrev pub left : Course → Course
left c = course c.around false (count c.reached c.next) c.thread

abbrev pub begun : Course → Course
begun c = course c.around true (first_in c.thread c.next) c.thread

abbrev pub finished : Course → Course
finished c = course c.around false (suc c.next) (suc c.thread)

abbrev pub step : Course → Piece → Course
step c (Begin line) = begun c
step c (Pass line d) = counted c
step c (Fork line tried) = entered false c
step c (Loop line) = entered true c
step c (Inner line) = entered true c
step c (Leave line) = left c
step c Else = turned c.around c
step c ArmsEnd = closed c.around c
step c LoopEnd = closed c.around c
step c InnerEnd = closed c.around c
step c (Finish line) = finished c

abbrev pub place_now : Course → Piece → Place
place_now c x = place c.thread c.next x

abbrev pub place_if : Bool → Place → Option Place
place_if true p = Some p
place_if false p = None

abbrev pub place_here : Course → Piece → Option Place
place_here c x = place_if c.reached (place_now c x)

abbrev pub place_of : Course → Open → Piece → Option Place
place_of c o x = place_if o.reached (place c.thread o.at x)

abbrev pub place_at : List Open → Course → Piece → Option Place
place_at [] c x = None
place_at (o ∷ os) c x = place_of c o x

-- what is kept of a piece
abbrev pub kept_by : Course → Piece → Option Place
kept_by c (Begin line) = Some (place_now c (Begin line))
kept_by c (Pass line d) = place_here c (Pass line d)
kept_by c (Fork line tried) = place_here c (Fork line tried)
kept_by c (Loop line) = place_here c (Loop line)
kept_by c (Inner line) = place_here c (Inner line)
kept_by c (Leave line) = place_here c (Leave line)
kept_by c Else = place_at c.around c Else
kept_by c ArmsEnd = place_at c.around c ArmsEnd
kept_by c LoopEnd = place_at c.around c LoopEnd
kept_by c InnerEnd = place_at c.around c InnerEnd
kept_by c (Finish line) = Some (place_now c (Finish line))

abbrev pub before : Option Place → List Place → List Place
before None ps = ps
before (Some p) ps = p ∷ ps

-- what is kept of pieces, and where they lead
pub record Run : Type 0 where
  pub kept : List Place
  pub last : Course

abbrev pub mapped : (List Place → List Place) → Run → Run
mapped f r = record { kept = f r.kept; last = r.last }

abbrev pub run : Course → List Piece → Run
run c [] = record { kept = []; last = c }
run c (x ∷ xs) = mapped (before (kept_by c x)) (run (step c x) xs)
