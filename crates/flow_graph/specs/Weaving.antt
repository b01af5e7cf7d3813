-- How the shapes of functions and the marks of contexts make the pieces of outlines.
use Rattle.std.specs.Prelude.{◌≡◌, ℕ, Bool, false, if◌then◌else◌, List, [], ◌∷◌, ◌++◌, map, bytes_eq, Some, None}
use Rattle.c_tree.specs.Bare as bare
use Rattle.c_tree.specs.Numbering.{monitor_resource}
use Rattle.c_tree.specs.Lined.{Function, Program, bare_program}
use Rattle.outlines.specs.Outline.{Thread}
use Rattle.rule_facts.specs.FromLast.{from_last}
use Rattle.contexts.specs.Walk.{Found}
use Rattle.contexts.specs.Outlines.{outlines, starts}
use Rattle.context_items.specs.Flat.{flat_above}
use Rattle.context_items.specs.Marks.{Mark, Resource, Enters, marks_of}
use Rattle.outline_pieces.specs.declared.pieces.Piece.{Piece}
use Rattle.outline_pieces.specs.declared.pieces.Piece.TheVariants as piece
use Rattle.outline_pieces.specs.declared.pieces.Deed.TheVariants as deed
use Rattle.outline_pieces.specs.Pieces.{wait_pieces, threads_pieces}
use Rattle.flow_graph.specs.Shapes.{Shape, shapes_all}

-- pieces, and the marks behind those that they took
pub record Woven : Type 0 where
  pub pieces : List Piece
  pub left : List Mark

abbrev pub led_by : Piece → Woven → Woven
led_by x w = record { pieces = x ∷ w.pieces; left = w.left }

-- the resource that the next mark names, and the marks behind the next one
abbrev pub next_resource : List Mark → ℕ
next_resource [] = 0
next_resource (Resource r ∷ ms) = r
next_resource (Enters k ∷ ms) = 0

abbrev pub behind_next : List Mark → List Mark
behind_next [] = []
behind_next (m ∷ ms) = ms

-- the functions above: which bear locks, and the pieces of each where it is entered
pub record Entries : Type 0 where
  pub bears : List ℕ → Bool
  pub enter : List ℕ → List Mark → Woven

-- a function that is entered, before what stands behind its call
abbrev pub around : ℕ → Woven → (List Mark → Woven) → Woven
around line w behind = record { pieces = piece.Inner line ∷ (w.pieces ++ (piece.InnerEnd ∷ (behind w.left).pieces)); left = (behind w.left).left }

-- a wait for the mutex that the next mark names
abbrev pub waiting : bare.Program → ℕ → ℕ → List ℕ → Woven → Woven
waiting p line r takes w = record { pieces = wait_pieces line r (map (monitor_resource p) takes) w.pieces; left = w.left }

abbrev pub weave : bare.Program → Entries → List Shape → List Mark → Woven
weave p c [] ms = record { pieces = []; left = ms }
weave p c (Shape.Step line ∷ ss) ms = led_by (piece.Pass line deed.Plain) (weave p c ss ms)
weave p c (Shape.Join line ∷ ss) ms = led_by (piece.Pass line deed.Join) (weave p c ss ms)
weave p c (Shape.Leave line ∷ ss) ms = led_by (piece.Leave line) (weave p c ss ms)
weave p c (Shape.Acquire line ∷ ss) ms = led_by (piece.Pass line (deed.Acquire (next_resource ms))) (weave p c ss (behind_next ms))
weave p c (Shape.Release line ∷ ss) ms = led_by (piece.Pass line (deed.Release (next_resource ms))) (weave p c ss (behind_next ms))
weave p c (Shape.Wait line takes ∷ ss) ms = waiting p line (next_resource ms) takes (weave p c ss (behind_next ms))
weave p c (Shape.Try line ∷ ss) ms = led_by (piece.Fork line (Some (next_resource ms))) (weave p c ss (behind_next ms))
weave p c (Shape.Branch line ∷ ss) ms = led_by (piece.Fork line None) (weave p c ss ms)
weave p c (Shape.Else ∷ ss) ms = led_by piece.Else (weave p c ss ms)
weave p c (Shape.ArmsEnd ∷ ss) ms = led_by piece.ArmsEnd (weave p c ss ms)
weave p c (Shape.Loop line ∷ ss) ms = led_by (piece.Loop line) (weave p c ss ms)
weave p c (Shape.LoopEnd ∷ ss) ms = led_by piece.LoopEnd (weave p c ss ms)
weave p c (Shape.Call line name ∷ ss) ms =
    if c.bears name then around line (c.enter name (behind_next ms)) (weave p c ss) else led_by (piece.Pass line deed.Plain) (weave p c ss ms)

-- the shapes of a function, with its end
abbrev pub function_shapes : Function → List Shape
function_shapes f = shapes_all f.body (Shape.Leave f.end_line ∷ [])

-- of functions, the last first
abbrev pub entries_of : bare.Program → List (ℕ × Function) → Entries
entries_of p [] = record { bears = λ name. false; enter = λ name ms. record { pieces = []; left = ms } }
entries_of p (f ∷ fs) = record {
  bears = (flat_above p (f ∷ fs)).bears;
  enter = λ name ms. if bytes_eq f.1.name name then weave p (entries_of p fs) (function_shapes f.1) ms else (entries_of p fs).enter name ms;
}

-- the lines at which a function begins and ends
abbrev pub lines_in : List (ℕ × Function) → List ℕ → ℕ × ℕ
lines_in [] name = (0, 0)
lines_in (f ∷ fs) name = if bytes_eq f.1.name name then (f.1.line, f.1.end_line) else lines_in fs name

-- a thread that was entered, from its begin to its end, before what stands behind it
abbrev pub thread_of : ℕ × ℕ → Woven → (List Mark → List Piece) → List Piece
thread_of lines w behind = piece.Begin lines.0 ∷ (w.pieces ++ (piece.Finish lines.1 ∷ behind w.left))

-- the threads that begin with these functions
abbrev pub threads_of : Entries → (List ℕ → ℕ × ℕ) → List (List ℕ) → List Mark → List Piece
threads_of c lines [] ms = []
threads_of c lines (name ∷ names) ms = thread_of (lines name) (c.enter name (behind_next ms)) (threads_of c lines names)

-- the pieces of a program's threads with these marks, main first
abbrev pub program_pieces : Program → List Mark → List Piece
program_pieces p ms = threads_of (entries_of (bare_program p) (from_last p)) (lines_in (from_last p)) (map (λ s. s.0) (starts p)) ms

-- where the walk through contexts finds outlines, their marks make their pieces
abbrev pub MarksMakePieces : Type 0
MarksMakePieces = (p : Program) (es : List Thread) (places : List ℕ) → outlines p ≡ Found es places → program_pieces p (marks_of es) ≡ threads_pieces es
