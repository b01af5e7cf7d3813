-- A walk along the stops of functions, stop by stop.
use Rattle.std.specs.Prelude.{◌≡◌, ℕ, ◌<◌, Bool, true, false, if◌then◌else◌, List, [], ◌++◌, length, map, slice_get, Some, None, ⊤}
use Rattle.std.specs.declared.option.Option.{Option}
use Rattle.c_tree.specs.Bare as bare
use Rattle.c_tree.specs.Lined.{Function, Program, bare_program}
use Rattle.c_tree.specs.Numbering.{creations_of, mutex_count, resource_count}
use Rattle.rule_facts.specs.FromLast.{from_last}
use Rattle.context_items.specs.Marks.{Mark}
use Rattle.context_walk.specs.Places.{first_functions}
use Rattle.context_walk.specs.Prepared.{count_in, program_in, ArePrepared}
use Rattle.outline_pieces.specs.declared.builder.Builder.{Builder}
use Rattle.outline_pieces.specs.declared.pieces.Piece.{Piece}
use Rattle.outline_pieces.specs.declared.pieces.Piece.TheVariants as piece
use Rattle.outline_pieces.specs.declared.pieces.Deed.TheVariants as deed
use Rattle.outline_pieces.specs.Taken.{HasTaken}
use Rattle.flow_graph.specs.declared.routes.Routes.{Routes}
use Rattle.flow_graph.specs.Routes.{AreRoutes}
use Rattle.flow_graph.specs.Shapes.{Shape}
use Rattle.flow_graph.specs.Weaving.{Woven, Entries, behind_next, entries_of, function_shapes, lines_in, threads_of, weave}

-- the routes of all functions of a small program
pub record IsReady (r : Routes) : Type 0 where
  pub prepared : ArePrepared r.functions.now
  pub routes : AreRoutes r
  pub all : length r.routes.items ≡ count_in r.functions.now
  pub mutexes : r.mutexes ≡ mutex_count (bare_program (program_in r.functions.now))
  pub few : resource_count (bare_program (program_in r.functions.now)) < 256

-- the functions above a place
abbrev pub entries_at : Program → ℕ → Entries
entries_at p k = entries_of (bare_program p) (first_functions k p)

-- what shapes of the function at a place and these marks make
abbrev pub woven_at : Routes → ℕ → List Shape → List Mark → Woven
woven_at r k ss ms = weave (bare_program (program_in r.functions.now)) (entries_at (program_in r.functions.now) k) ss ms

-- nothing is woven, and these marks are left
abbrev pub nothing_more : List Mark → Woven
nothing_more ms = record { pieces = []; left = ms }

-- a builder has taken these pieces since
abbrev pub HasTakenMore : List Piece → Builder → Builder → Type 0
HasTakenMore added old new = (mutexes resources : ℕ) (ps : List Piece) → HasTaken mutexes resources old ps → HasTaken mutexes resources new (ps ++ added)

-- a builder has taken what is woven first, and then the rest is woven
pub record Adds (w rest : Woven) (old new : Builder) : Type 0 where
  pub added : List Piece
  pub taken : HasTakenMore added old new
  pub is : w ≡ record { pieces = added ++ rest.pieces; left = rest.left }

-- the same of the function at a place, from marks that are left to those behind
abbrev pub AddsEntered : Routes → ℕ → List Mark → List Mark → Builder → Builder → Type 0
AddsEntered r k left behind old new = (f : Function) → slice_get (program_in r.functions.now).functions k ≡ Some f → Adds (woven_at r k (function_shapes f) left) (nothing_more behind) old new

-- ---- threads

-- the pieces of the threads that begin with these functions
abbrev pub threads_at : Routes → List (List ℕ) → List Mark → List Piece
threads_at r names ms = threads_of (entries_of (bare_program (program_in r.functions.now)) (from_last (program_in r.functions.now))) (lines_in (from_last (program_in r.functions.now))) names ms

-- the start function of the thread that a statement creates
abbrev pub started : bare.Stmt → Option (List ℕ)
started (bare.Create slot function arg) = Some function
started s = None

-- the start functions of the threads that a list creates
abbrev pub created_names : bare.Stmts → List (List ℕ)
created_names ss = map (λ c. c.function) (creations_of ss)

-- a builder has taken the first of these pieces, and the rest is left
pub record AddsThreads (ps rest : List Piece) (old new : Builder) : Type 0 where
  pub added : List Piece
  pub taken : HasTakenMore added old new
  pub is : ps ≡ added ++ rest

-- ---- one shape

-- a shape is about the resource of the next mark
abbrev pub takes_mark : Shape → Bool
takes_mark (Shape.Acquire line) = true
takes_mark (Shape.Release line) = true
takes_mark (Shape.Wait line takes) = true
takes_mark (Shape.Try line) = true
takes_mark s = false

-- the marks that are left behind a shape that enters nothing
abbrev pub left_behind : Shape → List Mark → List Mark
left_behind s ms = if takes_mark s then behind_next ms else ms

-- a shape is one piece: it is no wait and no call
abbrev pub IsOne : Shape → Type 0
IsOne (Shape.Wait line takes) = ⊥
IsOne (Shape.Call line name) = ⊥
IsOne s = ⊤

-- the piece of such a shape at a resource
abbrev pub piece_of : Shape → ℕ → Piece
piece_of (Shape.Step line) r = piece.Pass line deed.Plain
piece_of (Shape.Join line) r = piece.Pass line deed.Join
piece_of (Shape.Leave line) r = piece.Leave line
piece_of (Shape.Acquire line) r = piece.Pass line (deed.Acquire r)
piece_of (Shape.Release line) r = piece.Pass line (deed.Release r)
piece_of (Shape.Wait line takes) r = piece.Pass line (deed.Wait r)
piece_of (Shape.Try line) r = piece.Fork line (Some r)
piece_of (Shape.Branch line) r = piece.Fork line None
piece_of Shape.Else r = piece.Else
piece_of Shape.ArmsEnd r = piece.ArmsEnd
piece_of (Shape.Loop line) r = piece.Loop line
piece_of Shape.LoopEnd r = piece.LoopEnd
piece_of (Shape.Call line name) r = piece.Pass line deed.Plain
