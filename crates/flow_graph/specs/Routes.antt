-- Functions as lists of stops.
use Rattle.std.specs.Prelude.{◌≡◌, ◌<◌, ℕ, List, All, Contains, map, length, slice_get, Some, None, option_and_then, if◌then◌else◌, ⊤}
use Rattle.std.specs.declared.option.Option.{Option}
use Rattle.std.specs.HashMap.{HashMap}
use denote.Ref.{Bor}
use Rattle.c_tree.specs.Lined.{Function, Program}
use Rattle.context_walk.specs.declared.functions.Functions.{Functions}
use Rattle.context_walk.specs.Places.{callee_at, place_at}
use Rattle.context_walk.specs.Prepared.{placed, program_in}
use Rattle.flow_graph.specs.Shapes as spec
use Rattle.flow_graph.specs.declared.shapes.Shape.TheVariants as shape
use Rattle.flow_graph.specs.declared.shapes.Shape as declared_shape
use Rattle.flow_graph.specs.declared.routes.Stop.{Stop}
use Rattle.flow_graph.specs.declared.routes.Routes.{Routes}
use Rattle.flow_graph.specs.Shown.{shown_shape}
use Rattle.flow_graph.specs.Weaving.{function_shapes}

abbrev pub shown_stops : List Stop → List spec.Shape
shown_stops stops = map (λ s. shown_shape s.shape) stops

-- the function that a call of a name enters, by a table of places: none where it bears no locks
abbrev pub callee_by : {S : Type 0} → Functions → HashMap (Bor (List ℕ)) ℕ S → List ℕ → Option ℕ
callee_by q places name = option_and_then (λ k. option_and_then (λ f. if f.bears then Some k else None) (slice_get q.functions.items k)) (placed places name)

-- a call has what it enters, and nothing else enters anything
abbrev pub Enters : (List ℕ → Option ℕ) → declared_shape.Shape → Option ℕ → Type 0
Enters callee (shape.Call line name) entered = entered ≡ callee name.now
Enters callee s entered = entered ≡ None

abbrev pub IsStop : (List ℕ → Option ℕ) → Stop → Type 0
IsStop callee stop = Enters callee stop.shape stop.callee

-- what a wait takes are monitors that are there
abbrev pub FitsShape : ℕ → spec.Shape → Type 0
FitsShape monitors (spec.Shape.Wait line takes) = (k : ℕ) → Contains takes k → k < monitors
FitsShape monitors s = ⊤

-- these are the stops of the function at a place
pub record IsRoute (p : Program) (k : ℕ) (stops : List Stop) : Type 0 where
  pub f : Function
  pub at : slice_get p.functions k ≡ Some f
  pub shapes : shown_stops stops ≡ function_shapes f
  pub callees : All (IsStop (callee_at p k)) stops
  pub fits : All (FitsShape (length p.monitors)) (shown_stops stops)

-- the first functions have routes
abbrev pub AreRoutes : Routes → Type 0
AreRoutes r = (k : ℕ) (stops : List Stop) → slice_get (map (λ v. v.items) r.routes.items) k ≡ Some stops → IsRoute (program_in r.functions.now) k stops

-- a table has the last place of each name among the first functions
abbrev pub ArePlaces : {S : Type 0} → Program → ℕ → HashMap (Bor (List ℕ)) ℕ S → Type 0
ArePlaces p k places = (name : List ℕ) → placed places name ≡ place_at p k name
