-- The net that points and edges in order show.
use Rattle.std.specs.Prelude.{◌≡◌, ℕ, Bool, false, List, length, Option, Some, None, slice_get, slice_index}
use Rattle.edges.specs.declared.Edge.{Edge}
use Rattle.edges.specs.declared.Point.{Point}
use Rattle.net_laws.specs.Net.{Net}

abbrev pub thread_at : Option Point → ℕ
thread_at None = 0
thread_at (Some p) = p.thread

abbrev pub waiting_at : Option Point → Bool
waiting_at None = false
waiting_at (Some p) = p.waiting

abbrev pub held_at : Option Point → ℕ → ℕ
held_at None r = 0
held_at (Some p) r = slice_index p.held r

-- the net of these numbers of threads and mutexes, these tokens of each resource, these points and these edges
abbrev pub net_of : ℕ → ℕ → List ℕ → List Point → List Edge → Net
net_of threads mutexes tokens points edges = record {
  threads = threads;
  mutexes = mutexes;
  resources = length tokens;
  points = length points;
  edges = edges;
  thread_of = λ p. thread_at (slice_get points p);
  waiting = λ p. waiting_at (slice_get points p);
  tokens = slice_index tokens;
  held = λ p. held_at (slice_get points p);
}

-- each point has a count for each of so many resources
abbrev pub HaveCounts : List Point → ℕ → Type 0
HaveCounts points resources = (k : ℕ) (p : Point) → slice_get points k ≡ Some p → length p.held ≡ resources
