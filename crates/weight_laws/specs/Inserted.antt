-- A net with a monitor more, beside the net that the monitor was put into.
use Rattle.std.specs.Prelude.{◌≡◌, ℕ, zero, suc, ◌+◌, ◌-◌, ◌<◌, ◌≤◌, Bool, ◌==◌, ◌||◌, if◌then◌else◌, IsTrue, slice_get, Some, ◌⊎◌}
use Rattle.edges.specs.declared.EdgeOp.{EdgeOp}
use Rattle.edges.specs.declared.EdgeOp.TheVariants.{Acquire, Release}
use Rattle.edges.specs.declared.Edge.{Edge}
use Rattle.edges.specs.Ops.{takes, gives}
use Rattle.certificate.specs.declared.LineKind.{LineKind}
use Rattle.certificate.specs.declared.LineKind.TheVariants.{Thread as OfThread, Guard, Monitor, General}
use Rattle.certificate.specs.declared.Part.{Part}
use Rattle.net_laws.specs.Net.{Net, HasEdge, one}
use Rattle.net_laws.specs.Lines.{IsPartOf}
use Rattle.weight_laws.specs.Flow.{Path}

-- of each point of the result, the point that it comes from, how many takes of the new monitor stand directly before
-- it, and how many gives from it on
pub record Origins : Type 0 where
  pub origin : ℕ → ℕ
  pub takes : ℕ → ℕ
  pub gives : ℕ → ℕ

-- the edge takes the monitor c
pub record Takes (o : Origins) (c : ℕ) (e : Edge) : Type 0 where
  pub op : e.op ≡ Acquire c
  pub same : o.origin e.to ≡ o.origin e.from
  pub more : o.takes e.to ≡ suc (o.takes e.from)
  pub before : o.gives e.from ≡ 0
  pub after : o.gives e.to ≡ 0

-- the edge gives it
pub record Gives (o : Origins) (c : ℕ) (e : Edge) : Type 0 where
  pub op : e.op ≡ Release c
  pub same : o.origin e.to ≡ o.origin e.from
  pub fewer : o.gives e.from ≡ suc (o.gives e.to)
  pub before : o.takes e.from ≡ 0
  pub after : o.takes e.to ≡ 0

-- the edge is one of the net before, behind all takes of its point and before all gives that stand at it: as many takes
-- as the entry weight is above the moved weight at its point, as many gives as it is above the one behind the edge
pub record Keeps (n : Net) (m entry : ℕ → ℕ) (o : Origins) (e : Edge) : Type 0 where
  pub old : Edge
  pub has : HasEdge n old
  pub from : old.from ≡ o.origin e.from
  pub to : old.to ≡ o.origin e.to
  pub op : old.op ≡ e.op
  pub takes_before : o.takes e.from ≡ entry old.from - m old.from
  pub gives_before : o.gives e.from ≡ 0
  pub takes_after : o.takes e.to ≡ 0
  pub gives_after : o.gives e.to ≡ entry old.from - m old.to

-- the operation takes or gives c
abbrev pub is_of : EdgeOp → ℕ → Bool
is_of op c = takes op c || gives op c

-- from p, over so many edges of c, to an edge that is the old one
abbrev pub Lifts : Net → Origins → ℕ → ℕ → Edge → ℕ → Type 0
Lifts n o c p old zero = (e : Edge) × HasEdge n e × (e.from ≡ p) × (e.op ≡ old.op) × (o.origin e.to ≡ old.to)
Lifts n o c p old (suc k) = (e : Edge) × HasEdge n e × (e.from ≡ p) × IsTrue (is_of e.op c) × Lifts n o c e.to old k

-- the new net has a monitor more, its last resource; each edge takes or gives it, or is one of the net before, and from
-- each point each old edge of its origin is reached; takes and gives stand as the weights ask for
pub record IsInserted (n : Net) (m entry : ℕ → ℕ) (capacity : ℕ) (o : Origins) (new : Net) : Type 0 where
  pub edges : (e : Edge) → HasEdge new e → Takes o n.resources e ⊎ (Gives o n.resources e ⊎ Keeps n m entry o e)
  pub lifts : (p : ℕ) (old : Edge) → p < new.points → HasEdge n old → old.from ≡ o.origin p → (k : ℕ) × Lifts new o n.resources p old k
  pub leads : (e : Edge) → HasEdge new e → (e.from < new.points) × (e.to < new.points)
  pub origins : (p : ℕ) → p < new.points → o.origin p < n.points
  pub old : (q : ℕ) → q < n.points → (p : ℕ) × (p < new.points) × (o.origin p ≡ q)
  pub few_takes : (p : ℕ) → p < new.points → o.takes p ≤ entry (o.origin p) - m (o.origin p)
  pub few_gives : (p : ℕ) → p < new.points → (o.gives p ≡ 0) ⊎ ((old : Edge) × HasEdge n old × (old.to ≡ o.origin p) × (o.gives p ≤ entry old.from - m old.to))
  pub apart : (p : ℕ) → p < new.points → (o.takes p ≡ 0) ⊎ (o.gives p ≡ 0)
  pub mutexes : new.mutexes ≡ n.mutexes
  pub resources : new.resources ≡ suc n.resources
  pub tokens : (r : ℕ) → r < n.resources → new.tokens r ≡ n.tokens r
  pub new_tokens : new.tokens n.resources ≡ capacity
  pub threads : new.threads ≡ n.threads
  pub thread_of : (p : ℕ) → new.thread_of p ≡ n.thread_of (o.origin p)

-- what is held in the result: of an old resource what is held at the origin; of the new monitor the moved weight of the
-- origin, the takes directly before the point, and the gives from it on
abbrev pub counted : Net → (ℕ → ℕ) → Origins → ℕ → ℕ → ℕ
counted n m o p r = if r == n.resources then m (o.origin p) + o.takes p + o.gives p else n.held (o.origin p) r

-- the held counts of a net are those
abbrev pub IsCounted : Net → (ℕ → ℕ) → Origins → Net → Type 0
IsCounted n m o new = (p r : ℕ) → p < new.points → new.held p r ≡ counted n m o p r

-- held counts that begin with nothing, and are accounts of the edges
pub record IsHeld (n : Net) (first : ℕ → Bool) : Type 0 where
  pub accounts : (e : Edge) (r : ℕ) → HasEdge n e → n.held e.to r + one (gives e.op r) ≡ n.held e.from r + one (takes e.op r)
  pub starts : (p r : ℕ) → IsTrue (first p) → n.held p r ≡ 0
  pub reached : (p : ℕ) → p < n.points → (k q : ℕ) × IsTrue (first q) × Path n q p k

-- where a thread begins in the result, nothing is held at the origin, and the new monitor isn't taken before or given
abbrev pub Begins : Net → Origins → (ℕ → Bool) → Type 0
Begins n o first = (p : ℕ) → IsTrue (first p) → ((r : ℕ) → n.held (o.origin p) r ≡ 0) × (o.takes p ≡ 0) × (o.gives p ≡ 0)

-- a set of resources that were there before
abbrev pub IsOld : Net → (ℕ → Bool) → Type 0
IsOld n Q = (r : ℕ) → IsTrue (Q r) → r < n.resources

-- a bound by resources and threads that were there before
abbrev pub IsOldKind : Net → LineKind → Type 0
IsOldKind n (OfThread i) = i < n.threads
IsOldKind n (Guard g) = g < n.resources
IsOldKind n (Monitor c) = c < n.resources
IsOldKind n (General times parts) = (k : ℕ) (x : Part) → slice_get parts k ≡ Some x → IsPartOf n x.of
