-- Points of a least siphon that are found, in the order in which they are.
use Rattle.std.specs.Prelude.{◌≡◌, ℕ, zero, suc, ◌+◌, ◌<◌, ◌≤◌, Bool, true, false, List, length, slice_get, Some, IsTrue, ⊤}
use Rattle.edges.specs.declared.EdgeOp.{EdgeOp}
use Rattle.edges.specs.declared.EdgeOp.TheVariants.{Plain, Acquire, Try, Reacquire, Release}
use Rattle.edges.specs.declared.Edge.{Edge}
use Rattle.net_laws.specs.Net.{Net, HasEdge, one}
use Rattle.net_laws.specs.Siphons.{InSiphon}

-- the resource of an operation has a bit in a mask
abbrev pub HasBit : EdgeOp → Type 0
HasBit Plain = ⊤
HasBit (Acquire r) = r < 64
HasBit (Try r) = r < 64
HasBit (Reacquire r) = r < 64
HasBit (Release r) = r < 64

-- a token of a member is taken
abbrev pub takes_one : (ℕ → Bool) → EdgeOp → Bool
takes_one R Plain = false
takes_one R (Acquire r) = R r
takes_one R (Try r) = R r
takes_one R (Reacquire r) = R r
takes_one R (Release r) = false

-- a token of a member is given back
abbrev pub gives_one : (ℕ → Bool) → EdgeOp → Bool
gives_one R Plain = false
gives_one R (Acquire r) = false
gives_one R (Try r) = false
gives_one R (Reacquire r) = false
gives_one R (Release r) = R r

-- how many of the points below a number are marked
abbrev pub count_marked : (ℕ → Bool) → ℕ → ℕ
count_marked marks zero = 0
count_marked marks (suc k) = count_marked marks k + one (marks k)

-- the marked ones are points of the least siphon, and stand in the row below the end, which counts them
pub record AreMarked (n : Net) (R marks : ℕ → Bool) (row : List ℕ) (end : ℕ) : Type 0 where
  pub sound : (p : ℕ) → IsTrue (marks p) → (p < n.points) × InSiphon n R p
  pub listed : (p : ℕ) → IsTrue (marks p) → (k : ℕ) × (k < end) × (slice_get row k ≡ Some p)
  pub stands : (k p : ℕ) → k < end → slice_get row k ≡ Some p → IsTrue (marks p)
  pub counted : end ≡ count_marked marks n.points
  pub room : length row ≡ n.points

-- what was marked is marked still, and what stood in the row below the end stands there
pub record HaveGrown (marks more : ℕ → Bool) (row longer : List ℕ) (end new_end : ℕ) : Type 0 where
  pub kept : (p : ℕ) → IsTrue (marks p) → IsTrue (more p)
  pub stays : (k : ℕ) → k < end → slice_get longer k ≡ slice_get row k
  pub further : end ≤ new_end

-- the point that the edge leaves is marked, where the edge gives one of R
abbrev pub IsGiverMarked : (ℕ → Bool) → (ℕ → Bool) → Edge → Type 0
IsGiverMarked R marks e = gives_one R e.op ≡ true → IsTrue (marks e.from)

-- the point that the edge leaves is marked, where it takes none of R
abbrev pub IsSourceMarked : (ℕ → Bool) → (ℕ → Bool) → Edge → Type 0
IsSourceMarked R marks e = takes_one R e.op ≡ false → IsTrue (marks e.from)

-- each edge that gives one of R leaves a marked point
abbrev pub AreGiversMarked : Net → (ℕ → Bool) → (ℕ → Bool) → Type 0
AreGiversMarked n R marks = (e : Edge) → HasEdge n e → IsGiverMarked R marks e

-- each edge that leads to a marked point and takes none of R leaves a marked point
abbrev pub AreSourcesMarked : Net → (ℕ → Bool) → (ℕ → Bool) → Type 0
AreSourcesMarked n R marks = (e : Edge) → HasEdge n e → IsTrue (marks e.to) → IsSourceMarked R marks e

-- each edge that leads to this point and takes none of R leaves a marked point
abbrev pub AreMarkedBefore : Net → (ℕ → Bool) → (ℕ → Bool) → ℕ → Type 0
AreMarkedBefore n R marks point = (e : Edge) → HasEdge n e → e.to ≡ point → IsSourceMarked R marks e

-- a point of the least siphon
abbrev pub HasPoint : Net → (ℕ → Bool) → ℕ → Type 0
HasPoint n R p = (p < n.points) × InSiphon n R p

-- the place is that of a member of R below a number, behind so many points
abbrev pub HasMember : (ℕ → Bool) → ℕ → ℕ → ℕ → Type 0
HasMember R points count place = (r : ℕ) × (r < count) × IsTrue (R r) × (place ≡ points + r)
