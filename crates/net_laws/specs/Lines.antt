-- Lines: bounds on the tokens of a set that a point holds, where the point is outside the set's least siphon.
use Rattle.std.specs.Prelude.{◌≡◌, ℕ, zero, suc, ◌+◌, ◌-◌, ◌*◌, ◌<◌, ◌≤◌, ◌^◌, Bool, ◌==◌, if◌then◌else◌, List, IsTrue, slice_get, Some, sum_by, ⊤}
use Rattle.certificate.specs.declared.Line.{Line}
use Rattle.certificate.specs.declared.LineKind.{LineKind}
use Rattle.certificate.specs.declared.LineKind.TheVariants.{Thread as OfThread, Guard, Monitor, General}
use Rattle.certificate.specs.declared.Part.{Part}
use Rattle.certificate.specs.declared.PartOf.{PartOf}
use Rattle.certificate.specs.declared.PartOf.TheVariants.{Resource, Thread}
use Rattle.net_laws.specs.Net.{Net}
use Rattle.net_laws.specs.Siphons.{InSiphon, LiesIn}
use Rattle.net_laws.specs.Candidates.{IsCandidate, members, IsMinimal}

-- the sum of f over the members of R below k
abbrev pub total : ℕ → (ℕ → Bool) → (ℕ → ℕ) → ℕ
total zero R f = 0
total (suc k) R f = total k R f + (if R k then f k else 0)

-- the tokens of R
abbrev pub tokens_of : Net → (ℕ → Bool) → ℕ
tokens_of n R = total n.resources R n.tokens

-- the tokens of R that the point holds
abbrev pub held_of : Net → (ℕ → Bool) → ℕ → ℕ
held_of n R p = total n.resources R (n.held p)

-- what a part counts at a point, without its factor: the tokens held of its resource, or 1 at a point of its thread
abbrev pub count_at : Net → PartOf → ℕ → ℕ
count_at n (Resource s) p = n.held p s
count_at n (Thread i) p = if n.thread_of p == i then 1 else 0

-- what a part counts in all: the tokens of its resource, or one thread
abbrev pub count_of : Net → PartOf → ℕ
count_of n (Resource s) = n.tokens s
count_of n (Thread i) = 1

-- the sum of the parts at a point
abbrev pub parts_at : Net → List Part → ℕ → ℕ
parts_at n parts p = sum_by (λ x. x.factor * count_at n x.of p) parts

-- the sum of the parts in all
abbrev pub parts_of : Net → List Part → ℕ
parts_of n parts = sum_by (λ x. x.factor * count_of n x.of) parts

-- the number of the part's resource or thread is in the net
abbrev pub IsPartOf : Net → PartOf → Type 0
IsPartOf n (Resource s) = s < n.resources
IsPartOf n (Thread i) = i < n.threads

-- resources stand before threads, and each in the order of their numbers
abbrev pub Precedes : PartOf → PartOf → Type 0
Precedes (Resource r) (Resource s) = r < s
Precedes (Resource r) (Thread j) = ⊤
Precedes (Thread i) (Resource s) = ⊥
Precedes (Thread i) (Thread j) = i < j

-- the parts are of the net, and each precedes the next
pub record ArePartsOf (n : Net) (parts : List Part) : Type 0 where
  pub named : (k : ℕ) (x : Part) → slice_get parts k ≡ Some x → IsPartOf n x.of
  pub ordered : (k : ℕ) (x y : Part) → slice_get parts k ≡ Some x → slice_get parts (suc k) ≡ Some y → Precedes x.of y.of

-- what the tokens held of the set are multiplied by
abbrev pub times_of : LineKind → ℕ
times_of (OfThread i) = 1
times_of (Guard g) = 1
times_of (Monitor c) = 1
times_of (General times parts) = times

-- the bound at a point
abbrev pub bound : Net → (ℕ → Bool) → LineKind → ℕ → ℕ
bound n R (OfThread i) p = if n.thread_of p == i then tokens_of n R - 1 else 0
bound n R (Guard g) p = (tokens_of n R - 1) * n.held p g
bound n R (Monitor c) p = n.held p c
bound n R (General times parts) p = parts_at n parts p

-- the numbers of the bound are in the net, and it is one that all tokens of the set pass
abbrev pub IsOfNet : Net → (ℕ → Bool) → LineKind → Type 0
IsOfNet n R (OfThread i) = i < n.threads
IsOfNet n R (Guard g) = (g < n.resources) × (n.tokens g ≡ 1)
IsOfNet n R (Monitor c) = (n.mutexes ≤ c) × (c < n.resources) × (n.tokens c < tokens_of n R)
IsOfNet n R (General times parts) = ArePartsOf n parts × (parts_of n parts < times * tokens_of n R)

-- a line for a nonempty set of resources: at each point outside the set's least siphon what is held is within the bound
pub record LineHolds (n : Net) (R : ℕ → Bool) (kind : LineKind) : Type 0 where
  pub some : (r : ℕ) × IsTrue (R r)
  pub named : (r : ℕ) → IsTrue (R r) → r < n.resources
  pub of_net : IsOfNet n R kind
  pub bounded : (p : ℕ) → p < n.points → (InSiphon n R p → ⊥) → times_of kind * held_of n R p ≤ bound n R kind p

-- a line of a certificate holds
abbrev pub Holds : Net → Line → Type 0
Holds n l = LineHolds n (members l.resources) l.kind

-- the line's bound is one resource or one thread
abbrev pub IsSimple : LineKind → Type 0
IsSimple (OfThread i) = ⊤
IsSimple (Guard g) = ⊤
IsSimple (Monitor c) = ⊤
IsSimple (General times parts) = ⊥

-- no simple line for the set holds
abbrev pub IsBad : Net → ℕ → Type 0
IsBad n C = (kind : LineKind) → IsSimple kind → LineHolds n (members C) kind → ⊥

-- each minimal set has a simple line that holds: none is bad
abbrev pub IsCovered : Net → Type 0
IsCovered n = (C : ℕ) → IsMinimal n C → (kind : LineKind) × IsSimple kind × LineHolds n (members C) kind

-- the line is for a set whose least siphon lies in that of C
abbrev pub Covers : Net → Line → ℕ → Type 0
Covers n l C = LiesIn n (members l.resources) (members C)

-- each candidate has a line that holds and covers it
abbrev pub HasLines : Net → Type 0
HasLines n = (C : ℕ) → C < 2 ^ 64 → IsCandidate n (members C) → (l : Line) × Holds n l × Covers n l C

-- a certificate of these lines is valid: each holds, and each candidate is covered by one
pub record IsValid (n : Net) (lines : List Line) : Type 0 where
  pub hold : (k : ℕ) (l : Line) → slice_get lines k ≡ Some l → Holds n l
  pub cover : (C : ℕ) → C < 2 ^ 64 → IsCandidate n (members C) → (k : ℕ) × (l : Line) × (slice_get lines k ≡ Some l) × Covers n l C
