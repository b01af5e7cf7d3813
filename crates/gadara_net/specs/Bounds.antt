-- Bounds of lines at a point, by what the code reads of it.
use Rattle.std.specs.Prelude.{◌≡◌, ℕ, zero, suc, ◌-◌, ◌*◌, ◌<◌, ◌≤◌, ◌==◌, if◌then◌else◌, List, [], ◌∷◌, slice_get, slice_index, Some, sum_by, ⊤}
use Rattle.certificate.specs.declared.Line.{Line}
use Rattle.certificate.specs.declared.LineKind.{LineKind}
use Rattle.certificate.specs.declared.LineKind.TheVariants.{Thread as OfThread, Guard, Monitor, General}
use Rattle.certificate.specs.declared.Part.{Part}
use Rattle.certificate.specs.declared.PartOf.{PartOf}
use Rattle.certificate.specs.declared.PartOf.TheVariants.{Resource, Thread}
use Rattle.edges.specs.declared.Point.{Point}
use Rattle.net_laws.specs.Net.{Net}
use Rattle.net_laws.specs.Candidates.{members}
use Rattle.net_laws.specs.Lines.{LineHolds, IsSimple, IsPartOf, Precedes, times_of, tokens_of}

-- what a part counts at a point
abbrev pub point_count : Point → PartOf → ℕ
point_count p (Resource s) = slice_index p.held s
point_count p (Thread i) = if p.thread == i then 1 else 0

-- the sum of the parts at a point
abbrev pub point_sum : Point → List Part → ℕ
point_sum p parts = sum_by (λ x. x.factor * point_count p x.of) parts

-- the bound at a point, where the set has so many tokens
abbrev pub point_bound : ℕ → LineKind → Point → ℕ
point_bound t (OfThread i) p = if p.thread == i then t - 1 else 0
point_bound t (Guard g) p = (t - 1) * slice_index p.held g
point_bound t (Monitor c) p = slice_index p.held c
point_bound t (General times parts) p = point_sum p parts

-- at each point the sum is within the bound
abbrev pub IsWithin : ℕ → LineKind → List Point → List ℕ → Type 0
IsWithin t kind points sums =
    (k : ℕ) (p : Point) → slice_get points k ≡ Some p → times_of kind * slice_index sums k ≤ point_bound t kind p

-- the parts are of the net
abbrev pub AreNamed : Net → List Part → Type 0
AreNamed n parts = (k : ℕ) (x : Part) → slice_get parts k ≡ Some x → IsPartOf n x.of

-- each part precedes the next
abbrev pub AreOrdered : List Part → Type 0
AreOrdered parts = (k : ℕ) (x y : Part) → slice_get parts k ≡ Some x → slice_get parts (suc k) ≡ Some y → Precedes x.of y.of

-- in the order in which simple lines are tried the one stands before the other: threads, then guards, then monitors,
-- each by its number
abbrev pub IsEarlier : LineKind → LineKind → Type 0
IsEarlier (OfThread i) (OfThread j) = i < j
IsEarlier (OfThread i) (Guard h) = ⊤
IsEarlier (OfThread i) (Monitor d) = ⊤
IsEarlier (Guard g) (OfThread j) = ⊥
IsEarlier (Guard g) (Guard h) = g < h
IsEarlier (Guard g) (Monitor d) = ⊤
IsEarlier (Monitor c) (OfThread j) = ⊥
IsEarlier (Monitor c) (Guard h) = ⊥
IsEarlier (Monitor c) (Monitor d) = c < d
IsEarlier (OfThread i) (General times parts) = ⊤
IsEarlier (Guard g) (General times parts) = ⊤
IsEarlier (Monitor c) (General times parts) = ⊤
IsEarlier (General times parts) kind = ⊥

-- the line of this kind is simple and holds for the set, and no earlier one does
pub record IsFirstKind (n : Net) (resources : ℕ) (first : LineKind) : Type 0 where
  pub simple : IsSimple first
  pub holds : LineHolds n (members resources) first
  pub none : (kind : LineKind) → IsSimple kind → IsEarlier kind first → LineHolds n (members resources) kind → ⊥

-- the line is the first simple one that holds for the set
abbrev pub IsFirst : Net → ℕ → Line → Type 0
IsFirst n resources l = (l.resources ≡ resources) × IsFirstKind n resources l.kind

-- the one part, if it counts
abbrev pub part_list : PartOf → ℕ → List Part
part_list of zero = []
part_list of (suc k) = record { of = of; factor = suc k } ∷ []

-- the general bound that says what this one does, for a set of so many tokens
abbrev pub general_kind : ℕ → LineKind → LineKind
general_kind t (OfThread i) = General 1 (part_list (Thread i) (t - 1))
general_kind t (Guard g) = General 1 (part_list (Resource g) (t - 1))
general_kind t (Monitor c) = General 1 (part_list (Resource c) 1)
general_kind t (General times parts) = General times parts

-- the general line that says what this one does
abbrev pub general_of : Net → Line → Line
general_of n l = record { resources = l.resources; kind = general_kind (tokens_of n (members l.resources)) l.kind }
