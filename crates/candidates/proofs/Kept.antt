-- What is kept of a net: its arcs as rows, and its strong components.
use Rattle.std.proofs.Common.{◌≡◌, ℕ, zero, suc, ◌<◌, ◌≤◌, ◌^◌, Bool, true, ◌&&◌, List, refl, sym, ◌∙◌, inl, inr, ⊎_elim, ◌↔◌, arith}
use Rattle.std.specs.Prelude.{IsTrue, nat_lt, slice_index}
use Rattle.std.proofs.lemmas.Bool.{and_parts}
use Rattle.edges.specs.Ops.{takes}
use Rattle.net_laws.specs.Net.{Net, IsNet}
use Rattle.net_laws.specs.Candidates.{arc, Reaches, IsCandidate, InComponent, members}
use Rattle.net_laws.proofs.Sums.{any_from}
use Rattle.gadara_net.specs.Graphs.{has_arc}
use Rattle.candidates.specs.Reached.{Leads, IsLed, IsMutual, IsCircular, AreReversed}
use Rattle.candidates.proofs.Numbers.{member_below}
use Rattle.candidates.proofs.Walks.{widened, way_back, way_there}

-- the row of r has an arc exactly where the net has it
abbrev pub AreArcs : Net → List ℕ → Type 0
AreArcs n rows = (r s : ℕ) → r < 64 → has_arc rows r s ≡ arc n r s

-- an arc ends at a resource
arc_ends : (n : Net) → IsNet n → (r s : ℕ) → IsTrue (arc n r s) → s < n.resources
arc_ends n net r s on =
    let a = any_from (λ e. nat_lt 0 (n.held e.from r) && takes e.op s) n.edges on in
    net.taken a.1 s (a.0, a.2) (and_parts _ _ a.3).1

reaches_ends : (n : Net) → IsNet n → (C : ℕ → Bool) (k a b : ℕ) → Reaches n C a b k → b < n.resources
reaches_ends n net C zero a b r = arc_ends n net a b r
reaches_ends n net C (suc k) a b r = reaches_ends n net C k r.0 b r.3

reached_in : (n : Net) (rows : List ℕ) (C : ℕ → Bool) → IsNet n → n.resources ≤ 64 → AreArcs n rows → (k a b : ℕ) → a < 64 → Leads rows C a b k → Reaches n C a b k
reached_in n rows C net few arcs zero a b lt l = sym (arcs a b lt) ∙ l
reached_in n rows C net few arcs (suc k) a b lt l =
    let here : IsTrue (arc n a l.0) = sym (arcs a l.0 lt) ∙ l.2 in
    (l.0, l.1, here, reached_in n rows C net few arcs k l.0 b (omega (arith, arc_ends n net a l.0 here, few)) l.3)

led_in : (n : Net) (rows : List ℕ) (C : ℕ → Bool) → IsNet n → n.resources ≤ 64 → AreArcs n rows → (k a b : ℕ) → a < 64 → Reaches n C a b k → Leads rows C a b k
led_in n rows C net few arcs zero a b lt r = arcs a b lt ∙ r
led_in n rows C net few arcs (suc k) a b lt r =
    (r.0, r.1, arcs a r.0 lt ∙ r.2, led_in n rows C net few arcs k r.0 b (omega (arith, arc_ends n net a r.0 r.2, few)) r.3)

-- ---- candidates

pub candidate_from : (n : Net) (rows : List ℕ) (set : ℕ) → IsNet n → n.resources ≤ 64 → AreArcs n rows → set < 2 ^ 64 → IsCircular rows set → IsCandidate n (members set)
candidate_from n rows set net few arcs lt is = record {
  some = is.some;
  named = λ r on.
      let way = is.joined r r on on in
      reaches_ends n net (members set) way.0 r r (reached_in n rows (members set) net few arcs way.0 r r (member_below set 64 r lt on) way.1);
  joined = λ a b in_a in_b.
      let way = is.joined a b in_a in_b in
      (way.0, reached_in n rows (members set) net few arcs way.0 a b (member_below set 64 a lt in_a) way.1);
}

pub circular_of : (n : Net) (rows : List ℕ) (set : ℕ) → IsNet n → n.resources ≤ 64 → AreArcs n rows → set < 2 ^ 64 → IsCandidate n (members set) → IsCircular rows set
circular_of n rows set net few arcs lt is = record {
  some = is.some;
  joined = λ a b in_a in_b.
      let way = is.joined a b in_a in_b in
      (way.0, led_in n rows (members set) net few arcs way.0 a b (member_below set 64 a lt in_a) way.1);
}

-- ---- components

pub component_from : (n : Net) (rows : List ℕ) → IsNet n → n.resources ≤ 64 → AreArcs n rows → (r s : ℕ) → r < 64 → IsMutual rows r s → InComponent n r s
component_from n rows net few arcs r s lt m =
    ⊎_elim
    (λ same. inl same)
    (λ both.
    let there = reached_in n rows (λ _. true) net few arcs both.0.0 r s lt both.0.1 in
    let below : s < 64 = omega (arith, reaches_ends n net (λ _. true) both.0.0 r s there, few) in
    inr ((both.0.0, there), (both.1.0, reached_in n rows (λ _. true) net few arcs both.1.0 s r below both.1.1)))
    m

pub mutual_of : (n : Net) (rows : List ℕ) → IsNet n → n.resources ≤ 64 → AreArcs n rows → (r s : ℕ) → r < 64 → InComponent n r s → IsMutual rows r s
mutual_of n rows net few arcs r s lt m =
    ⊎_elim
    (λ same. inl same)
    (λ both.
    let below : s < 64 = omega (arith, reaches_ends n net (λ _. true) both.0.0 r s both.0.1, few) in
    inr ((both.0.0, led_in n rows (λ _. true) net few arcs both.0.0 r s lt both.0.1), (both.1.0, led_in n rows (λ _. true) net few arcs both.1.0 s r below both.1.1)))
    m

-- ---- what is reached through all resources that have a bit

-- each arc ends at a resource that has a bit
abbrev pub HaveBits : List ℕ → Type 0
HaveBits rows = (r s : ℕ) → IsTrue (has_arc rows r s) → s < 64

led_ends : (rows : List ℕ) (C : ℕ → Bool) → HaveBits rows → (k a b : ℕ) → Leads rows C a b k → b < 64
led_ends rows C bits zero a b l = bits a b l
led_ends rows C bits (suc k) a b l = led_ends rows C bits k l.0 b l.3

-- what is reached both ways through a set of all resources that have bits
pub mutual_from : (rows back : List ℕ) (all there again : ℕ → Bool) (r : ℕ) → r < 64 → HaveBits rows → AreReversed rows back → ((c : ℕ) → IsTrue (all c) ↔ (c < 64))
    → ((s : ℕ) → IsTrue (there s) ↔ (IsTrue (all s) × IsLed rows all r s)) → ((s : ℕ) → IsTrue (again s) ↔ (IsTrue (all s) × IsLed back all r s))
    → (s : ℕ) → (IsTrue (there s) × IsTrue (again s)) ↔ (IsLed rows (λ _. true) r s × IsLed rows (λ _. true) s r)
mutual_from rows back all there again r lt bits reversed is_all are_there are_again s = (
  (λ both.
      let to = ((are_there s).0 both.0).1 in
      let from = ((are_again s).0 both.1).1 in
      let home = way_back rows back all reversed (λ c on. (is_all c).0 on) from.0 r s lt from.1 in
      ((to.0, widened rows all (λ _. true) (λ c x on arc. refl) to.0 r s to.1), (from.0, widened rows all (λ _. true) (λ c x on arc. refl) from.0 s r home))),
  (λ both.
      let below = led_ends rows (λ _. true) bits both.0.0 r s both.0.1 in
      let in_all = (is_all s).1 below in
      let to = widened rows (λ _. true) all (λ c x on arc. (is_all c).1 (bits x c arc)) both.0.0 r s both.0.1 in
      let from = widened rows (λ _. true) all (λ c x on arc. (is_all c).1 (bits x c arc)) both.1.0 s r both.1.1 in
      ((are_there s).1 (in_all, (both.0.0, to)), (are_again s).1 (in_all, (both.1.0, way_there rows back all reversed (λ c on. (is_all c).0 on) both.1.0 s r lt from)))),
)

pub have_bits : (rows : List ℕ) → ((k : ℕ) → slice_index rows k < 2 ^ 64) → HaveBits rows
have_bits rows fits r s on = member_below (slice_index rows r) 64 s (fits r) on
