-- What is reached by arcs of rows, and in a net.
use Rattle.std.proofs.Common.{◌≡◌, ℕ, zero, suc, ◌<◌, List, true, false, replicate, refl, sym, ◌∙◌}
use Rattle.std.specs.Prelude.{IsTrue}
use Rattle.std.proofs.lemmas.Bool.{and_parts}
use Rattle.net_laws.specs.Candidates.{arc, Reaches, Joins}
use Rattle.net_laws.proofs.Graph.{joins, joins_arc, joins_trans, path}
use Rattle.net_laws.proofs.Sums.{any_from}
use Rattle.gadara_net.specs.declared.flow.Flow.{Flow}
use Rattle.gadara_net.specs.Flows.{IsFlow, flow_net}
use Rattle.gadara_net.specs.Graphs.{has_arc, Leads, IsReached}
use Rattle.gadara_net.proofs.Bits.{members-zero}
use Rattle.gadara_net.proofs.Flowing.{taken_below}

-- where arcs lead from numbers below one to numbers below it, what is reached is reached through these
joins_from : (rows : List ℕ) (n : ℕ) → ((a b : ℕ) → a < n → IsTrue (has_arc rows a b) → b < n) → (k a b : ℕ) → a < n → Leads rows a b k → joins (has_arc rows) n a b ≡ true
joins_from rows n below zero a b lt l = joins_arc (has_arc rows) n a b l
joins_from rows n below (suc k) a b lt l =
    let next = below a l.0 lt l.1 in
    joins_trans (has_arc rows) n a l.0 b next (joins_arc (has_arc rows) n a l.0 l.1) (joins_from rows n below k l.0 b next l.2)

pub reached_from : (rows : List ℕ) (n : ℕ) → ((a b : ℕ) → a < n → IsTrue (has_arc rows a b) → b < n) → (a b : ℕ) → a < n → IsReached rows a b → joins (has_arc rows) n a b ≡ true
reached_from rows n below a b lt r = joins_from rows n below r.0 a b lt r.1

pub reached_by : (rows : List ℕ) (n a b : ℕ) → joins (has_arc rows) n a b ≡ true → IsReached rows a b
reached_by rows n a b j = path (has_arc rows) n a b j

-- an arc leads to a resource
pub arc_below : (f : Flow) (r s : ℕ) → IsFlow f → IsTrue (arc (flow_net f) r s) → s < 64
arc_below f r s is on =
    let e = any_from _ f.edges on in
    taken_below f e.1 s is (e.0, e.2) (and_parts _ _ e.3).1

leads_as : (f : Flow) (rows : List ℕ) → IsFlow f → ((r s : ℕ) → r < 64 → has_arc rows r s ≡ arc (flow_net f) r s) → (k a b : ℕ) → a < 64 → Leads rows a b k → Reaches (flow_net f) (λ _. true) a b k
leads_as f rows is same zero a b lt l = sym (same a b lt) ∙ l
leads_as f rows is same (suc k) a b lt l =
    let on = sym (same a l.0 lt) ∙ l.1 in
    (l.0, refl, on, leads_as f rows is same k l.0 b (arc_below f a l.0 is on) l.2)

leads_from : (f : Flow) (rows : List ℕ) → IsFlow f → ((r s : ℕ) → r < 64 → has_arc rows r s ≡ arc (flow_net f) r s) → (k a b : ℕ) → a < 64 → Reaches (flow_net f) (λ _. true) a b k → Leads rows a b k
leads_from f rows is same zero a b lt l = same a b lt ∙ l
leads_from f rows is same (suc k) a b lt l =
    (l.0, same a l.0 lt ∙ l.2, leads_from f rows is same k l.0 b (arc_below f a l.0 is l.2) l.3)

-- what is reached in the rows of a net is joined in it
pub joined_in : (f : Flow) (rows : List ℕ) → IsFlow f → ((r s : ℕ) → r < 64 → has_arc rows r s ≡ arc (flow_net f) r s) → (a b : ℕ) → a < 64 → IsReached rows a b → Joins (flow_net f) a b
joined_in f rows is same a b lt r = (r.0, leads_as f rows is same r.0 a b lt r.1)

pub reached_in : (f : Flow) (rows : List ℕ) → IsFlow f → ((r s : ℕ) → r < 64 → has_arc rows r s ≡ arc (flow_net f) r s) → (a b : ℕ) → a < 64 → Joins (flow_net f) a b → IsReached rows a b
reached_in f rows is same a b lt r = (r.0, leads_from f rows is same r.0 a b lt r.1)

-- what is joined is below the number of rows
pub joined_below : (f : Flow) → IsFlow f → (k a b : ℕ) → Reaches (flow_net f) (λ _. true) a b k → b < 64
joined_below f is zero a b l = arc_below f a b is l
joined_below f is (suc k) a b l = joined_below f is k l.0 b l.3

-- empty rows have no arc
pub no_arc : (n r s : ℕ) → has_arc (replicate n 0) r s ≡ false
no_arc zero r s = members-zero s
no_arc (suc n) zero s = members-zero s
no_arc (suc n) (suc r) s = no_arc n r s
