-- What a flow promises, by the places of its lists.
use Rattle.std.proofs.Common.{◌≡◌, ℕ, zero, suc, ◌<◌, ◌≤◌, List, [], ◌∷◌, length, true, Some, refl, sym, ap, ◌∙◌, subst, arith}
use Rattle.std.specs.Prelude.{slice_get, slice_index_or, option_map}
use Rattle.std.proofs.lemmas.Bool.{eq-eqb}
use Rattle.std.proofs.lemmas.Option.{slice_get-map, same_Some, slice_get-get_or, slice_get_read}
use Rattle.edges.specs.declared.EdgeOp.{EdgeOp}
use Rattle.edges.specs.declared.EdgeOp.TheVariants.{Plain, Acquire, Try, Reacquire, Release}
use Rattle.edges.specs.declared.Edge.{Edge}
use Rattle.edges.specs.declared.Point.{Point}
use Rattle.edges.specs.Ops.{takes, gives}
use Rattle.net_laws.specs.Net.{HasEdge}
use Rattle.gadara_net.specs.declared.flow.Flow.{Flow}
use Rattle.gadara_net.specs.Flows.{IsFlow, flow_net, targets_of}
use Rattle.gadara_net.specs.Marks.{HasBit}

pub targets_below : (edges : List Edge) (n : ℕ) → ((k : ℕ) (e : Edge) → slice_get edges k ≡ Some e → e.to < n) → (k d : ℕ) → k < length (targets_of edges) → slice_index_or (targets_of edges) k d < n
targets_below [] n ends k d lt = absurd (omega (arith, lt))
targets_below (e ∷ es) n ends zero d lt = ends 0 e refl
targets_below (e ∷ es) n ends (suc k) d lt = targets_below es n (λ j x at. ends (suc j) x at) k d (omega (arith, lt))

has_bit : (f : Flow) (e : Edge) (o : EdgeOp) (k : ℕ) → IsFlow f → slice_get f.edges k ≡ Some e → e.op ≡ o → HasBit o
has_bit f e Plain k is at same = tt
has_bit f e (Acquire r) k is at same = let below = is.net.taken e r (k, at) (subst (λ o. takes o r ≡ true) (sym same) (eq-eqb r r refl)) in omega (arith, below, is.shaped.few)
has_bit f e (Try r) k is at same = let below = is.net.taken e r (k, at) (subst (λ o. takes o r ≡ true) (sym same) (eq-eqb r r refl)) in omega (arith, below, is.shaped.few)
has_bit f e (Reacquire r) k is at same = let below = is.net.taken e r (k, at) (subst (λ o. takes o r ≡ true) (sym same) (eq-eqb r r refl)) in omega (arith, below, is.shaped.few)
has_bit f e (Release r) k is at same = let below = is.net.given e r (k, at) (subst (λ o. gives o r ≡ true) (sym same) (eq-eqb r r refl)) in omega (arith, below, is.shaped.few)

-- the resource of an edge has a bit in a mask
pub edge_has_bit : (f : Flow) (e : Edge) → IsFlow f → HasEdge (flow_net f) e → HasBit e.op
edge_has_bit f e is has = has_bit f e e.op has.0 is has.1 refl

-- the point that an edge leads to, in the list of these
pub target_at : (edges : List Edge) (k : ℕ) (e : Edge) → slice_get edges k ≡ Some e → slice_get (targets_of edges) k ≡ Some e.to
target_at edges k e at = slice_get-map (λ x. x.to) edges k ∙ ap (option_map (λ x. x.to)) at

-- the edge at a place that leads to a point
pub target_is : (edges : List Edge) (k p : ℕ) (e : Edge) → slice_get edges k ≡ Some e → slice_get (targets_of edges) k ≡ Some p → e.to ≡ p
target_is edges k p e at to = same_Some e.to p (sym (target_at edges k e at) ∙ to)

pub length-targets_of : (edges : List Edge) → length (targets_of edges) ≡ length edges
length-targets_of [] = refl
length-targets_of (e ∷ es) = ap suc (length-targets_of es)

-- what is read of a list that equals another
pub read_same : {X : Type 0} (xs ys : List X) (i : ℕ) (d : X) → ys ≡ xs → i < length xs → slice_get xs i ≡ Some (slice_index_or ys i d)
read_same xs ys i d same lt = slice_get-get_or xs i d lt ∙ ap (λ zs. Some (slice_index_or zs i d)) (sym same)

-- each point that is read has a count for each resource
pub row_of : (f : Flow) (p : ℕ) (point : Point) → IsFlow f → slice_get f.points p ≡ Some point → length point.held ≤ 64
row_of f p point is at = omega (arith, is.counts p point at, is.shaped.few)

-- a resource that is taken has a row
pub taken_below : (f : Flow) (e : Edge) (r : ℕ) → IsFlow f → HasEdge (flow_net f) e → takes e.op r ≡ true → r < 64
taken_below f e r is has t = omega (arith, is.net.taken e r has t, is.shaped.few)

-- the point that is read at a place
pub point_read : (f : Flow) (p : ℕ) (ys : List Point) (x : Point) → ys ≡ f.points → p < length f.points → x ≡ slice_index_or ys p x → slice_get f.points p ≡ Some x
point_read f p ys x same lt is = slice_get_read f.points (length f.points) p x refl lt (is ∙ ap (λ zs. slice_index_or zs p x) same)
