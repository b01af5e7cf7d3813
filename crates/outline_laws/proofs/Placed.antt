-- What a net whose points are those of threads keeps.
use Rattle.std.proofs.Common.{◌≡◌, ℕ, zero, suc, ◌+◌, ◌<◌, ◌≤◌, true, false, List, [], ◌∷◌, length, Some, ◌⊎◌, refl, sym, ap, ◌∙◌, subst, ⊎_elim, arith}
use Rattle.std.specs.Prelude.{slice_get, IsTrue, IsFalse, nat_lt, count_by, ◌==◌}
use Rattle.std.proofs.lemmas.Bool.{eq-eqb}
use Rattle.edges.specs.declared.EdgeOp.TheVariants as op
use Rattle.edges.specs.declared.Edge.{Edge}
use Rattle.edges.specs.Ops.{takes, blocks, gives}
use Rattle.net_laws.specs.Net.{Net, HasEdge}
use Rattle.weight_laws.specs.Flow.{branches, Path, Wakes}
use Rattle.outlines.specs.Outline.{Thread}
use Rattle.outlines.specs.Whole.{ThreadsName}
use Rattle.outlines.specs.Rows.{Way, Kind, Act, Test, Sleeping, Waking, Joining, Trying, Row, way, HasWay, From, is_sleeping, row_at, edge}
use Rattle.outlines.specs.Points.{thread_rows, thread_end, all_rows}
use Rattle.outline_laws.specs.Leading.{first_point}
use Rattle.outline_laws.specs.Reaching.{Goes}
use Rattle.outline_laws.specs.Shapes.{is_inside, IsOutside, WakesAt, SleepsAt, HaveShape, IsRowOf}
use Rattle.outline_laws.specs.Nets.{IsNetOf, IsLastFor}
use Rattle.outline_laws.proofs.Move.{threads_have_rows}
use Rattle.outline_laws.proofs.Out.{points_reach_end}
use Rattle.outline_laws.proofs.Shape.{one_of, one_of_two, rows_have_shape}
use Rattle.outline_laws.proofs.Numbers.{ends, ends_length, point_of, last_within, from_self, IsWayOf, edge_way, way_edge}
use Rattle.outline_laws.proofs.Named.{takes_below, gives_below, all_below, op_below}
use Rattle.outline_laws.proofs.Counted.{one_edge}

number_below : (ths : List Thread) (u : ℕ) (th : Thread) → slice_get ths u ≡ Some th → u < length ths
number_below [] u th is = absurd (cc is)
number_below (x ∷ ths) zero th is = omega arith
number_below (x ∷ ths) (suc u) th is = omega (arith, number_below ths u th is)

abbrev pub rows_of : List Thread → List Row
rows_of ths = all_rows 0 ths 0

abbrev pub src_of : List Thread → ℕ → Row
src_of ths = row_at (rows_of ths)

-- the thread of a point, and its rows
pub record Placed (ths : List Thread) (p : ℕ) : Type 0 where
  pub number : ℕ
  pub thread : Thread
  pub found : slice_get ths number ≡ Some thread
  pub begun : first_point 0 ths 0 number ≤ p
  pub below : p < thread_end number thread (first_point 0 ths 0 number)
  pub within : thread_end number thread (first_point 0 ths 0 number) ≤ length (rows_of ths)
  pub more : List Row
  pub stands : From (src_of ths) (first_point 0 ths 0 number) (thread_rows number thread (first_point 0 ths 0 number) more)

pub placed : (ths : List Thread) (p : ℕ) → p < length (rows_of ths) → Placed ths p
placed ths p lt =
    let all = ends_length (rows_of ths) 0 in
    let pt = point_of 0 ths 0 p (omega arith) (omega (arith, lt, all)) in
    let none : 0 + pt.number ≡ pt.number = omega arith in
    let lw = last_within 0 ths 0 pt.number pt.thread pt.found in
    let lw2 = subst (λ k. thread_end k pt.thread (first_point 0 ths 0 pt.number) ≤ ends (rows_of ths) 0) none lw in
    let tr = threads_have_rows (src_of ths) ths pt.number pt.thread (from_self (rows_of ths)) pt.found in
    record {
      number = pt.number;
      thread = pt.thread;
      found = pt.found;
      begun = pt.begun;
      below = subst (λ k. p < thread_end k pt.thread (first_point 0 ths 0 pt.number)) none pt.below;
      within = omega (arith, lw2, all);
      more = tr.0;
      stands = tr.1;
    }

-- another point of the same thread has its shape
shaped : (ths : List Thread) (p : ℕ) (at : Placed ths p) (i : ℕ) → first_point 0 ths 0 at.number ≤ i → i < thread_end at.number at.thread (first_point 0 ths 0 at.number) →
    IsRowOf (src_of ths) at.number (first_point 0 ths 0 at.number) (thread_end at.number at.thread (first_point 0 ths 0 at.number)) i
shaped ths p at i past lt = rows_have_shape (src_of ths) at.number at.thread (first_point 0 ths 0 at.number) at.more at.stands i past lt

-- ways lead to points
pub within : (ths : List Thread) (i : ℕ) (w : Way) → i < length (rows_of ths) → HasWay (src_of ths) i w → w.to < length (rows_of ths)
within ths i w lt has =
    let at = placed ths i lt in
    let to = (shaped ths i at i at.begun at.below).within w has in
    let last = at.within in
    omega (arith, to.1, last)

awake : (k : Kind) → is_inside k ≡ false → is_sleeping k ≡ true → ⊥
awake Act out is = cc is
awake Test out is = cc is
awake Sleeping out is = cc out
awake Waking out is = cc out
awake Joining out is = cc is
awake Trying out is = cc is

module _ (n : Net) (ths : List Thread) (net : IsNetOf n ths) where
  abbrev src : ℕ → Row
  src = src_of ths

  pub way_of : (e : Edge) → HasEdge n e → IsWayOf src 0 (ends (rows_of ths) 0) e
  way_of e has = edge_way src (rows_of ths) 0 has.0 e (from_self (rows_of ths)) (ap (λ es. slice_get es has.0) (sym net.edges) ∙ has.1)

  pub from_below : (e : Edge) → HasEdge n e → e.from < length (rows_of ths)
  from_below e has = let below = (way_of e has).below in omega (arith, below, ends_length (rows_of ths) 0)

  pub edge_of : (i : ℕ) (w : Way) → i < length (rows_of ths) → HasWay src i w → HasEdge n (edge i w)
  edge_of i w lt has =
      let r = way_edge src (rows_of ths) 0 i w (from_self (rows_of ths)) (omega arith) (omega (arith, lt, ends_length (rows_of ths) 0)) has in
      (r.0, ap (λ es. slice_get es r.0) net.edges ∙ r.1)

  pub leads_within : (e : Edge) → HasEdge n e → (e.from < n.points) × (e.to < n.points) × (n.thread_of e.from ≡ n.thread_of e.to)
  leads_within e has =
      let w = way_of e has in
      let lt = from_below e has in
      let at = placed ths e.from lt in
      let here = shaped ths e.from at e.from at.begun at.below in
      let to = subst (λ x. (first_point 0 ths 0 at.number ≤ x) × (x < thread_end at.number at.thread (first_point 0 ths 0 at.number))) (ap (λ x. x.to) w.is) (here.within w.way w.has) in
      let there = shaped ths e.from at e.to to.0 to.1 in
      let last = at.within in
      let points = net.points in
      let from_in : e.from < n.points = omega (arith, lt, points) in
      let to_in : e.to < n.points = omega (arith, to.1, last, points) in
      (from_in, to_in, net.thread_of e.from from_in ∙ here.thread ∙ sym there.thread ∙ sym (net.thread_of e.to to_in))

  pub of_threads : (p : ℕ) → p < n.points → n.thread_of p < n.threads
  of_threads p lt =
      let points = net.points in
      let at = placed ths p (omega (arith, lt, points)) in
      let here = shaped ths p at p at.begun at.below in
      let same : n.thread_of p ≡ at.number = net.thread_of p lt ∙ here.thread in
      let threads = net.threads in
      omega (arith, same, threads, number_below ths at.number at.thread at.found)

  both_one : (ws : List Way) (x w v : Way) (j k : ℕ) → ws ≡ x ∷ [] → slice_get ws j ≡ Some w → slice_get ws k ≡ Some v → w ≡ v
  both_one ws x w v j k is at to = sym (one_of x w j (ap (λ z. slice_get z j) (sym is) ∙ at)) ∙ one_of x v k (ap (λ z. slice_get z k) (sym is) ∙ to)

  in_two : (ws : List Way) (x y w : Way) (j : ℕ) → ws ≡ x ∷ y ∷ [] → slice_get ws j ≡ Some w → (x ≡ w) ⊎ (y ≡ w)
  in_two ws x y w j is at = one_of_two x y w j (ap (λ z. slice_get z j) (sym is) ∙ at)

  never : (ws : List Way) (x y w : Way) (j r : ℕ) → ws ≡ x ∷ y ∷ [] → slice_get ws j ≡ Some w → blocks x.op r ≡ false → blocks y.op r ≡ false → IsTrue (blocks w.op r) → ⊥
  never ws x y w j r is at one two on =
      ⊎_elim
      (λ e. let no_way : true ≡ false = sym on ∙ ap (λ z. blocks z.op r) (sym e) ∙ one in cc no_way)
      (λ e. let no_way : true ≡ false = sym on ∙ ap (λ z. blocks z.op r) (sym e) ∙ two in cc no_way)
      (in_two ws x y w j is at)

  sole : (k : Kind) (ws : List Way) (w v : Way) (i j r : ℕ) → HaveShape src k ws → slice_get ws i ≡ Some w → slice_get ws j ≡ Some v → IsTrue (blocks w.op r) → w ≡ v
  sole Act ws w v i j r shape at to on =
      ⊎_elim
      (λ none. let nowhere : slice_get [] i ≡ Some w = ap (λ z. slice_get z i) (sym none) ∙ at in absurd (cc nowhere))
      (λ some. ⊎_elim
      (λ a. both_one ws (way op.Plain a.0) w v i j a.1 at to)
      (λ more. ⊎_elim
      (λ a. both_one ws (way (op.Acquire a.0) a.1) w v i j a.2 at to)
      (λ a. both_one ws (way (op.Release a.0) a.1) w v i j a.2 at to)
      more)
      some)
      shape
  sole Test ws w v i j r shape at to on = absurd (never ws (way op.Plain shape.0) (way op.Plain shape.1) w i r shape.2 at refl refl on)
  sole Sleeping ws w v i j r shape at to on = both_one ws (way op.Plain shape.0) w v i j shape.1 at to
  sole Waking ws w v i j r shape at to on =
      ⊎_elim
      (λ a. both_one ws (way (op.Acquire a.0) a.1) w v i j a.2 at to)
      (λ a. both_one ws (way (op.Reacquire a.0) a.1) w v i j a.2 at to)
      shape
  sole Joining ws w v i j r shape at to on = both_one ws (way op.Plain shape.0) w v i j shape.1 at to
  sole Trying ws w v i j r shape at to on = absurd (never ws (way (op.Try shape.0) shape.1) (way op.Plain shape.2) w i r shape.3 at refl refl on)

  pub blocks_alone : (e f : Edge) (r : ℕ) → HasEdge n e → HasEdge n f → e.from ≡ f.from → IsTrue (blocks e.op r) → e ≡ f
  blocks_alone e f r has also same on =
      let w = way_of e has in
      let v = way_of f also in
      let lt = from_below e has in
      let at = placed ths e.from lt in
      let shape = (shaped ths e.from at e.from at.begun at.below).shape in
      let to : slice_get (src e.from).ways v.has.0 ≡ Some v.way = ap (λ x. slice_get (src x).ways v.has.0) same ∙ v.has.1 in
      let on_w : IsTrue (blocks w.way.op r) = ap (λ x. blocks x.op r) w.is ∙ on in
      let one = sole (src e.from).kind (src e.from).ways w.way v.way w.has.0 v.has.0 r shape w.has.1 to on_w in
      sym w.is ∙ ap (λ x. edge e.from x) one ∙ ap (λ x. edge x v.way) same ∙ v.is

  pub takes_named : (resources : ℕ) → ThreadsName resources ths → (e : Edge) (r : ℕ) → HasEdge n e → IsTrue (takes e.op r) → r < resources
  takes_named resources names e r has on =
      let w = way_of e has in
      let below = op_below resources src (rows_of ths) 0 e.from w.way (all_below resources 0 ths 0 names) (from_self (rows_of ths)) w.begun w.below w.has in
      takes_below resources w.way.op r below (ap (λ x. takes x.op r) w.is ∙ on)

  pub gives_named : (resources : ℕ) → ThreadsName resources ths → (e : Edge) (r : ℕ) → HasEdge n e → IsTrue (gives e.op r) → r < resources
  gives_named resources names e r has on =
      let w = way_of e has in
      let below = op_below resources src (rows_of ths) 0 e.from w.way (all_below resources 0 ths 0 names) (from_self (rows_of ths)) w.begun w.below w.has in
      gives_below resources w.way.op r below (ap (λ x. gives x.op r) w.is ∙ on)

  first_has : (p : ℕ) (w : Way) → (src p).ways ≡ w ∷ [] → HasWay src p w
  first_has p w is = (0, ap (λ z. slice_get z 0) is)

  alone : (p : ℕ) (w : Way) → (src p).ways ≡ w ∷ [] → IsFalse (branches n p)
  alone p w is = subst (λ es. IsFalse (nat_lt 1 (count_by (λ e. e.from == p) es))) (sym net.edges) (one_edge src (rows_of ths) p w (from_self (rows_of ths)) is)

  wakes : (r : ℕ) (cs : List ℕ) (p : ℕ) → p < length (rows_of ths) → WakesAt src r cs p → Wakes n r p (length cs)
  wakes r [] p lt at = (edge p (way (op.Reacquire r) at.1), edge_of p (way (op.Reacquire r) at.1) lt (first_has p _ at.2), refl, alone p _ at.2, eq-eqb r r refl)
  wakes r (c ∷ cs) p lt at =
      let has = first_has p (way (op.Acquire c) at.1) at.2 in
      (edge p (way (op.Acquire c) at.1), edge_of p (way (op.Acquire c) at.1) lt has, refl, alone p _ at.2, (λ s. refl), wakes r cs at.1 (within ths p (way (op.Acquire c) at.1) lt has) at.3)

  sleeps : (r p : ℕ) → p < length (rows_of ths) → SleepsAt src r p → (k : ℕ) × Wakes n r p k
  sleeps r p lt at =
      let has = first_has p (way op.Plain at.1) at.3 in
      (suc (length at.2), (edge p (way op.Plain at.1), edge_of p (way op.Plain at.1) lt has, refl, alone p _ at.3, (λ s. refl), wakes r at.2 at.1 (within ths p (way op.Plain at.1) lt has) at.4))

  abbrev Wakened : Way → Type 0
  Wakened w = (r k : ℕ) × (w.op ≡ op.Release r) × Wakes n r w.to k

  not_out : (ws : List Way) (x w : Way) (j : ℕ) → ws ≡ x ∷ [] → slice_get ws j ≡ Some w → IsOutside src x.to → IsTrue (is_sleeping (src w.to).kind) → ⊥
  not_out ws x w j is at out asleep =
      let same = one_of x w j (ap (λ z. slice_get z j) (sym is) ∙ at) in
      awake (src w.to).kind (subst (λ z. IsOutside src z.to) same out) asleep

  not_waking : (ws : List Way) (x w : Way) (j : ℕ) → ws ≡ x ∷ [] → slice_get ws j ≡ Some w → (src x.to).kind ≡ Waking → IsTrue (is_sleeping (src w.to).kind) → ⊥
  not_waking ws x w j is at waking asleep =
      let same = one_of x w j (ap (λ z. slice_get z j) (sym is) ∙ at) in
      let no_way : is_sleeping Waking ≡ true = ap (λ k. is_sleeping k) (sym waking) ∙ ap (λ z. is_sleeping (src z.to).kind) same ∙ asleep in
      cc no_way

  not_two : (ws : List Way) (x y w : Way) (j : ℕ) → ws ≡ x ∷ y ∷ [] → slice_get ws j ≡ Some w → IsOutside src x.to → IsOutside src y.to → IsTrue (is_sleeping (src w.to).kind) → ⊥
  not_two ws x y w j is at one two asleep =
      ⊎_elim
      (λ same. awake (src w.to).kind (subst (λ z. IsOutside src z.to) same one) asleep)
      (λ same. awake (src w.to).kind (subst (λ z. IsOutside src z.to) same two) asleep)
      (in_two ws x y w j is at)

  by_shape : (k : Kind) (ws : List Way) (w : Way) (j : ℕ) → HaveShape src k ws → slice_get ws j ≡ Some w → w.to < length (rows_of ths) → IsTrue (is_sleeping (src w.to).kind) → Wakened w
  by_shape Act ws w j shape at lt asleep =
      ⊎_elim
      (λ none. let nowhere : slice_get [] j ≡ Some w = ap (λ z. slice_get z j) (sym none) ∙ at in absurd (cc nowhere))
      (λ some. ⊎_elim
      (λ a. absurd (not_out ws (way op.Plain a.0) w j a.1 at a.2 asleep))
      (λ more. ⊎_elim
      (λ a. absurd (not_out ws (way (op.Acquire a.0) a.1) w j a.2 at a.3 asleep))
      (λ a. ⊎_elim
      (λ out. absurd (not_out ws (way (op.Release a.0) a.1) w j a.2 at out asleep))
      (λ deep.
      let same = one_of (way (op.Release a.0) a.1) w j (ap (λ z. slice_get z j) (sym a.2) ∙ at) in
      let s = sleeps a.0 w.to lt (subst (λ z. SleepsAt src a.0 z.to) same deep) in
      (a.0, s.0, ap (λ z. z.op) (sym same), s.1))
      a.3)
      more)
      some)
      shape
  by_shape Test ws w j shape at lt asleep = absurd (not_two ws (way op.Plain shape.0) (way op.Plain shape.1) w j shape.2 at shape.3 shape.4 asleep)
  by_shape Sleeping ws w j shape at lt asleep = absurd (not_waking ws (way op.Plain shape.0) w j shape.1 at shape.2 asleep)
  by_shape Waking ws w j shape at lt asleep =
      ⊎_elim
      (λ a. absurd (not_waking ws (way (op.Acquire a.0) a.1) w j a.2 at a.3 asleep))
      (λ a. absurd (not_out ws (way (op.Reacquire a.0) a.1) w j a.2 at a.3 asleep))
      shape
  by_shape Joining ws w j shape at lt asleep = absurd (not_out ws (way op.Plain shape.0) w j shape.1 at shape.2 asleep)
  by_shape Trying ws w j shape at lt asleep = absurd (not_two ws (way (op.Try shape.0) shape.1) (way op.Plain shape.2) w j shape.3 at shape.4 shape.5 asleep)

  pub sleepers_wake : (e : Edge) → HasEdge n e → IsTrue (n.waiting e.to) → (r k : ℕ) × (e.op ≡ op.Release r) × Wakes n r e.to k
  sleepers_wake e has waits =
      let w = way_of e has in
      let lt = from_below e has in
      let at = placed ths e.from lt in
      let shape = (shaped ths e.from at e.from at.begun at.below).shape in
      let to_in = (leads_within e has).1 in
      let to_same : w.way.to ≡ e.to = ap (λ x. x.to) w.is in
      let kind : IsTrue (is_sleeping (src e.to).kind) = sym (net.waiting e.to to_in) ∙ waits in
      let r = by_shape (src e.from).kind (src e.from).ways w.way w.has.0 shape w.has.1 (within ths e.from w.way lt w.has) (subst (λ x. IsTrue (is_sleeping (src x).kind)) (sym to_same) kind) in
      (r.0, r.1, ap (λ x. x.op) (sym w.is) ∙ r.2, subst (λ x. Wakes n r.0 x r.1) to_same r.3)

  path : (k p q : ℕ) → p < length (rows_of ths) → Goes src p q k → Path n p q k
  path zero p q lt g = g
  path (suc k) p q lt g = (edge p g.0, edge_of p g.0 lt g.1, refl, path k g.0.to q (within ths p g.0 lt g.1) g.2)

  goes_within : (k p q : ℕ) → p < length (rows_of ths) → Goes src p q k → q < length (rows_of ths)
  goes_within zero p q lt g = subst (λ x. x < length (rows_of ths)) g lt
  goes_within (suc k) p q lt g = goes_within k g.0.to q (within ths p g.0 lt g.1) g.2

  pub paths_end : (p : ℕ) → p < n.points → (k q : ℕ) × Path n p q k × IsLastFor ths p q
  paths_end p lt =
      let points = net.points in
      let below : p < length (rows_of ths) = omega (arith, lt, points) in
      let at = placed ths p below in
      let r = points_reach_end src at.number at.thread (first_point 0 ths 0 at.number) at.more at.stands p at.begun at.below in
      let last : thread_end at.number at.thread (first_point 0 ths 0 at.number) ≡ r.0 + 1 = r.1 ∙ omega arith in
      let in_thread = at.below in (
        r.2.0,
        r.0,
        path r.2.0 p r.0 below r.2.1,
        record { number = at.number; thread = at.thread; found = at.found; begun = at.begun; last = last; before = omega (arith, last, in_thread) },
      )
