-- The rows of what is live lead through the whole outline.
use Rattle.std.proofs.Common.{ℕ, suc, Bool, true, false, List, [], ◌∷◌, refl, ap, sym, subst}
use Rattle.std.specs.Prelude.{IsTrue, if◌then◌else◌, ◌&&◌}
use Rattle.outlines.specs.Outline.{Part, Parts, Step, Join, Acquire, Release, Wait, Try, Branch, Loop, Inner, Leave, Nil, Cons, passes, passes_all, live, live_all}
use Rattle.outlines.specs.Rows.{Row, From}
use Rattle.outlines.specs.Points.{rows, rows_all, end, end_all, head, takes_end, woken_rows}
use Rattle.outlines.specs.Leads.{LeadsAll, LeadsWoken}
use Rattle.outline_laws.specs.Leading.{PartLeads, PartsLead, JoinedLead}

pub behind_woken : (src : ℕ → Row) (t line r : ℕ) (cs : List ℕ) (p q : ℕ) (more : List Row) → From src p (woken_rows t line r cs p q more) → From src (suc (takes_end cs p)) more
behind_woken src t line r [] p q more f = f.1
behind_woken src t line r (c ∷ cs) p q more f = behind_woken src t line r cs (suc p) q more f.1

leads_woken : (src : ℕ → Row) (t line r : ℕ) (cs : List ℕ) (p q : ℕ) (more : List Row) → From src p (woken_rows t line r cs p q more) → LeadsWoken src r cs p q
leads_woken src t line r [] p q more f = ap (λ x. x.ways) f.0
leads_woken src t line r (c ∷ cs) p q more f = (suc p, ap (λ x. x.ways) f.0, leads_woken src t line r cs (suc p) q more f.1)

abbrev mutual
  -- what stands behind the rows of a part stands at the number behind it
  pub behind : (src : ℕ → Row) (t : ℕ) (x : Part) (p q back : ℕ) (more : List Row) → From src p (rows t x p q back more) → From src (end x p) more
  behind src t (Step line) p q back more f = f.1
  behind src t (Join line) p q back more f = f.1
  behind src t (Acquire line r) p q back more f = f.1
  behind src t (Release line r) p q back more f = f.1
  behind src t (Wait line r cs) p q back more f = behind_woken src t line r cs (suc (suc p)) q more f.1.1
  behind src t (Try line r a b) p q back more f =
      behind_all src t b (end_all a (suc p)) q back more (behind_all src t a (suc p) q back (rows_all t b (end_all a (suc p)) q back more) f.1)
  behind src t (Branch line a b) p q back more f =
      behind_all src t b (end_all a (suc p)) q back more (behind_all src t a (suc p) q back (rows_all t b (end_all a (suc p)) q back more) f.1)
  behind src t (Loop line body) p q back more f = behind_all src t body (suc p) p back more f.1
  behind src t (Inner line g body) p q back more f = behind_all src t body (suc p) q q more f.1
  behind src t (Leave line) p q back more f = f.1

  pub behind_all : (src : ℕ → Row) (t : ℕ) (xs : Parts) (p q back : ℕ) (more : List Row) → From src p (rows_all t xs p q back more) → From src (end_all xs p) more
  behind_all src t Nil p q back more f = f
  behind_all src t (Cons x xs) p q back more f =
      behind_all src t xs (end x p) q back more (behind src t x p (head xs (end x p) q) back (rows_all t xs (end x p) q back more) f)

abbrev kept : Bool → Parts → Parts
kept b xs = if b then live_all xs else Nil

mutual
  pub leads : PartLeads
  leads src t (Step line) p q back more f = ap (λ x. x.ways) f.0
  leads src t (Join line) p q back more f = (ap (λ x. x.kind) f.0, ap (λ x. x.ways) f.0)
  leads src t (Acquire line r) p q back more f = ap (λ x. x.ways) f.0
  leads src t (Release line r) p q back more f = ap (λ x. x.ways) f.0
  leads src t (Wait line r cs) p q back more f =
      (suc p, suc (suc p), ap (λ x. x.ways) f.0, ap (λ x. x.kind) f.1.0, ap (λ x. x.ways) f.1.0, leads_woken src t line r cs (suc (suc p)) q more f.1.1)
  leads src t (Try line r a b) p q back more f = (
    head (live_all a) (suc p) q,
    head (live_all b) (end_all (live_all a) (suc p)) q,
    ap (λ x. x.ways) f.0,
    leads_all src t a (suc p) q back (rows_all t (live_all b) (end_all (live_all a) (suc p)) q back more) f.1,
    leads_all src t b (end_all (live_all a) (suc p)) q back more
        (behind_all src t (live_all a) (suc p) q back (rows_all t (live_all b) (end_all (live_all a) (suc p)) q back more) f.1),
  )
  leads src t (Branch line a b) p q back more f = (
    head (live_all a) (suc p) q,
    head (live_all b) (end_all (live_all a) (suc p)) q,
    ap (λ x. x.ways) f.0,
    leads_all src t a (suc p) q back (rows_all t (live_all b) (end_all (live_all a) (suc p)) q back more) f.1,
    leads_all src t b (end_all (live_all a) (suc p)) q back more
        (behind_all src t (live_all a) (suc p) q back (rows_all t (live_all b) (end_all (live_all a) (suc p)) q back more) f.1),
  )
  leads src t (Loop line body) p q back more f = (head (live_all body) (suc p) p, ap (λ x. x.ways) f.0, leads_all src t body (suc p) p back more f.1)
  leads src t (Inner line g body) p q back more f = (head (live_all body) (suc p) q, q, ap (λ x. x.ways) f.0, leads_all src t body (suc p) q q more f.1)
  leads src t (Leave line) p q back more f = ap (λ x. x.ways) f.0

  pub leads_all : PartsLead
  leads_all src t Nil p q back more f = refl
  leads_all src t (Cons x xs) p q back more f =
      let n = head (kept (passes x) xs) (end (live x) p) q in
      let behind_x = behind src t (live x) p n back (rows_all t (kept (passes x) xs) (end (live x) p) q back more) f in (
        n,
        leads src t x p n back (rows_all t (kept (passes x) xs) (end (live x) p) q back more) f,
        rest (λ near. leads_all src t xs (end (live x) p) q back more near) (passes x) behind_x,
      )
    where
      rest : (From src (end (live x) p) (rows_all t (live_all xs) (end (live x) p) q back more) → LeadsAll src back xs (head (live_all xs) (end (live x) p) q) q) → (b : Bool) → From src (end (live x) p) (rows_all t (kept b xs) (end (live x) p) q back more) → IsTrue b →
          LeadsAll src back xs (head (kept b xs) (end (live x) p) q) q
      rest go true near ok = go near
      rest go false near ok = cc ok

both : (a b : Bool) → IsTrue a → IsTrue b → IsTrue (a && b)
both true b p q = q
both false b p q = cc p

pub leads_joined : JoinedLead
leads_joined src back Nil ys p q e a b = subst (λ n. LeadsAll src back ys n e) (sym a) (b refl)
leads_joined src back (Cons x xs) ys p q e a b =
    (a.0, a.1, (λ ok. leads_joined src back xs ys a.0 q e (a.2 ok) (λ all. b (both (passes x) (passes_all xs) ok all))))
