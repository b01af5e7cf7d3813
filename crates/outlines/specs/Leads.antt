-- What it is that the rows of points lead through an outline.
use Rattle.std.specs.Prelude.{◌≡◌, ℕ, IsTrue, List, [], ◌∷◌}
use Rattle.outlines.specs.Outline.{Part, Parts, Step, Join, Acquire, Release, Wait, Try, Branch, Loop, Inner, Leave, Nil, Cons, passes}
use Rattle.outlines.specs.Rows.{Sleeping, Joining, Row, way}
use Rattle.edges.specs.declared.EdgeOp.TheVariants as op

-- a woken thread's rows lead from p to q
abbrev pub LeadsWoken : (ℕ → Row) → ℕ → List ℕ → ℕ → ℕ → Type 0
LeadsWoken src r [] p q = (src p).ways ≡ way (op.Reacquire r) q ∷ []
LeadsWoken src r (c ∷ cs) p q = (i : ℕ) × ((src p).ways ≡ way (op.Acquire c) i ∷ []) × LeadsWoken src r cs i q

-- what is left to do leads from p to e, by the rows src; a return leads to `back`
abbrev mutual
  pub Leads : (ℕ → Row) → ℕ → Part → ℕ → ℕ → Type 0
  Leads src back (Step line) p q = (src p).ways ≡ way op.Plain q ∷ []
  Leads src back (Join line) p q = ((src p).kind ≡ Joining) × ((src p).ways ≡ way op.Plain q ∷ [])
  Leads src back (Acquire line r) p q = (src p).ways ≡ way (op.Acquire r) q ∷ []
  Leads src back (Release line r) p q = (src p).ways ≡ way (op.Release r) q ∷ []
  Leads src back (Wait line r cs) p q =
      (i j : ℕ) × ((src p).ways ≡ way (op.Release r) i ∷ []) × ((src i).kind ≡ Sleeping) × ((src i).ways ≡ way op.Plain j ∷ []) × LeadsWoken src r cs j q
  Leads src back (Try line r a b) p q =
      (i j : ℕ) × ((src p).ways ≡ way (op.Try r) i ∷ way op.Plain j ∷ []) × LeadsAll src back a i q × LeadsAll src back b j q
  Leads src back (Branch line a b) p q =
      (i j : ℕ) × ((src p).ways ≡ way op.Plain i ∷ way op.Plain j ∷ []) × LeadsAll src back a i q × LeadsAll src back b j q
  Leads src back (Loop line body) p q = (i : ℕ) × ((src p).ways ≡ way op.Plain i ∷ way op.Plain q ∷ []) × LeadsAll src back body i p
  Leads src back (Inner line f body) p q = (i e : ℕ) × ((src p).ways ≡ way op.Plain i ∷ []) × LeadsAll src q body i e
  Leads src back (Leave line) p q = (src p).ways ≡ way op.Plain back ∷ []

  pub LeadsAll : (ℕ → Row) → ℕ → Parts → ℕ → ℕ → Type 0
  LeadsAll src back Nil p e = p ≡ e
  LeadsAll src back (Cons x xs) p e = (q : ℕ) × Leads src back x p q × (IsTrue (passes x) → LeadsAll src back xs q e)
