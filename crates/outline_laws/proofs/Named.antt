-- What the rows of outlines name is what the outlines name.
use Rattle.std.proofs.Common.{◌≡◌, ℕ, zero, suc, ◌<◌, ◌≤◌, Bool, true, false, List, [], ◌∷◌, Some, sym, ap, ◌∙◌, subst, ⊎_elim, arith}
use Rattle.std.specs.Prelude.{slice_get, IsTrue, if◌then◌else◌, ⊤, ◌==◌}
use Rattle.std.proofs.lemmas.Bool.{cases_eq}
use Rattle.std.proofs.lemmas.Bool.Decides.{eqb_tells}
use Rattle.edges.specs.declared.EdgeOp.{EdgeOp}
use Rattle.edges.specs.declared.EdgeOp.TheVariants as op
use Rattle.edges.specs.Ops.{takes, gives}
use Rattle.outlines.specs.Outline.{Part, Parts, Step, Join, Acquire, Release, Wait, Try, Branch, Loop, Inner, Leave, Nil, Cons, Thread, passes, live, live_all}
use Rattle.outlines.specs.Rows.{Way, Act, Row, row, HasWay, From}
use Rattle.outlines.specs.Points.{rows, rows_all, end, end_all, head, woken_rows, thread_rows, thread_end, all_rows}
use Rattle.outlines.specs.Whole.{AllBelow, Names, NamesAll, ThreadsName}
use Rattle.outline_laws.proofs.Numbers.{ends}

abbrev pub OpBelow : ℕ → EdgeOp → Type 0
OpBelow n op.Plain = ⊤
OpBelow n (op.Acquire r) = r < n
OpBelow n (op.Try r) = r < n
OpBelow n (op.Reacquire r) = r < n
OpBelow n (op.Release r) = r < n

named : (n q r : ℕ) → q < n → IsTrue (q == r) → r < n
named n q r lt is = ⊎_elim (λ t. subst (λ x. x < n) t.1 lt) (λ f. let no_way : true ≡ false = sym is ∙ f.0 in absurd (cc no_way)) (eqb_tells q r)

pub takes_below : (n : ℕ) (does : EdgeOp) (r : ℕ) → OpBelow n does → IsTrue (takes does r) → r < n
takes_below n op.Plain r below is = absurd (cc is)
takes_below n (op.Acquire q) r below is = named n q r below is
takes_below n (op.Try q) r below is = named n q r below is
takes_below n (op.Reacquire q) r below is = named n q r below is
takes_below n (op.Release q) r below is = absurd (cc is)

pub gives_below : (n : ℕ) (does : EdgeOp) (r : ℕ) → OpBelow n does → IsTrue (gives does r) → r < n
gives_below n op.Plain r below is = absurd (cc is)
gives_below n (op.Acquire q) r below is = absurd (cc is)
gives_below n (op.Try q) r below is = absurd (cc is)
gives_below n (op.Reacquire q) r below is = absurd (cc is)
gives_below n (op.Release q) r below is = named n q r below is

abbrev WaysBelow : ℕ → List Way → Type 0
WaysBelow n [] = ⊤
WaysBelow n (w ∷ ws) = OpBelow n w.op × WaysBelow n ws

abbrev pub RowsBelow : ℕ → List Row → Type 0
RowsBelow n [] = ⊤
RowsBelow n (r ∷ rs) = WaysBelow n r.ways × RowsBelow n rs

abbrev kept : Bool → Parts → Parts
kept b xs = if b then live_all xs else Nil

mutual
  live_names : (n : ℕ) (x : Part) → Names n x → Names n (live x)
  live_names n (Step line) a = a
  live_names n (Join line) a = a
  live_names n (Acquire line r) a = a
  live_names n (Release line r) a = a
  live_names n (Wait line r cs) a = a
  live_names n (Try line r x y) a = (a.0, live_names_all n x a.1, live_names_all n y a.2)
  live_names n (Branch line x y) a = (live_names_all n x a.0, live_names_all n y a.1)
  live_names n (Loop line body) a = live_names_all n body a
  live_names n (Inner line f body) a = live_names_all n body a
  live_names n (Leave line) a = a

  live_names_all : (n : ℕ) (xs : Parts) → NamesAll n xs → NamesAll n (live_all xs)
  live_names_all n Nil a = tt
  live_names_all n (Cons x xs) a = (live_names n x a.0, rest (passes x) (live_names_all n xs a.1))
    where
      rest : (b : Bool) → NamesAll n (live_all xs) → NamesAll n (kept b xs)
      rest true z = z
      rest false z = tt

woken_below : (n u line r : ℕ) (cs : List ℕ) (p q : ℕ) (more : List Row) → r < n → AllBelow n cs → RowsBelow n more → RowsBelow n (woken_rows u line r cs p q more)
woken_below n u line r [] p q more below all z = ((below, tt), z)
woken_below n u line r (c ∷ cs) p q more below all z = ((all.0, tt), woken_below n u line r cs (suc p) q more below all.1 z)

mutual
  part_below : (n u : ℕ) (x : Part) (p q back : ℕ) (more : List Row) → Names n x → RowsBelow n more → RowsBelow n (rows u x p q back more)
  part_below n u (Step line) p q back more a z = ((tt, tt), z)
  part_below n u (Join line) p q back more a z = ((tt, tt), z)
  part_below n u (Acquire line r) p q back more a z = ((a, tt), z)
  part_below n u (Release line r) p q back more a z = ((a, tt), z)
  part_below n u (Wait line r cs) p q back more a z = ((a.0, tt), ((tt, tt), woken_below n u line r cs (suc (suc p)) q more a.0 a.1 z))
  part_below n u (Try line r x y) p q back more a z =
      ((a.0, (tt, tt)), parts_below n u x (suc p) q back (rows_all u y (end_all x (suc p)) q back more) a.1 (parts_below n u y (end_all x (suc p)) q back more a.2 z))
  part_below n u (Branch line x y) p q back more a z =
      ((tt, (tt, tt)), parts_below n u x (suc p) q back (rows_all u y (end_all x (suc p)) q back more) a.0 (parts_below n u y (end_all x (suc p)) q back more a.1 z))
  part_below n u (Loop line body) p q back more a z = ((tt, (tt, tt)), parts_below n u body (suc p) p back more a z)
  part_below n u (Inner line f body) p q back more a z = ((tt, tt), parts_below n u body (suc p) q q more a z)
  part_below n u (Leave line) p q back more a z = ((tt, tt), z)

  parts_below : (n u : ℕ) (xs : Parts) (p q back : ℕ) (more : List Row) → NamesAll n xs → RowsBelow n more → RowsBelow n (rows_all u xs p q back more)
  parts_below n u Nil p q back more a z = z
  parts_below n u (Cons x xs) p q back more a z =
      part_below n u x p (head xs (end x p) q) back (rows_all u xs (end x p) q back more) a.0 (parts_below n u xs (end x p) q back more a.1 z)

thread_below : (n u : ℕ) (th : Thread) (p : ℕ) (more : List Row) → NamesAll n th.body → RowsBelow n more → RowsBelow n (thread_rows u th p more)
thread_below n zero th p more a z =
    let e = end_all (live_all th.body) p in
    parts_below n 0 (live_all th.body) p e e (row 0 th.end_line Act [] ∷ more) (live_names_all n th.body a) (tt, z)
thread_below n (suc u) th p more a z =
    let e = end_all (live_all th.body) (suc p) in
    ((tt, tt), parts_below n (suc u) (live_all th.body) (suc p) e e (row (suc u) th.end_line Act [] ∷ more) (live_names_all n th.body a) (tt, z))

pub all_below : (n t : ℕ) (ths : List Thread) (p : ℕ) → ThreadsName n ths → RowsBelow n (all_rows t ths p)
all_below n t [] p a = tt
all_below n t (th ∷ ths) p a = thread_below n t th p (all_rows (suc t) ths (thread_end t th p)) a.0 (all_below n (suc t) ths (thread_end t th p) a.1)

way_below : (n : ℕ) (ws : List Way) (j : ℕ) (w : Way) → WaysBelow n ws → slice_get ws j ≡ Some w → OpBelow n w.op
way_below n [] j w a is = absurd (cc is)
way_below n (x ∷ ws) zero w a is = let is' : Some x ≡ Some w = is in let same : x ≡ w = grind arith in subst (λ y. OpBelow n y.op) same a.0
way_below n (x ∷ ws) (suc j) w a is = way_below n ws j w a.1 is

pub op_below : (n : ℕ) (src : ℕ → Row) (rs : List Row) (p i : ℕ) (w : Way) → RowsBelow n rs → From src p rs → p ≤ i → i < ends rs p → HasWay src i w → OpBelow n w.op
op_below n src [] p i w a f past lt has = absurd (omega (arith, past, lt))
op_below n src (r ∷ rs) p i w a f past lt has =
    ⊎_elim
    (λ at_p. way_below n r.ways has.0 w a.0 (ap (λ x. slice_get x.ways has.0) (sym f.0) ∙ ap (λ x. slice_get (src x).ways has.0) (sym at_p) ∙ has.1))
    (λ ne. op_below n src rs (suc p) i w a.1 f.1 (omega (arith, past, ne)) lt has)
    (cases_eq i p)
