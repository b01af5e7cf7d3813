-- The marks of an outline: what a walk has resolved, in its order.
use Rattle.std.specs.Prelude.{ℕ, List, [], ◌∷◌}
use Rattle.outlines.specs.Outline.{Part, Parts, Thread, Acquire, Release, Wait, Try, Branch, Loop, Inner, Nil, Cons}

pub data Mark : Type 0 where
  -- a lock, a trylock, an unlock, a wait, a take or a give is of this resource
  Resource : (resource : ℕ) → Mark
  -- a function is entered as this context
  Enters : (context : ℕ) → Mark

abbrev mutual
  -- the marks of a part, before more: those of a context stand behind its entry
  pub marks : Part → List Mark → List Mark
  marks (Acquire line r) more = Resource r ∷ more
  marks (Release line r) more = Resource r ∷ more
  marks (Wait line r takes) more = Resource r ∷ more
  marks (Try line r a b) more = Resource r ∷ marks_all a (marks_all b more)
  marks (Branch line a b) more = marks_all a (marks_all b more)
  marks (Loop line body) more = marks_all body more
  marks (Inner line k body) more = Enters k ∷ marks_all body more
  marks x more = more

  pub marks_all : Parts → List Mark → List Mark
  marks_all Nil more = more
  marks_all (Cons x xs) more = marks x (marks_all xs more)

-- the marks of threads
abbrev pub marks_of : List Thread → List Mark
marks_of [] = []
marks_of (e ∷ es) = Enters e.context ∷ marks_all e.body (marks_of es)
