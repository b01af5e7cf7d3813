-- What is held at the points of an outline: a number of tokens for each resource, point by point as rows stand.
use Rattle.std.specs.Prelude.{ℕ, zero, suc, ◌+◌, ◌-◌, List, [], ◌∷◌, Option, None, Some, if◌then◌else◌, slice_index, slice_set, unwrap_or}
use Rattle.std.specs.Option.{option_or}
use Rattle.outlines.specs.Outline.{Part, Parts, Step, Join, Acquire, Release, Wait, Try, Branch, Loop, Inner, Leave, Nil, Cons, Thread, passes_all, live_all}

-- with one token of r more, and with one less
abbrev pub raise : List ℕ → ℕ → List ℕ
raise here r = slice_set here r (slice_index here r + 1)

abbrev pub lower : List ℕ → ℕ → List ℕ
lower here r = slice_set here r (slice_index here r - 1)

abbrev pub raise_each : List ℕ → List ℕ → List ℕ
raise_each here [] = here
raise_each here (c ∷ cs) = raise_each (raise here c) cs

abbrev mutual
  -- what is held behind a part, where `here` is held before it; behind a call what is held at the function's first exit
  pub after : List ℕ → Part → List ℕ
  after here (Step line) = here
  after here (Join line) = here
  after here (Acquire line r) = raise here r
  after here (Release line r) = lower here r
  after here (Wait line r cs) = raise (raise_each (lower here r) cs) r
  after here (Try line r a b) = if passes_all a then after_all (raise here r) a else after_all here b
  after here (Branch line a b) = if passes_all a then after_all here a else after_all here b
  after here (Loop line body) = here
  after here (Inner line f body) = unwrap_or (first_exit_all here body) (after_all here body)
  after here (Leave line) = here

  pub after_all : List ℕ → Parts → List ℕ
  after_all here Nil = here
  after_all here (Cons x xs) = after_all (after here x) xs

  -- what is held at the first exit of the function in text order
  pub first_exit : List ℕ → Part → Option (List ℕ)
  first_exit here (Step line) = None
  first_exit here (Join line) = None
  first_exit here (Acquire line r) = None
  first_exit here (Release line r) = None
  first_exit here (Wait line r cs) = None
  first_exit here (Try line r a b) = option_or (first_exit_all (raise here r) a) (first_exit_all here b)
  first_exit here (Branch line a b) = option_or (first_exit_all here a) (first_exit_all here b)
  first_exit here (Loop line body) = first_exit_all here body
  first_exit here (Inner line f body) = None
  first_exit here (Leave line) = Some here

  pub first_exit_all : List ℕ → Parts → Option (List ℕ)
  first_exit_all here Nil = None
  first_exit_all here (Cons x xs) = option_or (first_exit here x) (first_exit_all (after here x) xs)

abbrev pub counts_woken : List ℕ → List ℕ → List (List ℕ) → List (List ℕ)
counts_woken here [] more = here ∷ more
counts_woken here (c ∷ cs) more = here ∷ counts_woken (raise here c) cs more

abbrev mutual
  -- what is held at each point of a part, before more
  pub counts : List ℕ → Part → List (List ℕ) → List (List ℕ)
  counts here (Step line) more = here ∷ more
  counts here (Join line) more = here ∷ more
  counts here (Acquire line r) more = here ∷ more
  counts here (Release line r) more = here ∷ more
  counts here (Wait line r cs) more = here ∷ lower here r ∷ counts_woken (lower here r) cs more
  counts here (Try line r a b) more = here ∷ counts_all (raise here r) a (counts_all here b more)
  counts here (Branch line a b) more = here ∷ counts_all here a (counts_all here b more)
  counts here (Loop line body) more = here ∷ counts_all here body more
  counts here (Inner line f body) more = here ∷ counts_all here body more
  counts here (Leave line) more = here ∷ more

  pub counts_all : List ℕ → Parts → List (List ℕ) → List (List ℕ)
  counts_all here Nil more = more
  counts_all here (Cons x xs) more = counts here x (counts_all (after here x) xs more)

-- the points of a thread, which begins with `nothing` held and ends so
abbrev pub thread_counts : List ℕ → ℕ → Thread → List (List ℕ) → List (List ℕ)
thread_counts nothing zero th more = counts_all nothing (live_all th.body) (nothing ∷ more)
thread_counts nothing (suc t) th more = nothing ∷ counts_all nothing (live_all th.body) (nothing ∷ more)

abbrev pub all_counts : List ℕ → ℕ → List Thread → List (List ℕ)
all_counts nothing t [] = []
all_counts nothing t (th ∷ ths) = thread_counts nothing t th (all_counts nothing (suc t) ths)
