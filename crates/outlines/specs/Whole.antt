-- What the outlines of a program keep: they name resources of the program, waits take monitors, and functions return.
use Rattle.std.specs.Prelude.{◌≡◌, ◌≤◌, ◌<◌, ℕ, false, List, [], ◌∷◌, ⊤}
use Rattle.outlines.specs.Outline.{Part, Parts, Step, Join, Acquire, Release, Wait, Try, Branch, Loop, Inner, Leave, Nil, Cons, Thread, passes_all}

-- so many resources are enough for what is named
abbrev pub AllBelow : ℕ → List ℕ → Type 0
AllBelow n [] = ⊤
AllBelow n (r ∷ rs) = (r < n) × AllBelow n rs

abbrev mutual
  pub Names : ℕ → Part → Type 0
  Names n (Step line) = ⊤
  Names n (Join line) = ⊤
  Names n (Acquire line r) = r < n
  Names n (Release line r) = r < n
  Names n (Wait line r cs) = (r < n) × AllBelow n cs
  Names n (Try line r a b) = (r < n) × NamesAll n a × NamesAll n b
  Names n (Branch line a b) = NamesAll n a × NamesAll n b
  Names n (Loop line body) = NamesAll n body
  Names n (Inner line f body) = NamesAll n body
  Names n (Leave line) = ⊤

  pub NamesAll : ℕ → Parts → Type 0
  NamesAll n Nil = ⊤
  NamesAll n (Cons x xs) = Names n x × NamesAll n xs

-- the outlines of the threads name resources below n
abbrev pub ThreadsName : ℕ → List Thread → Type 0
ThreadsName n [] = ⊤
ThreadsName n (th ∷ ths) = NamesAll n th.body × ThreadsName n ths

-- what a wait takes before its mutex are monitors, and each function's list ends with a return
abbrev pub AllFrom : ℕ → List ℕ → Type 0
AllFrom m [] = ⊤
AllFrom m (c ∷ cs) = (m ≤ c) × AllFrom m cs

abbrev mutual
  pub IsWhole : ℕ → Part → Type 0
  IsWhole m (Step line) = ⊤
  IsWhole m (Join line) = ⊤
  IsWhole m (Acquire line r) = ⊤
  IsWhole m (Release line r) = ⊤
  IsWhole m (Wait line r cs) = AllFrom m cs
  IsWhole m (Try line r a b) = IsWholeAll m a × IsWholeAll m b
  IsWhole m (Branch line a b) = IsWholeAll m a × IsWholeAll m b
  IsWhole m (Loop line body) = IsWholeAll m body
  IsWhole m (Inner line f body) = (passes_all body ≡ false) × IsWholeAll m body
  IsWhole m (Leave line) = ⊤

  pub IsWholeAll : ℕ → Parts → Type 0
  IsWholeAll m Nil = ⊤
  IsWholeAll m (Cons x xs) = IsWhole m x × IsWholeAll m xs

abbrev pub ThreadsAreWhole : ℕ → List Thread → Type 0
ThreadsAreWhole m [] = ⊤
ThreadsAreWhole m (th ∷ ths) = (passes_all th.body ≡ false) × IsWholeAll m th.body × ThreadsAreWhole m ths
