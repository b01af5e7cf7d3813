-- Where what is held is refused: the first refusal that a walk in text order meets.
use Rattle.std.specs.Prelude.{ℕ, Bool, true, false, not, ◌&&◌, List, [], ◌∷◌, Option, None, Some, slice_index, nat_lt, bytes_eq}
use Rattle.std.specs.Option.{option_or}
use Rattle.outlines.specs.Outline.{Part, Parts, Step, Join, Acquire, Release, Wait, Try, Branch, Loop, Inner, Leave, Nil, Cons, Thread, passes_all, live_all}
use Rattle.held_counts.specs.declared.HeldKind.{HeldKind}
use Rattle.held_counts.specs.declared.HeldKind.TheVariants.{Relock, NotHeld, HeldDiffers, HeldAtEnd, HeldAtJoin, WaitNotHeld}
use Rattle.held_counts.specs.Counts.{raise, after, after_all, first_exit, first_exit_all}

pub record Refusal : Type 0 where
  pub kind : HeldKind
  pub line : ℕ

abbrev pub refuse : Bool → HeldKind → ℕ → Option Refusal
refuse true kind line = Some (record { kind = kind; line = line })
refuse false kind line = None

abbrev pub is_held : List ℕ → ℕ → Bool
is_held here r = nat_lt 0 (slice_index here r)

abbrev pub differ : List ℕ → List ℕ → Bool
differ xs ys = not (bytes_eq xs ys)

abbrev pub differs_from : Option (List ℕ) → List ℕ → Bool
differs_from None here = false
differs_from (Some exit) here = differ exit here

abbrev mutual
  -- in a part before which `here` is held: resources below `mutexes` are mutexes, a thread begins with `nothing`, `starts` says
  -- that this is a thread's start function, and `exit` is what was held at its first exit, where there was one
  pub refused : (mutexes : ℕ) (nothing : List ℕ) (starts : Bool) (exit : Option (List ℕ)) (here : List ℕ) → Part → Option Refusal
  refused m nothing starts exit here (Step line) = None
  refused m nothing starts exit here (Join line) = refuse (differ here nothing) HeldAtJoin line
  refused m nothing starts exit here (Acquire line r) = refuse (nat_lt r m && is_held here r) Relock line
  refused m nothing starts exit here (Release line r) = refuse (not (is_held here r)) NotHeld line
  refused m nothing starts exit here (Wait line r cs) = refuse (not (is_held here r)) WaitNotHeld line
  refused m nothing starts exit here (Try line r a b) =
      option_or (refuse (nat_lt r m && is_held here r) Relock line)
      (option_or (refused_all m nothing starts exit (raise here r) a)
      (option_or (refused_all m nothing starts (option_or exit (first_exit_all (raise here r) a)) here b)
      (refuse (passes_all a && passes_all b && differ (after_all (raise here r) a) (after_all here b)) HeldDiffers line)))
  refused m nothing starts exit here (Branch line a b) =
      option_or (refused_all m nothing starts exit here a)
      (option_or (refused_all m nothing starts (option_or exit (first_exit_all here a)) here b)
      (refuse (passes_all a && passes_all b && differ (after_all here a) (after_all here b)) HeldDiffers line))
  refused m nothing starts exit here (Loop line body) =
      option_or (refused_all m nothing starts exit here body) (refuse (passes_all body && differ (after_all here body) here) HeldDiffers line)
  refused m nothing starts exit here (Inner line f body) = refused_all m nothing false None here body
  refused m nothing starts exit here (Leave line) =
      option_or (refuse (differs_from exit here) HeldDiffers line) (refuse (starts && differ here nothing) HeldAtEnd line)

  pub refused_all : ℕ → List ℕ → Bool → Option (List ℕ) → List ℕ → Parts → Option Refusal
  refused_all m nothing starts exit here Nil = None
  refused_all m nothing starts exit here (Cons x xs) =
      option_or (refused m nothing starts exit here x) (refused_all m nothing starts (option_or exit (first_exit here x)) (after here x) xs)

-- the first refusal of the threads
abbrev pub refused_threads : ℕ → List ℕ → List Thread → Option Refusal
refused_threads m nothing [] = None
refused_threads m nothing (th ∷ ths) = option_or (refused_all m nothing true None nothing (live_all th.body)) (refused_threads m nothing ths)
