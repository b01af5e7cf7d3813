-- Small programs, on which the definitions are computed.
use Rattle.std.specs.Prelude.{ℕ, pos, Bool, true, ◌||◌, ◌==◌, List, [], ◌∷◌, codes, Some, None, unwrap_or}
use Rattle.c_tree.specs.declared.program.Kind.TheVariants as kind
use Rattle.c_tree.specs.declared.expr.Op.TheVariants.{Add}
use Rattle.c_tree.specs.Expressions.{Number, Name, Binary, Place}
use Rattle.c_tree.specs.Bare.{Stmt, Stmts, Nil, Cons, Assign, Lock, Unlock, Create, Join, Return, Object, Function, Program}
use Rattle.c_meaning.specs.declared.EventKind.TheVariants.{Go}
use Rattle.c_meaning.specs.declared.Event.{Event}
use Rattle.c_meaning.specs.State.{State, start}
use Rattle.c_meaning.specs.Run.{run}

abbrev pub scalar : List ℕ → Place
scalar name = record { name = name; index = None }

-- a member of the array of threads
abbrev pub slot : ℕ → Place
slot k = record { name = codes "t"; index = Some (Number k) }

abbrev pub ready : List ℕ → Object
ready name = record { name = name; len = None; ready = true; given = 1 }

-- `x = x + k;`
abbrev pub added : ℕ → Stmt
added k = Assign (scalar (codes "x")) (Binary Add (Name (codes "x")) (Number k))

abbrev pub lock : List ℕ → Stmt
lock name = Lock (scalar name)

abbrev pub unlock : List ℕ → Stmt
unlock name = Unlock (scalar name)

abbrev pub statements : List Stmt → Stmts
statements [] = Nil
statements (s ∷ ss) = Cons s (statements ss)

abbrev pub thread : List ℕ → List Stmt → Function
thread name acts = record { name = name; kind = kind.Thread; params = codes "arg" ∷ []; body = statements acts }

-- a main that creates the threads `one` and `two` and joins them
abbrev pub main : Function
main = record {
  name = codes "main";
  kind = kind.Main;
  params = [];
  body = statements (
      Create (slot 0) (codes "one") (Number 0) ∷ Create (slot 1) (codes "two") (Number 0)
      ∷ Join (slot 0) ∷ Join (slot 1) ∷ Return (Some (Number 0)) ∷ []);
}

-- the mutexes a and b, an int x, and the two threads
abbrev pub two_threads : List Stmt → List Stmt → Program
two_threads one two = record {
  ints = record { name = codes "x"; value = pos 0 } ∷ [];
  arrays = [];
  mutexes = ready (codes "a") ∷ ready (codes "b") ∷ [];
  conds = [];
  threads = record { name = codes "t"; len = Some 2 } ∷ [];
  monitors = [];
  functions = thread (codes "one") one ∷ thread (codes "two") two ∷ main ∷ [];
  cap_len = 0;
}

-- both threads add to x under the mutex a
abbrev pub taking_turns : Program
taking_turns = two_threads
    (lock (codes "a") ∷ added 1 ∷ unlock (codes "a") ∷ Return None ∷ [])
    (lock (codes "a") ∷ added 2 ∷ unlock (codes "a") ∷ Return None ∷ [])

-- one thread locks a and then b, the other b and then a
abbrev pub crossing : Program
crossing = two_threads
    (lock (codes "a") ∷ lock (codes "b") ∷ added 1 ∷ unlock (codes "b") ∷ unlock (codes "a") ∷ Return None ∷ [])
    (lock (codes "b") ∷ lock (codes "a") ∷ added 1 ∷ unlock (codes "a") ∷ unlock (codes "b") ∷ Return None ∷ [])

-- one thread unlocks what the other owns
abbrev pub trespassing : Program
trespassing = two_threads (lock (codes "a") ∷ unlock (codes "a") ∷ Return None ∷ []) (unlock (codes "a") ∷ Return None ∷ [])

abbrev pub go : ℕ → Event
go t = record { thread = t; kind = Go }

-- each of these threads does its next act, in turn
abbrev pub turns : List ℕ → List Event
turns [] = []
turns (t ∷ ts) = go t ∷ turns ts

-- the state that these turns lead to
abbrev pub after : Program → List ℕ → State
after p ts = unwrap_or (run p (turns ts) (start p [])) (start p [])

-- the threads 1 and 2
abbrev pub both_threads : ℕ → Bool
both_threads t = (t == 1) || (t == 2)
