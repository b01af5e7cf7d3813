-- Small programs with two threads that take and give, try, wait and wake, on which the definitions are computed.
use Rattle.std.specs.Prelude.{ℕ, List, [], ◌∷◌, codes, None}
use Rattle.c_tree.specs.Expressions.{Number, Name, Not}
use Rattle.c_tree.specs.Bare.{Stmt, Assign, While, Return, Program, TryLock, Wait, Signal, Broadcast, Take, Give}
use Rattle.c_meaning.specs.declared.EventKind.TheVariants.{Choose, Wake}
use Rattle.c_meaning.specs.declared.Event.{Event}
use Rattle.c_meaning.specs.Samples.{scalar, ready, added, lock, unlock, statements, two_threads, go}

abbrev pub choose : ℕ → ℕ → Event
choose t u = record { thread = t; kind = Choose u }

abbrev pub wake : ℕ → Event
wake t = record { thread = t; kind = Wake }

-- these threads' next acts, and then these events
abbrev pub turns_and : List ℕ → List Event → List Event
turns_and [] events = events
turns_and (t ∷ ts) events = go t ∷ turns_and ts events

-- one thread locks a and then b, the other b and then a; both take the one token of a monitor before, and give it back between the unlocks
abbrev pub controlled : Program
controlled = record
    (two_threads
    (Take 0 ∷ lock (codes "a") ∷ lock (codes "b") ∷ added 1 ∷ unlock (codes "b") ∷ Give 0 ∷ unlock (codes "a") ∷ Return None ∷ [])
    (Take 0 ∷ lock (codes "b") ∷ lock (codes "a") ∷ added 1 ∷ unlock (codes "a") ∷ Give 0 ∷ unlock (codes "b") ∷ Return None ∷ []))
    { monitors = 1 ∷ []; cap_len = 1 }

-- the second thread gives back a token that the first one holds
abbrev pub giving_for_another : Program
giving_for_another = record (two_threads (Take 0 ∷ Give 0 ∷ Return None ∷ []) (Give 0 ∷ Return None ∷ [])) { monitors = 1 ∷ []; cap_len = 1 }

-- one thread waits on c, with the mutex a, while x is 0; the other sets x under a and b, and then does an act that may wake the first
abbrev pub waiting : Stmt → Program
waiting act = record
    (two_threads
    (lock (codes "a") ∷ While (Not (Name (codes "x"))) (statements (Wait (scalar (codes "c")) (scalar (codes "a")) [] ∷ []))
    ∷ lock (codes "b") ∷ unlock (codes "b") ∷ unlock (codes "a") ∷ Return None ∷ [])
    (lock (codes "b") ∷ lock (codes "a") ∷ Assign (scalar (codes "x")) (Number 1) ∷ act ∷ unlock (codes "a") ∷ unlock (codes "b") ∷ Return None ∷ []))
    { conds = ready (codes "c") ∷ [] }

abbrev pub signalling : Program
signalling = waiting (Signal (scalar (codes "c")))

abbrev pub broadcasting : Program
broadcasting = waiting (Broadcast (scalar (codes "c")))

-- both threads are created, the first waits, and the second is at the act that may wake it
abbrev pub until_the_act : List ℕ
until_the_act = 0 ∷ 0 ∷ 1 ∷ 1 ∷ 1 ∷ 2 ∷ 2 ∷ 2 ∷ []

-- who takes the mutex a adds 1 under it, and who finds it busy adds 5
abbrev pub attempt : List Stmt
attempt = TryLock (scalar (codes "a")) (statements (added 1 ∷ unlock (codes "a") ∷ [])) (statements (added 5 ∷ [])) ∷ Return None ∷ []

abbrev pub trying : Program
trying = two_threads attempt attempt

-- one thread waits on c with the mutex a, and then takes a token of the second monitor, and one of the first; that one the other holds while it signals
abbrev pub taking_again : Program
taking_again = record
    (two_threads
    (lock (codes "a") ∷ Wait (scalar (codes "c")) (scalar (codes "a")) (1 ∷ 0 ∷ []) ∷ unlock (codes "a") ∷ Return None ∷ [])
    (Take 0 ∷ lock (codes "a") ∷ Signal (scalar (codes "c")) ∷ unlock (codes "a") ∷ Give 0 ∷ Return None ∷ []))
    { conds = ready (codes "c") ∷ []; monitors = 1 ∷ 1 ∷ []; cap_len = 2 }

-- the first thread waits, is woken and has the token of the second monitor, and these events come then
abbrev pub woken_and : List Event → List Event
woken_and events = turns_and (0 ∷ 0 ∷ 1 ∷ 1 ∷ 2 ∷ 2 ∷ []) (choose 2 1 ∷ go 1 ∷ events)
