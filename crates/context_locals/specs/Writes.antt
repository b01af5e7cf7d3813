-- The names under which no local of a function is constant, as they are kept.
use Rattle.std.specs.Prelude.{◌≡◌, ℕ, Bool, ◌||◌, List, map}
use Rattle.std.specs.HashSet.{HashSet}
use denote.Ref.{Bor}
use Rattle.c_tree.specs.Bare as bare
use Rattle.c_tree.specs.declared.program.Cell.{Cell}
use Rattle.c_tree.specs.Lined.{Function}
use Rattle.c_names.specs.Tables.{in_scope}
use Rattle.contexts.specs.Constants.{among}
use Rattle.contexts.specs.Resolved.{writes_of}
use Rattle.context_locals.specs.declared.written.Writes.{Writes}

-- the names of declared ints
abbrev pub int_texts : List Cell → List (List ℕ)
int_texts ints = map (λ c. c.name) ints

-- a name is one of them
abbrev pub writes_in : Writes → List ℕ → Bool
writes_in writes q = in_scope writes.own q || in_scope writes.ints.now q

-- these are the names of a program's ints
abbrev pub AreIntNames : {S : Type 0} → bare.Program → HashSet (Bor (List ℕ)) S → Type 0
AreIntNames p names = (q : List ℕ) → in_scope names q ≡ among (map (λ c. c.name) p.ints) q

-- under these names no local of a function is constant
abbrev pub AreWritesOf : bare.Program → Function → Writes → Type 0
AreWritesOf p f writes = (q : List ℕ) → writes_in writes q ≡ among (writes_of p f) q
