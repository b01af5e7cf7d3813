-- The walk along lists of items: it needs no recursion into statements.
use Rattle.std.specs.Prelude.{ℕ, ℤ, nat_lt, Bool, true, false, ◌||◌, if◌then◌else◌, List, [], ◌∷◌, ◌++◌, length, bytes_eq, Some, None}
use Rattle.std.specs.declared.option.Option.{Option}
use Rattle.c_tree.specs.Bare as bare
use Rattle.c_tree.specs.Numbering.{monitor_resource}
use Rattle.c_tree.specs.Lined.{Function, Program, bare_program}
use Rattle.rule_facts.specs.FromLast.{from_last}
use Rattle.contexts.specs.Constants.{Constants, with_value, known_declared}
use Rattle.contexts.specs.Resolved.{resolved, constants_of, passed, writes_of}
use Rattle.contexts.specs.Walk.{Walked, Found, Unresolved, TooMany, then_walk}
use Rattle.contexts.specs.Outlines.{context_limit, starts}
use Rattle.context_items.specs.Marks.{Mark, Resource, Enters}
use Rattle.context_items.specs.Items.{Item, Opens, Closes, Declares, Locks, Holds, Calls, items_all}

-- what is known of the functions above: which bear locks, and the marks that are found where one is entered
pub record FlatAbove : Type 0 where
  pub bears : List ℕ → Bool
  pub enter : List ℕ → List (Option ℤ) → List ℕ → Walked (List Mark)

pub record FlatScene : Type 0 where
  pub program : bare.Program
  pub above : FlatAbove
  pub writes : List (List ℕ)

-- one mark more, or the refusal of a lock
abbrev pub marked : ℕ → Option ℕ → Walked (List Mark) → Walked (List Mark)
marked line None rest = Unresolved line
marked line (Some r) rest = then_walk rest (λ ms k. Found (Resource r ∷ ms) k)

-- the items of a function, where these locals are constant, in blocks around which these were
abbrev pub flat : FlatScene → Constants → List Constants → List Item → List ℕ → Walked (List Mark)
flat c known outer [] n = Found [] n
flat c known outer (Opens ∷ is) n = flat c known (known ∷ outer) is n
flat c known [] (Closes ∷ is) n = flat c known [] is n
flat c known (before ∷ outer) (Closes ∷ is) n = flat c before outer is n
flat c known outer (Declares name value ∷ is) n = flat c (with_value known name (known_declared c.writes known name value)) outer is n
flat c known outer (Locks line place ∷ is) n = marked line (resolved c.program known place) (flat c known outer is n)
flat c known outer (Holds monitor ∷ is) n = then_walk (flat c known outer is n) (λ ms k. Found (Resource (monitor_resource c.program monitor) ∷ ms) k)
flat c known outer (Calls name args ∷ is) n =
    if c.above.bears name then then_walk (c.above.enter name (constants_of known args) n) (λ ms m. then_walk (flat c known outer is m) (λ more k. Found (ms ++ more) k))
    else flat c known outer is n

-- a list of items bears locks
abbrev pub items_bear : (List ℕ → Bool) → List Item → Bool
items_bear above [] = false
items_bear above (Locks line place ∷ is) = true
items_bear above (Holds monitor ∷ is) = true
items_bear above (Calls name args ∷ is) = above name || items_bear above is
items_bear above (i ∷ is) = items_bear above is

-- a function, with its place, entered as one context more
abbrev pub flat_entered : bare.Program → FlatAbove → ℕ × Function → List (Option ℤ) → List ℕ → Walked (List Mark)
flat_entered p above f args n =
    if nat_lt (length n) context_limit
    then then_walk (flat (record { program = p; above = above; writes = writes_of p f.1 }) (passed (writes_of p f.1) f.1.params args) [] (items_all f.1.body []) (f.0 ∷ n))
    (λ ms m. Found (Enters (length n) ∷ ms) m)
    else TooMany

-- of functions, the last first
abbrev pub flat_above : bare.Program → List (ℕ × Function) → FlatAbove
flat_above p [] = record { bears = λ name. false; enter = λ name args n. Found (Enters 0 ∷ []) n }
flat_above p (f ∷ fs) = record {
  bears = λ name. if bytes_eq f.1.name name then items_bear (flat_above p fs).bears (items_all f.1.body []) else (flat_above p fs).bears name;
  enter = λ name args n. if bytes_eq f.1.name name then flat_entered p (flat_above p fs) f args n else (flat_above p fs).enter name args n;
}

abbrev pub flat_starts : FlatAbove → List (List ℕ × List (Option ℤ)) → List ℕ → Walked (List Mark)
flat_starts above [] n = Found [] n
flat_starts above (s ∷ ss) n = then_walk (above.enter s.0 s.1 n) (λ ms m. then_walk (flat_starts above ss m) (λ more k. Found (ms ++ more) k))

-- the marks of all threads, main first
abbrev pub flat_marks : Program → Walked (List Mark)
flat_marks p = flat_starts (flat_above (bare_program p) (from_last p)) (starts p) []
