-- The contexts of a program and the outlines of its threads, as a walk finds them, or the walk's first refusal.
use Rattle.std.specs.Prelude.{ℕ, ℤ, nat_lt, false, if◌then◌else◌, List, [], ◌∷◌, length, map, bytes_eq}
use Rattle.std.specs.declared.option.Option.{Option}
use Rattle.c_tree.specs.Bare as bare
use Rattle.c_tree.specs.Values.{constant}
use Rattle.c_tree.specs.Numbering.{creations, main_name}
use Rattle.c_tree.specs.Lined.{Function, Program, bare_program}
use Rattle.outlines.specs.Outline as outline
use Rattle.outlines.specs.Outline.{Parts, Thread, joined}
use Rattle.rule_facts.specs.FromLast.{from_last}
use Rattle.contexts.specs.Resolved.{passed, writes_of}
use Rattle.contexts.specs.Walk.{Walked, Found, TooMany, then_walk, Above, Scene, part, walk_all}
use Rattle.contexts.specs.Bears.{bears_all}

abbrev pub scene : bare.Program → Above → Function → Scene
scene p above f = record { program = p; above = above; writes = writes_of p f }

-- how many contexts there may be
abbrev pub context_limit : ℕ
context_limit = 256

-- a function that was walked as the context behind these: its end stands behind its statements
abbrev pub entered_as : Function → List ℕ → Parts → List ℕ → Walked Thread
entered_as f n xs m = Found (record { context = length n; line = f.line; end_line = f.end_line; body = joined xs (part (outline.Leave f.end_line)) }) m

-- a function, with its place, entered as one context more
abbrev pub entered : bare.Program → Above → ℕ × Function → List (Option ℤ) → List ℕ → Walked Thread
entered p above f args n =
    if nat_lt (length n) context_limit
    then then_walk (walk_all (scene p above f.1) (passed (writes_of p f.1) f.1.params args) f.1.body (f.0 ∷ n)) (entered_as f.1 n)
    else TooMany

-- what stands for a function that isn't there
abbrev pub nothing_entered : Thread
nothing_entered = record { context = 0; line = 0; end_line = 0; body = outline.Nil }

-- what is known of these functions, the last first, each with its place
abbrev pub above_of : bare.Program → List (ℕ × Function) → Above
above_of p [] = record { bears = λ name. false; enter = λ name args n. Found nothing_entered n }
above_of p (f ∷ fs) = record {
  bears = λ name. if bytes_eq f.1.name name then bears_all (above_of p fs).bears f.1.body else (above_of p fs).bears name;
  enter = λ name args n. if bytes_eq f.1.name name then entered p (above_of p fs) f args n else (above_of p fs).enter name args n;
}

-- all functions of a program
abbrev pub functions_above : Program → Above
functions_above p = above_of (bare_program p) (from_last p)

-- what threads begin with, main first: a function's name and its arguments
abbrev pub starts : Program → List (List ℕ × List (Option ℤ))
starts p = (main_name, []) ∷ map (λ c. (c.function, constant c.arg ∷ [])) (creations (bare_program p))

abbrev pub walk_starts : Above → List (List ℕ × List (Option ℤ)) → List ℕ → Walked (List Thread)
walk_starts above [] n = Found [] n
walk_starts above (s ∷ ss) n = then_walk (above.enter s.0 s.1 n) (λ x m. then_walk (walk_starts above ss m) (λ xs k. Found (x ∷ xs) k))

-- the outlines of the threads, main first
abbrev pub outlines : Program → Walked (List Thread)
outlines p = walk_starts (functions_above p) (starts p) []
