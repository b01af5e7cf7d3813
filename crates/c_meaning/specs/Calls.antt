-- Calls of functions, and how they and threads end.
use Rattle.std.specs.Prelude.{ℕ, ℤ, ◌==◌, ◌||◌, List, [], ◌∷◌, Some, None}
use Rattle.std.specs.declared.option.Option.{Option}
use Rattle.std.specs.FinMap as finite
use Rattle.c_tree.specs.Expressions.{Place}
use Rattle.c_tree.specs.Bare as bare
use Rattle.c_tree.specs.Bare.{Stmts, Cons, Function, Program}
use Rattle.c_meaning.specs.declared.Did.TheVariants as did
use Rattle.c_meaning.specs.State.{Locals, Frame, Ended, State, frame, with_status}
use Rattle.c_meaning.specs.Outcome.{Outcome, Undefined, Done, moved}
use Rattle.c_meaning.specs.Places.{target_at}
use Rattle.c_meaning.specs.Setting.{assigned}

-- the locals with which a function begins: its parameters and what is passed, in order
abbrev pub passed : List (List ℕ) → List ℤ → Locals
passed [] values = finite.empty
passed (name ∷ names) [] = finite.empty
passed (name ∷ names) (z ∷ values) = finite.insert (passed names values) name z

-- Call: a new frame with the arguments. The call stays first in the frame below, which is among `frames`, until it returns.
abbrev pub called : State → ℕ → List Frame → Option Function → Option (List ℤ) → Outcome
called s t frames (Some f) (Some values) = moved s t (frame (passed f.params values) f.body ∷ frames)
called s t frames (Some f) None = Undefined
called s t frames None values = Undefined

-- the result of a call goes to its target, where it has one
abbrev pub result_set : Program → State → ℕ → Locals → Stmts → List Frame → Option Place → Option ℤ → Outcome
result_set p s t locals rest more None result = moved s t (frame locals rest ∷ more)
result_set p s t locals rest more (Some target) result = assigned s t locals rest more (target_at p s locals target) result

-- the call that is first in a frame is dropped; no other statement stands first below another frame
abbrev pub call_ended : Program → State → ℕ → Locals → List Frame → Option ℤ → Stmts → Outcome
call_ended p s t locals more result (Cons (bare.Call target function args) rest) = result_set p s t locals rest more target result
call_ended p s t locals more result todo = Undefined

-- the newest frame is dropped, with its result if it has one; in the last frame the thread ends, and main's end is the program's
abbrev pub frame_ended : Program → State → ℕ → List Frame → Option ℤ → Outcome
frame_ended p s t [] result = Done did.End (record (with_status s t Ended) { main_ended = s.main_ended || (t == 0) })
frame_ended p s t (caller ∷ callers) result = call_ended p s t caller.locals callers result caller.todo

-- Return: ends the frame
abbrev pub returned : Program → State → ℕ → List Frame → Option (Option ℤ) → Outcome
returned p s t more (Some result) = frame_ended p s t more result
returned p s t more None = Undefined
