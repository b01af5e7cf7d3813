-- How a frame is made, and how a thread begins in it.
use Rattle.std.proofs.Common.{◌≡◌, ℕ, ⊎_elim, List, [], ◌∷◌, length, map, position, bytes_eq, Option, Some, None, option_map, refl, sym, ap, ◌∙◌, subst, arith}
use Rattle.std.specs.Prelude.{slice_get}
use Rattle.std.specs.Option.{option_and_then}
use Rattle.std.proofs.lemmas.Option.{slice_get-map, slice_get_within, slice_get_cases, same_Some}
use Rattle.c_tree.specs.declared.program.Program.{Program}
use Rattle.c_tree.specs.declared.program.Function.{Function}
use Rattle.c_tree.specs.Bare as bare
use Rattle.c_tree.specs.Lined.{function_of, bare_function}
use Rattle.c_tree.specs.Numbering.{function_named}
use Rattle.c_meaning.specs.Shown.{shown}
use Rattle.c_meaning.specs.State as run
use Rattle.c_meaning.specs.declared.Did.TheVariants as did
use Rattle.c_meaning.specs.Outcome.{Done}
use Rattle.c_meaning.specs.Threads.{created_in}
use Rattle.c_frames.specs.Names.{shown_function}
use Rattle.c_frames.specs.declared.frames.Frame.{Frame}
use Rattle.c_places.proofs.Numbering.{function_at}
use Rattle.state_parts.specs.declared.tables.Tables.{Tables}
use Rattle.state_parts.specs.Valid.{IsFrameIn, AreFramesIn}

-- the function at a place, without its lines
shown_at : (p : Program) (k : ℕ) → slice_get (shown p).functions k ≡ option_map shown_function (slice_get p.functions k)
shown_at p k =
    slice_get-map bare_function (map function_of p.functions) k ∙ ap (option_map bare_function) (slice_get-map function_of p.functions k) ∙ go (slice_get p.functions k)
  where
    go : (o : Option Function) → option_map bare_function (option_map function_of o) ≡ option_map shown_function o
    go None = refl
    go (Some f) = refl

-- the function at a place, if there is one
abbrev pub by_place : Program → Option ℕ → Option bare.Function
by_place p k = option_and_then (λ k. option_map shown_function (slice_get p.functions k)) k

-- the function of a name, by its place
pub named_at : (p : Program) (name : List ℕ) (k : Option ℕ) → k ≡ position (λ f. bytes_eq f.name name) (shown p).functions → function_named (shown p) name ≡ by_place p k
named_at p name k e = function_at (shown p) name ∙ ap (option_and_then (slice_get (shown p).functions)) (sym e) ∙ go k
  where
    go : (o : Option ℕ) → option_and_then (slice_get (shown p).functions) o ≡ option_and_then (λ k. option_map shown_function (slice_get p.functions k)) o
    go None = refl
    go (Some n) = shown_at p n

-- one frame alone
pub one_frame : (p : Program) (tables : Tables) (x : Frame) → IsFrameIn p tables x → AreFramesIn p tables (x ∷ [])
one_frame p tables x is = λ k y e. let lt = slice_get_within (x ∷ []) k y e in let first : k ≡ 0 = omega (arith, lt) in subst (IsFrameIn p tables) (same_Some x y (ap (slice_get (x ∷ [])) (sym first) ∙ e)) is

-- a thread that hasn't begun begins in a frame
pub created_new : (s : run.State) (t u : ℕ) (frames begins : List run.Frame) (begin : Option run.Frame) → Some begins ≡ option_map (λ f. f ∷ []) begin
    → created_in s t frames u (Some run.NotBegun) begin ≡ Done (did.Create u) (run.with_status (run.goes_on s t frames) u (run.Running begins))
created_new s t u frames begins None e = absurd cc
created_new s t u frames begins (Some f) e = ap (λ fs. Done (did.Create u) (run.with_status (run.goes_on s t frames) u (run.Running fs))) (sym (same_Some begins (f ∷ []) e))

-- of two lists of one length both have an item at a place
pub both_there : {A B : Type 0} (xs : List A) (ys : List B) (k : ℕ) (x : A) → length ys ≡ length xs → slice_get xs k ≡ Some x → slice_get ys k ≡ None → ⊥
both_there xs ys k x e there none =
    let lt = slice_get_within xs k x there in
    ⊎_elim (λ h. let some : Some h.0 ≡ None = sym h.2 ∙ none in absurd cc) (λ h. absurd (omega (arith, lt, e, h.0))) (slice_get_cases ys k).1
