-- The tokens that a woken thread takes.
use Rattle.std.proofs.Common.{◌≡◌, ◌+◌, ℕ, zero, suc, Bool, true, false, List, [], ◌∷◌, map, drop, Option, Some, None, refl, sym, ap, ◌∙◌, arith}
use Rattle.std.specs.Prelude.{slice_get}
use Rattle.c_tree.specs.Bare as bare
use Rattle.c_tree.specs.Bare.{Stmt, Stmts, Nil, Cons}
use Rattle.c_tree.specs.declared.program.Program.{Program}
use Rattle.c_frames.specs.Positions.{first_of}
use Rattle.c_frames.specs.declared.frames.Frame.{Frame}
use Rattle.c_meaning.specs.Waits.{first_takes, takes_of}
use Rattle.state_parts.specs.First.{Stands}
use Rattle.state_parts.specs.Statements.{takes_in}
use Rattle.state_parts.specs.Threads.{frame_in}
use Rattle.state_parts.specs.declared.tables.Tables.{Tables}
use Rattle.c_steps.proofs.Rows.{drop_there, drop_past}

first_act : (rest : Stmts) (act : Stmt) → first_takes (Cons act rest) ≡ takes_in act
first_act rest (bare.Wait cond place takes) = refl
first_act rest act = refl

-- the loop of a `for` takes nothing, as the `for` doesn't
takes_stay : (begun : Bool) (act : Stmt) → takes_in (first_of begun act) ≡ takes_in act
takes_stay true (bare.For first_part test step body) = refl
takes_stay true act = refl
takes_stay false act = refl

-- those of the statement that comes first in the newest frame
pub takes_at : (p : Program) (tables : Tables) (x : Frame) (xs more : List Frame) (act : Stmt) (begun : Bool) → xs ≡ x ∷ more → Stands p tables x act begun
    → takes_of (map (frame_in p tables) xs) ≡ takes_in act
takes_at p tables x xs more act begun newest stands =
    ap (λ ys. takes_of (map (frame_in p tables) ys)) newest ∙ ap first_takes stands.first ∙ first_act stands.rest (first_of begun act) ∙ takes_stay begun act

-- none, where nothing is left in that frame
pub takes_at_end : (p : Program) (tables : Tables) (x : Frame) (xs more : List Frame) → xs ≡ x ∷ more → (frame_in p tables x).todo ≡ Nil → takes_of (map (frame_in p tables) xs) ≡ []
takes_at_end p tables x xs more newest ended = ap (λ ys. takes_of (map (frame_in p tables) ys)) newest ∙ ap first_takes ended

-- what is left of them behind the next one
pub next_left : (takes : List ℕ) (taken monitor : ℕ) (next : Option ℕ) → next ≡ slice_get takes taken → next ≡ Some monitor → drop taken takes ≡ monitor ∷ drop (taken + 1) takes
next_left takes taken monitor next is some =
    let one_more : suc taken ≡ taken + 1 = omega arith in drop_there takes taken monitor (sym is ∙ some) ∙ ap (λ k. monitor ∷ drop k takes) one_more

pub none_left : (takes : List ℕ) (taken : ℕ) (next : Option ℕ) → next ≡ slice_get takes taken → next ≡ None → drop taken takes ≡ []
none_left takes taken next is none = drop_past takes taken (sym is ∙ none)

pub nothing_at : (k : ℕ) → slice_get {X = ℕ} [] k ≡ None
nothing_at zero = refl
nothing_at (suc k) = refl
