-- What a program starts with, seen through its lines.
use Rattle.std.proofs.Common.{◌≡◌, None, ◌++◌, ℕ, zero, suc, Bool, true, false, List, [], ◌∷◌, length, map, flat_map, Some, refl, sym, ap, ◌∙◌, arith, subst}
use Rattle.std.specs.Prelude.{◌||◌, if◌then◌else◌, slice_get, option_map, unwrap_or, bytes_eq, find, Contains}
use Rattle.std.specs.List.{list_any}
use Rattle.std.proofs.lemmas.List.Elements.{Contains-push}
use Rattle.std.specs.declared.option.Option.{Option}
use Rattle.std.specs.FinMap as finite
use Rattle.c_tree.specs.Bare as bare
use Rattle.c_tree.specs.Numbering.{function_named, main_name, main_body}
use Rattle.c_meaning.specs.State as run
use Rattle.c_meaning.specs.Calls.{passed}
use Rattle.std.proofs.lemmas.Option.{same_Some}
use Rattle.c_tree.specs.Lined as lined
use Rattle.c_tree.specs.Lined.{bare_cell, bare_array, bare_function, program_of}
use Rattle.c_rules.specs.Sites.{is_main}
use Rattle.c_rules.specs.Threads.{no_main}
use Rattle.c_rules.specs.declared.rule.Rule.TheVariants as rule
use Rattle.c_meaning.specs.Shown.{shown}
use Rattle.state_parts.specs.Accepted.{Accepted}
use Rattle.c_tree.specs.declared.program.Program.{Program}
use Rattle.c_frames.specs.declared.frames.Frame.{Frame}
use Rattle.state_parts.specs.declared.tables.Tables.{Tables}
use Rattle.state_parts.specs.declared.threads.Thread.{Thread}
use Rattle.state_parts.specs.Valid.{AreFramesIn, AreThreadsIn}
use Rattle.c_tree.specs.declared.program.Cell.{Cell}
use Rattle.c_tree.specs.declared.program.Array.{Array}
use Rattle.c_meaning.specs.State.{first_values}
use Rattle.state_parts.specs.Starting.{bare_values}

pub values_are : (ints : List Cell) → map (λ c. c.value) ints ≡ map (λ c. c.value) (map bare_cell ints)
values_are [] = refl
values_are (c ∷ ints) = ap (λ l. c.value ∷ l) (values_are ints)

pub arrays_are : (arrays : List Array) → flat_map bare_values arrays ≡ flat_map first_values (map bare_array arrays)
arrays_are [] = refl
arrays_are (a ∷ arrays) = ap (λ l. bare_values a ++ l) (arrays_are arrays)

-- one more
pub each_more : {A B : Type 0} (P : A → B → Type 0) (xs : List A) (ys : List B) (x : A) (y : B) (n : ℕ) → length ys ≡ n → slice_get xs n ≡ Some x → P x y
    → ((k : ℕ) (a : A) (b : B) → slice_get xs k ≡ Some a → slice_get ys k ≡ Some b → P a b)
    → (k : ℕ) (a : A) (b : B) → slice_get xs k ≡ Some a → slice_get (ys ++ y ∷ []) k ≡ Some b → P a b
each_more P [] ys x y n long there here each k a b ea eb = absurd (cc ea)
each_more P (z ∷ xs) [] x y zero long there here each zero a b ea eb = subst (λ b. P a b) (same_Some y b eb) (subst (λ a. P a y) (sym (same_Some z x there) ∙ same_Some z a ea) here)
each_more P (z ∷ xs) [] x y zero long there here each (suc k) a b ea eb = absurd (cc eb)
each_more P (z ∷ xs) [] x y (suc n) long there here each k a b ea eb = absurd (omega (arith, long))
each_more P (z ∷ xs) (w ∷ ys) x y zero long there here each k a b ea eb = absurd (omega (arith, long))
each_more P (z ∷ xs) (w ∷ ys) x y (suc n) long there here each zero a b ea eb = each zero a b ea eb
each_more P (z ∷ xs) (w ∷ ys) x y (suc n) long there here each (suc k) a b ea eb =
    each_more P xs ys x y n (omega (arith, long)) there here (λ j v u ev eu. each (suc j) v u ev eu) k a b ea eb

-- a thread more, that hasn't begun
pub threads_more : (p : Program) (tables : Tables) (threads : List Thread) (thread : Thread) → AreThreadsIn p tables threads → AreFramesIn p tables thread.frames.items → AreThreadsIn p tables (threads ++ thread ∷ [])
threads_more p tables [] thread are is zero x e = let P : Thread → Type 0 = λ y. AreFramesIn p tables y.frames.items in subst P (same_Some thread x e) is
threads_more p tables [] thread are is (suc t) x e = absurd (cc e)
threads_more p tables (y ∷ threads) thread are is zero x e = are zero x e
threads_more p tables (y ∷ threads) thread are is (suc t) x e = threads_more p tables threads thread (λ u z h. are (suc u) z h) is t x e

pub no_frames_in : (p : Program) (tables : Tables) (frames : List Frame) → frames ≡ [] → AreFramesIn p tables frames
no_frames_in p tables frames none = λ k x e. absurd (cc (ap (λ l. slice_get l k) (sym none) ∙ e))

-- main's own frame
pub nothing_passed : (params : List (List ℕ)) → passed params [] ≡ finite.empty
nothing_passed [] = refl
nothing_passed (name ∷ params) = refl

pub main_frame : (p : bare.Program) (x : run.Frame) → Some x ≡ option_map (λ f. run.frame (passed f.params []) f.body) (function_named p main_name) → x ≡ run.frame finite.empty (main_body p)
main_frame p x e = by (function_named p main_name) e
  where
    by : (o : Option bare.Function) → Some x ≡ option_map (λ f. run.frame (passed f.params []) f.body) o → x ≡ run.frame finite.empty (unwrap_or (option_map (λ f. f.body) o) bare.Nil)
    by None e = absurd (cc e)
    by (Some f) e = same_Some x (run.frame (passed f.params []) f.body) e ∙ ap (λ l. run.frame l f.body) (nothing_passed f.params)

-- an accepted program has a main
none_is_main : (fs : List lined.Function) → find (λ f. bytes_eq f.name main_name) (map bare_function fs) ≡ None → list_any is_main fs ≡ false
none_is_main [] none = refl
none_is_main (f ∷ fs) none = by (bytes_eq f.name main_name) (none_is_main fs) none
  where
    by : (b : Bool) → (find (λ f. bytes_eq f.name main_name) (map bare_function fs) ≡ None → list_any is_main fs ≡ false)
        → (if b then Some (bare_function f) else find (λ f. bytes_eq f.name main_name) (map bare_function fs)) ≡ None → (b || list_any is_main fs) ≡ false
    by true later e = absurd (cc e)
    by false later e = later e

has_main : (p : Program) → Accepted p → function_named (shown p) main_name ≡ None → ⊥
has_main p accepted none =
    let line = (program_of p).end_line in
    let broken : Contains (no_main (program_of p)) line =
    subst (λ b. Contains (if b then [] else line ∷ []) line) (sym (none_is_main (program_of p).functions none)) (Contains-push [] line) in
    accepted.keeps_rules rule.NoMain line broken

pub main_is_made : (p : Program) → Accepted p → None ≡ option_map (λ f. run.frame (passed f.params []) f.body) (function_named (shown p) main_name) → ⊥
main_is_made p accepted e = by (function_named (shown p) main_name) refl e
  where
    by : (o : Option bare.Function) → function_named (shown p) main_name ≡ o → None ≡ option_map (λ f. run.frame (passed f.params []) f.body) o → ⊥
    by None is same = has_main p accepted is
    by (Some f) is same = cc same
