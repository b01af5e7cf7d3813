-- The functions above a place, entered by their names.
use Rattle.std.proofs.Common.{◌≡◌, ℕ, zero, suc, ◌+◌, ◌<◌, ◌≤◌, Bool, true, false, List, [], ◌∷◌, length, reverse, refl, sym, ap, subst, ◌∙◌, Some, None, arith, inl, inr, if◌then◌else◌, add-one}
use Rattle.std.specs.Prelude.{bytes_eq, is_some, slice_get}
use Rattle.std.specs.declared.option.Option.{Option}
use Rattle.std.specs.List.{enumerate_from}
use Rattle.std.proofs.Math.Seq.{take-length}
use Rattle.std.proofs.lemmas.Option.{slice_get_cases}
use Rattle.c_tree.specs.Bare as bare
use Rattle.c_tree.specs.Lined.{Function, Program, bare_program}
use Rattle.rule_facts.specs.FromLast.{from_last}
use Rattle.context_items.specs.Flat.{flat_above}
use Rattle.context_items.specs.Marks.{Mark}
use Rattle.context_walk.specs.declared.functions.Functions.{Functions}
use Rattle.context_walk.specs.Places.{above_at, callee_at, first_functions, place_at}
use Rattle.context_walk.specs.Prepared.{placed, program_in, ArePrepared}
use Rattle.context_walk.proofs.Above.{callee_bears, first_more, place_more}
use Rattle.flow_graph.specs.Shapes.{Shape}
use Rattle.flow_graph.specs.Weaving.{led_by, around, weave, behind_next, entries_of, function_shapes, lines_in, thread_of, threads_of}
use Rattle.flow_graph.specs.Walking.{entries_at}
use Rattle.outline_pieces.specs.declared.pieces.Piece.TheVariants as piece
use Rattle.outline_pieces.specs.declared.pieces.Deed.TheVariants as deed

-- the last function of a name above a place
pub record EntersAt (p : Program) (k : ℕ) (name : List ℕ) (j : ℕ) : Type 0 where
  pub f : Function
  pub at : slice_get p.functions j ≡ Some f
  pub above : j < k
  pub enters : (ms : List Mark) → (entries_at p k).enter name ms ≡ weave (bare_program p) (entries_at p j) (function_shapes f) ms
  pub lines : lines_in (first_functions k p) name ≡ (f.line, f.end_line)

enters_last : (p : Program) (k : ℕ) (f : Function) (name : List ℕ) → slice_get p.functions k ≡ Some f → bytes_eq f.name name ≡ true → EntersAt p (k + 1) name k
enters_last p k f name at same = record {
  f = f;
  at = at;
  above = omega arith;
  enters = λ ms.
      ap (λ fs. (entries_of (bare_program p) fs).enter name ms) (first_more p k f at) ∙ ap (λ b. if b then weave (bare_program p) (entries_at p k) (function_shapes f) ms else (entries_at p k).enter name ms) same;
  lines = ap (λ fs. lines_in fs name) (first_more p k f at) ∙ ap (λ b. if b then (f.line, f.end_line) else lines_in (first_functions k p) name) same;
}

enters_before : (p : Program) (k : ℕ) (f : Function) (name : List ℕ) (j : ℕ) → slice_get p.functions k ≡ Some f → bytes_eq f.name name ≡ false → EntersAt p k name j → EntersAt p (k + 1) name j
enters_before p k f name j at other there = record {
  f = there.f;
  at = there.at;
  above = let less : j < k = there.above in omega arith;
  enters = λ ms.
      ap (λ fs. (entries_of (bare_program p) fs).enter name ms) (first_more p k f at) ∙ ap (λ b. if b then weave (bare_program p) (entries_at p k) (function_shapes f) ms else (entries_at p k).enter name ms) other ∙ there.enters ms;
  lines = ap (λ fs. lines_in fs name) (first_more p k f at) ∙ ap (λ b. if b then (f.line, f.end_line) else lines_in (first_functions k p) name) other ∙ there.lines;
}

same_place : (a b : ℕ) → ◌≡◌ {A = Option ℕ} (Some a) (Some b) → a ≡ b
same_place a b e = cc e

enters_next : (p : Program) (k : ℕ) (f : Function) (name : List ℕ) (j : ℕ) → slice_get p.functions k ≡ Some f → (place_at p k name ≡ Some j → EntersAt p k name j) → (b : Bool) → bytes_eq f.name name ≡ b
    → (if b then Some k else place_at p k name) ≡ Some j → EntersAt p (k + 1) name j
enters_next p k f name j at before true same e = subst (λ m. EntersAt p (k + 1) name m) (same_place k j e) (enters_last p k f name at same)
enters_next p k f name j at before false other e = enters_before p k f name j at other (before e)

pub enters_at : (p : Program) (k : ℕ) (name : List ℕ) (j : ℕ) → k ≤ length p.functions → place_at p k name ≡ Some j → EntersAt p k name j
enters_at p zero name j within found = absurd (cc found)
enters_at p (suc k) name j within found = elim (slice_get_cases p.functions k).1 [
  | inl here ↦ subst (λ m. EntersAt p m name j) (add-one k)
      (enters_next p k here.0 name j here.2 (λ e. enters_at p k name j (omega (arith, within)) e) (bytes_eq here.0.name name) refl (sym (place_more p k here.0 name here.2) ∙ ap (λ m. place_at p m name) (add-one k) ∙ found))
  | inr past ↦ absurd (omega (arith, past.0))
]

-- ---- calls

-- which bear locks is said by the functions above alone
bears_same : (p : bare.Program) (fs : List (ℕ × Function)) (name : List ℕ) → (entries_of p fs).bears name ≡ (flat_above p fs).bears name
bears_same p [] name = refl
bears_same p (f ∷ fs) name = refl

some_place : (b : Bool) (o : Option ℕ) (j : ℕ) → (if b then o else None) ≡ Some j → (b ≡ true) × (o ≡ Some j)
some_place true o j e = (refl, e)
some_place false o j e = absurd (cc e)

pub callee_place : (p : Program) (k : ℕ) (name : List ℕ) (j : ℕ) → callee_at p k name ≡ Some j → place_at p k name ≡ Some j
callee_place p k name j e = (some_place ((above_at p k).bears name) (place_at p k name) j e).1

-- a call of a function that bears locks enters it
pub call_enters : (p : Program) (k : ℕ) (name : List ℕ) (j : ℕ) (line : ℕ) (more : List Shape) (ms : List Mark) → callee_at p k name ≡ Some j → (there : EntersAt p k name j)
    → weave (bare_program p) (entries_at p k) (Shape.Call line name ∷ more) ms
    ≡ around line (weave (bare_program p) (entries_at p j) (function_shapes there.f) (behind_next ms)) (weave (bare_program p) (entries_at p k) more)
call_enters p k name j line more ms e there =
    let bears : (entries_at p k).bears name ≡ true = bears_same (bare_program p) (first_functions k p) name ∙ (some_place ((above_at p k).bears name) (place_at p k name) j e).0 in
    ap (λ b. if b then around line ((entries_at p k).enter name (behind_next ms)) (weave (bare_program p) (entries_at p k) more)
    else led_by (piece.Pass line deed.Plain) (weave (bare_program p) (entries_at p k) more ms)) bears
    ∙ ap (λ w. around line w (weave (bare_program p) (entries_at p k) more)) (there.enters (behind_next ms))

-- a call of one that bears none passes it
pub call_passes : (p : Program) (k : ℕ) (name : List ℕ) (line : ℕ) (more : List Shape) (ms : List Mark) → callee_at p k name ≡ None
    → weave (bare_program p) (entries_at p k) (Shape.Call line name ∷ more) ms ≡ led_by (piece.Pass line deed.Plain) (weave (bare_program p) (entries_at p k) more ms)
call_passes p k name line more ms none =
    let bears : (entries_at p k).bears name ≡ false = bears_same (bare_program p) (first_functions k p) name ∙ sym (callee_bears p k name) ∙ ap is_some none in
    ap (λ b. if b then around line ((entries_at p k).enter name (behind_next ms)) (weave (bare_program p) (entries_at p k) more)
    else led_by (piece.Pass line deed.Plain) (weave (bare_program p) (entries_at p k) more ms)) bears

-- ---- threads

all_functions : (p : Program) → first_functions (length p.functions) p ≡ from_last p
all_functions p = ap (λ fs. reverse (enumerate_from 0 fs)) (take-length p.functions)

-- the function that a name has in the table of all functions
pub begun_at : (q : Functions) → ArePrepared q → (name : List ℕ) (k : ℕ) → placed q.places name ≡ Some k → EntersAt (program_in q) (length (program_in q).functions) name k
begun_at q ready name k at =
    enters_at (program_in q) (length (program_in q).functions) name k (omega arith)
    (ap (λ j. place_at (program_in q) j name) (sym ready.all) ∙ sym (ready.so_far.places name) ∙ at)

pub thread_begins : (p : Program) (name : List ℕ) (k : ℕ) (names : List (List ℕ)) (ms : List Mark) → (there : EntersAt p (length p.functions) name k)
    → threads_of (entries_of (bare_program p) (from_last p)) (lines_in (from_last p)) (name ∷ names) ms
    ≡ thread_of (there.f.line, there.f.end_line) (weave (bare_program p) (entries_at p k) (function_shapes there.f) (behind_next ms)) (threads_of (entries_of (bare_program p) (from_last p)) (lines_in (from_last p)) names)
thread_begins p name k names ms there =
    let behind = threads_of (entries_of (bare_program p) (from_last p)) (lines_in (from_last p)) names in
    let lines : lines_in (from_last p) name ≡ (there.f.line, there.f.end_line) = ap (λ fs. lines_in fs name) (sym (all_functions p)) ∙ there.lines in
    let enters : (entries_of (bare_program p) (from_last p)).enter name (behind_next ms) ≡ weave (bare_program p) (entries_at p k) (function_shapes there.f) (behind_next ms) =
    ap (λ fs. (entries_of (bare_program p) fs).enter name (behind_next ms)) (sym (all_functions p)) ∙ there.enters (behind_next ms) in
    ap (λ ls. thread_of ls ((entries_of (bare_program p) (from_last p)).enter name (behind_next ms)) behind) lines ∙ ap (λ w. thread_of (there.f.line, there.f.end_line) w behind) enters
