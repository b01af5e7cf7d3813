-- Routes are made one by one.
use Rattle.std.proofs.Common.{◌≡◌, ℕ, ◌+◌, ◌<◌, ◌≤◌, Bool, true, false, List, [], ◌∷◌, ◌++◌, length, get_or, refl, sym, ap, subst, ◌∙◌, Some, None, arith, inl, inr, if◌then◌else◌}
use Rattle.std.specs.Prelude.{All, slice_get, option_and_then}
use Rattle.std.specs.declared.option.Option.{Option}
use Rattle.std.specs.HashMap.{HashMap}
use denote.Ref.{Bor}
use Rattle.std.proofs.lemmas.Bool.{cases_lt}
use Rattle.std.proofs.lemmas.List.{length_push, get_or_append_left}
use Rattle.std.proofs.lemmas.List.Elements.{All-weaker}
use Rattle.std.proofs.lemmas.Option.{slice_get_within, slice_get_cases, slice_get-get_or, get_or_from_slice_get}
use Rattle.std.proofs.Math.Seq.{get_or-append_seam}
use Rattle.c_tree.specs.Lined.{Function, function_of}
use Rattle.c_tree.specs.declared.program.Mode.{Mode}
use Rattle.c_rules.specs.Formed.{Formed}
use Rattle.context_items.specs.Flat.{items_bear}
use Rattle.context_walk.specs.declared.functions.Functions.{Functions}
use Rattle.context_walk.specs.declared.functions.Prepared.{Prepared}
use Rattle.context_walk.specs.Places.{above_at, callee_at, items_of, place_at}
use Rattle.context_walk.specs.Prepared.{count_in, placed, program_in, ArePrepared, IsPrepared}
use Rattle.context_walk.proofs.Above.{StandsAt, stands}
use Rattle.context_walk.proofs.Preparing.{same_some}
use Rattle.flow_graph.specs.declared.shapes.Shape as declared_shape
use Rattle.flow_graph.specs.declared.shapes.Shape.TheVariants as shape
use Rattle.flow_graph.specs.declared.routes.Stop.{Stop}
use Rattle.flow_graph.specs.Routes.{callee_by, shown_stops, ArePlaces, Enters, FitsShape, IsRoute, IsStop}
use Rattle.flow_graph.specs.Weaving.{function_shapes}
use Rattle.flow_graph.proofs.Fitting.{function_fits}

-- ---- what a call enters

-- a function, where it bears locks
abbrev bearing : Functions → ℕ → Option ℕ
bearing q j = option_and_then (λ (f : Prepared). if f.bears then Some j else None) (slice_get q.functions.items j)

none_at : (o : Option ℕ) (b : Bool) → o ≡ None → (if b then o else None) ≡ None
none_at o true at = at
none_at o false at = refl

some_at : (o : Option ℕ) (j : ℕ) (b c : Bool) → o ≡ Some j → b ≡ c → (if b then Some j else None) ≡ (if c then o else None)
some_at o j true true at same = sym at
some_at o j false false at same = refl
some_at o j true false at same = absurd (cc same)
some_at o j false true at same = absurd (cc same)

module _ (q : Functions) (ready : ArePrepared q) (k : ℕ) (within : k ≤ length (program_in q).functions) (name : List ℕ) where
  here_at : (j : ℕ) (here : Prepared) → slice_get q.functions.items j ≡ Some here → place_at (program_in q) k name ≡ Some j → StandsAt (program_in q) k name j → bearing q j ≡ callee_at (program_in q) k name
  here_at j here at place there =
      let is : IsPrepared (program_in q) j here = ready.so_far.each j here at in
      let same : function_of here.function.now ≡ there.f = same_some (slice_get (program_in q).functions j) (function_of here.function.now) there.f is.function there.at in
      ap (λ o. option_and_then (λ (f : Prepared). if f.bears then Some j else None) o) at
      ∙ some_at (place_at (program_in q) k name) j here.bears ((above_at (program_in q) k).bears name) place
      (is.bears ∙ ap (λ f. items_bear (above_at (program_in q) j).bears (items_of f)) same ∙ sym there.bears)

  found_at : (o : Option ℕ) → place_at (program_in q) k name ≡ o → option_and_then (bearing q) o ≡ callee_at (program_in q) k name
  found_at None at = sym (none_at (place_at (program_in q) k name) ((above_at (program_in q) k).bears name) at)
  found_at (Some j) at =
      let there : StandsAt (program_in q) k name j = stands (program_in q) k name j within at in
      elim (slice_get_cases q.functions.items j).1 [
        | inl here ↦ here_at j here.0 here.2 at there
        | inr past ↦ absurd (let all : count_in q ≡ length (program_in q).functions = ready.all in let less : j < k = there.above in omega (arith, past.0))
      ]

  -- a table of the functions above finds what a call enters
  pub callee_found : {S : Type 0} (places : HashMap (Bor (List ℕ)) ℕ S) → placed places name ≡ place_at (program_in q) k name → callee_by q places name ≡ callee_at (program_in q) k name
  callee_found places is = ap (option_and_then (bearing q)) is ∙ found_at (place_at (program_in q) k name) refl

enters_same : (c d : List ℕ → Option ℕ) → ((name : List ℕ) → c name ≡ d name) → (s : declared_shape.Shape) (e : Option ℕ) → Enters c s e → Enters d s e
enters_same c d same (shape.Call line name) e is = is ∙ same name.now
enters_same c d same s e is = is

pub stops_same : (c d : List ℕ → Option ℕ) → ((name : List ℕ) → c name ≡ d name) → (stops : List Stop) → All (IsStop c) stops → All (IsStop d) stops
stops_same c d same stops all = All-weaker (IsStop c) (IsStop d) (λ s is. enters_same c d same s.shape s.callee is) stops all

-- ---- one more

pub all_more : {X : Type 0} (P : ℕ → X → Type 0) (old new : List X) (last : X) → new ≡ old ++ last ∷ [] → ((k : ℕ) (x : X) → slice_get old k ≡ Some x → P k x) → P (length old) last
    → (k : ℕ) (x : X) → slice_get new k ≡ Some x → P k x
all_more P old new last push before now k x at = elim (cases_lt k (length old)) [
  | inl less ↦ before k x (slice_get-get_or old k x less ∙ ap Some (sym (get_or_append_left old (last ∷ []) x k less) ∙ ap (λ xs. get_or xs k x) (sym push) ∙ get_or_from_slice_get new k x x at))
  | inr more ↦
      let within : k < length new = slice_get_within new k x at in
      let len : length new ≡ length old + 1 = ap length push ∙ length_push old last in
      let is : length old ≡ k = omega arith in
      let same : last ≡ x = sym (get_or-append_seam old last [] x) ∙ ap (λ xs. get_or xs (length old) x) (sym push) ∙ ap (λ j. get_or new j x) is ∙ get_or_from_slice_get new k x x at in
      subst (P k) same (subst (λ j. P j last) is now)
]

-- the stops of the function that comes next are its route
pub route_of : {S : Type 0} (q : Functions) (mode : Mode) (places : HashMap (Bor (List ℕ)) ℕ S) (k : ℕ) (f : Function) (stops : List Stop) → ArePrepared q → Formed (program_in q) mode → ArePlaces (program_in q) k places
    → slice_get (program_in q).functions k ≡ Some f → shown_stops stops ≡ function_shapes f → All (IsStop (callee_by q places)) stops → IsRoute (program_in q) k stops
route_of q mode places k f stops ready formed are at shapes callees = record {
  f = f;
  at = at;
  shapes = shapes;
  callees =
      let within : k < length (program_in q).functions = slice_get_within (program_in q).functions k f at in
      stops_same (callee_by q places) (callee_at (program_in q) k) (λ name. callee_found q ready k (omega arith) name places (are name)) stops callees;
  fits = subst (All (FitsShape (length (program_in q).monitors))) (sym shapes) (function_fits (program_in q) mode formed k f at);
}
