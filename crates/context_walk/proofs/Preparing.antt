-- Functions are prepared one by one.
use Rattle.std.proofs.Common.{◌≡◌, ℕ, zero, suc, ◌+◌, ◌<◌, ◌≤◌, Bool, true, false, List, [], ◌∷◌, ◌++◌, length, get_or, take, refl, sym, ap, subst, ◌∙◌, Some, None, arith, inl, inr, if◌then◌else◌}
use Rattle.std.specs.Prelude.{◌||◌, ◌&&◌, not, All, bytes_eq, slice_get, is_some, option_and_then}
use Rattle.std.specs.declared.option.Option.{Option}
use Rattle.std.proofs.lemmas.Bool.{cases_lt}
use Rattle.std.proofs.lemmas.List.{map-append, map_more, length-map, length_push}
use Rattle.std.proofs.lemmas.List.Elements.{All-get_or, All-nil, All-cons, All-tail}
use Rattle.std.proofs.lemmas.Option.{slice_get_within, slice_get_cases, slice_get-get_or, get_or_from_slice_get}
use Rattle.std.proofs.Math.ListN.{get_or-map}
use Rattle.std.proofs.Math.Seq.{get_or-append_seam}
use Rattle.std.proofs.lemmas.List.{get_or_append_left}
use Rattle.std.specs.Map.{lookup}
use Rattle.c_tree.specs.Lined.{Program, function_of, bare_program}
use Rattle.c_tree.specs.Numbering.{mutex_count}
use Rattle.c_meaning.proofs.Reading.{bytes_eq_itself}
use Rattle.contexts.specs.Constants.{among}
use Rattle.contexts.proofs.Names.{in_second}
use Rattle.context_items.specs.Items as spec
use Rattle.context_items.specs.Flat.{items_bear}
use Rattle.context_locals.specs.declared.names.ConstantNames.{ConstantNames}
use Rattle.context_locals.specs.Known.{AreConstantNames}
use Rattle.context_walk.specs.declared.items.Item as declared_item
use Rattle.context_walk.specs.declared.steps.Step as declared_step
use Rattle.context_walk.specs.declared.steps.Step.TheVariants.{Opens, Closes, Declares, Locks, Holds, Calls}
use Rattle.context_walk.specs.declared.functions.Functions.{Functions}
use Rattle.context_walk.specs.declared.functions.Prepared.{Prepared}
use Rattle.context_walk.specs.Shown.{shown_item, shown_items}
use Rattle.context_walk.specs.Places.{above_at, place_at, callee_at, items_of}
use Rattle.context_walk.specs.Steps.{declared_in, shown_step, shown_steps, steps_bear, FitsItem, IsStep, NamesFit}
use Rattle.context_walk.specs.Prepared.{callee_in, count_in, program_in, AreSoFar, IsPrepared}
use Rattle.context_walk.proofs.Above.{StandsAt, stands, callee_bears}

pub same_some : {X : Type 0} (o : Option X) (x y : X) → o ≡ Some x → o ≡ Some y → x ≡ y
same_some o x y first second = cc (first, second)

-- ---- what is prepared so far

-- no more functions are prepared than there are
pub count_within : (q : Functions) → AreSoFar q → count_in q ≤ length (program_in q).functions
count_within q ok = go (count_in q) refl
  where
    last : (n : ℕ) → count_in q ≡ suc n → (here : Prepared) → slice_get q.functions.items n ≡ Some here → count_in q ≤ length (program_in q).functions
    last n is here at =
        let less : n < length (program_in q).functions = slice_get_within (program_in q).functions n (function_of here.function.now) (ok.each n here at).function in
        omega arith

    go : (n : ℕ) → count_in q ≡ n → count_in q ≤ length (program_in q).functions
    go zero is = omega arith
    go (suc n) is = elim (slice_get_cases q.functions.items n).1 [
      | inl here ↦ last n is here.0 here.2
      | inr past ↦ absurd (omega (arith, is, past.0))
    ]

-- a function that is prepared, where it bears locks
abbrev bearing : Functions → ℕ → Option ℕ
bearing q j = option_and_then (λ (f : Prepared). if f.bears then Some j else None) (slice_get q.functions.items j)

none_at : (o : Option ℕ) (b : Bool) → o ≡ None → (if b then o else None) ≡ None
none_at o true at = at
none_at o false at = refl

some_at : (o : Option ℕ) (j : ℕ) (b c : Bool) → o ≡ Some j → b ≡ c → (if b then Some j else None) ≡ (if c then o else None)
some_at o j true true at same = sym at
some_at o j false false at same = refl
some_at o j true false at same = absurd (cc same)
some_at o j false true at same = absurd (cc same)

module _ (q : Functions) (ok : AreSoFar q) (name : List ℕ) where
  here_at : (j : ℕ) (here : Prepared) → slice_get q.functions.items j ≡ Some here → place_at (program_in q) (count_in q) name ≡ Some j → StandsAt (program_in q) (count_in q) name j
      → bearing q j ≡ callee_at (program_in q) (count_in q) name
  here_at j here at place there =
      let ready = ok.each j here at in
      let same : function_of here.function.now ≡ there.f = same_some (slice_get (program_in q).functions j) (function_of here.function.now) there.f ready.function there.at in
      ap (λ o. option_and_then (λ (f : Prepared). if f.bears then Some j else None) o) at
      ∙ some_at (place_at (program_in q) (count_in q) name) j here.bears ((above_at (program_in q) (count_in q)).bears name) place
      (ready.bears ∙ ap (λ f. items_bear (above_at (program_in q) j).bears (items_of f)) same ∙ sym there.bears)

  -- the table finds what a call enters
  pub callee_found : callee_in q name ≡ callee_at (program_in q) (count_in q) name
  callee_found = go (place_at (program_in q) (count_in q) name) refl
    where
      go : (o : Option ℕ) → place_at (program_in q) (count_in q) name ≡ o → callee_in q name ≡ callee_at (program_in q) (count_in q) name
      go None at = ap (option_and_then (bearing q)) (ok.places name ∙ at) ∙ sym (none_at (place_at (program_in q) (count_in q) name) ((above_at (program_in q) (count_in q)).bears name) at)
      go (Some j) at =
          let there : StandsAt (program_in q) (count_in q) name j = stands (program_in q) (count_in q) name j (count_within q ok) at in
          ap (option_and_then (bearing q)) (ok.places name ∙ at) ∙ elim (slice_get_cases q.functions.items j).1 [
            | inl here ↦ here_at j here.0 here.2 at there
            | inr past ↦ absurd (omega (arith, past.0, there.above))
          ]

-- ---- steps

pub fits_here : (n : ℕ) (items : List declared_item.Item) (i : ℕ) (item : declared_item.Item) → i < length items → item ≡ get_or items i item → All (FitsItem n) (shown_items items) → FitsItem n (shown_item item)
fits_here n items i item within is all =
    subst (FitsItem n) (get_or-map shown_item items i item ∙ ap shown_item (sym is))
    (All-get_or (FitsItem n) (shown_items items) i (shown_item item) (subst (λ m. i < m) (sym (length-map items shown_item)) within) all)

pub step_pushed : (items : List declared_item.Item) (i : ℕ) (item : declared_item.Item) (steps new : List declared_step.Step) (step : declared_step.Step) → i < length items → item ≡ get_or items i item
    → shown_steps steps ≡ shown_items (take i items) → new ≡ steps ++ step ∷ [] → shown_step step ≡ shown_item item → shown_steps new ≡ shown_items (take (i + 1) items)
step_pushed items i item steps new step within is so_far push same =
    ap shown_steps push ∙ map-append shown_step steps (step ∷ []) ∙ ap (λ xs. xs ++ shown_step step ∷ []) so_far
    ∙ ap (λ x. shown_items (take i items) ++ x ∷ []) (same ∙ ap shown_item is) ∙ sym (map_more shown_item items i item within)

-- ---- names

-- what items declare can be constant where nothing writes into it
pub names_fit : (writes locals : List (List ℕ)) (names : ConstantNames) → AreConstantNames writes locals names → (items : List spec.Item) → ((q : List ℕ) → among (declared_in items) q ≡ true → among locals q ≡ true)
    → All (NamesFit writes names) items
names_fit writes locals names are [] inside = All-nil (NamesFit writes names)
names_fit writes locals names are (spec.Declares name value ∷ items) inside =
    All-cons (NamesFit writes names) (spec.Declares name value) items
    (are name ∙ ap (λ b. b && not (among writes name)) (inside name (ap (λ b. b || among (declared_in items) name) (bytes_eq_itself name))))
    (names_fit writes locals names are items (λ q e. inside q (in_second q (name ∷ []) (declared_in items) e)))
names_fit writes locals names are (spec.Opens ∷ items) inside = All-cons (NamesFit writes names) spec.Opens items tt (names_fit writes locals names are items inside)
names_fit writes locals names are (spec.Closes ∷ items) inside = All-cons (NamesFit writes names) spec.Closes items tt (names_fit writes locals names are items inside)
names_fit writes locals names are (spec.Locks line place ∷ items) inside = All-cons (NamesFit writes names) (spec.Locks line place) items tt (names_fit writes locals names are items inside)
names_fit writes locals names are (spec.Holds monitor ∷ items) inside = All-cons (NamesFit writes names) (spec.Holds monitor) items tt (names_fit writes locals names are items inside)
names_fit writes locals names are (spec.Calls name args ∷ items) inside = All-cons (NamesFit writes names) (spec.Calls name args) items tt (names_fit writes locals names are items inside)

-- ---- which bear locks

-- steps bear locks where their items do
pub bears_same : (p : Program) (k : ℕ) (names : ConstantNames) (steps : List declared_step.Step) → All (IsStep p k names) steps → steps_bear steps ≡ items_bear (above_at p k).bears (shown_steps steps)
bears_same p k names [] all = refl
bears_same p k names (Opens ∷ steps) all = bears_same p k names steps (All-tail (IsStep p k names) Opens steps all)
bears_same p k names (Closes ∷ steps) all = bears_same p k names steps (All-tail (IsStep p k names) Closes steps all)
bears_same p k names (Declares name value local operand ∷ steps) all = bears_same p k names steps (All-tail (IsStep p k names) (Declares name value local operand) steps all)
bears_same p k names (Locks line place mutex ∷ steps) all = refl
bears_same p k names (Holds monitor resource ∷ steps) all = refl
bears_same p k names (Calls name args callee ∷ steps) all =
    let here : IsStep p k names (Calls name args callee) = all 0 (Calls name args callee) (omega arith) in
    ap (λ b. b || steps_bear steps) (ap is_some here.0 ∙ callee_bears p k name.now)
    ∙ ap (λ b. (above_at p k).bears name.now || b) (bears_same p k names steps (All-tail (IsStep p k names) (Calls name args callee) steps all))

-- ---- one function more

pub prepared_more : (p : Program) (old new : List Prepared) (last : Prepared) → new ≡ old ++ last ∷ [] → ((k : ℕ) (here : Prepared) → slice_get old k ≡ Some here → IsPrepared p k here) → IsPrepared p (length old) last
    → (k : ℕ) (here : Prepared) → slice_get new k ≡ Some here → IsPrepared p k here
prepared_more p old new last push before now k here at = elim (cases_lt k (length old)) [
  | inl less ↦ before k here (slice_get-get_or old k here less ∙ ap Some (sym (get_or_append_left old (last ∷ []) here k less) ∙ ap (λ xs. get_or xs k here) (sym push) ∙ get_or_from_slice_get new k here here at))
  | inr more ↦
      let within : k < length new = slice_get_within new k here at in
      let len : length new ≡ length old + 1 = ap length push ∙ length_push old last in
      let is : length old ≡ k = omega arith in
      let same : last ≡ here = sym (get_or-append_seam old last [] here) ∙ ap (λ xs. get_or xs (length old) here) (sym push) ∙ ap (λ j. get_or new j here) is ∙ get_or_from_slice_get new k here here at in
      subst (IsPrepared p k) same (subst (λ j. IsPrepared p j last) is now)
]

-- nothing is prepared yet
pub none_prepared : (q : Functions) → q.functions.items ≡ [] → q.places.entries ≡ [] → q.mutexes ≡ mutex_count (bare_program (program_in q)) → AreSoFar q
none_prepared q none empty mutexes = record {
  each = λ k here at. absurd (let less : k < length q.functions.items = slice_get_within q.functions.items k here at in let zero_len : length q.functions.items ≡ 0 = ap length none in omega arith);
  places = λ name. ap (lookup (λ key. bytes_eq name key.now)) empty ∙ ap (λ k. place_at (program_in q) k name) (sym (ap length none));
  mutexes = mutexes;
}
