-- The functions above a place, one by one.
use Rattle.std.proofs.Common.{◌≡◌, ℕ, zero, suc, ◌+◌, ◌<◌, ◌≤◌, Bool, true, false, List, [], ◌∷◌, ◌++◌, length, take, reverse, refl, sym, ap, subst, ◌∙◌, Some, None, arith, cond, inl, inr, if◌then◌else◌, add-one}
use Rattle.std.specs.Prelude.{ℤ, bytes_eq, slice_get, option_map, is_some}
use Rattle.std.specs.declared.option.Option.{Option}
use Rattle.std.specs.List.{enumerate_from}
use Rattle.std.proofs.lemmas.List.{take_more, reverse-append, length-take-le}
use Rattle.std.proofs.lemmas.Option.{slice_get_within, slice_get_cases, get_or_from_slice_get}
use Rattle.c_tree.specs.Bare as bare
use Rattle.c_tree.specs.Lined.{Function, Program, bare_program}
use Rattle.rule_facts.specs.FromLast.{function_in}
use Rattle.context_items.specs.Flat.{flat_above, items_bear}
use Rattle.context_walk.specs.Places.{first_functions, above_at, place_at, callee_at, entered_at, items_of}

-- ---- one function more

enumerated_more : {X : Type 0} (n : ℕ) (xs : List X) (x : X) → enumerate_from n (xs ++ x ∷ []) ≡ enumerate_from n xs ++ (n + length xs, x) ∷ []
enumerated_more n [] x = let e : n ≡ n + 0 = omega arith in ap (λ k. (k, x) ∷ []) e
enumerated_more n (y ∷ xs) x =
    let e : n + 1 + length xs ≡ n + suc (length xs) = omega arith in
    ap (λ es. (n, y) ∷ es) (enumerated_more (n + 1) xs x ∙ ap (λ k. enumerate_from (n + 1) xs ++ (k, x) ∷ []) e)

pub first_more : (p : Program) (k : ℕ) (f : Function) → slice_get p.functions k ≡ Some f → first_functions (k + 1) p ≡ (k, f) ∷ first_functions k p
first_more p k f at =
    let within : k < length p.functions = slice_get_within p.functions k f at in
    let count : 0 + length (take k p.functions) ≡ k = omega (arith, length-take-le k p.functions (omega arith)) in
    ap (λ fs. reverse (enumerate_from 0 fs)) (take_more p.functions k f within ∙ ap (λ g. take k p.functions ++ g ∷ []) (get_or_from_slice_get p.functions k f f at))
    ∙ ap reverse (enumerated_more 0 (take k p.functions) f)
    ∙ reverse-append (enumerate_from 0 (take k p.functions)) ((0 + length (take k p.functions), f) ∷ [])
    ∙ ap (λ j. (j, f) ∷ first_functions k p) count

-- the place of a name, behind one function more
pub place_more : (p : Program) (k : ℕ) (f : Function) (name : List ℕ) → slice_get p.functions k ≡ Some f → place_at p (k + 1) name ≡ (if bytes_eq f.name name then Some k else place_at p k name)
place_more p k f name at =
    ap (λ fs. option_map (λ (g : ℕ × Function). g.0) (function_in fs name)) (first_more p k f at) ∙ go (bytes_eq f.name name)
  where
    go : (b : Bool) → option_map (λ (g : ℕ × Function). g.0) (cond b (Some (k, f)) (function_in (first_functions k p) name)) ≡ (if b then Some k else place_at p k name)
    go true = refl
    go false = refl

-- ---- a function by its name

-- the last function of a name above a place
pub record StandsAt (p : Program) (k : ℕ) (name : List ℕ) (j : ℕ) : Type 0 where
  pub f : Function
  pub at : slice_get p.functions j ≡ Some f
  pub above : j < k
  pub bears : (above_at p k).bears name ≡ items_bear (above_at p j).bears (items_of f)
  pub enters : (args : List (Option ℤ)) (n : List ℕ) → (above_at p k).enter name args n ≡ entered_at p j f args n

stands_last : (p : Program) (k : ℕ) (f : Function) (name : List ℕ) → slice_get p.functions k ≡ Some f → bytes_eq f.name name ≡ true → StandsAt p (k + 1) name k
stands_last p k f name at same = record {
  f = f;
  at = at;
  above = omega arith;
  bears = ap (λ fs. (flat_above (bare_program p) fs).bears name) (first_more p k f at) ∙ ap (λ b. if b then items_bear (above_at p k).bears (items_of f) else (above_at p k).bears name) same;
  enters = λ args n.
      ap (λ fs. (flat_above (bare_program p) fs).enter name args n) (first_more p k f at) ∙ ap (λ b. if b then entered_at p k f args n else (above_at p k).enter name args n) same;
}

stands_before : (p : Program) (k : ℕ) (f : Function) (name : List ℕ) (j : ℕ) → slice_get p.functions k ≡ Some f → bytes_eq f.name name ≡ false → StandsAt p k name j → StandsAt p (k + 1) name j
stands_before p k f name j at other there = record {
  f = there.f;
  at = there.at;
  above = let less : j < k = there.above in omega arith;
  bears = ap (λ fs. (flat_above (bare_program p) fs).bears name) (first_more p k f at) ∙ ap (λ b. if b then items_bear (above_at p k).bears (items_of f) else (above_at p k).bears name) other ∙ there.bears;
  enters = λ args n.
      ap (λ fs. (flat_above (bare_program p) fs).enter name args n) (first_more p k f at) ∙ ap (λ b. if b then entered_at p k f args n else (above_at p k).enter name args n) other ∙ there.enters args n;
}

same_place : (a b : ℕ) → ◌≡◌ {A = Option ℕ} (Some a) (Some b) → a ≡ b
same_place a b e = cc e

stands_next : (p : Program) (k : ℕ) (f : Function) (name : List ℕ) (j : ℕ) → slice_get p.functions k ≡ Some f → (place_at p k name ≡ Some j → StandsAt p k name j) → (b : Bool) → bytes_eq f.name name ≡ b
    → (if b then Some k else place_at p k name) ≡ Some j → StandsAt p (k + 1) name j
stands_next p k f name j at before true same e = subst (λ m. StandsAt p (k + 1) name m) (same_place k j e) (stands_last p k f name at same)
stands_next p k f name j at before false other e = stands_before p k f name j at other (before e)

pub stands : (p : Program) (k : ℕ) (name : List ℕ) (j : ℕ) → k ≤ length p.functions → place_at p k name ≡ Some j → StandsAt p k name j
stands p zero name j within found = absurd (cc found)
stands p (suc k) name j within found = elim (slice_get_cases p.functions k).1 [
  | inl here ↦ subst (λ m. StandsAt p m name j) (add-one k)
      (stands_next p k here.0 name j here.2 (λ e. stands p k name j (omega (arith, within)) e) (bytes_eq here.0.name name) refl (sym (place_more p k here.0 name here.2) ∙ ap (λ m. place_at p m name) (add-one k) ∙ found))
  | inr past ↦ absurd (omega (arith, past.0))
]

-- a name that no function has bears no locks
none_bear : (p : bare.Program) (fs : List (ℕ × Function)) (name : List ℕ) → option_map (λ (g : ℕ × Function). g.0) (function_in fs name) ≡ None → (flat_above p fs).bears name ≡ false
none_bear p [] name none = refl
none_bear p (f ∷ fs) name none = go (bytes_eq f.1.name name) none (none_bear p fs name)
  where
    go : (b : Bool) → option_map (λ (g : ℕ × Function). g.0) (cond b (Some f) (function_in fs name)) ≡ None → (option_map (λ (g : ℕ × Function). g.0) (function_in fs name) ≡ None → (flat_above p fs).bears name ≡ false)
        → (if b then items_bear (flat_above p fs).bears (items_of f.1) else (flat_above p fs).bears name) ≡ false
    go true e before = absurd (cc e)
    go false e before = before e

-- a call enters something exactly where it bears locks
pub callee_bears : (p : Program) (k : ℕ) (name : List ℕ) → is_some (callee_at p k name) ≡ (above_at p k).bears name
callee_bears p k name = go (place_at p k name) refl ((above_at p k).bears name) refl
  where
    go : (o : Option ℕ) → place_at p k name ≡ o → (b : Bool) → (above_at p k).bears name ≡ b → is_some (if b then place_at p k name else None) ≡ b
    go o at false bears = refl
    go (Some j) at true bears = ap is_some at
    go None at true bears = let bad : true ≡ false = sym bears ∙ none_bear (bare_program p) (first_functions k p) name at in absurd (cc bad)
