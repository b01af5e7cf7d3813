-- A walk goes on from what it has found.
use Rattle.std.proofs.Common.{◌≡◌, ℕ, ◌+◌, ◌<◌, ◌≤◌, Bool, true, false, List, [], ◌∷◌, ◌++◌, length, get_or, drop, refl, sym, ap, subst, ◌∙◌, Some, None, if◌then◌else◌, append_assoc, append-nil}
use Rattle.std.specs.Prelude.{ℤ, All, map, nat_lt, slice_get, is_some, option_map, unwrap_or}
use Rattle.std.specs.declared.option.Option.{Option}
use Rattle.std.proofs.lemmas.List.{drop_more, drop_all, length-map}
use Rattle.std.proofs.lemmas.List.Elements.{All-get_or}
use Rattle.std.proofs.Math.ListN.{get_or-map}
use Rattle.c_tree.specs.Expressions.{Expr, Exprs, Place}
use Rattle.c_tree.specs.Numbering.{monitor_resource}
use Rattle.c_tree.specs.Lined.{Function, Program, bare_program}
use Rattle.contexts.specs.Constants.{Constants, known_declared, with_value}
use Rattle.contexts.specs.Resolved.{constants_of, passed, resolved, writes_of}
use Rattle.contexts.specs.Walk.{Walked, Found, Unresolved, TooMany, then_walk}
use Rattle.context_items.specs.Flat.{FlatScene, flat, marked}
use Rattle.context_items.specs.Items as item
use Rattle.context_items.specs.Items.{Item}
use Rattle.context_items.specs.Marks.{Mark, Resource, Enters}
use Rattle.context_walk.specs.declared.marks.Contexts.{Contexts}
use Rattle.context_walk.specs.declared.marks.ContextError.{ContextError}
use Rattle.context_walk.specs.declared.marks.ContextError.TheVariants.{LockNotResolved, TooManyContexts, Memory}
use Rattle.context_walk.specs.declared.steps.Step as declared_step
use Rattle.context_walk.specs.Steps.{shown_step, shown_steps}
use Rattle.context_walk.specs.Found.{marks_in, contexts_of, Finds, IsRefusal}
use Rattle.context_walk.specs.Places.{above_at, callee_at, entered_at, items_of, place_at, scene_at, writes_at}
use Rattle.context_walk.specs.Walking.{Continues}
use Rattle.context_walk.proofs.Above.{StandsAt, stands, callee_bears}

abbrev pub Walk : Type 0
Walk = Walked (List Mark)

-- ---- marks before what is found

behind_none : (w : Walk) → w ≡ then_walk w (λ more k. Found more k)
behind_none (Found ms n) = refl
behind_none (Unresolved line) = refl
behind_none TooMany = refl

behind_both : (first second : List Mark) (w : Walk) → then_walk (then_walk w (λ more k. Found (second ++ more) k)) (λ more k. Found (first ++ more) k) ≡ then_walk w (λ more k. Found ((first ++ second) ++ more) k)
behind_both first second (Found ms n) = ap (λ more. Found more n) (sym (append_assoc first second ms))
behind_both first second (Unresolved line) = refl
behind_both first second TooMany = refl

-- ---- going on

-- nothing is found, and another walk is left
pub nothing_found : (w rest : Walk) (found : Contexts) → w ≡ rest → Continues w rest found found
nothing_found w rest found same = record { marks = []; grown = sym (append-nil (marks_in found)); found = same ∙ behind_none rest }

pub one_found : (w rest : Walk) (old new : Contexts) (m : Mark) → marks_in new ≡ marks_in old ++ m ∷ [] → w ≡ then_walk rest (λ more k. Found (m ∷ more) k) → Continues w rest old new
one_found w rest old new m grown same = record { marks = m ∷ []; grown = grown; found = same }

pub goes_on : (w v rest : Walk) (a b c : Contexts) → Continues w v a b → Continues v rest b c → Continues w rest a c
goes_on w v rest a b c first second = record {
  marks = first.marks ++ second.marks;
  grown = second.grown ∙ ap (λ ms. ms ++ second.marks) first.grown ∙ append_assoc (marks_in a) first.marks second.marks;
  found = first.found ∙ ap (λ x. then_walk x (λ more k. Found (first.marks ++ more) k)) second.found ∙ behind_both first.marks second.marks rest;
}

-- nothing is left
pub all_found : (w rest : Walk) (old new : Contexts) → Continues w rest old new → rest ≡ Found [] (contexts_of new) → Finds w old new
all_found w rest old new so_far done = record {
  marks = so_far.marks;
  grown = so_far.grown;
  found = so_far.found ∙ ap (λ x. then_walk x (λ more k. Found (so_far.marks ++ more) k)) done ∙ ap (λ ms. Found ms (contexts_of new)) (append-nil so_far.marks);
}

-- what is left is found later
pub found_later : (w rest : Walk) (a b c : Contexts) → Continues w rest a b → Finds rest b c → Finds w a c
found_later w rest a b c first second = record {
  marks = first.marks ++ second.marks;
  grown = second.grown ∙ ap (λ ms. ms ++ second.marks) first.grown ∙ append_assoc (marks_in a) first.marks second.marks;
  found = first.found ∙ ap (λ x. then_walk x (λ more k. Found (first.marks ++ more) k)) second.found;
}

-- what is left is refused
pub refused_later : (e : ContextError) (w rest : Walk) (old new : Contexts) → Continues w rest old new → IsRefusal e rest → IsRefusal e w
refused_later (LockNotResolved line) w rest old new so_far refused = so_far.found ∙ ap (λ x. then_walk x (λ more k. Found (so_far.marks ++ more) k)) refused
refused_later TooManyContexts w rest old new so_far refused = so_far.found ∙ ap (λ x. then_walk x (λ more k. Found (so_far.marks ++ more) k)) refused
refused_later Memory w rest old new so_far refused = tt

-- the same walk, by another name
pub refused_same : (e : ContextError) (w v : Walk) → w ≡ v → IsRefusal e v → IsRefusal e w
refused_same (LockNotResolved line) w v same refused = same ∙ refused
refused_same TooManyContexts w v same refused = same ∙ refused
refused_same Memory w v same refused = tt

-- a walk that begins with one that is refused
pub refused_first : {X : Type 0} (e : ContextError) (first : Walk) (go : List Mark → List ℕ → Walked X) → IsRefusal e first → IsRefusal e (then_walk first go)
refused_first (LockNotResolved line) first go refused = ap (λ x. then_walk x go) refused
refused_first TooManyContexts first go refused = ap (λ x. then_walk x go) refused
refused_first Memory first go refused = tt

-- ---- steps

same_along : (c : FlatScene) (a b : Constants) (xs ys : List Constants) (is : List Item) (n m : List ℕ) → a ≡ b → xs ≡ ys → n ≡ m → flat c a xs is n ≡ flat c b ys is m
same_along c a b xs ys is n m first second third = ap (λ x. flat c x xs is n) first ∙ ap (λ x. flat c b x is n) second ∙ ap (flat c b ys is) third

module _ (c : FlatScene) (known after : Constants) (outer around : List Constants) (is : List Item) (found : Contexts) where
  pub opens : after ≡ known → around ≡ known ∷ outer → Continues (flat c known outer (item.Opens ∷ is) (contexts_of found)) (flat c after around is (contexts_of found)) found found
  opens same wider =
      nothing_found (flat c known outer (item.Opens ∷ is) (contexts_of found)) (flat c after around is (contexts_of found)) found
      (same_along c known after (known ∷ outer) around is (contexts_of found) (contexts_of found) (sym same) (sym wider) refl)

  pub declares : (name : List ℕ) (value : Option Expr) → after ≡ with_value known name (known_declared c.writes known name value) → around ≡ outer
      → Continues (flat c known outer (item.Declares name value ∷ is) (contexts_of found)) (flat c after around is (contexts_of found)) found found
  declares name value now same =
      nothing_found (flat c known outer (item.Declares name value ∷ is) (contexts_of found)) (flat c after around is (contexts_of found)) found
      (same_along c (with_value known name (known_declared c.writes known name value)) after outer around is (contexts_of found) (contexts_of found) (sym now) (sym same) refl)

-- what was known around the last block that began, where one did
pub closes : (c : FlatScene) (known after : Constants) (outer around : List Constants) (is : List Item) (found : Contexts) → (outer ≡ [] → (after ≡ known) × (around ≡ []))
    → ((before : Constants) (wider : List Constants) → outer ≡ before ∷ wider → (after ≡ before) × (around ≡ wider))
    → Continues (flat c known outer (item.Closes ∷ is) (contexts_of found)) (flat c after around is (contexts_of found)) found found
closes c known after [] around is found none last =
    let now = none refl in
    nothing_found (flat c known [] (item.Closes ∷ is) (contexts_of found)) (flat c after around is (contexts_of found)) found
    (same_along c known after [] around is (contexts_of found) (contexts_of found) (sym now.0) (sym now.1) refl)
closes c known after (before ∷ outer) around is found none last =
    let now = last before outer refl in
    nothing_found (flat c known (before ∷ outer) (item.Closes ∷ is) (contexts_of found)) (flat c after around is (contexts_of found)) found
    (same_along c before after outer around is (contexts_of found) (contexts_of found) (sym now.0) (sym now.1) refl)

-- a token of a monitor
pub holds : (c : FlatScene) (known : Constants) (outer : List Constants) (is : List Item) (old new : Contexts) (monitor resource : ℕ) → resource ≡ monitor_resource c.program monitor
    → marks_in new ≡ marks_in old ++ Resource resource ∷ [] → contexts_of new ≡ contexts_of old
    → Continues (flat c known outer (item.Holds monitor ∷ is) (contexts_of old)) (flat c known outer is (contexts_of new)) old new
holds c known outer is old new monitor resource named grown same =
    one_found (flat c known outer (item.Holds monitor ∷ is) (contexts_of old)) (flat c known outer is (contexts_of new)) old new (Resource resource) grown
    (ap (λ r. then_walk (flat c known outer is (contexts_of old)) (λ ms k. Found (Resource r ∷ ms) k)) (sym named)
    ∙ ap (λ n. then_walk (flat c known outer is n) (λ ms k. Found (Resource resource ∷ ms) k)) (sym same))

-- a mutex
pub locks : (c : FlatScene) (known : Constants) (outer : List Constants) (is : List Item) (old new : Contexts) (line : ℕ) (place : Place) (mutex : Option ℕ) → mutex ≡ resolved c.program known place
    → ((rest : Walk) → Continues (marked line mutex rest) rest old new) → contexts_of new ≡ contexts_of old
    → Continues (flat c known outer (item.Locks line place ∷ is) (contexts_of old)) (flat c known outer is (contexts_of new)) old new
locks c known outer is old new line place mutex named found same =
    subst (λ n. Continues (flat c known outer (item.Locks line place ∷ is) (contexts_of old)) (flat c known outer is n) old new) (sym same)
    (subst (λ m. Continues (marked line m (flat c known outer is (contexts_of old))) (flat c known outer is (contexts_of old)) old new) named (found (flat c known outer is (contexts_of old))))

-- ---- calls

-- a call that enters a function
pub called : (p : Program) (k : ℕ) (name : List ℕ) (j : ℕ) → Some j ≡ callee_at p k name → ((above_at p k).bears name ≡ true) × (place_at p k name ≡ Some j)
called p k name j is = go ((above_at p k).bears name) refl is
  where
    go : (b : Bool) → (above_at p k).bears name ≡ b → Some j ≡ (if b then place_at p k name else None) → ((above_at p k).bears name ≡ true) × (place_at p k name ≡ Some j)
    go true bears e = (bears, sym e)
    go false bears e = absurd (cc e)

module _ (p : Program) (k : ℕ) (within : k ≤ length p.functions) (known : Constants) (outer : List Constants) (is : List Item) (name : List ℕ) (args : Exprs) (j : ℕ) (callee : Some j ≡ callee_at p k name) where
  there : StandsAt p k name j
  there = stands p k name j within (called p k name j callee).1

  walked_call : (n : List ℕ) → flat (scene_at p k) known outer (item.Calls name args ∷ is) n
      ≡ then_walk (entered_at p j there.f (constants_of known args) n) (λ ms m. then_walk (flat (scene_at p k) known outer is m) (λ more i. Found (ms ++ more) i))
  unfolding there
  walked_call n =
      ap (λ b. if b then then_walk ((above_at p k).enter name (constants_of known args) n) (λ ms m. then_walk (flat (scene_at p k) known outer is m) (λ more i. Found (ms ++ more) i)) else flat (scene_at p k) known outer is n)
      (called p k name j callee).0
      ∙ ap (λ w. then_walk w (λ ms m. then_walk (flat (scene_at p k) known outer is m) (λ more i. Found (ms ++ more) i))) (there.enters (constants_of known args) n)

  pub enters : (old new : Contexts) → ((f : Function) → slice_get p.functions j ≡ Some f → Finds (entered_at p j f (constants_of known args) (contexts_of old)) old new)
      → Continues (flat (scene_at p k) known outer (item.Calls name args ∷ is) (contexts_of old)) (flat (scene_at p k) known outer is (contexts_of new)) old new
  enters old new finds =
      let found = finds there.f there.at in
      record {
        marks = found.marks;
        grown = found.grown;
        found = walked_call (contexts_of old) ∙ ap (λ w. then_walk w (λ ms m. then_walk (flat (scene_at p k) known outer is m) (λ more i. Found (ms ++ more) i))) found.found;
      }

  pub not_entered : (e : ContextError) (n : List ℕ) → ((f : Function) → slice_get p.functions j ≡ Some f → IsRefusal e (entered_at p j f (constants_of known args) n))
      → IsRefusal e (flat (scene_at p k) known outer (item.Calls name args ∷ is) n)
  not_entered e n refused =
      refused_same e (flat (scene_at p k) known outer (item.Calls name args ∷ is) n)
      (then_walk (entered_at p j there.f (constants_of known args) n) (λ ms m. then_walk (flat (scene_at p k) known outer is m) (λ more i. Found (ms ++ more) i)))
      (walked_call n)
      (refused_first e (entered_at p j there.f (constants_of known args) n) (λ ms m. then_walk (flat (scene_at p k) known outer is m) (λ more i. Found (ms ++ more) i)) (refused there.f there.at))

-- what is entered stands above
pub callee_above : (p : Program) (k : ℕ) → k ≤ length p.functions → (name : List ℕ) (j : ℕ) → Some j ≡ callee_at p k name → j < k
callee_above p k within name j callee = (stands p k name j within (called p k name j callee).1).above

-- a call of a function without locks
pub passes : (p : Program) (k : ℕ) (known : Constants) (outer : List Constants) (is : List Item) (name : List ℕ) (args : Exprs) (found : Contexts) → None ≡ callee_at p k name
    → Continues (flat (scene_at p k) known outer (item.Calls name args ∷ is) (contexts_of found)) (flat (scene_at p k) known outer is (contexts_of found)) found found
passes p k known outer is name args found none =
    nothing_found (flat (scene_at p k) known outer (item.Calls name args ∷ is) (contexts_of found)) (flat (scene_at p k) known outer is (contexts_of found)) found
    (ap (λ b. if b then then_walk ((above_at p k).enter name (constants_of known args) (contexts_of found)) (λ ms m. then_walk (flat (scene_at p k) known outer is m) (λ more i. Found (ms ++ more) i))
    else flat (scene_at p k) known outer is (contexts_of found)) (sym (callee_bears p k name) ∙ ap is_some (sym none)))

-- ---- loops over steps

pub next_step : (steps : List declared_step.Step) (i : ℕ) (step : declared_step.Step) → i < length steps → step ≡ get_or steps i step → shown_steps (drop i steps) ≡ shown_step step ∷ shown_steps (drop (i + 1) steps)
next_step steps i step within is = ap shown_steps (drop_more steps i step within ∙ ap (λ s. s ∷ drop (i + 1) steps) (sym is))

pub no_step : (steps : List declared_step.Step) (i : ℕ) → length steps ≤ i → shown_steps (drop i steps) ≡ []
no_step steps i past = ap shown_steps (drop_all i steps past)

pub mapped_here : {X Y : Type 0} (P : Y → Type 0) (f : X → Y) (xs : List X) (i : ℕ) (x : X) → i < length xs → x ≡ get_or xs i x → All P (map f xs) → P (f x)
mapped_here P f xs i x within is all =
    subst P (get_or-map f xs i x ∙ ap f (sym is)) (All-get_or P (map f xs) i (f x) (subst (λ m. i < m) (sym (length-map xs f)) within) all)

-- ---- a function that is entered

pub writes_here : (p : Program) (k : ℕ) (f : Function) → slice_get p.functions k ≡ Some f → writes_at p k ≡ writes_of (bare_program p) f
writes_here p k f at = ap (λ o. unwrap_or (option_map (writes_of (bare_program p)) o) []) at

pub begins : (p : Program) (k : ℕ) (f : Function) → slice_get p.functions k ≡ Some f → (known : Constants) (outer : List Constants) (items : List Item) (args : List (Option ℤ)) (old new : Contexts)
    → nat_lt (length (contexts_of old)) 256 ≡ true → marks_in new ≡ marks_in old ++ Enters (length (contexts_of old)) ∷ [] → contexts_of new ≡ k ∷ contexts_of old
    → known ≡ passed (writes_of (bare_program p) f) f.params args → outer ≡ [] → items ≡ items_of f
    → Continues (entered_at p k f args (contexts_of old)) (flat (scene_at p k) known outer items (contexts_of new)) old new
begins p k f at known outer items args old new room grown one_more first none same =
    one_found (entered_at p k f args (contexts_of old)) (flat (scene_at p k) known outer items (contexts_of new)) old new (Enters (length (contexts_of old))) grown
    (ap (λ b. if b then then_walk (flat (record { program = bare_program p; above = above_at p k; writes = writes_of (bare_program p) f }) (passed (writes_of (bare_program p) f) f.params args) [] (items_of f) (k ∷ contexts_of old))
    (λ ms m. Found (Enters (length (contexts_of old)) ∷ ms) m) else TooMany) room
    ∙ ap (λ w. then_walk w (λ ms m. Found (Enters (length (contexts_of old)) ∷ ms) m)) (
    ap (λ writes. flat (record { program = bare_program p; above = above_at p k; writes = writes }) (passed (writes_of (bare_program p) f) f.params args) [] (items_of f) (k ∷ contexts_of old)) (sym (writes_here p k f at))
    ∙ ap (λ x. flat (scene_at p k) x [] (items_of f) (k ∷ contexts_of old)) (sym first)
    ∙ ap (λ x. flat (scene_at p k) known x (items_of f) (k ∷ contexts_of old)) (sym none)
    ∙ ap (λ x. flat (scene_at p k) known outer x (k ∷ contexts_of old)) (sym same)
    ∙ ap (flat (scene_at p k) known outer items) (sym one_more)))

-- there are as many contexts as there may be
pub no_room : (p : Program) (k : ℕ) (f : Function) (args : List (Option ℤ)) (n : List ℕ) → nat_lt (length n) 256 ≡ false → entered_at p k f args n ≡ TooMany
no_room p k f args n full =
    ap (λ b. if b then then_walk (flat (record { program = bare_program p; above = above_at p k; writes = writes_of (bare_program p) f }) (passed (writes_of (bare_program p) f) f.params args) [] (items_of f) (k ∷ n))
    (λ ms m. Found (Enters (length n) ∷ ms) m) else TooMany) full
