-- In a well-formed program no local is declared where one of its name is in scope.
use Rattle.std.specs.Prelude.{◌≡◌, ℕ, Bool, true, false, ◌||◌, List, [], ◌∷◌, ◌++◌, flat_map, map, bytes_eq, ⊤}
use Rattle.std.specs.List.{enumerate_from}
use Rattle.std.proofs.Common.{refl, ap, subst, sym, ◌∙◌, inl, inr}
use Rattle.c_tree.specs.declared.program.Mode.{Mode}
use Rattle.c_tree.specs.Bare as bare
use Rattle.c_tree.specs.Everywhere.{Everywhere, EverywhereInside}
use Rattle.c_tree.specs.Lined.{Stmt, Stmts, Nil, Cons, Function, Program, Declare, Assign, If, While, For, TryLock, bare_stmt, bare_stmts, bare_program}
use Rattle.c_meaning.proofs.Reading.{same_bytes}
use Rattle.c_rules.specs.Formed.{Formed}
use Rattle.c_rules.specs.Names.{mentions}
use Rattle.c_rules.specs.Naming.{Inner, inner, local_in, parameters}
use Rattle.c_rules.specs.Sites as places
use Rattle.c_rules.specs.Sites.{Site, Standing, inner_site, inside, listed, locals_of, own_site, sites, sites_from, sites_in}
use Rattle.c_rules.proofs.Members.{In, in_append_left, in_append_right, in_flat_map, in_map, in_of}
use Rattle.rule_facts.proofs.Inner.{inner_free, not_in_scope}
use Rattle.contexts.specs.Constants.{among, declared, declared_all}
use Rattle.contexts.specs.Firsts.{FirstFits, ForFits, HasFirstParts}
use Rattle.contexts.proofs.Names.{in_first, in_second, in_none}
use Rattle.context_laws.proofs.Steady.{both_everywhere}
use Rattle.c_canonical.specs.ShapedPrograms.{ShapedProgram}
use Rattle.context_items.proofs.Loops.{has_first_parts, has_steps}
use Rattle.context_items.specs.Unshadowed.{Disjoint, own_name, FirstShape, StepShape, StepFits, ForSteps, HasSteps, Unshadowed, UnshadowedAll, IsUnshadowed}

-- a local is declared where none of its name is in scope
abbrev IsNew : List (List ℕ) → Stmt → Type 0
IsNew scope (Declare line name value) = mentions scope name ≡ false
IsNew scope s = ⊤

abbrev AllNew : List Standing → Type 0
AllNew xs = (x : Standing) → In x xs → IsNew x.scope x.stmt

-- ---- at each site

site_new : (p : Program) (mode : Mode) → Formed p mode → (x : Site) → In x (sites p) → IsNew x.scope x.stmt
site_new p mode formed x at = go x.stmt refl
  where
    go : (s : Stmt) → x.stmt ≡ s → IsNew x.scope s
    go (Declare line name value) same =
        let l : Inner = record { name = name; line = line; scope = x.scope } in
        let here : In l (local_in x.scope x.stmt) = subst (λ s. In l (local_in x.scope s)) (sym same) (inl refl) in
        let there : In l (inner p) = in_append_right (flat_map parameters p.functions) (flat_map (λ (site : Site). local_in site.scope site.stmt) (sites p)) l
        (in_flat_map (λ (site : Site). local_in site.scope site.stmt) (sites p) x l at here) in
        not_in_scope p l (inner_free p mode formed.keeps_rules l there)
    go s same = tt

-- ---- from sites to lists

abbrev LoopFits : bare.Stmt → Type 0
LoopFits s = ForFits s × ForSteps s

first_shape : (ss : Stmts) → FirstFits (bare_stmts ss) → FirstShape ss
first_shape Nil fits = tt
first_shape (Cons (Declare line name value) Nil) fits = tt
first_shape (Cons (Assign line target value) Nil) fits = tt
first_shape ss fits = absurd fits

step_shape : (ss : Stmts) → StepFits (bare_stmts ss) → StepShape ss
step_shape Nil fits = tt
step_shape (Cons (Assign line target value) Nil) fits = tt
step_shape ss fits = absurd fits

first_locals : (ss : Stmts) → FirstShape ss → (q : List ℕ) → among (declared_all ss) q ≡ true → among (locals_of ss) q ≡ true
first_locals Nil shape q is = is
first_locals (Cons (Declare line name value) Nil) shape q is = is
first_locals (Cons (Assign line target value) Nil) shape q is = is
first_locals ss shape q is = absurd shape

apart_both : (scope xs ys : List (List ℕ)) → Disjoint scope xs → Disjoint scope ys → Disjoint scope (xs ++ ys)
apart_both scope xs ys first second q is = in_none q xs ys (first q is) (second q is)

new_left : (xs ys : List Standing) → AllNew (xs ++ ys) → AllNew xs
new_left xs ys all x at = all x (in_append_left xs ys x at)

new_right : (xs ys : List Standing) → AllNew (xs ++ ys) → AllNew ys
new_right xs ys all x at = all x (in_append_right xs ys x at)

own_apart : (scope : List (List ℕ)) (name : List ℕ) → mentions scope name ≡ false → Disjoint scope (name ∷ [])
own_apart scope name new q is = go (bytes_eq q name) refl
  where
    go : (b : Bool) → bytes_eq q name ≡ b → (b || false) ≡ false
    go true same = absurd (let bad : true ≡ false = sym is ∙ ap (among scope) (same_bytes q name same) ∙ new in cc bad)
    go false other = refl

own_is : (s : Stmt) (q : List ℕ) → among (own_name s) q ≡ true → among (places.declared s) q ≡ true
own_is (Declare line name value) q is = is
own_is s q is = is

put_before : (scope : List (List ℕ)) (s : Stmt) (rest : Stmts) → Disjoint scope (declared s) × Unshadowed s → Disjoint (places.declared s ++ scope) (declared_all rest) × UnshadowedAll rest
    → Disjoint scope (declared_all (Cons s rest)) × UnshadowedAll (Cons s rest)
put_before scope s rest first second = (
  apart_both scope (declared s) (declared_all rest) first.0 (λ q is. second.0 q (in_second q (places.declared s) scope is)),
  (first.1, (λ q is. second.0 q (in_first q (places.declared s) scope (own_is s q is))), second.1),
)

mutual
  statement_new : (scope : List (List ℕ)) (s : Stmt) → AllNew (inside scope s) → IsNew scope s → LoopFits (bare_stmt s) → EverywhereInside LoopFits (bare_stmt s) → Disjoint scope (declared s) × Unshadowed s
  statement_new scope (Declare line name value) all own fits loops = (own_apart scope name own, tt)
  statement_new scope (If line test a b) all own fits loops =
      let first = list_new scope a (new_left (listed scope a) (listed scope b) all) loops.0 in
      let second = list_new scope b (new_right (listed scope a) (listed scope b) all) loops.1 in
      (apart_both scope (declared_all a) (declared_all b) first.0 second.0, (first.1, second.1))
  statement_new scope (TryLock line place a b) all own fits loops =
      let first = list_new scope a (new_left (listed scope a) (listed scope b) all) loops.0 in
      let second = list_new scope b (new_right (listed scope a) (listed scope b) all) loops.1 in
      (apart_both scope (declared_all a) (declared_all b) first.0 second.0, (first.1, second.1))
  statement_new scope (While line test body) all own fits loops = list_new scope body all loops
  statement_new scope (For line first_part test step body) all own fits loops =
      let wide = locals_of first_part ++ scope in
      let front = new_left (listed scope first_part ++ listed wide step) (listed wide body) all in
      let first = list_new scope first_part (new_left (listed scope first_part) (listed wide step) front) loops.0 in
      let middle = list_new wide step (new_right (listed scope first_part) (listed wide step) front) loops.1 in
      let last = list_new wide body (new_right (listed scope first_part ++ listed wide step) (listed wide body) all) loops.2 in
      let shape : FirstShape first_part = first_shape first_part fits.0 in (
        apart_both scope (declared_all first_part ++ declared_all step) (declared_all body)
            (apart_both scope (declared_all first_part) (declared_all step) first.0 (λ q is. middle.0 q (in_second q (locals_of first_part) scope is)))
            (λ q is. last.0 q (in_second q (locals_of first_part) scope is)),
        (shape, step_shape step fits.1, (λ q is. last.0 q (in_first q (locals_of first_part) scope (first_locals first_part shape q is))), last.1),
      )
  statement_new scope s all own fits loops = ((λ q is. refl), tt)

  list_new : (scope : List (List ℕ)) (ss : Stmts) → AllNew (listed scope ss) → Everywhere LoopFits (bare_stmts ss) → Disjoint scope (declared_all ss) × UnshadowedAll ss
  list_new scope Nil all loops = ((λ q is. refl), tt)
  list_new scope (Cons s rest) all loops =
      let self : Standing = record { stmt = s; scope = scope } in
      let others = listed (places.declared s ++ scope) rest in
      let behind : AllNew (self ∷ others) = new_right (inside scope s) (self ∷ others) all in
      put_before scope s rest (statement_new scope s (new_left (inside scope s) (self ∷ others) all) (behind self (inl refl)) loops.0 loops.1)
      (list_new (places.declared s ++ scope) rest (λ x at. behind x (inr at)) loops.2)

sites_new : (f : ℕ × Function) (before : List Stmt) (scope : List (List ℕ)) (ss : Stmts) → ((x : Site) → In x (sites_from f before scope ss) → IsNew x.scope x.stmt) → Everywhere LoopFits (bare_stmts ss)
    → Disjoint scope (declared_all ss) × UnshadowedAll ss
sites_new f before scope Nil all loops = ((λ q is. refl), tt)
sites_new f before scope (Cons s rest) all loops =
    let others = sites_from f (s ∷ before) (places.declared s ++ scope) rest in
    let behind : (x : Site) → In x (own_site f before scope s ∷ others) → IsNew x.scope x.stmt = λ x at. all x (in_append_right (map (inner_site f before s) (inside scope s)) (own_site f before scope s ∷ others) x at) in
    put_before scope s rest
    (statement_new scope s (λ x at. all (inner_site f before s x) (in_append_left (map (inner_site f before s) (inside scope s)) (own_site f before scope s ∷ others) (inner_site f before s x) (in_map (inner_site f before s) (inside scope s) x at)))
    (behind (own_site f before scope s) (inl refl)) loops.0 loops.1)
    (sites_new f (s ∷ before) (places.declared s ++ scope) rest (λ x at. behind x (inr at)) loops.2)

pub unshadowed : (p : Program) (mode : Mode) → Formed p mode → HasFirstParts p → HasSteps p → IsUnshadowed p
unshadowed p mode formed firsts steps f at =
    sites_new f [] f.1.params f.1.body
    (λ x here. site_new p mode formed x (in_flat_map sites_in (enumerate_from 0 p.functions) f x (in_of (enumerate_from 0 p.functions) f at) here))
    (both_everywhere ForFits ForSteps LoopFits (λ s x y. (x, y)) (bare_stmts f.1.body) (firsts f at) (steps f at))

pub formed_unshadowed : (p : Program) (mode : Mode) → Formed p mode → ShapedProgram (bare_program p) → IsUnshadowed p
formed_unshadowed p mode formed shape = unshadowed p mode formed (has_first_parts p shape) (has_steps p shape)
