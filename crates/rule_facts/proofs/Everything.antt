-- What holds at each site holds of each statement of a body, and the other way.
use Rattle.std.proofs.Common.{List, [], ap, inl, inr, refl, subst, sym, ℕ, ◌++◌, ◌∷◌, ◌≡◌}
use Rattle.std.specs.Prelude.{map}
use Rattle.std.specs.List.{enumerate_from}
use Rattle.c_tree.specs.Bare as bare
use Rattle.c_tree.specs.Lined.{Cons, For, Function, If, Nil, Program, Stmt, Stmts, TryLock, While, bare_stmt, bare_stmts}
use Rattle.c_tree.specs.Everywhere.{Everywhere, EverywhereInside}
use Rattle.c_rules.specs.Sites.{Site, Standing, declared, inner_site, inside, listed, locals_of, own_site, sites_from, sites_in}
use Rattle.c_rules.proofs.Members.{Image, In, from_map, image, in_append_cases, in_append_left, in_append_right, in_map}

-- a fact of each of these statements
abbrev pub Each : (bare.Stmt → Type 0) → List Standing → Type 0
Each P xs = (x : Standing) → In x xs → P (bare_stmt x.stmt)

each_left : (P : bare.Stmt → Type 0) (xs ys : List Standing) → Each P (xs ++ ys) → Each P xs
each_left P xs ys all x at = all x (in_append_left xs ys x at)

each_right : (P : bare.Stmt → Type 0) (xs ys : List Standing) → Each P (xs ++ ys) → Each P ys
each_right P xs ys all x at = all x (in_append_right xs ys x at)

mutual
  pub everywhere_inside : (P : bare.Stmt → Type 0) (scope : List (List ℕ)) (s : Stmt) → Each P (inside scope s) → EverywhereInside P (bare_stmt s)
  everywhere_inside P scope (If line test a b) all =
      (everywhere P scope a (each_left P (listed scope a) (listed scope b) all), everywhere P scope b (each_right P (listed scope a) (listed scope b) all))
  everywhere_inside P scope (TryLock line place a b) all =
      (everywhere P scope a (each_left P (listed scope a) (listed scope b) all), everywhere P scope b (each_right P (listed scope a) (listed scope b) all))
  everywhere_inside P scope (While line test body) all = everywhere P scope body all
  everywhere_inside P scope (For line f test step body) all =
      let inner = locals_of f ++ scope in
      let front = each_left P (listed scope f ++ listed inner step) (listed inner body) all in (
        everywhere P scope f (each_left P (listed scope f) (listed inner step) front),
        everywhere P inner step (each_right P (listed scope f) (listed inner step) front),
        everywhere P inner body (each_right P (listed scope f ++ listed inner step) (listed inner body) all),
      )
  everywhere_inside P scope s all = tt

  pub everywhere : (P : bare.Stmt → Type 0) (scope : List (List ℕ)) (ss : Stmts) → Each P (listed scope ss) → Everywhere P (bare_stmts ss)
  everywhere P scope Nil all = tt
  everywhere P scope (Cons s rest) all =
      let self : Standing = record { stmt = s; scope = scope } in
      let others = listed (declared s ++ scope) rest in
      let behind : Each P (self ∷ others) = each_right P (inside scope s) (self ∷ others) all in
      (behind self (inl refl), everywhere_inside P scope s (each_left P (inside scope s) (self ∷ others) all), everywhere P (declared s ++ scope) rest (λ x at. behind x (inr at)))

mutual
  pub each_inside : (P : bare.Stmt → Type 0) (scope : List (List ℕ)) (s : Stmt) → EverywhereInside P (bare_stmt s) → Each P (inside scope s)
  each_inside P scope (If line test a b) all x at = elim (in_append_cases (listed scope a) (listed scope b) x at) [
    | inl h ↦ each_listed P scope a all.0 x h
    | inr h ↦ each_listed P scope b all.1 x h
  ]
  each_inside P scope (TryLock line place a b) all x at = elim (in_append_cases (listed scope a) (listed scope b) x at) [
    | inl h ↦ each_listed P scope a all.0 x h
    | inr h ↦ each_listed P scope b all.1 x h
  ]
  each_inside P scope (While line test body) all x at = each_listed P scope body all x at
  each_inside P scope (For line f test step body) all x at =
      let inner = locals_of f ++ scope in
      elim (in_append_cases (listed scope f ++ listed inner step) (listed inner body) x at) [
        | inl h ↦ elim (in_append_cases (listed scope f) (listed inner step) x h) [
          | inl k ↦ each_listed P scope f all.0 x k
          | inr k ↦ each_listed P inner step all.1 x k
        ]
        | inr h ↦ each_listed P inner body all.2 x h
      ]
  each_inside P scope s all x at = absurd at

  pub each_listed : (P : bare.Stmt → Type 0) (scope : List (List ℕ)) (ss : Stmts) → Everywhere P (bare_stmts ss) → Each P (listed scope ss)
  each_listed P scope Nil all x at = absurd at
  each_listed P scope (Cons s rest) all x at =
      let self : Standing = record { stmt = s; scope = scope } in
      let others = listed (declared s ++ scope) rest in
      elim (in_append_cases (inside scope s) (self ∷ others) x at) [
        | inl h ↦ each_inside P scope s all.1 x h
        | inr h ↦ elim h [
          | inl e ↦ subst (λ (y : Standing). P (bare_stmt y.stmt)) e all.0
          | inr k ↦ each_listed P (declared s ++ scope) rest all.2 x k
        ]
      ]

-- ---- sites

pub everywhere_from : (P : bare.Stmt → Type 0) (f : ℕ × Function) (before : List Stmt) (scope : List (List ℕ)) (ss : Stmts)
    → ((x : Site) → In x (sites_from f before scope ss) → P (bare_stmt x.stmt)) → Everywhere P (bare_stmts ss)
everywhere_from P f before scope Nil all = tt
everywhere_from P f before scope (Cons s rest) all =
    let ins = map (inner_site f before s) (inside scope s) in
    let others = sites_from f (s ∷ before) (declared s ++ scope) rest in (
      all (own_site f before scope s) (in_append_right ins (own_site f before scope s ∷ others) (own_site f before scope s) (inl refl)),
      everywhere_inside P scope s (λ x at. all (inner_site f before s x) (in_append_left ins (own_site f before scope s ∷ others) (inner_site f before s x) (in_map (inner_site f before s) (inside scope s) x at))),
      everywhere_from P f (s ∷ before) (declared s ++ scope) rest (λ x at. all x (in_append_right ins (own_site f before scope s ∷ others) x (inr at))),
    )

pub each_from : (P : bare.Stmt → Type 0) (f : ℕ × Function) (before : List Stmt) (scope : List (List ℕ)) (ss : Stmts) → Everywhere P (bare_stmts ss)
    → (x : Site) → In x (sites_from f before scope ss) → P (bare_stmt x.stmt)
each_from P f before scope Nil all x at = absurd at
each_from P f before scope (Cons s rest) all x at =
    let ins = map (inner_site f before s) (inside scope s) in
    let others = sites_from f (s ∷ before) (declared s ++ scope) rest in
    elim (in_append_cases ins (own_site f before scope s ∷ others) x at) [
      | inl h ↦ of_inner all.1 (from_map (inner_site f before s) (inside scope s) x h)
      | inr h ↦ elim h [
        | inl e ↦ subst (λ (y : Site). P (bare_stmt y.stmt)) e all.0
        | inr k ↦ each_from P f (s ∷ before) (declared s ++ scope) rest all.2 x k
      ]
    ]
  where
    of_inner : EverywhereInside P (bare_stmt s) → Image (inner_site f before s) (inside scope s) x → P (bare_stmt x.stmt)
    of_inner all (image y among e) = subst (λ (z : Site). P (bare_stmt z.stmt)) e (each_inside P scope s all y among)

-- a fact of each statement of a program, function by function
pub everywhere_in : (P : ℕ × Function → bare.Stmt → Type 0) (p : Program) → ((f : ℕ × Function) (x : Site) → In f (enumerate_from 0 p.functions) → In x (sites_in f) → P f (bare_stmt x.stmt))
    → (f : ℕ × Function) → In f (enumerate_from 0 p.functions) → Everywhere (P f) (bare_stmts f.1.body)
everywhere_in P p all f at = everywhere_from (P f) f [] f.1.params f.1.body (λ x here. all f x at here)

pub site_of : (f : ℕ × Function) (before : List Stmt) (scope : List (List ℕ)) (ss : Stmts) (x : Site) → In x (sites_from f before scope ss) → (x.place ≡ f.0) × (x.function ≡ f.1)
site_of f before scope Nil x at = absurd at
site_of f before scope (Cons s rest) x at =
    elim (in_append_cases (map (inner_site f before s) (inside scope s)) (own_site f before scope s ∷ sites_from f (s ∷ before) (declared s ++ scope) rest) x at) [
      | inl h ↦ of (from_map (inner_site f before s) (inside scope s) x h)
      | inr h ↦ elim h [
        | inl e ↦ (ap (λ (z : Site). z.place) (sym e), ap (λ (z : Site). z.function) (sym e))
        | inr k ↦ site_of f (s ∷ before) (declared s ++ scope) rest x k
      ]
    ]
  where
    of : Image (inner_site f before s) (inside scope s) x → (x.place ≡ f.0) × (x.function ≡ f.1)
    of (image y among e) = (ap (λ (z : Site). z.place) (sym e), ap (λ (z : Site). z.function) (sym e))
