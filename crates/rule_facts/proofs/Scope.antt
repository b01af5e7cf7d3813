-- What is in scope at a statement is declared: as a parameter, or by a statement of its function.
use Rattle.std.proofs.Common.{List, [], inl, inr, refl, subst, sym, true, ℕ, ◌++◌, ◌∷◌, ◌≡◌, ◌⊎◌}
use Rattle.std.specs.Prelude.{bytes_eq, flat_map, map}
use Rattle.std.specs.List.{enumerate_from}
use Rattle.std.proofs.lemmas.Slice.Eq.{bytes_eq-Decides}
use Rattle.c_tree.specs.Lined.{Cons, Declare, For, Function, If, Nil, Program, Stmt, Stmts, TryLock, While}
use Rattle.c_rules.specs.Sites.{Site, Standing, declared, inner_site, inside, listed, locals_of, own_site, sites, sites_from, sites_in}
use Rattle.c_rules.specs.Names.{mentions}
use Rattle.c_rules.specs.Naming.{Inner, inner, local_in, parameters, parameters_from}
use Rattle.c_rules.specs.Meaning.{opened, visible}
use Rattle.c_rules.proofs.Members.{From, Image, In, Passing, from, from_any, from_flat_map, from_map, image, in_append_cases, in_append_left, in_append_right, in_flat_map, in_map, passing}
use Rattle.rule_facts.proofs.Places.{in_functions}

-- a name that one of these statements declares
pub data Among (n : List ℕ) (xs : List Standing) : Type 0 where
  shown : (x : Standing) → In x xs → In n (declared x.stmt) → Among n xs

left : (n : List ℕ) (xs ys : List Standing) → Among n xs → Among n (xs ++ ys)
left n xs ys (Among.shown x at is) = Among.shown x (in_append_left xs ys x at) is

right : (n : List ℕ) (xs ys : List Standing) → Among n ys → Among n (xs ++ ys)
right n xs ys (Among.shown x at is) = Among.shown x (in_append_right xs ys x at) is

locals_among : (n : List ℕ) (scope : List (List ℕ)) (ss : Stmts) → In n (locals_of ss) → Among n (listed scope ss)
locals_among n scope Nil at = absurd at
locals_among n scope (Cons s rest) at = elim (in_append_cases (locals_of rest) (declared s) n at) [
  | inl h ↦ right n (inside scope s) (record { stmt = s; scope = scope } ∷ listed (declared s ++ scope) rest)
      (right n (record { stmt = s; scope = scope } ∷ []) (listed (declared s ++ scope) rest) (locals_among n (declared s ++ scope) rest h))
  | inr h ↦ right n (inside scope s) (record { stmt = s; scope = scope } ∷ listed (declared s ++ scope) rest) (Among.shown (record { stmt = s; scope = scope }) (inl refl) h)
]

-- what a statement opens is declared by it or inside it
opened_among : (n : List ℕ) (scope : List (List ℕ)) (s : Stmt) (ys : List Standing) → In n (opened s) → Among n (inside scope s ++ record { stmt = s; scope = scope } ∷ ys)
opened_among n scope (For line f test step body) ys at =
    left n (listed scope f ++ listed (locals_of f ++ scope) step ++ listed (locals_of f ++ scope) body) (record { stmt = For line f test step body; scope = scope } ∷ ys)
    (left n (listed scope f ++ listed (locals_of f ++ scope) step) (listed (locals_of f ++ scope) body) (left n (listed scope f) (listed (locals_of f ++ scope) step) (locals_among n scope f at)))
opened_among n scope (Declare line name value) ys at = Among.shown (record { stmt = Declare line name value; scope = scope }) (inl refl) at
opened_among n scope s ys at = absurd at

-- in scope before, or declared among these
abbrev Known : List ℕ → List (List ℕ) → List Standing → Type 0
Known n scope xs = In n scope ⊎ Among n xs

known_left : (n : List ℕ) (scope : List (List ℕ)) (xs ys : List Standing) → Known n scope xs → Known n scope (xs ++ ys)
known_left n scope xs ys (inl h) = inl h
known_left n scope xs ys (inr h) = inr (left n xs ys h)

known_right : (n : List ℕ) (scope : List (List ℕ)) (xs ys : List Standing) → Known n scope ys → Known n scope (xs ++ ys)
known_right n scope xs ys (inl h) = inl h
known_right n scope xs ys (inr h) = inr (right n xs ys h)

-- more was in scope, that is declared before
known_more : (n : List ℕ) (more scope : List (List ℕ)) (xs ys : List Standing) → (In n more → Among n xs) → Known n (more ++ scope) ys → Known n scope (xs ++ ys)
known_more n more scope xs ys there (inr h) = inr (right n xs ys h)
known_more n more scope xs ys there (inl h) = elim (in_append_cases more scope n h) [ inl k ↦ inr (left n xs ys (there k)) | inr k ↦ inl k ]

abbrev at_once : (n : List ℕ) (x : Standing) → Type 0
at_once n x = In n (opened x.stmt ++ x.scope)

-- a statement, and those behind it
known_behind : (n : List ℕ) (scope : List (List ℕ)) (s : Stmt) (others : List Standing) (x : Standing) → In x (record { stmt = s; scope = scope } ∷ others) → at_once n x
    → (In x others → Known n (declared s ++ scope) others) → Known n scope (inside scope s ++ record { stmt = s; scope = scope } ∷ others)
known_behind n scope s others x (inl e) is more =
    elim (in_append_cases (opened s) scope n (subst (at_once n) (sym e) is)) [ inl k ↦ inr (opened_among n scope s others k) | inr k ↦ inl k ]
known_behind n scope s others x (inr h) is more =
    let self : Standing = record { stmt = s; scope = scope } in
    known_right n scope (inside scope s) (self ∷ others)
    (known_more n (declared s) scope (self ∷ []) others (λ k. Among.shown self (inl refl) k) (more h))

mutual
  inside_known : (n : List ℕ) (scope : List (List ℕ)) (s : Stmt) (x : Standing) → In x (inside scope s) → at_once n x → Known n scope (inside scope s)
  inside_known n scope (If line test a b) x at is = elim (in_append_cases (listed scope a) (listed scope b) x at) [
    | inl h ↦ known_left n scope (listed scope a) (listed scope b) (listed_known n scope a x h is)
    | inr h ↦ known_right n scope (listed scope a) (listed scope b) (listed_known n scope b x h is)
  ]
  inside_known n scope (TryLock line place a b) x at is = elim (in_append_cases (listed scope a) (listed scope b) x at) [
    | inl h ↦ known_left n scope (listed scope a) (listed scope b) (listed_known n scope a x h is)
    | inr h ↦ known_right n scope (listed scope a) (listed scope b) (listed_known n scope b x h is)
  ]
  inside_known n scope (While line test body) x at is = listed_known n scope body x at is
  inside_known n scope (For line f test step body) x at is =
      let there = locals_among n scope f in
      let inner = locals_of f ++ scope in
      elim (in_append_cases (listed scope f ++ listed inner step) (listed inner body) x at) [
        | inl h ↦ known_left n scope (listed scope f ++ listed inner step) (listed inner body) (elim (in_append_cases (listed scope f) (listed inner step) x h) [
          | inl k ↦ known_left n scope (listed scope f) (listed inner step) (listed_known n scope f x k is)
          | inr k ↦ known_more n (locals_of f) scope (listed scope f) (listed inner step) there (listed_known n inner step x k is)
        ])
        | inr h ↦ known_more n (locals_of f) scope (listed scope f ++ listed inner step) (listed inner body)
            (λ k. left n (listed scope f) (listed inner step) (there k)) (listed_known n inner body x h is)
      ]
  inside_known n scope s x at is = absurd at

  listed_known : (n : List ℕ) (scope : List (List ℕ)) (ss : Stmts) (x : Standing) → In x (listed scope ss) → at_once n x → Known n scope (listed scope ss)
  listed_known n scope Nil x at is = absurd at
  listed_known n scope (Cons s rest) x at is =
      let self : Standing = record { stmt = s; scope = scope } in
      let others = listed (declared s ++ scope) rest in
      elim (in_append_cases (inside scope s) (self ∷ others) x at) [
        | inl h ↦ known_left n scope (inside scope s) (self ∷ others) (inside_known n scope s x h is)
        | inr h ↦ known_behind n scope s others x h is (λ k. listed_known n (declared s ++ scope) rest x k is)
      ]

-- ---- sites

pub data Declaring (n : List ℕ) (xs : List Site) : Type 0 where
  declaring : (x : Site) → In x xs → In n (declared x.stmt) → Declaring n xs

declaring_left : (n : List ℕ) (xs ys : List Site) → Declaring n xs → Declaring n (xs ++ ys)
declaring_left n xs ys (Declaring.declaring x at is) = Declaring.declaring x (in_append_left xs ys x at) is

declaring_right : (n : List ℕ) (xs ys : List Site) → Declaring n ys → Declaring n (xs ++ ys)
declaring_right n xs ys (Declaring.declaring x at is) = Declaring.declaring x (in_append_right xs ys x at) is

-- the statements inside one, and the one itself, as sites
as_sites : (n : List ℕ) (f : ℕ × Function) (before : List Stmt) (scope : List (List ℕ)) (s : Stmt) (ys : List Site)
    → Among n (inside scope s ++ record { stmt = s; scope = scope } ∷ []) → Declaring n (map (inner_site f before s) (inside scope s) ++ own_site f before scope s ∷ ys)
as_sites n f before scope s ys (Among.shown x at is) = elim (in_append_cases (inside scope s) (record { stmt = s; scope = scope } ∷ []) x at) [
  | inl h ↦ Declaring.declaring (inner_site f before s x) (in_append_left (map (inner_site f before s) (inside scope s)) (own_site f before scope s ∷ ys) (inner_site f before s x) (in_map (inner_site f before s) (inside scope s) x h)) is
  | inr h ↦ elim h [
    | inl e ↦ Declaring.declaring (own_site f before scope s) (in_append_right (map (inner_site f before s) (inside scope s)) (own_site f before scope s ∷ ys) (own_site f before scope s) (inl refl)) (subst (λ (y : Standing). In n (declared y.stmt)) (sym e) is)
    | inr none ↦ absurd none
  ]
]

known_site : (n : List ℕ) (f : ℕ × Function) (before : List Stmt) (scope : List (List ℕ)) (s : Stmt) (ys : List Site) (x : Standing) → In x (inside scope s ++ record { stmt = s; scope = scope } ∷ []) → at_once n x
    → In n scope ⊎ Declaring n (map (inner_site f before s) (inside scope s) ++ own_site f before scope s ∷ ys)
known_site n f before scope s ys x at is = by (elim (in_append_cases (inside scope s) (record { stmt = s; scope = scope } ∷ []) x at) [
  | inl h ↦ known_left n scope (inside scope s) (record { stmt = s; scope = scope } ∷ []) (inside_known n scope s x h is)
  | inr h ↦ known_behind n scope s [] x h is (λ k. absurd k)
])
  where
    by : Known n scope (inside scope s ++ record { stmt = s; scope = scope } ∷ []) → In n scope ⊎ Declaring n (map (inner_site f before s) (inside scope s) ++ own_site f before scope s ∷ ys)
    by (inl h) = inl h
    by (inr h) = inr (as_sites n f before scope s ys h)

sites_known : (n : List ℕ) (f : ℕ × Function) (before : List Stmt) (scope : List (List ℕ)) (ss : Stmts) (x : Site) → In x (sites_from f before scope ss) → In n (visible x)
    → In n scope ⊎ Declaring n (sites_from f before scope ss)
sites_known n f before scope Nil x at is = absurd at
sites_known n f before scope (Cons s rest) x at is =
    let ins = map (inner_site f before s) (inside scope s) in
    let others = sites_from f (s ∷ before) (declared s ++ scope) rest in
    elim (in_append_cases ins (own_site f before scope s ∷ others) x at) [
      | inl h ↦ of_inner (from_map (inner_site f before s) (inside scope s) x h)
      | inr h ↦ elim h [
        | inl e ↦ known_site n f before scope s others (record { stmt = s; scope = scope }) (in_append_right (inside scope s) (record { stmt = s; scope = scope } ∷ []) (record { stmt = s; scope = scope }) (inl refl)) (subst (λ y. In n (visible y)) (sym e) is)
        | inr k ↦ behind (sites_known n f (s ∷ before) (declared s ++ scope) rest x k is)
      ]
    ]
  where
    of_inner : Image (inner_site f before s) (inside scope s) x → In n scope ⊎ Declaring n (sites_from f before scope (Cons s rest))
    of_inner (image y among e) =
        known_site n f before scope s (sites_from f (s ∷ before) (declared s ++ scope) rest) y (in_append_left (inside scope s) (record { stmt = s; scope = scope } ∷ []) y among) (subst (λ z. In n (visible z)) (sym e) is)

    own : In n (declared s) → Declaring n (sites_from f before scope (Cons s rest))
    own h = Declaring.declaring (own_site f before scope s) (in_append_right (map (inner_site f before s) (inside scope s)) (own_site f before scope s ∷ sites_from f (s ∷ before) (declared s ++ scope) rest) (own_site f before scope s) (inl refl)) h

    behind : In n (declared s ++ scope) ⊎ Declaring n (sites_from f (s ∷ before) (declared s ++ scope) rest) → In n scope ⊎ Declaring n (sites_from f before scope (Cons s rest))
    behind (inl h) = elim (in_append_cases (declared s) scope n h) [ inl k ↦ inr (own k) | inr k ↦ inl k ]
    behind (inr h) = inr (declaring_right n (map (inner_site f before s) (inside scope s)) (own_site f before scope s ∷ sites_from f (s ∷ before) (declared s ++ scope) rest)
        (declaring_right n (own_site f before scope s ∷ []) (sites_from f (s ∷ before) (declared s ++ scope) rest) h))

-- ---- programs

pub data IsInner (p : Program) (n : List ℕ) : Type 0 where
  is_inner : (l : Inner) → In l (inner p) → l.name ≡ n → IsInner p n

pub data Parameter (ls : List Inner) (n : List ℕ) : Type 0 where
  parameter : (l : Inner) → In l ls → l.name ≡ n → Parameter ls n

parameter_more : (l : Inner) (ls : List Inner) (n : List ℕ) → Parameter ls n → Parameter (l ∷ ls) n
parameter_more l ls n (Parameter.parameter m at e) = Parameter.parameter m (inr at) e

parameter_of : (line : ℕ) (before ps : List (List ℕ)) (n : List ℕ) → In n ps → Parameter (parameters_from line before ps) n
parameter_of line before [] n at = absurd at
parameter_of line before (m ∷ ms) n (inl e) = Parameter.parameter (record { name = m; line = line; scope = before }) (inl refl) e
parameter_of line before (m ∷ ms) n (inr at) = parameter_more (record { name = m; line = line; scope = before }) (parameters_from line (m ∷ before) ms) n (parameter_of line (m ∷ before) ms n at)

local_of : (scope : List (List ℕ)) (s : Stmt) (n : List ℕ) → In n (declared s) → Parameter (local_in scope s) n
local_of scope (Declare line name value) n (inl e) = Parameter.parameter (record { name = name; line = line; scope = scope }) (inl refl) e
local_of scope (Declare line name value) n (inr h) = absurd h
local_of scope s n at = absurd at

in_function : (p : Program) (f : ℕ × Function) → In f (enumerate_from 0 p.functions) → (n : List ℕ) → In n f.1.params ⊎ Declaring n (sites_in f) → IsInner p n
in_function p f at n (inl h) = by (parameter_of f.1.line [] f.1.params n h)
  where
    by : Parameter (parameters f.1) n → IsInner p n
    by (Parameter.parameter l among e) =
        IsInner.is_inner l (in_append_left (flat_map parameters p.functions) (flat_map (λ (site : Site). local_in site.scope site.stmt) (sites p)) l
        (in_flat_map parameters p.functions f.1 l (in_functions 0 p.functions f at) among)) e
in_function p f at n (inr (Declaring.declaring x among is)) = by (local_of x.scope x.stmt n is)
  where
    by : Parameter (local_in x.scope x.stmt) n → IsInner p n
    by (Parameter.parameter l in_x e) =
        IsInner.is_inner l (in_append_right (flat_map parameters p.functions) (flat_map (λ (site : Site). local_in site.scope site.stmt) (sites p)) l
        (in_flat_map (λ (site : Site). local_in site.scope site.stmt) (sites p) x l (in_flat_map sites_in (enumerate_from 0 p.functions) f x at among) in_x)) e

in_of_mentions : (ns : List (List ℕ)) (n : List ℕ) → mentions ns n ≡ true → In n ns
in_of_mentions ns n e = by (from_any (bytes_eq n) ns e)
  where
    by : Passing (bytes_eq n) ns → In n ns
    by (passing m at is) = subst (λ k. In k ns) (sym ((bytes_eq-Decides n m).0 is)) at

-- a local or a parameter that is in scope is one of the program
pub visible_inner : (p : Program) (x : Site) → In x (sites p) → (n : List ℕ) → mentions (visible x) n ≡ true → IsInner p n
visible_inner p x at n is = by (from_flat_map sites_in (enumerate_from 0 p.functions) x at)
  where
    by : From sites_in (enumerate_from 0 p.functions) x → IsInner p n
    by (from f among here) = in_function p f among n (sites_known n f [] f.1.params f.1.body x here (in_of_mentions (visible x) n is))
