-- Where main creates and joins threads.
use Rattle.std.proofs.Common.{Bool, List, [], ap, false, inl, inr, not, refl, sym, true, ℕ, ◌++◌, ◌||◌, ◌∙◌, ◌∷◌, ◌≡◌}
use Rattle.std.specs.Prelude.{map}
use Rattle.std.specs.List.{enumerate_from, list_any}
use Rattle.c_tree.specs.declared.program.Mode.{Mode}
use Rattle.c_tree.specs.Bare as bare
use Rattle.c_tree.specs.Lined.{Cons, Create, Function, Join, Nil, Program, Stmt, Stmts, bare_stmt, bare_stmts}
use Rattle.c_tree.specs.Expressions.{Place}
use Rattle.c_rules.specs.Sites.{Site, declared, inner_site, inside, own_site, sites, sites_from, sites_in}
use Rattle.c_rules.specs.Threads.{creates_in, is_fixed, joins_in}
use Rattle.c_rules.specs.Formed.{KeepsRules}
use Rattle.c_rules.specs.Naming.{inner}
use Rattle.c_rules.proofs.Members.{In, in_append_left, in_append_right, in_flat_map, in_map}
use Rattle.rule_facts.proofs.Everything.{everywhere_inside}
use Rattle.rule_facts.proofs.Fixing.{fixed_create, join_free, joined_main}
use Rattle.rule_facts.specs.Threading.{ThreadBehind, ThreadFree, ThreadsBehind, ThreadsOwn, creates_slot, joins_slot}

-- ---- creates and joins stand in no arm and no body

thread_free : (p : Program) (mode : Mode) → KeepsRules p mode → (x : Site) → In x (sites p) → x.own ≡ false → ThreadFree (bare_stmt x.stmt)
thread_free p mode keeps x at inner = go x.stmt refl
  where
    go : (s : Stmt) → x.stmt ≡ s → ThreadFree (bare_stmt s)
    go (Create line slot name arg) is = let k : false ≡ true = sym inner ∙ (fixed_create p mode keeps x at line slot name arg is).own in absurd (cc k)
    go (Join line slot) is = let k : false ≡ true = sym inner ∙ (joined_main p mode keeps x at line slot is).1 in absurd (cc k)
    go s is = tt

own_from : (p : Program) (mode : Mode) → KeepsRules p mode → (f : ℕ × Function) (before : List Stmt) (scope : List (List ℕ)) (ss : Stmts) → ((x : Site) → In x (sites_from f before scope ss) → In x (sites p))
    → ThreadsOwn (bare_stmts ss)
own_from p mode keeps f before scope Nil all = tt
own_from p mode keeps f before scope (Cons s rest) all =
    let ins = map (inner_site f before s) (inside scope s) in
    let others = sites_from f (s ∷ before) (declared s ++ scope) rest in (
      everywhere_inside ThreadFree scope s (λ y at. thread_free p mode keeps (inner_site f before s y)
          (all (inner_site f before s y) (in_append_left ins (own_site f before scope s ∷ others) (inner_site f before s y) (in_map (inner_site f before s) (inside scope s) y at))) refl),
      own_from p mode keeps f (s ∷ before) (declared s ++ scope) rest (λ x at. all x (in_append_right ins (own_site f before scope s ∷ others) x (inr at))),
    )

pub threads_own : (p : Program) (mode : Mode) → KeepsRules p mode → (f : ℕ × Function) → In f (enumerate_from 0 p.functions) → ThreadsOwn (bare_stmts f.1.body)
threads_own p mode keeps f at = own_from p mode keeps f [] f.1.params f.1.body (λ x here. in_flat_map sites_in (enumerate_from 0 p.functions) f x at here)

-- ---- behind others

creates_so : (slot : Place) (s : Stmt) → creates_in slot s ≡ creates_slot slot (bare_stmt s)
creates_so slot (Create line other name arg) = refl
creates_so slot s = refl

joins_so : (slot : Place) (s : Stmt) → joins_in slot s ≡ joins_slot slot (bare_stmt s)
joins_so slot (Join line other) = refl
joins_so slot s = refl

any_bare : (test : Stmt → Bool) (other : bare.Stmt → Bool) → ((s : Stmt) → test s ≡ other (bare_stmt s)) → (ss : List Stmt) → list_any test ss ≡ list_any other (map bare_stmt ss)
any_bare test other same [] = refl
any_bare test other same (s ∷ ss) = ap (λ b. b || list_any test ss) (same s) ∙ ap (λ b. other (bare_stmt s) || b) (any_bare test other same ss)

parts : (a b c : Bool) → (not a || not b || c) ≡ false → (b ≡ true) × (c ≡ false)
parts true true c e = (refl, e)
parts true false c e = absurd (cc e)
parts false b c e = absurd (cc e)

thread_behind : (p : Program) (mode : Mode) → KeepsRules p mode → (f : ℕ × Function) (before : List Stmt) (scope : List (List ℕ)) (s : Stmt) → In (own_site f before scope s) (sites p)
    → ThreadBehind (map bare_stmt before) (bare_stmt s)
thread_behind p mode keeps f before scope (Create line slot name arg) at =
    sym (any_bare (creates_in slot) (creates_slot slot) (creates_so slot) before) ∙ (fixed_create p mode keeps (own_site f before scope (Create line slot name arg)) at line slot name arg refl).first
thread_behind p mode keeps f before scope (Join line slot) at =
    let site = own_site f before scope (Join line slot) in
    let k = parts (is_fixed p site slot) (list_any (creates_in slot) before) (list_any (joins_in slot) before) (join_free p mode keeps site at line slot refl) in
    (sym (any_bare (creates_in slot) (creates_slot slot) (creates_so slot) before) ∙ k.0, sym (any_bare (joins_in slot) (joins_slot slot) (joins_so slot) before) ∙ k.1)
thread_behind p mode keeps f before scope s at = tt

behind_from : (p : Program) (mode : Mode) → KeepsRules p mode → (f : ℕ × Function) (before : List Stmt) (scope : List (List ℕ)) (ss : Stmts) → ((x : Site) → In x (sites_from f before scope ss) → In x (sites p))
    → ThreadsBehind (map bare_stmt before) (bare_stmts ss)
behind_from p mode keeps f before scope Nil all = tt
behind_from p mode keeps f before scope (Cons s rest) all =
    let ins = map (inner_site f before s) (inside scope s) in
    let others = sites_from f (s ∷ before) (declared s ++ scope) rest in (
      thread_behind p mode keeps f before scope s (all (own_site f before scope s) (in_append_right ins (own_site f before scope s ∷ others) (own_site f before scope s) (inl refl))),
      behind_from p mode keeps f (s ∷ before) (declared s ++ scope) rest (λ x at. all x (in_append_right ins (own_site f before scope s ∷ others) x (inr at))),
    )

pub threads_behind : (p : Program) (mode : Mode) → KeepsRules p mode → (f : ℕ × Function) → In f (enumerate_from 0 p.functions) → ThreadsBehind [] (bare_stmts f.1.body)
threads_behind p mode keeps f at = behind_from p mode keeps f [] f.1.params f.1.body (λ x here. in_flat_map sites_in (enumerate_from 0 p.functions) f x at here)
