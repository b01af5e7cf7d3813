-- What functions break is what their parameters and each of their statements break, where they stand.
use Rattle.std.proofs.Common.{◌≡◌, ℕ, Bool, true, false, not, ◌&&◌, ◌||◌, List, [], ◌∷◌, ◌++◌, length, map, refl, sym, ap, ◌∙◌, append_assoc}
use Rattle.std.specs.Prelude.{flat_map}
use Rattle.std.specs.List.{list_any}
use Rattle.c_tree.specs.declared.program.Mode.{Mode}
use Rattle.c_tree.specs.Expressions.{Place}
use Rattle.c_tree.specs.Lined.{Stmt, Stmts, Nil, Cons, Create, Join, Function, Program}
use Rattle.c_rules.specs.Names.{mentions}
use Rattle.c_rules.specs.Declarations.{declaration_of}
use Rattle.c_rules.specs.Sites.{Site, Standing, declared, inside, own_site, inner_site, sites_from, sites_in, is_main}
use Rattle.c_rules.specs.Threads.{is_fixed_index, thread_len, creates_in, joins_in, is_unfixed_create, is_unfixed_join}
use Rattle.c_rules.specs.Meaning.{meaning}
use Rattle.c_rules.specs.Objects.{has_active}
use Rattle.c_acts.specs.declared.first.Break.{Break}
use Rattle.c_acts.specs.Uses.{Around}
use Rattle.c_check.specs.Walk.{with_names}
use Rattle.c_check.specs.Own.{Past, create_added, join_added, added, is_unfixed, is_late, own_breaks}
use Rattle.c_check.specs.Functions.{parameter_breaks, none_inside, function_breaks, around_of}
use Rattle.c_acts.proofs.Noted.{flat_append}
use Rattle.c_check.proofs.Walks.{same_tests}
use Rattle.c_check.proofs.Nodes.{node, nested, scope_more, stmt_eq, acts_eq}

abbrev pub around_at : Program → Mode → ℕ × Function → Around
around_at p mode f = around_of (declaration_of p) mode (length p.monitors) f

-- a create or a join that isn't fixed
abbrev pub unfixed_at : Program → Site → Stmt → Bool
unfixed_at p site (Create line slot function arg) = is_unfixed_create p site (Create line slot function arg)
unfixed_at p site (Join line slot) = is_unfixed_join p site (Join line slot)
unfixed_at p site s = false

-- an init comes late
abbrev pub late_at : Site → Bool
late_at site = not (is_main site.function) || list_any has_active (site.holder ∷ site.before)

-- what a statement breaks where it stands
abbrev pub site_breaks : Program → Mode → Site → List Break
site_breaks p mode site = node (around_at p mode (site.place, site.function)) (mentions site.scope) (unfixed_at p site site.stmt) (late_at site) site.stmt

-- what is past behind these statements
abbrev pub past_from : List Stmt → Past
past_from before = record { created = λ slot. list_any (creates_in slot) before; joined = λ slot. list_any (joins_in slot) before; active = list_any has_active before }

created_eq : (before : List Stmt) (s : Stmt) (slot : Place) → create_added (λ x. list_any (creates_in x) before) s slot ≡ list_any (creates_in slot) (s ∷ before)
created_eq before (Create line other function arg) slot = refl
created_eq before s slot = refl

joined_eq : (before : List Stmt) (s : Stmt) (slot : Place) → join_added (λ x. list_any (joins_in x) before) s slot ≡ list_any (joins_in slot) (s ∷ before)
joined_eq before (Join line other) slot = refl
joined_eq before s slot = refl

past_more : (before : List Stmt) (s : Stmt) → added (past_from before) s ≡ past_from (s ∷ before)
past_more before s = λ i. record {
  created = λ slot. created_eq before s slot i;
  joined = λ slot. joined_eq before s slot i;
  active = ap (λ b. b || list_any has_active before) (acts_eq s) i;
}

own_place : (m x y : Bool) → (not (m && x) || y) ≡ (not ((m && true) && x) || y)
own_place true x y = refl
own_place false x y = refl

own_join : (m x c j : Bool) → (not (m && x) || (not c || j)) ≡ ((not ((m && true) && x) || not c) || j)
own_join true true c j = refl
own_join true false c j = refl
own_join false x c j = refl

-- at a statement of the own list
unfixed_own : (p : Program) (mode : Mode) (f : ℕ × Function) (before : List Stmt) (scope : List (List ℕ)) (s : Stmt)
    → is_unfixed (around_at p mode f) (mentions scope) (is_main f.1) (past_from before) s ≡ unfixed_at p (own_site f before scope s) s
unfixed_own p mode f before scope (Create line slot function arg) =
    own_place (is_main f.1) (is_fixed_index (thread_len (meaning p (own_site f before scope (Create line slot function arg)) slot.name)) slot.index) (list_any (creates_in slot) before)
unfixed_own p mode f before scope (Join line slot) =
    own_join (is_main f.1) (is_fixed_index (thread_len (meaning p (own_site f before scope (Join line slot)) slot.name)) slot.index) (list_any (creates_in slot) before) (list_any (joins_in slot) before)
unfixed_own p mode f before scope s = refl

late_own : (f : ℕ × Function) (before : List Stmt) (s : Stmt) → is_late (is_main f.1) (past_from before) s ≡ (not (is_main f.1) || list_any has_active (s ∷ before))
late_own f before s = ap (λ b. not (is_main f.1) || (b || list_any has_active before)) (acts_eq s)

inner_place : (m x y : Bool) → true ≡ (not ((m && false) && x) || y)
inner_place true x y = refl
inner_place false x y = refl

inner_join : (m x c j : Bool) → true ≡ ((not ((m && false) && x) || not c) || j)
inner_join true x c j = refl
inner_join false x c j = refl

-- at a statement inside another
nested_at : (p : Program) (mode : Mode) (f : ℕ × Function) (before : List Stmt) (holder : Stmt) (s : Stmt) (scope : List (List ℕ)) (late : Bool)
    → late ≡ late_at (inner_site f before holder (record { stmt = s; scope = scope }))
    → nested (around_at p mode f) late (record { stmt = s; scope = scope }) ≡ site_breaks p mode (inner_site f before holder (record { stmt = s; scope = scope }))
nested_at p mode f before holder (Create line slot function arg) scope late e =
    let site = inner_site f before holder (record { stmt = Create line slot function arg; scope = scope }) in
    ap (λ u. node (around_at p mode f) (mentions scope) u late (Create line slot function arg))
    (inner_place (is_main f.1) (is_fixed_index (thread_len (meaning p site slot.name)) slot.index) (list_any (creates_in slot) before))
    ∙ ap (λ l. node (around_at p mode f) (mentions scope) (unfixed_at p site (Create line slot function arg)) l (Create line slot function arg)) e
nested_at p mode f before holder (Join line slot) scope late e =
    let site = inner_site f before holder (record { stmt = Join line slot; scope = scope }) in
    ap (λ u. node (around_at p mode f) (mentions scope) u late (Join line slot))
    (inner_join (is_main f.1) (is_fixed_index (thread_len (meaning p site slot.name)) slot.index) (list_any (creates_in slot) before) (list_any (joins_in slot) before))
    ∙ ap (λ l. node (around_at p mode f) (mentions scope) (unfixed_at p site (Join line slot)) l (Join line slot)) e
nested_at p mode f before holder s scope late e = ap (λ l. node (around_at p mode f) (mentions scope) false l s) e

all_nested : (p : Program) (mode : Mode) (f : ℕ × Function) (before : List Stmt) (holder : Stmt) (late : Bool) (xs : List Standing)
    → late ≡ (not (is_main f.1) || list_any has_active (holder ∷ before))
    → flat_map (nested (around_at p mode f) late) xs ≡ flat_map (site_breaks p mode) (map (inner_site f before holder) xs)
all_nested p mode f before holder late [] e = refl
all_nested p mode f before holder late (x ∷ xs) e =
    ap (λ z. z ++ flat_map (nested (around_at p mode f) late) xs) (nested_at p mode f before holder x.stmt x.scope late e)
    ∙ ap (λ z. site_breaks p mode (inner_site f before holder x) ++ z) (all_nested p mode f before holder late xs e)

-- the statements of an own list
pub own_eq : (p : Program) (mode : Mode) (f : ℕ × Function) (before : List Stmt) (scope : List (List ℕ)) (ss : Stmts)
    → own_breaks (around_at p mode f) (is_main f.1) (mentions scope) (past_from before) ss ≡ flat_map (site_breaks p mode) (sites_from f before scope ss)
own_eq p mode f before scope Nil = refl
own_eq p mode f before scope (Cons s rest) =
    let a = around_at p mode f in
    let main = is_main f.1 in
    let u = is_unfixed a (mentions scope) main (past_from before) s in
    let late = is_late main (past_from before) s in
    let more = own_breaks a main (with_names (declared s) (mentions scope)) (added (past_from before) s) rest in
    let inner = map (inner_site f before s) (inside scope s) in
    let site = own_site f before scope s in
    let behind = flat_map (site_breaks p mode) (sites_from f (s ∷ before) (declared s ++ scope) rest) in
    ap (λ z. z ++ more) (stmt_eq a late u scope s)
    ∙ ap (λ z. (z ++ node a (mentions scope) u late s) ++ more) (all_nested p mode f before s late (inside scope s) (late_own f before s))
    ∙ ap (λ z. (flat_map (site_breaks p mode) inner ++ node a (mentions scope) z late s) ++ more) (unfixed_own p mode f before scope s)
    ∙ ap (λ z. (flat_map (site_breaks p mode) inner ++ node a (mentions scope) (unfixed_at p site s) z s) ++ more) (late_own f before s)
    ∙ ap (λ z. (flat_map (site_breaks p mode) inner ++ site_breaks p mode site) ++ own_breaks a main z (added (past_from before) s) rest) (scope_more (declared s) scope)
    ∙ ap (λ z. (flat_map (site_breaks p mode) inner ++ site_breaks p mode site) ++ own_breaks a main (mentions (declared s ++ scope)) z rest) (past_more before s)
    ∙ ap (λ z. (flat_map (site_breaks p mode) inner ++ site_breaks p mode site) ++ z) (own_eq p mode f (s ∷ before) (declared s ++ scope) rest)
    ∙ append_assoc (flat_map (site_breaks p mode) inner) (site_breaks p mode site) behind
    ∙ sym (flat_append (site_breaks p mode) inner (site ∷ sites_from f (s ∷ before) (declared s ++ scope) rest))

or_none : (b : Bool) → (b || false) ≡ b
or_none true = refl
or_none false = refl

-- a function, with its parameters in scope
pub function_eq : (p : Program) (mode : Mode) (f : ℕ × Function)
    → function_breaks (around_at p mode f) ≡ parameter_breaks (around_at p mode f) f.1.line none_inside f.1.params ++ flat_map (site_breaks p mode) (sites_in f)
function_eq p mode f =
    ap (λ n. parameter_breaks (around_at p mode f) f.1.line none_inside f.1.params ++ own_breaks (around_at p mode f) (is_main f.1) n (past_from []) f.1.body)
    (same_tests _ _ (λ n. or_none (mentions f.1.params n)))
    ∙ ap (λ z. parameter_breaks (around_at p mode f) f.1.line none_inside f.1.params ++ z) (own_eq p mode f [] f.1.params f.1.body)
