-- What a statement breaks with those that it holds is what each of them breaks by itself.
use Rattle.std.proofs.Common.{◌≡◌, ℕ, Bool, true, false, ◌||◌, List, [], ◌∷◌, ◌++◌, refl, sym, ap, ◌∙◌, append_assoc, bytes_eq}
use Rattle.std.specs.Prelude.{flat_map}
use Rattle.std.specs.List.{list_any}
use Rattle.std.proofs.lemmas.List.Folds.{list_any-append}
use Rattle.c_tree.specs.Lined.{Stmt, Stmts, Nil, Cons, Declare, If, While, For, TryLock}
use Rattle.c_rules.specs.Names.{mentions}
use Rattle.c_rules.specs.Sites.{Standing, declared, locals_of, inside, listed}
use Rattle.c_rules.specs.declared.role.Role.TheVariants.{OfMutex}
use Rattle.c_rules.specs.Uses.{of_expr, of_place}
use Rattle.c_rules.specs.Objects.{is_active, has_active}
use Rattle.c_acts.specs.declared.first.Break.{Break}
use Rattle.c_acts.specs.Uses.{Around, uses_breaks}
use Rattle.c_acts.specs.Acts.{declare_breaks, act_breaks}
use Rattle.c_check.specs.Walk.{with_names, stmt_breaks, list_breaks}
use Rattle.c_check.specs.Own.{acts, list_acts}
use Rattle.c_acts.proofs.Noted.{flat_append}
use Rattle.c_check.proofs.Walks.{Names, same_tests}

-- what a statement itself breaks
abbrev pub node : Around → (List ℕ → Bool) → (unfixed late : Bool) → Stmt → List Break
node a now u late (Declare line name value) = declare_breaks a now line name value
node a now u late (If line test x y) = uses_breaks a now line (of_expr test)
node a now u late (While line test x) = uses_breaks a now line (of_expr test)
node a now u late (For line part test step body) = uses_breaks a (with_names (locals_of part) now) line (of_expr test)
node a now u late (TryLock line place x y) = uses_breaks a now line (of_place OfMutex place)
node a now u late s = act_breaks a now u late s

-- what a statement breaks that stands inside another
abbrev pub nested : Around → (late : Bool) → Standing → List Break
nested a late x = node a (mentions x.scope) true late x.stmt

pub scope_more : (names scope : List (List ℕ)) → with_names names (mentions scope) ≡ mentions (names ++ scope)
scope_more names scope = same_tests _ _ (λ n. sym (list_any-append (bytes_eq n) names scope))

module _ (a : Around) (late : Bool) where
  arms_eq : (scope : List (List ℕ)) (x y : Stmts) (us : List Break) → list_breaks a (mentions scope) late x ≡ flat_map (nested a late) (listed scope x)
      → list_breaks a (mentions scope) late y ≡ flat_map (nested a late) (listed scope y)
      → list_breaks a (mentions scope) late x ++ (list_breaks a (mentions scope) late y ++ us) ≡ flat_map (nested a late) (listed scope x ++ listed scope y) ++ us
  arms_eq scope x y us p q =
      ap (λ z. z ++ (list_breaks a (mentions scope) late y ++ us)) p ∙ ap (λ z. flat_map (nested a late) (listed scope x) ++ (z ++ us)) q
      ∙ sym (append_assoc (flat_map (nested a late) (listed scope x)) (flat_map (nested a late) (listed scope y)) us)
      ∙ ap (λ z. z ++ us) (sym (flat_append (nested a late) (listed scope x) (listed scope y)))

  for_eq : (scope more : List (List ℕ)) (x y z : Stmts) (now : Names) (us : List Break) → now ≡ mentions more
      → list_breaks a (mentions scope) late x ≡ flat_map (nested a late) (listed scope x) → list_breaks a (mentions more) late y ≡ flat_map (nested a late) (listed more y)
      → list_breaks a (mentions more) late z ≡ flat_map (nested a late) (listed more z)
      → list_breaks a (mentions scope) late x ++ (list_breaks a now late y ++ (list_breaks a now late z ++ us))
      ≡ flat_map (nested a late) ((listed scope x ++ listed more y) ++ listed more z) ++ us
  for_eq scope more x y z now us is p q r =
      let f = flat_map (nested a late) in
      ap (λ w. w ++ (list_breaks a now late y ++ (list_breaks a now late z ++ us))) p
      ∙ ap (λ n. f (listed scope x) ++ (list_breaks a n late y ++ (list_breaks a n late z ++ us))) is
      ∙ ap (λ w. f (listed scope x) ++ (w ++ (list_breaks a (mentions more) late z ++ us))) q
      ∙ ap (λ w. f (listed scope x) ++ (f (listed more y) ++ (w ++ us))) r
      ∙ sym (ap (λ w. w ++ us) (flat_append (nested a late) (listed scope x ++ listed more y) (listed more z)
      ∙ ap (λ w. w ++ f (listed more z)) (flat_append (nested a late) (listed scope x) (listed more y)))
      ∙ append_assoc (f (listed scope x) ++ f (listed more y)) (f (listed more z)) us
      ∙ append_assoc (f (listed scope x)) (f (listed more y)) (f (listed more z) ++ us))

  cons_eq : (scope : List (List ℕ)) (s : Stmt) (rest : Stmts) → stmt_breaks a (mentions scope) true late s ≡ flat_map (nested a late) (inside scope s) ++ node a (mentions scope) true late s
      → list_breaks a (mentions (declared s ++ scope)) late rest ≡ flat_map (nested a late) (listed (declared s ++ scope) rest)
      → list_breaks a (mentions scope) late (Cons s rest) ≡ flat_map (nested a late) (listed scope (Cons s rest))
  cons_eq scope s rest p q =
      let f = flat_map (nested a late) in
      ap (λ w. w ++ list_breaks a (with_names (declared s) (mentions scope)) late rest) p
      ∙ ap (λ n. (f (inside scope s) ++ node a (mentions scope) true late s) ++ list_breaks a n late rest) (scope_more (declared s) scope)
      ∙ ap (λ w. (f (inside scope s) ++ node a (mentions scope) true late s) ++ w) q
      ∙ append_assoc (f (inside scope s)) (node a (mentions scope) true late s) (f (listed (declared s ++ scope) rest))
      ∙ sym (flat_append (nested a late) (inside scope s) (record { stmt = s; scope = scope } ∷ listed (declared s ++ scope) rest))

mutual
  pub stmt_eq : (a : Around) (late u : Bool) (scope : List (List ℕ)) (s : Stmt) → stmt_breaks a (mentions scope) u late s ≡ flat_map (nested a late) (inside scope s) ++ node a (mentions scope) u late s
  stmt_eq a late u scope (If line test x y) = arms_eq a late scope x y (uses_breaks a (mentions scope) line (of_expr test)) (list_eq a late scope x) (list_eq a late scope y)
  stmt_eq a late u scope (While line test x) = ap (λ z. z ++ uses_breaks a (mentions scope) line (of_expr test)) (list_eq a late scope x)
  stmt_eq a late u scope (For line part test step body) =
      for_eq a late scope (locals_of part ++ scope) part step body (with_names (locals_of part) (mentions scope)) (uses_breaks a (with_names (locals_of part) (mentions scope)) line (of_expr test))
      (scope_more (locals_of part) scope) (list_eq a late scope part) (list_eq a late (locals_of part ++ scope) step) (list_eq a late (locals_of part ++ scope) body)
  stmt_eq a late u scope (TryLock line place x y) =
      arms_eq a late scope x y (uses_breaks a (mentions scope) line (of_place OfMutex place)) (list_eq a late scope x) (list_eq a late scope y)
  stmt_eq a late u scope s = refl

  pub list_eq : (a : Around) (late : Bool) (scope : List (List ℕ)) (ss : Stmts) → list_breaks a (mentions scope) late ss ≡ flat_map (nested a late) (listed scope ss)
  list_eq a late scope Nil = refl
  list_eq a late scope (Cons s rest) = cons_eq a late scope s rest (stmt_eq a late true scope s) (list_eq a late (declared s ++ scope) rest)

-- ---- statements that may use an object

abbrev act_in : Standing → Bool
act_in x = is_active x.stmt

three : (a b c : Bool) → (a || (b || c)) ≡ ((a || b) || c)
three true b c = refl
three false b c = refl

around_one : (i a r : Bool) → ((a || i) || r) ≡ (i || (a || r))
around_one true true r = refl
around_one true false r = refl
around_one false true r = refl
around_one false false r = refl

mutual
  acts_inside : (scope : List (List ℕ)) (s : Stmt) → acts s ≡ (is_active s || list_any act_in (inside scope s))
  acts_inside scope (If line test x y) =
      ap (λ z. z || list_acts y) (acts_listed scope x) ∙ ap (λ z. list_any act_in (listed scope x) || z) (acts_listed scope y) ∙ sym (list_any-append act_in (listed scope x) (listed scope y))
  acts_inside scope (While line test x) = acts_listed scope x
  acts_inside scope (For line part test step body) =
      let more = locals_of part ++ scope in
      ap (λ z. z || (list_acts step || list_acts body)) (acts_listed scope part)
      ∙ ap (λ z. list_any act_in (listed scope part) || (z || list_acts body)) (acts_listed more step)
      ∙ ap (λ z. list_any act_in (listed scope part) || (list_any act_in (listed more step) || z)) (acts_listed more body)
      ∙ three (list_any act_in (listed scope part)) (list_any act_in (listed more step)) (list_any act_in (listed more body))
      ∙ ap (λ z. z || list_any act_in (listed more body)) (sym (list_any-append act_in (listed scope part) (listed more step)))
      ∙ sym (list_any-append act_in (listed scope part ++ listed more step) (listed more body))
  acts_inside scope s = refl

  acts_listed : (scope : List (List ℕ)) (ss : Stmts) → list_acts ss ≡ list_any act_in (listed scope ss)
  acts_listed scope Nil = refl
  acts_listed scope (Cons s rest) =
      ap (λ z. z || list_acts rest) (acts_inside scope s) ∙ ap (λ z. (is_active s || list_any act_in (inside scope s)) || z) (acts_listed (declared s ++ scope) rest)
      ∙ around_one (list_any act_in (inside scope s)) (is_active s) (list_any act_in (listed (declared s ++ scope) rest))
      ∙ sym (list_any-append act_in (inside scope s) (record { stmt = s; scope = scope } ∷ listed (declared s ++ scope) rest))

pub acts_eq : (s : Stmt) → acts s ≡ has_active s
acts_eq s = acts_inside [] s
