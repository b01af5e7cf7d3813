-- The statements of an edited list are those of the list, and takes and gives of monitors.
use Rattle.std.proofs.Common.{List, [], ap, cond, refl, subst, sym, ℕ, ◌++◌, ◌∙◌, ◌∷◌, ◌≡◌}
use Rattle.std.specs.Prelude.{IsTrue}
use Rattle.std.proofs.lemmas.List.{append-nil}
use Rattle.c_tree.specs.Bare as bare
use Rattle.c_tree.specs.Lined.{Declare, For, Give, If, Stmt, Stmts, Take, TryLock, While, bare_stmt}
use Rattle.c_rules.specs.Sites.{Standing, declared, inside, listed, locals_of}
use Rattle.rule_facts.proofs.Tests.{first_part}
use Rattle.kept_rules.proofs.Sited.{Stands}
use Rattle.kept_rules.specs.Edit.{EditOf, Edits, Way, is_monitor_call, is_simple, puts}

-- what a bare statement declares
abbrev pub declares : bare.Stmt → List (List ℕ)
declares (bare.Declare name value) = name ∷ []
declares s = []

pub declared_bare : (s : Stmt) → declared s ≡ declares (bare_stmt s)
declared_bare (Declare line name value) = refl
declared_bare s = refl

pub monitor_of : (r : Way) (s : Stmt) → IsTrue (puts r s) → IsTrue (is_monitor_call s)
monitor_of r (Take line monitor) is = refl
monitor_of r (Give line monitor) is = refl
monitor_of r s is = cc is

pub nothing_declared : (s : Stmt) → IsTrue (is_monitor_call s) → declared s ≡ []
nothing_declared (Take line monitor) is = refl
nothing_declared (Give line monitor) is = refl
nothing_declared s is = cc is

pub nothing_inside : (scope : List (List ℕ)) (s : Stmt) → IsTrue (is_monitor_call s) → inside scope s ≡ []
nothing_inside scope (Take line monitor) is = refl
nothing_inside scope (Give line monitor) is = refl
nothing_inside scope s is = cc is

pub simple_inside : (scope : List (List ℕ)) (s : Stmt) → IsTrue (is_simple s) → inside scope s ≡ []
simple_inside scope (If line test a b) is = cc is
simple_inside scope (While line test body) is = cc is
simple_inside scope (For line first_part test step body) is = cc is
simple_inside scope (TryLock line place a b) is = cc is
simple_inside scope s is = refl

pub declared_same : (r : Way) (s t : Stmt) → EditOf r s t → declared s ≡ declared t
declared_same r s t (EditOf.same u v a b e) = declared_bare s ∙ (ap declares e ∙ sym (declared_bare t))
declared_same r s t (EditOf.call l m target name args) = refl
declared_same r s t (EditOf.create l m slot name arg) = refl
declared_same r s t (EditOf.branch l m test a b c d x y) = refl
declared_same r s t (EditOf.loop l m test a c x) = refl
declared_same r s t (EditOf.counted l m test f st b fo so o x y z) = refl
declared_same r s t (EditOf.wait l m cond mutex takes others x) = refl
declared_same r s t (EditOf.attempt l m place a b c d x y) = refl

pub locals_same : (r : Way) (ss ts : Stmts) → Edits r ss ts → locals_of ss ≡ locals_of ts
locals_same r ss ts Edits.none = refl
locals_same r ss ts (Edits.put s us vs is more) =
    ap (λ ds. locals_of us ++ ds) (nothing_declared s (monitor_of r s is)) ∙ (append-nil (locals_of us) ∙ locals_same r us vs more)
locals_same r ss ts (Edits.keep s t us vs like more) =
    ap (λ ds. locals_of us ++ ds) (declared_same r s t like) ∙ ap (λ ls. ls ++ declared t) (locals_same r us vs more)

pub stands_append : (r : Way) (xs ys zs ws : List Standing) → Stands r xs ys → Stands r zs ws → Stands r (xs ++ zs) (ys ++ ws)
stands_append r xs ys zs ws Stands.none there = there
stands_append r xs ys zs ws (Stands.put x us vs is more) there = Stands.put x (us ++ zs) (vs ++ ws) is (stands_append r us vs zs ws more there)
stands_append r xs ys zs ws (Stands.keep s t scope us vs like more) there =
    Stands.keep s t scope (us ++ zs) (vs ++ ws) like (stands_append r us vs zs ws more there)

mutual
  pub inside_stands : (r : Way) (scope : List (List ℕ)) (s t : Stmt) → EditOf r s t → Stands r (inside scope s) (inside scope t)
  inside_stands r scope s t (EditOf.same u v a b e) =
      subst (λ xs. Stands r xs (inside scope t)) (sym (simple_inside scope s a)) (subst (λ ys. Stands r [] ys) (sym (simple_inside scope t b)) Stands.none)
  inside_stands r scope s t (EditOf.call l m target name args) = Stands.none
  inside_stands r scope s t (EditOf.create l m slot name arg) = Stands.none
  inside_stands r scope s t (EditOf.branch l m test a b c d x y) =
      stands_append r (listed scope a) (listed scope c) (listed scope b) (listed scope d) (listed_stands r scope a c x) (listed_stands r scope b d y)
  inside_stands r scope s t (EditOf.wait l m cond mutex takes others x) = Stands.none
  inside_stands r scope s t (EditOf.attempt l m place a b c d x y) =
      stands_append r (listed scope a) (listed scope c) (listed scope b) (listed scope d) (listed_stands r scope a c x) (listed_stands r scope b d y)
  inside_stands r scope s t (EditOf.loop l m test a c x) = listed_stands r scope a c x
  inside_stands r scope s t (EditOf.counted l m test f st b fo so o x y z) =
      subst (λ ls. Stands r (listed scope f ++ listed (locals_of f ++ scope) st ++ listed (locals_of f ++ scope) b) (listed scope fo ++ listed (ls ++ scope) so ++ listed (ls ++ scope) o)) (locals_same r f fo x)
      (stands_append r (listed scope f ++ listed (locals_of f ++ scope) st) (listed scope fo ++ listed (locals_of f ++ scope) so) (listed (locals_of f ++ scope) b) (listed (locals_of f ++ scope) o)
      (stands_append r (listed scope f) (listed scope fo) (listed (locals_of f ++ scope) st) (listed (locals_of f ++ scope) so) (listed_stands r scope f fo x) (listed_stands r (locals_of f ++ scope) st so y))
      (listed_stands r (locals_of f ++ scope) b o z))

  pub listed_stands : (r : Way) (scope : List (List ℕ)) (ss ts : Stmts) → Edits r ss ts → Stands r (listed scope ss) (listed scope ts)
  listed_stands r scope ss ts Edits.none = Stands.none
  listed_stands r scope ss ts (Edits.put s us vs is more) =
      subst (λ ds. Stands r (inside scope s ++ record { stmt = s; scope = scope } ∷ listed (ds ++ scope) us) (listed scope vs)) (sym (nothing_declared s (monitor_of r s is)))
      (subst (λ ins. Stands r (ins ++ record { stmt = s; scope = scope } ∷ listed scope us) (listed scope vs)) (sym (nothing_inside scope s (monitor_of r s is)))
      (Stands.put (record { stmt = s; scope = scope }) (listed scope us) (listed scope vs) is (listed_stands r scope us vs more)))
  listed_stands r scope ss ts (Edits.keep s t us vs like more) =
      stands_append r (inside scope s) (inside scope t) (record { stmt = s; scope = scope } ∷ listed (declared s ++ scope) us) (record { stmt = t; scope = scope } ∷ listed (declared t ++ scope) vs)
      (inside_stands r scope s t like)
      (Stands.keep s t scope (listed (declared s ++ scope) us) (listed (declared t ++ scope) vs) like
      (subst (λ ds. Stands r (listed (declared s ++ scope) us) (listed (ds ++ scope) vs)) (declared_same r s t like) (listed_stands r (declared s ++ scope) us vs more)))
