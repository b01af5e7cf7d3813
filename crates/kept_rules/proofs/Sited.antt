-- Sites of an edited function that are like those of the function.
use Rattle.std.proofs.Common.{List, [], ℕ, ◌∷◌, ◌≡◌}
use Rattle.std.specs.Prelude.{IsTrue}
use Rattle.c_tree.specs.Lined.{Function, Stmt}
use Rattle.c_rules.specs.Sites.{Site, Standing}
use Rattle.kept_rules.specs.Edit.{EditOf, Way, is_monitor_call, puts}

-- statements before, the nearest first
pub data EditBefore (r : Way) : List Stmt → List Stmt → Type 0 where
  none : EditBefore r [] []
  put : (s : Stmt) (ss ts : List Stmt) → IsTrue (is_monitor_call s) → EditBefore r ss ts → EditBefore r (s ∷ ss) ts
  keep : (s t : Stmt) (ss ts : List Stmt) → EditOf r s t → EditBefore r ss ts → EditBefore r (s ∷ ss) (t ∷ ts)

-- a site of a function is like one of the function that it comes from
pub record Like (r : Way) (g f : ℕ × Function) (x y : Site) : Type 0 where
  pub stmt : EditOf r x.stmt y.stmt
  pub scope : x.scope ≡ y.scope
  pub own : x.own ≡ y.own
  pub holder : EditOf r x.holder y.holder
  pub before : EditBefore r x.before y.before
  pub place : (x.place ≡ g.0) × (y.place ≡ f.0)
  pub function : (x.function ≡ g.1) × (y.function ≡ f.1)

pub data Sits (r : Way) (g f : ℕ × Function) : List Site → List Site → Type 0 where
  none : Sits r g f [] []
  put : (x : Site) (xs ys : List Site) → IsTrue (puts r x.stmt) → Sits r g f xs ys → Sits r g f (x ∷ xs) ys
  keep : (x y : Site) (xs ys : List Site) → Like r g f x y → Sits r g f xs ys → Sits r g f (x ∷ xs) (y ∷ ys)

-- the statements of lists, each with what is in scope: the same but for takes and gives of monitors
pub data Stands (r : Way) : List Standing → List Standing → Type 0 where
  none : Stands r [] []
  put : (x : Standing) (xs ys : List Standing) → IsTrue (puts r x.stmt) → Stands r xs ys → Stands r (x ∷ xs) ys
  keep : (s t : Stmt) (scope : List (List ℕ)) (xs ys : List Standing) → EditOf r s t → Stands r xs ys
      → Stands r (record { stmt = s; scope = scope } ∷ xs) (record { stmt = t; scope = scope } ∷ ys)
