-- What it is that a walk stands in the relation.
use Rattle.std.specs.Prelude.{◌≡◌, ◌≤◌, ℕ, ℤ, suc, Bool, true, List, length}
use Rattle.std.specs.declared.option.Option.{Option}
use Rattle.c_tree.specs.Lined.{Stmt, Stmts, Cons}
use Rattle.outlines.specs.Outline.{Parts, Thread, joined}
use Rattle.contexts.specs.Constants.{Constants, known_after}
use Rattle.contexts.specs.Walk.{Found, Above, Scene}
use Rattle.contexts.specs.Outlined.{Code, Outlined, end_parts}
use Rattle.contexts.specs.Numbered.{NumberedAll, after_all}
use Rattle.contexts.specs.Threads.{IsThread}
use Rattle.context_laws.proofs.Numbers.{Knows, Goes}

abbrev pub scene_of : Code → Above → List (List ℕ) → Scene
scene_of code above writes = record { program = code.program; above = above; writes = writes }

-- a statement that was walked from the contexts n to m: its parts stand before any outline of what stands behind it
pub record StandsOne (code : Code) (writes : List (List ℕ)) (known : Constants) (s : Stmt) (n : List ℕ) (xs : Parts) (m : List ℕ) : Type 0 where
  pub goes : Goes code n xs m
  pub outlined : Knows code m → (ends : Option ℕ) (rest : Stmts) (ys : Parts) → Outlined code writes (known_after writes known s) ends rest ys → Outlined code writes known ends (Cons s rest) (joined xs ys)

-- a list of statements that was walked so
pub record Stands (code : Code) (writes : List (List ℕ)) (known : Constants) (ss : Stmts) (n : List ℕ) (xs : Parts) (m : List ℕ) : Type 0 where
  pub goes : Goes code n xs m
  pub outlined : Knows code m → (ends : Option ℕ) → Outlined code writes known ends ss (joined xs (end_parts ends))

-- a function of this name that was entered so, with these arguments
pub record IsEntered (code : Code) (name : List ℕ) (args : List (Option ℤ)) (n : List ℕ) (e : Thread) (m : List ℕ) : Type 0 where
  pub context : e.context ≡ length n
  pub numbered : NumberedAll e.body (suc (length n))
  pub behind : length m ≡ after_all e.body (suc (length n))
  pub knows : Knows code m → Knows code n
  pub few : length n ≤ 256 → length m ≤ 256
  pub thread : Knows code m → IsThread code name args (length n) e

-- what a walk knows of functions above is so of the program
pub record IsSound (code : Code) (above : Above) (named : List ℕ → Bool) : Type 0 where
  pub bears : (name : List ℕ) → named name ≡ true → above.bears name ≡ code.bears name
  pub enters : (name : List ℕ) → named name ≡ true → (args : List (Option ℤ)) (n : List ℕ) (e : Thread) (m : List ℕ) → above.enter name args n ≡ Found e m → IsEntered code name args n e m
