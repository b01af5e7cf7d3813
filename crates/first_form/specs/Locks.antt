-- The names of the mutexes that are held.
use Rattle.std.specs.Prelude.{◌≡◌, ℕ, List, map, reverse, take}
use Rattle.c_tree.specs.declared.stmt.Stmt as declared
use Rattle.c_tree.specs.Bare.{Stmt}
use Rattle.c_rules.specs.Names.{mentions}
use Rattle.first_form.specs.FirstForm.{holds}
use Rattle.first_form.specs.Shown.{shown_stmt}

-- these names are those of the mutexes that are held behind the statements above
abbrev pub AreHeld : List (List ℕ) → List Stmt → Type 0
AreHeld names above = (name : List ℕ) → mentions names name ≡ holds above name

-- the statements above the one at this index, of which the nearest stands first
abbrev pub above : List declared.Stmt → ℕ → List Stmt
above body index = reverse (map shown_stmt (take index body))
