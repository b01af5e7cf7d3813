-- Statements of functions that bear no locks.
use Rattle.std.specs.Prelude.{◌≡◌, false, ⊤}
use Rattle.c_tree.specs.Bare as bare
use Rattle.contexts.specs.Outlined.{Code, IsCreation}

-- a statement takes and gives nothing, and calls no function that bears locks; a create is one of main's own
abbrev pub IsQuiet : Code → bare.Stmt → Type 0
IsQuiet code (bare.Lock place) = ⊥
IsQuiet code (bare.TryLock place taken busy) = ⊥
IsQuiet code (bare.Unlock place) = ⊥
IsQuiet code (bare.Wait cond mutex takes) = ⊥
IsQuiet code (bare.Take monitor) = ⊥
IsQuiet code (bare.Give monitor) = ⊥
IsQuiet code (bare.Call target name args) = code.bears name ≡ false
IsQuiet code (bare.Create slot name arg) = IsCreation code.program slot name arg
IsQuiet code s = ⊤
