use Rattle.std.proofs.Common.{◌≡◌, ℕ, length, Some}
use Rattle.std.specs.Prelude.{slice_get}
use Rattle.c_tree.specs.declared.program.Function.{Function}
use Rattle.c_frames.specs.Names.{shown_function, NamesOf}
use Rattle.c_frames.specs.declared.names.LocalNames.{LocalNames}
use Rattle.state_parts.proofs.starting.all_names.Given as goal

abbrev pub invariant-loop-f : goal.invariant-loop-f
invariant-loop-f l = (length l.all.items ≡ l.f-index)
    × ((k : ℕ) (f : Function) (names : LocalNames) → slice_get l.functions k ≡ Some f → slice_get l.all.items k ≡ Some names → NamesOf (shown_function f) names)
