use Rattle.std.proofs.Common.{◌≡◌, ℕ, List, drop}
use Rattle.std.specs.declared.option.Option.{Option}
use Rattle.c_tree.specs.declared.program.Mode.{Mode}
use Rattle.c_rules.specs.Declarations.{Declaration}
use Rattle.c_names.specs.Shown.{all_shown}
use Rattle.c_names.specs.Tables.{meant}
use Rattle.c_acts.specs.declared.first.Break.{Break}
use Rattle.c_acts.specs.First.{noted_all}
use Rattle.c_check.specs.Outer as spec
use Rattle.c_check.proofs.outer.check_declarations.Given as goal

-- what the declarations that are left break and tell leads to what all do
pub record Tells (mode : Mode) (now before : List ℕ → Option Declaration) (first all : Option Break) (left whole : List Declaration) : Type 0 where
  pub breaks : noted_all first (spec.outer_breaks mode now left) ≡ noted_all all (spec.outer_breaks mode before whole)
  pub known : spec.all_joined now left ≡ spec.all_joined before whole

abbrev pub invariant-loop-d : goal.invariant-loop-d
invariant-loop-d l = Tells l.mode (meant l.names) (meant l.fn.names) l.first l.fn.first (all_shown (drop l.d-index l.ds)) (all_shown l.ds)
