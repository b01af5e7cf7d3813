use Rattle.std.proofs.Common.{◌≡◌, ℕ, List, Bool, drop}
use Rattle.std.specs.declared.option.Option.{Option}
use Rattle.c_names.specs.Tables.{in_scope}
use Rattle.c_acts.specs.declared.first.Break.{Break}
use Rattle.c_acts.specs.First.{noted_all}
use Rattle.c_acts.specs.Uses.{Around, around}
use Rattle.c_check.specs.Walk.{with_names}
use Rattle.c_check.specs.Functions.{parameter_breaks}
use Rattle.c_check.proofs.functions.check_parameters.Given as goal

-- what the parameters that are left break and declare leads to what all do
pub record Enters (a : Around) (line : ℕ) (now before : List ℕ → Bool) (first all : Option Break) (left whole : List (List ℕ)) : Type 0 where
  pub breaks : noted_all first (parameter_breaks a line now left) ≡ noted_all all (parameter_breaks a line before whole)
  pub scoped : with_names left now ≡ with_names whole before

abbrev pub invariant-loop-name : goal.invariant-loop-name
invariant-loop-name l =
    Enters (around l.at) l.line (in_scope l.scope) (in_scope l.fn.scope) l.first l.fn.first (drop l.name-index l.names) l.names
