-- What whole functions break.
use Rattle.std.specs.Prelude.{ℕ, Bool, false, List, [], ◌∷◌, ◌++◌, flat_map}
use Rattle.std.specs.declared.option.Option.{Option}
use Rattle.c_tree.specs.declared.program.Mode.{Mode}
use Rattle.c_tree.specs.Lined.{Function}
use Rattle.c_rules.specs.Declarations.{Declaration}
use Rattle.c_rules.specs.Sites.{is_main}
use Rattle.c_acts.specs.declared.first.Break.{Break}
use Rattle.c_acts.specs.Uses.{Around}
use Rattle.c_acts.specs.Acts.{local_breaks, entered}
use Rattle.c_check.specs.Walk.{with_names}
use Rattle.c_check.specs.Own.{nothing_past, own_breaks}

-- what the parameters that are left break
abbrev pub parameter_breaks : Around → ℕ → (List ℕ → Bool) → List (List ℕ) → List Break
parameter_breaks a line inside [] = []
parameter_breaks a line inside (name ∷ names) = local_breaks a inside name line ++ parameter_breaks a line (entered name inside) names

abbrev pub none_inside : List ℕ → Bool
none_inside n = false

abbrev pub function_breaks : Around → List Break
function_breaks a =
    parameter_breaks a a.function.line none_inside a.function.params
    ++ own_breaks a (is_main a.function) (with_names a.function.params none_inside) nothing_past a.function.body

abbrev pub around_of : (List ℕ → Option Declaration) → Mode → ℕ → ℕ × Function → Around
around_of outside mode monitors f = record { outside = outside; mode = mode; monitors = monitors; function = f.1; place = f.0 }

abbrev pub functions_breaks : (List ℕ → Option Declaration) → Mode → ℕ → List (ℕ × Function) → List Break
functions_breaks outside mode monitors fs = flat_map (λ f. function_breaks (around_of outside mode monitors f)) fs
