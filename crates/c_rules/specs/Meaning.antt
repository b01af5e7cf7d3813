-- What a name means where a statement uses it.
use Rattle.std.specs.Prelude.{ℕ, nat_lt, Bool, true, false, ◌&&◌, if◌then◌else◌, List, ◌++◌, option_map, Some, None}
use Rattle.std.specs.declared.option.Option.{Option}
use Rattle.c_tree.specs.Lined as lined
use Rattle.c_tree.specs.Lined.{Stmt, Program, Declare, For}
use Rattle.c_rules.specs.Names.{mentions}
use Rattle.c_rules.specs.Declarations.{Thing, Function, Local, Argument, declaration_of}
use Rattle.c_rules.specs.Sites.{Site, declared, locals_of}
use Rattle.c_rules.specs.Uses.{is_start}

-- the locals that a statement declares for its own expressions: a local is in scope in its own value, that of a `for` in its test
abbrev pub opened : Stmt → List (List ℕ)
opened (For line first_part test step body) = locals_of first_part
opened s = declared s

-- the locals and parameters in scope in a statement's expressions
abbrev pub visible : Site → List (List ℕ)
visible site = opened site.stmt ++ site.scope

-- what a local or a parameter stands for
abbrev pub local_thing : lined.Function → List ℕ → Thing
local_thing f name = if is_start f.kind && mentions f.params name then Argument else Local

-- what a name stands for at a statement, where it is in scope; inside comes before outside
abbrev pub meaning : Program → Site → List ℕ → Option Thing
meaning p site name =
    if mentions (visible site) name then Some (local_thing site.function name) else option_map (λ d. d.thing) (declaration_of p name)

-- a name without meaning in a function at this place, or of a function further below
abbrev pub is_out_of_reach : (here : ℕ) → Option Thing → Bool
is_out_of_reach here None = true
is_out_of_reach here (Some (Function place f)) = nat_lt here place
is_out_of_reach here (Some thing) = false
