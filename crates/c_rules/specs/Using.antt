-- Rules on the use of names: a name is in scope, its use fits it, numbers of arguments match, and no function calls itself.
use Rattle.std.specs.Prelude.{ℕ, ◌+◌, ◌==◌, nat_lt, Bool, true, false, not, ◌&&◌, if◌then◌else◌, List, [], ◌∷◌, ◌++◌, length, map, filter, bytes_eq, unwrap_or, Some, None}
use Rattle.std.specs.declared.option.Option.{Option}
use Rattle.std.specs.List.{list_any}
use Rattle.c_tree.specs.declared.program.Array as declared_array
use Rattle.c_tree.specs.declared.program.Object.{Object}
use Rattle.c_tree.specs.Expressions.{Exprs}
use Rattle.c_tree.specs.Expressions as tree
use Rattle.c_tree.specs.Lined.{Stmt, Program, Call, Print}
use Rattle.c_rules.specs.Declarations.{Thing}
use Rattle.c_rules.specs.Declarations as thing
use Rattle.c_rules.specs.Sites.{Site, lines_where}
use Rattle.c_rules.specs.Uses.{Use, uses_of, fits}
use Rattle.c_rules.specs.Meaning.{meaning, is_out_of_reach}
use Rattle.c_rules.specs.Naming.{capacity_lines}

-- ---- names in scope

-- a statement uses a name that isn't in scope, or a function that is neither defined above nor the one that holds the statement
abbrev pub unknown_names : Program → List ℕ
unknown_names p = lines_where (λ site. list_any (λ u. is_out_of_reach site.place (meaning p site u.name)) (uses_of site.stmt)) p

-- ---- uses that fit

abbrev pub is_misused : Use → Option Thing → Bool
is_misused u None = false
is_misused u (Some thing) = not (fits thing u.role u.indexed)

-- a statement uses a name as what it isn't
abbrev pub wrong_kinds : Program → List ℕ
wrong_kinds p = lines_where (λ site. list_any (λ u. is_misused u (meaning p site u.name)) (uses_of site.stmt)) p

-- ---- numbers of arguments and of initial values

abbrev pub count_of : Exprs → ℕ
count_of tree.Nil = 0
count_of (tree.Cons e es) = count_of es + 1

-- how many arguments a format has: each `%d` stands for one, and `%%` for none
abbrev pub arguments_of : (behind_percent : Bool) → List ℕ → ℕ
arguments_of behind_percent [] = 0
arguments_of true (b ∷ bs) = (if b == 100 then 1 else 0) + arguments_of false bs
arguments_of false (b ∷ bs) = arguments_of (b == 37) bs

abbrev pub takes_others : Option Thing → ℕ → Bool
takes_others (Some (thing.Function place f)) count = not (length f.params == count)
takes_others meant count = false

abbrev pub is_miscounted : Program → Site → Stmt → Bool
is_miscounted p site (Call line target function args) = takes_others (meaning p site function) (count_of args)
is_miscounted p site (Print line format args) = not (arguments_of false format == count_of args)
is_miscounted p site s = false

-- an array has at most as many values as members, and objects have an initialiser for each member or none
abbrev pub has_too_many_values : declared_array.Array → Bool
has_too_many_values a = nat_lt a.len (length a.values)

abbrev pub has_other_initialisers : Object → Bool
has_other_initialisers o = o.ready && not (o.given == unwrap_or o.len 1)

-- each monitor of the declared length has a capacity
abbrev pub capacity_count_lines : Program → List ℕ
capacity_count_lines p = if p.cap_len == length p.monitors then [] else capacity_lines p

-- arguments and parameters, `%d` and arguments, or initial values and length don't match
abbrev pub wrong_counts : Program → List ℕ
wrong_counts p =
    map (λ a. a.line) (filter has_too_many_values p.arrays) ++ map (λ o. o.line) (filter has_other_initialisers (p.mutexes ++ p.conds))
    ++ capacity_count_lines p ++ lines_where (λ site. is_miscounted p site site.stmt) p

-- ---- recursion

abbrev pub calls : List ℕ → Stmt → Bool
calls name (Call line target function args) = bytes_eq function name
calls name s = false

-- a function calls itself
abbrev pub recursions : Program → List ℕ
recursions p = lines_where (λ site. calls site.function.name site.stmt) p
