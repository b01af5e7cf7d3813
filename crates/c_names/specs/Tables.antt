-- What tables of names tell.
use Rattle.std.specs.Prelude.{ℕ, nat_le, Bool, false, if◌then◌else◌, List, bytes_eq, option_map, Some, None}
use Rattle.std.specs.declared.option.Option.{Option}
use Rattle.std.specs.HashMap.{HashMap, get_by}
use Rattle.std.specs.HashSet.{HashSet, contains_by}
use denote.Ref.{Bor}
use Rattle.c_tree.specs.declared.program.Kind.{Kind}
use Rattle.c_tree.specs.Lined.{Function}
use Rattle.c_rules.specs.declared.role.Role.{Role}
use Rattle.c_rules.specs.declared.role.Role.TheVariants.{Start, Called}
use Rattle.c_rules.specs.Declarations.{Declaration, Thing}
use Rattle.c_rules.specs.Uses.{is_start, is_callable}
use Rattle.c_rules.specs.Meaning.{local_thing}
use Rattle.c_names.specs.declared.outer.Declaration as declared
use Rattle.c_names.specs.Shown.{shown}

abbrev pub Names : Type 0 → Type 0
Names S = HashMap (Bor (List ℕ)) declared.Declaration S

-- the declaration that a table has for a name
abbrev pub meant : {S : Type 0} → Names S → List ℕ → Option Declaration
meant names name = option_map shown (get_by (λ key. bytes_eq name key.now) names)

-- of a declaration that was there and one that comes behind it, the one on the lesser line
abbrev pub behind : Option Declaration → Declaration → Declaration
behind None d = d
behind (Some e) d = if nat_le e.line d.line then e else d

-- what a name means once a declaration comes behind others
abbrev pub joined : Option Declaration → Declaration → List ℕ → Option Declaration
joined before d name = if bytes_eq d.name name then Some (behind before d) else before

-- a local or parameter of this name is in scope
abbrev pub in_scope : {S : Type 0} → HashSet (Bor (List ℕ)) S → List ℕ → Bool
in_scope scope name = contains_by (λ key. bytes_eq name key.now) scope

-- what a name means, by what is declared outside functions and what is in scope inside this one
abbrev pub meaning_by : (List ℕ → Option Declaration) → (List ℕ → Bool) → Function → List ℕ → Option Thing
meaning_by outside inside f name = if inside name then Some (local_thing f name) else option_map (λ d. d.thing) (outside name)

-- a function of this kind is used as this
abbrev pub is_function_use : Kind → Role → Bool
is_function_use k Start = is_start k
is_function_use k (Called result) = is_callable k result
is_function_use k role = false
