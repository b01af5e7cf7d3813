-- Rules on threads: each is created and joined at a fixed place of main, in a fixed slot and with a constant argument.
use Rattle.std.specs.Prelude.{ℕ, ℤ, Bool, true, false, not, ◌&&◌, ◌||◌, if◌then◌else◌, List, [], ◌∷◌, is_some, is_none, option_and_then, unwrap_or, Some, None}
use Rattle.std.specs.declared.option.Option.{Option}
use Rattle.std.specs.List.{list_any}
use Rattle.c_tree.specs.Expressions.{Expr, Number, Name, Element, Arg, Not, Minus, Binary, Place}
use Rattle.c_tree.specs.Values.{constant}
use Rattle.c_tree.specs.Numbering.{same_slot, index_within}
use Rattle.c_tree.specs.Lined.{Stmt, Program, Create, Join}
use Rattle.c_rules.specs.Declarations.{Thing, Thread}
use Rattle.c_rules.specs.Sites.{Site, lines_where, is_main}
use Rattle.c_rules.specs.Meaning.{meaning}

-- there is no main
abbrev pub no_main : Program → List ℕ
no_main p = if list_any is_main p.functions then [] else p.end_line ∷ []

-- ---- constants

abbrev pub has_name : Expr → Bool
has_name (Number k) = false
has_name (Name name) = true
has_name (Element name index) = true
has_name (Arg name) = true
has_name (Not operand) = has_name operand
has_name (Minus operand) = has_name operand
has_name (Binary op left right) = has_name left || has_name right

-- the value of an expression that is built of numbers alone
abbrev pub number_of : Expr → Option ℤ
number_of e = if has_name e then None else constant e

abbrev pub has_open_argument : Stmt → Bool
has_open_argument (Create line slot function arg) = is_none (number_of arg)
has_open_argument s = false

-- a create's argument has a name in it or no defined value
abbrev pub arg_not_constant : Program → List ℕ
arg_not_constant p = lines_where (λ site. has_open_argument site.stmt) p

-- ---- fixed places

-- the declared length of an array of threads; 0 for what is none
abbrev pub thread_len : Option Thing → ℕ
thread_len (Some (Thread len)) = unwrap_or len 0
thread_len meant = 0

-- an index, where there is one, is a constant of numbers within the length
abbrev pub is_fixed_index : ℕ → Option Expr → Bool
is_fixed_index len None = true
is_fixed_index len (Some index) = is_some (option_and_then (index_within len) (number_of index))

-- a statement of main's own list, with a fixed slot
abbrev pub is_fixed : Program → Site → Place → Bool
is_fixed p site slot = is_main site.function && site.own && is_fixed_index (thread_len (meaning p site slot.name)) slot.index

abbrev pub creates_in : Place → Stmt → Bool
creates_in slot (Create line other function arg) = same_slot other slot
creates_in slot s = false

abbrev pub joins_in : Place → Stmt → Bool
joins_in slot (Join line other) = same_slot other slot
joins_in slot s = false

abbrev pub is_unfixed_create : Program → Site → Stmt → Bool
is_unfixed_create p site (Create line slot function arg) = not (is_fixed p site slot) || list_any (creates_in slot) site.before
is_unfixed_create p site s = false

-- a create isn't a statement of main's own list, its slot isn't fixed, or its slot has a create above
abbrev pub create_not_fixed : Program → List ℕ
create_not_fixed p = lines_where (λ site. is_unfixed_create p site site.stmt) p

abbrev pub is_unfixed_join : Program → Site → Stmt → Bool
is_unfixed_join p site (Join line slot) =
    not (is_fixed p site slot) || not (list_any (creates_in slot) site.before) || list_any (joins_in slot) site.before
is_unfixed_join p site s = false

-- a join isn't a statement of main's own list, its slot isn't fixed, or its slot has no create above, or a join above
abbrev pub join_not_fixed : Program → List ℕ
join_not_fixed p = lines_where (λ site. is_unfixed_join p site site.stmt) p
