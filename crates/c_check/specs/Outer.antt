-- What is broken by what a program declares outside functions.
use Rattle.std.specs.Prelude.{ℕ, ◌==◌, nat_lt, not, ◌&&◌, ◌||◌, if◌then◌else◌, List, [], ◌∷◌, ◌++◌, length, flat_map}
use Rattle.std.specs.declared.option.Option.{Option}
use Rattle.std.specs.List.{list_any}
use Rattle.c_tree.specs.declared.program.Mode.{Mode}
use Rattle.c_tree.specs.declared.program.Array as declared_array
use Rattle.c_tree.specs.declared.program.Object.{Object}
use Rattle.c_tree.specs.declared.program.Slot.{Slot}
use Rattle.c_tree.specs.Lined.{Function, Program}
use Rattle.c_rules.specs.declared.rule.Rule.TheVariants.{Reserved, LongName, WrongCount, NoMain, IndexRange}
use Rattle.c_rules.specs.Declarations.{Declaration}
use Rattle.c_rules.specs.Naming.{is_taken_for}
use Rattle.c_rules.specs.Using.{has_too_many_values, has_other_initialisers}
use Rattle.c_rules.specs.Objects.{has_no_member, has_no_object, has_no_slot}
use Rattle.c_rules.specs.Sites.{is_main}
use Rattle.c_names.specs.Tables.{joined}
use Rattle.c_acts.specs.declared.first.Break.{Break}
use Rattle.c_acts.specs.First.{break_if}
use Rattle.c_acts.specs.Acts.{outer_clash, is_source}

-- ---- names

-- what a declaration breaks behind others
abbrev pub declaration_breaks : Mode → (List ℕ → Option Declaration) → Declaration → List Break
declaration_breaks mode before d = break_if (is_taken_for mode d.name d.thing) Reserved d.line ++ outer_clash (before d.name) d.line

abbrev pub one_joined : (List ℕ → Option Declaration) → Declaration → List ℕ → Option Declaration
one_joined before d name = joined (before name) d name

abbrev pub all_joined : (List ℕ → Option Declaration) → List Declaration → List ℕ → Option Declaration
all_joined before [] = before
all_joined before (d ∷ ds) = all_joined (one_joined before d) ds

abbrev pub outer_breaks : Mode → (List ℕ → Option Declaration) → List Declaration → List Break
outer_breaks mode before [] = []
outer_breaks mode before (d ∷ ds) = declaration_breaks mode before d ++ outer_breaks mode (one_joined before d) ds

-- ---- lengths and values

abbrev pub array_breaks : declared_array.Array → List Break
array_breaks a = break_if (has_too_many_values a) WrongCount a.line ++ break_if (has_no_member a) IndexRange a.line

abbrev pub object_breaks : Object → List Break
object_breaks o = break_if (has_other_initialisers o) WrongCount o.line ++ break_if (has_no_object o) IndexRange o.line

abbrev pub slot_breaks : Slot → List Break
slot_breaks t = break_if (has_no_slot t) IndexRange t.line

abbrev pub length_breaks : Mode → Function → List Break
length_breaks mode f = break_if (is_source mode && nat_lt 56 (length f.name)) LongName f.line

abbrev pub capacity_breaks : Mode → Program → List Break
capacity_breaks mode p =
    if nat_lt 0 (length p.monitors) || nat_lt 0 p.cap_len
    then break_if (is_source mode) Reserved p.cap_line ++ (break_if (not (p.cap_len == length p.monitors)) WrongCount p.cap_line
    ++ break_if ((p.cap_len == 0) || list_any (λ capacity. capacity == 0) p.monitors) IndexRange p.cap_line)
    else []

abbrev pub part_breaks : Mode → Program → List Break
part_breaks mode p =
    flat_map array_breaks p.arrays
    ++ (flat_map object_breaks p.mutexes
    ++ (flat_map object_breaks p.conds
    ++ (flat_map slot_breaks p.threads
    ++ (flat_map (length_breaks mode) p.functions
    ++ (capacity_breaks mode p
    ++ break_if (not (list_any is_main p.functions)) NoMain p.end_line)))))
