-- What a statement that holds no others breaks.
use Rattle.std.specs.Prelude.{ℕ, ◌==◌, nat_le, nat_lt, max, Bool, true, false, not, ◌&&◌, ◌||◌, List, [], ◌∷◌, ◌++◌, length, bytes_eq, is_none, is_some, Some, None}
use Rattle.std.specs.declared.option.Option.{Option}
use Rattle.std.specs.List.{list_any}
use Rattle.c_tree.specs.declared.program.Mode.{Mode}
use Rattle.c_tree.specs.declared.program.Mode.TheVariants as mode
use Rattle.c_tree.specs.Expressions.{Expr}
use Rattle.c_tree.specs.Lined.{Stmt, Declare, Assign, Call, If, While, For, Return, Read, Print, Create, Join, InitMutex, InitCond, Lock, TryLock, Unlock, Wait, Signal, Broadcast, Take, Give}
use Rattle.c_rules.specs.declared.rule.Rule.TheVariants.{Reserved, Twice, WrongCount, Recursion, CreateNotFixed, JoinNotFixed, ArgNotConstant, InitLate, IndexRange}
use Rattle.c_rules.specs.Names.{is_reserved}
use Rattle.c_rules.specs.Declarations.{Declaration}
use Rattle.c_rules.specs.declared.role.Role.TheVariants.{Value, OfMutex, OfCondition, OfThread, Start, Called}
use Rattle.c_rules.specs.Uses.{plain, of_expr, of_exprs, of_value, of_place, of_target}
use Rattle.c_rules.specs.Using.{takes_others, count_of, arguments_of}
use Rattle.c_rules.specs.Threads.{number_of}
use Rattle.c_names.specs.Tables.{meaning_by}
use Rattle.c_acts.specs.declared.first.Break.{Break}
use Rattle.c_acts.specs.First.{break, break_if}
use Rattle.c_acts.specs.Uses.{Around, uses_breaks}

-- ---- locals

-- a local has the name of something outside functions; the later line counts
abbrev pub outer_clash : Option Declaration → ℕ → List Break
outer_clash None line = []
outer_clash (Some d) line = break Twice (max d.line line) ∷ []

-- a local or a parameter of this name is declared
abbrev pub local_breaks : Around → (List ℕ → Bool) → List ℕ → ℕ → List Break
local_breaks a inside name line = break_if (is_reserved name) Reserved line ++ break_if (inside name) Twice line ++ outer_clash (a.outside name) line

-- a name comes into scope
abbrev pub entered : List ℕ → (List ℕ → Bool) → List ℕ → Bool
entered name inside n = bytes_eq n name || inside n

abbrev pub declare_breaks : Around → (List ℕ → Bool) → ℕ → List ℕ → Option Expr → List Break
declare_breaks a inside line name value = local_breaks a inside name line ++ uses_breaks a (entered name inside) line (of_value value)

-- ---- the others

abbrev pub is_source : Mode → Bool
is_source mode.Source = true
is_source mode.Any = false

abbrev pub monitor_breaks : Around → ℕ → ℕ → List Break
monitor_breaks a line monitor = break_if (is_source a.mode) Reserved line ++ break_if (nat_le a.monitors monitor) IndexRange line

-- a wait that takes a token of each of these monitors
abbrev pub takes_breaks : Around → ℕ → List ℕ → List Break
takes_breaks a line takes =
    break_if (nat_lt 0 (length takes) && is_source a.mode) Reserved line ++ break_if (list_any (nat_le a.monitors) takes) IndexRange line

-- a call of this function with so many arguments
abbrev pub call_breaks : Around → (List ℕ → Bool) → ℕ → List ℕ → ℕ → List Break
call_breaks a inside line function count =
    break_if (takes_others (meaning_by a.outside inside a.function function) count) WrongCount line
    ++ break_if (bytes_eq function a.function.name) Recursion line

-- a print of this format with so many arguments
abbrev pub print_breaks : ℕ → List ℕ → ℕ → List Break
print_breaks line format count = break_if (not (arguments_of false format == count)) WrongCount line

abbrev pub create_breaks : (unfixed : Bool) → ℕ → Expr → List Break
create_breaks unfixed line arg = break_if unfixed CreateNotFixed line ++ break_if (is_none (number_of arg)) ArgNotConstant line

-- what a statement breaks that neither declares nor holds others; a create or join may not be fixed, and an init may be late
abbrev pub act_breaks : Around → (List ℕ → Bool) → (unfixed late : Bool) → Stmt → List Break
act_breaks a inside unfixed late (Declare line name value) = []
act_breaks a inside unfixed late (Assign line target value) = uses_breaks a inside line (of_place Value target ++ of_expr value)
act_breaks a inside unfixed late (Call line target function args) =
    uses_breaks a inside line (of_target target ++ plain (Called (is_some target)) function ∷ of_exprs args) ++ call_breaks a inside line function (count_of args)
act_breaks a inside unfixed late (If line test then_arm else_arm) = []
act_breaks a inside unfixed late (While line test body) = []
act_breaks a inside unfixed late (For line first_part test step body) = []
act_breaks a inside unfixed late (Return line value) = uses_breaks a inside line (of_value value)
act_breaks a inside unfixed late (Read line target) = uses_breaks a inside line (of_place Value target)
act_breaks a inside unfixed late (Print line format args) = uses_breaks a inside line (of_exprs args) ++ print_breaks line format (count_of args)
act_breaks a inside unfixed late (Create line slot function arg) =
    uses_breaks a inside line (of_place OfThread slot ++ plain Start function ∷ of_expr arg) ++ create_breaks unfixed line arg
act_breaks a inside unfixed late (Join line slot) = uses_breaks a inside line (of_place OfThread slot) ++ break_if unfixed JoinNotFixed line
act_breaks a inside unfixed late (InitMutex line place) = uses_breaks a inside line (of_place OfMutex place) ++ break_if late InitLate line
act_breaks a inside unfixed late (InitCond line place) = uses_breaks a inside line (of_place OfCondition place) ++ break_if late InitLate line
act_breaks a inside unfixed late (Lock line place) = uses_breaks a inside line (of_place OfMutex place)
act_breaks a inside unfixed late (TryLock line place taken busy) = []
act_breaks a inside unfixed late (Unlock line place) = uses_breaks a inside line (of_place OfMutex place)
act_breaks a inside unfixed late (Wait line cond mutex takes) =
    uses_breaks a inside line (of_place OfCondition cond ++ of_place OfMutex mutex) ++ takes_breaks a line takes
act_breaks a inside unfixed late (Signal line cond) = uses_breaks a inside line (of_place OfCondition cond)
act_breaks a inside unfixed late (Broadcast line cond) = uses_breaks a inside line (of_place OfCondition cond)
act_breaks a inside unfixed late (Take line monitor) = monitor_breaks a line monitor
act_breaks a inside unfixed late (Give line monitor) = monitor_breaks a line monitor
