-- Rules on objects: they are initialised before they are used, and lengths, capacities and monitors are in range.
use Rattle.std.specs.Prelude.{ℕ, ◌==◌, nat_le, Bool, true, false, not, ◌&&◌, ◌||◌, if◌then◌else◌, List, [], ◌∷◌, ◌++◌, length, map, filter, unwrap_or}
use Rattle.std.specs.List.{list_any}
use Rattle.c_tree.specs.declared.program.Array as declared_array
use Rattle.c_tree.specs.declared.program.Object.{Object}
use Rattle.c_tree.specs.declared.program.Slot.{Slot}
use Rattle.c_tree.specs.Lined.{Stmt, Program, Call, Create, Join, InitMutex, InitCond, Lock, TryLock, Unlock, Wait, Signal, Broadcast, Take, Give}
use Rattle.c_rules.specs.Sites.{inside, lines_where, is_main}
use Rattle.c_rules.specs.Naming.{capacity_lines}

-- ---- initialisation

-- a statement that may use an object, or let another thread use one
abbrev pub is_active : Stmt → Bool
is_active (Create line slot function arg) = true
is_active (Join line slot) = true
is_active (Lock line place) = true
is_active (TryLock line place taken busy) = true
is_active (Unlock line place) = true
is_active (Wait line cond mutex takes) = true
is_active (Signal line cond) = true
is_active (Broadcast line cond) = true
is_active (Call line target function args) = true
is_active s = false

-- it is one or holds one
abbrev pub has_active : Stmt → Bool
has_active s = is_active s || list_any (λ part. is_active part.stmt) (inside [] s)

abbrev pub is_init : Stmt → Bool
is_init (InitMutex line place) = true
is_init (InitCond line place) = true
is_init s = false

-- an init isn't in main, or the statement of main's own list that holds it, or one before that, has an active statement in it
abbrev pub init_late : Program → List ℕ
init_late p = lines_where (λ site. is_init site.stmt && (not (is_main site.function) || list_any has_active (site.holder ∷ site.before))) p

-- ---- ranges

abbrev pub has_no_member : declared_array.Array → Bool
has_no_member a = a.len == 0

abbrev pub has_no_object : Object → Bool
has_no_object o = unwrap_or o.len 1 == 0

abbrev pub has_no_slot : Slot → Bool
has_no_slot t = unwrap_or t.len 1 == 0

-- the capacities have no length, or one of them is 0
abbrev pub empty_capacity_lines : Program → List ℕ
empty_capacity_lines p = if (p.cap_len == 0) || list_any (λ capacity. capacity == 0) p.monitors then capacity_lines p else []

-- a take, a give or a wait's take of a monitor that isn't there
abbrev pub is_beyond : Program → Stmt → Bool
is_beyond p (Take line monitor) = nat_le (length p.monitors) monitor
is_beyond p (Give line monitor) = nat_le (length p.monitors) monitor
is_beyond p (Wait line cond mutex takes) = list_any (nat_le (length p.monitors)) takes
is_beyond p s = false

-- a declared length or a capacity is 0, or a take, a give or a wait's take names a monitor that isn't there
abbrev pub out_of_range : Program → List ℕ
out_of_range p =
    map (λ a. a.line) (filter has_no_member p.arrays) ++ map (λ o. o.line) (filter has_no_object (p.mutexes ++ p.conds))
    ++ map (λ t. t.line) (filter has_no_slot p.threads) ++ empty_capacity_lines p ++ lines_where (λ site. is_beyond p site.stmt) p
