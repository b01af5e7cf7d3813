-- Programs of the first form: threads that add to ints and lock and unlock mutexes, and a main that creates and joins them.
use Rattle.std.specs.Prelude.{ℕ, pos, ◌==◌, nat_le, nat_lt, Bool, true, false, not, ◌&&◌, ◌||◌, if◌then◌else◌, List, [], ◌∷◌, ◌++◌, length, map, flat_map, bytes_eq, Some, None, unwrap_or, filter}
use Rattle.std.specs.declared.option.Option.{Option}
use Rattle.std.specs.List.{list_any, list_all}
use Rattle.std.specs.Option.{is_none}
use Rattle.std.specs.Ordering.{int_eq}
use Rattle.c_tree.specs.declared.program.Kind.{Kind}
use Rattle.c_tree.specs.declared.program.Kind.TheVariants as kind
use Rattle.c_tree.specs.declared.expr.Op.TheVariants.{Add}
use Rattle.c_tree.specs.Expressions.{Expr, Number, Name, Binary, Place}
use Rattle.c_tree.specs.Bare.{Stmt, Stmts, Nil, Cons, Assign, Lock, Unlock, Create, Join, Return, Cell, Object, Slot, Function, Program}
use Rattle.c_tree.specs.Numbering.{main_name}
use Rattle.c_rules.specs.Names.{mentions, is_reserved}
use Rattle.c_tree.specs.Lined as lined
use Rattle.c_tree.specs.Lined.{bare_stmt, bare_program, line_of}

-- Names.

abbrev pub all_differ : List (List ℕ) → Bool
all_differ [] = true
all_differ (name ∷ names) = not (mentions names name) && all_differ names

-- what a program declares outside functions
abbrev pub outer_names : Program → List (List ℕ)
outer_names p = map (λ c. c.name) p.ints ++ map (λ m. m.name) p.mutexes ++ map (λ s. s.name) p.threads ++ map (λ f. f.name) p.functions

abbrev pub parameters : Program → List (List ℕ)
parameters p = flat_map (λ f. f.params) p.functions

-- the names differ, and none of them is reserved or, at a function, longer than 56 characters
abbrev pub has_good_names : Program → Bool
has_good_names p =
    all_differ (outer_names p) && list_all (λ name. not (mentions (outer_names p) name)) (parameters p)
    && list_all (λ name. not (is_reserved name)) (outer_names p ++ parameters p) && list_all (λ f. nat_le (length f.name) 56) p.functions

-- Declarations.

abbrev pub is_zero_int : Cell → Bool
is_zero_int c = int_eq c.value (pos 0)

abbrev pub is_ready_mutex : Object → Bool
is_ready_mutex m = is_none m.len && m.ready && (m.given == 1)

-- at most one array of threads, with at least one member
abbrev pub is_thread_array : List Slot → Bool
is_thread_array [] = true
is_thread_array (s ∷ []) = nat_lt 0 (unwrap_or s.len 0)
is_thread_array (s ∷ more ∷ slots) = false

abbrev pub has_first_declarations : Program → Bool
has_first_declarations p =
    list_all is_zero_int p.ints && (length p.arrays == 0) && list_all is_ready_mutex p.mutexes && nat_le (length p.mutexes) 48
    && (length p.conds == 0) && is_thread_array p.threads && (length p.monitors == 0) && (p.cap_len == 0)

-- Statements of threads.

-- a scalar of one of these names
abbrev pub is_scalar_of : List (List ℕ) → Place → Bool
is_scalar_of names place = is_none place.index && mentions names place.name

abbrev pub ints_of : Program → List (List ℕ)
ints_of p = map (λ c. c.name) p.ints

abbrev pub mutexes_of : Program → List (List ℕ)
mutexes_of p = map (λ m. m.name) p.mutexes

-- an int plus a number
abbrev pub is_sum : Program → Expr → Bool
is_sum p (Binary Add (Name name) (Number k)) = mentions (ints_of p) name
is_sum p e = false

abbrev pub is_first_act : Program → Stmt → Bool
is_first_act p (Assign target value) = is_scalar_of (ints_of p) target && is_sum p value
is_first_act p (Lock place) = is_scalar_of (mutexes_of p) place
is_first_act p (Unlock place) = is_scalar_of (mutexes_of p) place
is_first_act p s = false

-- acts, and last a return without a value
abbrev pub is_thread_body : Program → Stmts → Bool
is_thread_body p Nil = false
is_thread_body p (Cons (Return None) Nil) = true
is_thread_body p (Cons s rest) = is_first_act p s && is_thread_body p rest

-- Statements of main.

abbrev pub is_thread_kind : Kind → Bool
is_thread_kind kind.Main = false
is_thread_kind kind.Thread = true
is_thread_kind kind.Int = false
is_thread_kind kind.Void = false

abbrev pub is_main_kind : Kind → Bool
is_main_kind kind.Main = true
is_main_kind kind.Thread = false
is_main_kind kind.Int = false
is_main_kind kind.Void = false

-- the functions that threads may begin with
abbrev pub start_functions : Program → List (List ℕ)
start_functions p = map (λ f. f.name) (filter (λ f. is_thread_kind f.kind) p.functions)

abbrev pub slots_of : Program → List (List ℕ)
slots_of p = map (λ s. s.name) p.threads

-- the length of the array of threads, or 0
abbrev pub slot_len : List Slot → ℕ
slot_len [] = 0
slot_len (s ∷ slots) = unwrap_or s.len 0

-- a member of the array of threads, whose index is a number below its length
abbrev pub is_number_below : ℕ → Option Expr → Bool
is_number_below len (Some (Number k)) = nat_lt k len
is_number_below len index = false

abbrev pub is_slot : Program → Place → Bool
is_slot p place = mentions (slots_of p) place.name && is_number_below (slot_len p.threads) place.index

-- `NULL`
abbrev pub is_null : Expr → Bool
is_null (Number k) = k == 0
is_null e = false

-- joins, and last `return 0`
abbrev pub is_joining : Program → Stmts → Bool
is_joining p (Cons (Return (Some e)) Nil) = is_null e
is_joining p (Cons (Join slot) rest) = is_slot p slot && is_joining p rest
is_joining p s = false

-- creates, then joins, and last `return 0`
abbrev pub is_main_body : Program → Stmts → Bool
is_main_body p (Cons (Create slot function arg) rest) =
    is_slot p slot && mentions (start_functions p) function && is_null arg && is_main_body p rest
is_main_body p rest = is_joining p rest

-- the index of a place, where it is a number
abbrev pub indices : Option Expr → List ℕ
indices (Some (Number k)) = k ∷ []
indices index = []

abbrev pub created : Stmts → List ℕ
created (Cons (Create slot function arg) rest) = indices slot.index ++ created rest
created (Cons s rest) = created rest
created Nil = []

abbrev pub joined : Stmts → List ℕ
joined (Cons (Join slot) rest) = indices slot.index ++ joined rest
joined (Cons s rest) = joined rest
joined Nil = []

abbrev pub has_number : List ℕ → ℕ → Bool
has_number numbers k = list_any (λ n. n == k) numbers

abbrev pub numbers_differ : List ℕ → Bool
numbers_differ [] = true
numbers_differ (k ∷ numbers) = not (has_number numbers k) && numbers_differ numbers

-- at most 31 creates; none twice, no join twice, and each thread that is joined is created
abbrev pub has_good_threads : Stmts → Bool
has_good_threads body =
    nat_le (length (created body)) 31 && numbers_differ (created body) && numbers_differ (joined body)
    && list_all (has_number (created body)) (joined body)

-- Functions: those of threads, with one parameter each, and last main.

abbrev pub is_thread : Program → Function → Bool
is_thread p f = is_thread_kind f.kind && (length f.params == 1) && is_thread_body p f.body

abbrev pub is_main : Program → Function → Bool
is_main p f = is_main_kind f.kind && bytes_eq f.name main_name && (length f.params == 0) && is_main_body p f.body && has_good_threads f.body

abbrev pub has_first_functions : Program → List Function → Bool
has_first_functions p [] = false
has_first_functions p (f ∷ []) = is_main p f
has_first_functions p (f ∷ g ∷ fs) = is_thread p f && has_first_functions p (g ∷ fs)

-- Locks.

-- a mutex was locked by a statement above, of which the nearest stands first, and not unlocked since
abbrev pub holds : List Stmt → List ℕ → Bool
holds [] name = false
holds (Lock place ∷ above) name = bytes_eq place.name name || holds above name
holds (Unlock place ∷ above) name = not (bytes_eq place.name name) && holds above name
holds (s ∷ above) name = holds above name

abbrev pub holds_some : Program → List Stmt → Bool
holds_some p above = list_any (holds above) (mutexes_of p)

-- an unlock stands where its mutex is held
abbrev pub releases_held : List Stmt → Stmt → Bool
releases_held above (Unlock place) = holds above place.name
releases_held above s = true

-- each unlock releases what is held, and nothing is held at the end
abbrev pub is_balanced : Program → List Stmt → Stmts → Bool
is_balanced p above Nil = not (holds_some p above)
is_balanced p above (Cons s rest) = releases_held above s && is_balanced p (s ∷ above) rest

abbrev pub has_balanced_locks : Program → Bool
has_balanced_locks p = list_all (λ f. is_balanced p [] f.body) p.functions

-- a program of the first form
abbrev pub is_first_form : Program → Bool
is_first_form p = has_first_declarations p && has_good_names p && has_first_functions p p.functions && has_balanced_locks p

-- Nested locks.

abbrev pub is_lock : Stmt → Bool
is_lock (Lock place) = true
is_lock s = false

-- the line of the first lock that stands where its function has another lock above that isn't unlocked since
abbrev pub nested_line : Program → List Stmt → lined.Stmts → Option ℕ
nested_line p above lined.Nil = None
nested_line p above (lined.Cons s rest) =
    if is_lock (bare_stmt s) && holds_some p above then Some (line_of s) else nested_line p (bare_stmt s ∷ above) rest

abbrev pub or_line : Option ℕ → Option ℕ → Option ℕ
or_line (Some line) later = Some line
or_line None later = later

-- the functions are gone through in the order of the text
abbrev pub first_line : Program → List lined.Function → Option ℕ
first_line p [] = None
first_line p (f ∷ fs) = or_line (nested_line p [] f.body) (first_line p fs)

-- the line of a program's first nested lock
abbrev pub first_nested : lined.Program → Option ℕ
first_nested p = first_line (bare_program p) p.functions
