-- The canonical layout of declarations, functions and programs.
use Rattle.std.specs.Prelude.{ℕ, ℤ, pos, negsuc, suc, Bool, true, false, List, [], ◌∷◌, ◌++◌, codes, map, replicate, Option, Some, None}
use Rattle.std.specs.List.{flat_map}
use Rattle.c_lexer.specs.declared.token.Sign.TheVariants as s
use Rattle.c_layout.specs.Layout.{Item, word, number, sign, space, newline, include}
use Rattle.c_tree.specs.declared.program.Kind.{Kind}
use Rattle.c_tree.specs.declared.program.Kind.TheVariants as k
use Rattle.c_tree.specs.Bare.{Cell, Array, Object, Slot, Function, Program}
use Rattle.c_canonical.specs.Expressions.{separated, numeral}
use Rattle.c_canonical.specs.Statements.{statements}
use Rattle.c_canonical.specs.Waits.{some_waits}

-- A number of type `int`.
abbrev pub value : ℤ → List Item
value (pos n) = number n ∷ []
value (negsuc n) = sign s.Minus ∷ number (suc n) ∷ []

-- `{ITEMS, ITEMS}`
abbrev pub braced : List (List Item) → List Item
braced parts = sign s.LeftBrace ∷ (separated parts ++ sign s.RightBrace ∷ [])

-- ` = ITEMS`
abbrev pub equals : List Item → List Item
equals items = space ∷ sign s.Assign ∷ space ∷ items

-- `[LENGTH]`, if there is a length
abbrev pub length_of : Option ℕ → List Item
length_of None = []
length_of (Some n) = sign s.LeftBracket ∷ number n ∷ sign s.RightBracket ∷ []

-- `TYPE ITEMS;` on a line
abbrev pub declared : List ℕ → List Item → List Item
declared kind items = word kind ∷ space ∷ (items ++ sign s.Semicolon ∷ newline ∷ [])

-- `int x = 0;`
abbrev pub cell : Cell → List Item
cell c = declared (codes "int") (word c.name ∷ equals (value c.value))

-- The initial values of an array, if it has any.
abbrev pub values : List ℤ → List Item
values [] = []
values (v ∷ vs) = equals (braced (map value (v ∷ vs)))

-- `int q[3];` or `int q[3] = {1, 2};`
abbrev pub array : Array → List Item
array a = declared (codes "int") (word a.name ∷ (length_of (Some a.len) ++ values a.values))

-- The initialisers of an object: one, or those of an array.
abbrev pub initialisers : List ℕ → Option ℕ → ℕ → List Item
initialisers initialiser None given = equals (word initialiser ∷ [])
initialisers initialiser (Some len) given = equals (braced (replicate given (word initialiser ∷ [])))

-- What an object that has initialisers shows of them.
abbrev pub readied : Bool → List Item → List Item
readied false items = []
readied true items = items

-- `TYPE a = INITIALISER;`, `TYPE f[3];` or `TYPE f[2] = {INITIALISER, INITIALISER};`
abbrev pub object : List ℕ → List ℕ → Object → List Item
object kind initialiser o = declared kind (word o.name ∷ (length_of o.len ++ readied o.ready (initialisers initialiser o.len o.given)))

-- A mutex, and a condition.
abbrev pub mutex : Object → List Item
mutex = object (codes "pthread_mutex_t") (codes "PTHREAD_MUTEX_INITIALIZER")

abbrev pub condition : Object → List Item
condition = object (codes "pthread_cond_t") (codes "PTHREAD_COND_INITIALIZER")

-- `pthread_t t[2];`
abbrev pub slot : Slot → List Item
slot t = declared (codes "pthread_t") (word t.name ∷ length_of t.len)

-- `void NAME(int k);` on a line
abbrev pub monitor_call : List ℕ → List Item
monitor_call name =
    declared (codes "void") (word name ∷ sign s.LeftParenthesis ∷ word (codes "int") ∷ space ∷ word (codes "k") ∷ sign s.RightParenthesis ∷ [])

-- `void gd_cond_wait(pthread_cond_t *c, pthread_mutex_t *m, ...);` on a line, where it is wanted
abbrev pub wait_call : Bool → List Item
wait_call false = []
wait_call true =
    declared (codes "void")
    (word (codes "gd_cond_wait") ∷ sign s.LeftParenthesis ∷ word (codes "pthread_cond_t") ∷ space ∷ sign s.Star ∷ word (codes "c") ∷ sign s.Comma ∷ space
    ∷ word (codes "pthread_mutex_t") ∷ space ∷ sign s.Star ∷ word (codes "m") ∷ sign s.Comma ∷ space ∷ sign s.Ellipsis ∷ sign s.RightParenthesis ∷ [])

-- The declarations of the monitors, if there are any. The flag says that some wait takes tokens.
abbrev pub monitors : ℕ → List ℕ → Bool → List Item
monitors len [] waits = []
monitors len (cap ∷ caps) waits =
    declared (codes "int") (word (codes "gd_cap") ∷ (length_of (Some len) ++ equals (braced (map numeral (cap ∷ caps)))))
    ++ (monitor_call (codes "gd_take") ++ (monitor_call (codes "gd_give") ++ wait_call waits))

-- What a function of this kind gives, before its name.
abbrev pub result_type : Kind → List Item
result_type k.Main = word (codes "int") ∷ space ∷ []
result_type k.Int = word (codes "int") ∷ space ∷ []
result_type k.Void = word (codes "void") ∷ space ∷ []
result_type k.Thread = word (codes "void") ∷ space ∷ sign s.Star ∷ []

-- A parameter of a function of this kind.
abbrev pub parameter_type : Kind → List Item
parameter_type k.Thread = word (codes "void") ∷ space ∷ sign s.Star ∷ []
parameter_type kind = word (codes "int") ∷ space ∷ []

abbrev pub parameter : Kind → List ℕ → List Item
parameter kind name = parameter_type kind ++ word name ∷ []

-- The parameters of such a function; `void` where there are none.
abbrev pub parameters : Kind → List (List ℕ) → List Item
parameters kind [] = word (codes "void") ∷ []
parameters kind (p ∷ ps) = separated (map (parameter kind) (p ∷ ps))

-- The head of a function up to its `{`, behind an empty line.
abbrev pub function_head : Function → List Item
function_head f =
    newline ∷ (result_type f.kind ++ word f.name ∷ sign s.LeftParenthesis ∷ (parameters f.kind f.params ++ sign s.RightParenthesis ∷ space ∷ sign s.LeftBrace ∷ newline ∷ []))

-- A function: its head, its statements and its closing brace, each on lines of their own.
abbrev pub function : Function → List Item
function f = function_head f ++ (statements f.kind (codes "    ") f.body ++ sign s.RightBrace ∷ newline ∷ [])

-- The declarations of a program, one on each line.
abbrev pub declarations : Program → List Item
declarations p =
    monitors p.cap_len p.monitors (some_waits p.functions) ++ (flat_map cell p.ints ++ (flat_map array p.arrays ++ (flat_map mutex p.mutexes
    ++ (flat_map condition p.conds ++ flat_map slot p.threads))))

-- The includes, the declarations and the functions of a program.
abbrev pub layout_of : Program → List Item
layout_of p =
    include (codes "<pthread.h>") ∷ newline ∷ include (codes "<stdio.h>") ∷ newline ∷ (declarations p ++ flat_map function p.functions)
