-- The parser of what stands outside functions, and of the heads of functions, as functions on lists of tokens.
--
-- No definition stands inside a declaration, so which words have one is fixed in it. Behind `int`, a name may go on as a
-- scalar, an array or a function, and the next token tells which.
use Rattle.std.specs.Prelude.{ℕ, suc, ℤ, pos, neg_ℤ, Bool, true, false, if◌then◌else◌, List, [], ◌∷◌, ◌++◌, Option, Some, None}
use Rattle.c_lexer.specs.declared.token.Sign.{Sign}
use Rattle.c_lexer.specs.declared.token.Sign.TheVariants as s
use Rattle.c_tree.specs.declared.program.Kind.TheVariants as kind
use Rattle.c_tree.specs.declared.program.Object.{Object}
use Rattle.c_grammar.specs.declared.words.FixedWord.{FixedWord}
use Rattle.c_grammar.specs.declared.words.FixedWord.TheVariants as w
use Rattle.c_grammar.specs.Items.{What, name_of, cell_name, function_name, spelling}
use Rattle.parse_laws.specs.Parser.{Parser, ◌>>=◌, pure, refuse, Move, Stop, Go, commit, when, must, many, separated}
use Rattle.c_expressions.specs.Parsers.{Sight, seen, is, go_named, named}
use Rattle.c_declarations.specs.declared.tree.Sort.{Sort}
use Rattle.c_declarations.specs.declared.tree.Sort.TheVariants as sort
use Rattle.c_declarations.specs.declared.tree.Declared.{Declared}
use Rattle.c_declarations.specs.declared.tree.Declared.TheVariants as declared
use Rattle.c_declarations.specs.declared.tree.Ints.{Ints}
use Rattle.c_declarations.specs.declared.tree.Capacities.{Capacities}
use Rattle.c_declarations.specs.declared.tree.Head.{Head}
use Rattle.c_declarations.specs.declared.tree.Begun.{Begun}
use Rattle.c_declarations.specs.declared.tree.Begun.TheVariants as begun
use Rattle.c_declarations.specs.Words.{is_word, number_of, held, line_in, initial_word}

-- the line of a token
abbrev pub line : {Token : Type 0} → Sight Token → Token → ℕ
line v u = line_in (v.item u)

abbrev pub is_fixed : {Token : Type 0} → Sight Token → FixedWord → Token → Bool
is_fixed v word u = is_word word (seen v u)

-- what a token may be, and a parser behind it
abbrev pub go_with : {Token A B : Type 0} → (B → Parser Token A) → Option B → Move Token A
go_with p None = Stop
go_with p (Some x) = Go (p x)

-- a name
unfoldable pub name : {Token : Type 0} → Sight Token → Parser Token (List ℕ)
name v = commit (named v pure) refuse

-- K
unfoldable pub number : {Token : Type 0} → Sight Token → Parser Token ℕ
number v = commit (λ u. go_with pure (number_of (seen v u))) refuse

-- behind `[`: K ]
unfoldable pub length_behind : {Token : Type 0} → Sight Token → Parser Token ℕ
length_behind v = number v >>= λ k. must (is v s.RightBracket) (pure k)

-- ---- lists

abbrev pub alone : {A : Type 0} → A → List A
alone x = x ∷ []

abbrev pub grown : {A : Type 0} → List A → A → List A
grown all x = all ++ x ∷ []

-- behind a comma
abbrev pub comma : {Token A : Type 0} → Sight Token → Parser Token A → Token → Move Token A
comma v item u = when (is v s.Comma u) item

-- what is read behind commas, added to what was read before
abbrev pub more : {Token A B : Type 0} → Sight Token → Parser Token A → (B → A → B) → B → Parser Token B
more v item add all = many (comma v item) add all

-- one item, or several with commas between them
abbrev pub commas : {Token A : Type 0} → Sight Token → Parser Token A → Parser Token (List A)
commas v item = separated (is v s.Comma) item grown alone

-- in braces
abbrev pub braced : {Token A : Type 0} → Sight Token → Parser Token A → Parser Token A
braced v p = must (is v s.LeftBrace) (p >>= λ x. must (is v s.RightBrace) (pure x))

-- ended by a sign
abbrev pub ended : {Token A : Type 0} → Sight Token → Sign → Parser Token A → Parser Token A
ended v sign p = p >>= λ x. must (is v sign) (pure x)

-- ---- values; `holds` tells which numbers they may be

-- behind `-`
unfoldable pub negative : {Token : Type 0} → Sight Token → (ℕ → Bool) → Parser Token ℤ
negative v holds = commit (λ u. go_with (λ k. pure (neg_ℤ (pos k))) (held holds (seen v u))) refuse

abbrev pub value_by : {Token : Type 0} → Sight Token → (ℕ → Bool) → Token → Move Token ℤ
value_by v holds u = if is v s.Minus u then Go (negative v holds) else go_with (λ k. pure (pos k)) (held holds (seen v u))

-- [-] K
unfoldable pub value : {Token : Type 0} → Sight Token → (ℕ → Bool) → Parser Token ℤ
value v holds = commit (value_by v holds) refuse

-- value {, value}
unfoldable pub values : {Token : Type 0} → Sight Token → (ℕ → Bool) → Parser Token (List ℤ)
values v holds = commas v (value v holds)

-- ---- ints, each with the line l of its name n

abbrev pub scalar : ℕ → List ℕ → ℤ → Declared
scalar l n value = declared.Scalar (record { name = n; value = value; line = l })

abbrev pub several : ℕ → List ℕ → ℕ → List ℤ → Declared
several l n len all = declared.Several (record { name = n; len = len; values = all; line = l })

-- behind `]`: = { values }, or nothing
unfoldable pub array_end : {Token : Type 0} → Sight Token → (ℕ → Bool) → ℕ → List ℕ → ℕ → Parser Token Declared
array_end v holds l n len =
    commit (λ u. when (is v s.Assign u) (braced v (values v holds) >>= λ all. pure (several l n len all))) (pure (several l n len []))

-- behind `[`
unfoldable pub array_behind : {Token : Type 0} → Sight Token → (ℕ → Bool) → ℕ → List ℕ → Parser Token Declared
array_behind v holds l n = length_behind v >>= λ len. array_end v holds l n len

-- behind `=`
unfoldable pub scalar_behind : {Token : Type 0} → Sight Token → (ℕ → Bool) → ℕ → List ℕ → Parser Token Declared
scalar_behind v holds l n = value v holds >>= λ x. pure (scalar l n x)

abbrev pub cell_by : {Token : Type 0} → Sight Token → (ℕ → Bool) → ℕ → List ℕ → Token → Move Token Declared
cell_by v holds l n u = if is v s.Assign u then Go (scalar_behind v holds l n) else when (is v s.LeftBracket u) (array_behind v holds l n)

-- behind the name
unfoldable pub cell_behind : {Token : Type 0} → Sight Token → (ℕ → Bool) → ℕ → List ℕ → Parser Token Declared
cell_behind v holds l n = commit (cell_by v holds l n) (pure (scalar l n (pos 0)))

unfoldable pub cell : {Token : Type 0} → Sight Token → (ℕ → Bool) → Parser Token Declared
cell v holds = commit (λ u. go_named (cell_behind v holds (line v u)) (cell_name (seen v u))) refuse

abbrev pub no_ints : Ints
no_ints = record { cells = []; arrays = [] }

abbrev pub with_declared : Ints → Declared → Ints
with_declared all (declared.Scalar x) = record { cells = all.cells ++ x ∷ []; arrays = all.arrays }
with_declared all (declared.Several x) = record { cells = all.cells; arrays = all.arrays ++ x ∷ [] }

-- behind a first one
abbrev pub more_cells : {Token : Type 0} → Sight Token → (ℕ → Bool) → Ints → Parser Token Ints
more_cells v holds all = more v (cell v holds) with_declared all

-- behind the first name: the rest of the list, and `;`
unfoldable pub cells_behind : {Token : Type 0} → Sight Token → (ℕ → Bool) → ℕ → List ℕ → Parser Token Ints
cells_behind v holds l n = cell_behind v holds l n >>= λ x. ended v s.Semicolon (more_cells v holds (with_declared no_ints x))

-- ---- mutexes and conditions

-- the word that one begins with has no definition
abbrev pub is_ready : {Token : Type 0} → Sight Token → Sort → Bool
is_ready v sort.Mutex = v.ready_mutexes
is_ready v sort.Condition = v.ready_conditions

-- that word
abbrev pub is_initial : {Token : Type 0} → Sight Token → Sort → Token → Bool
is_initial v o u = is_fixed v (initial_word o) u

unfoldable pub initial : {Token : Type 0} → Sight Token → Sort → Parser Token ℕ
initial v o = must (is_initial v o) (pure 1)

abbrev pub counted : ℕ → ℕ → ℕ
counted all one = suc all

-- how many there are, with commas between them
unfoldable pub initials : {Token : Type 0} → Sight Token → Sort → Parser Token ℕ
initials v o = separated (is v s.Comma) (initial v o) counted (λ one. one)

abbrev pub object_of : ℕ → List ℕ → Option ℕ → Bool → ℕ → Object
object_of l n len ready given = record { name = n; len = len; ready = ready; given = given; line = l }

abbrev pub ready_by : {Token A : Type 0} → Sight Token → Sort → Parser Token A → Token → Move Token A
ready_by v o p u = if is v s.Assign u then when (is_ready v o) p else Stop

-- behind `]`: = { initialisers }, or nothing
unfoldable pub objects_end : {Token : Type 0} → Sight Token → Sort → ℕ → List ℕ → ℕ → Parser Token Object
objects_end v o l n len =
    commit (ready_by v o (braced v (initials v o) >>= λ given. pure (object_of l n (Some len) true given))) (pure (object_of l n (Some len) false 0))

-- behind `[`
unfoldable pub objects_behind : {Token : Type 0} → Sight Token → Sort → ℕ → List ℕ → Parser Token Object
objects_behind v o l n = length_behind v >>= λ len. objects_end v o l n len

-- behind `=`
unfoldable pub ready_object : {Token : Type 0} → Sight Token → Sort → ℕ → List ℕ → Parser Token Object
ready_object v o l n = initial v o >>= λ given. pure (object_of l n None true given)

abbrev pub object_by : {Token : Type 0} → Sight Token → Sort → ℕ → List ℕ → Token → Move Token Object
object_by v o l n u = if is v s.LeftBracket u then Go (objects_behind v o l n) else ready_by v o (ready_object v o l n) u

-- behind the name
unfoldable pub object_behind : {Token : Type 0} → Sight Token → Sort → ℕ → List ℕ → Parser Token Object
object_behind v o l n = commit (object_by v o l n) (pure (object_of l n None false 0))

unfoldable pub object : {Token : Type 0} → Sight Token → Sort → Parser Token Object
object v o = commit (λ u. named v (object_behind v o (line v u)) u) refuse

-- behind the word of the type: object {, object} ;
unfoldable pub objects : {Token : Type 0} → Sight Token → Sort → Parser Token (List Object)
objects v o = ended v s.Semicolon (commas v (object v o))

-- ---- the capacities

-- K {, K}
unfoldable pub numbers : {Token : Type 0} → Sight Token → Parser Token (List ℕ)
numbers v = commas v (number v)

-- ( int k ) ;
unfoldable pub prototype_end : {Token : Type 0} → Sight Token → Parser Token (Unit {0})
prototype_end v =
    must (is v s.LeftParenthesis) (must (is_fixed v w.Int) (must (is_fixed v w.Parameter) (must (is v s.RightParenthesis) (must (is v s.Semicolon) (pure tt)))))

-- void W ( int k ) ;
unfoldable pub prototype : {Token : Type 0} → Sight Token → FixedWord → Parser Token (Unit {0})
prototype v word = must (is_fixed v w.Void) (must (is_fixed v word) (prototype_end v))

abbrev pub capacities_of : ℕ → ℕ → List ℕ → Capacities
capacities_of l len all = record { len = len; values = all; line = l }

-- behind `]`: = { numbers } ;
unfoldable pub capacity_values : {Token : Type 0} → Sight Token → Parser Token (List ℕ)
capacity_values v = must (is v s.Assign) (ended v s.Semicolon (braced v (numbers v)))

-- the prototypes of `gd_take` and `gd_give`
unfoldable pub prototypes : {Token : Type 0} → Sight Token → Parser Token (Unit {0})
prototypes v = prototype v w.Take >>= λ _. prototype v w.Give

-- behind `int gd_cap [`, on the line l of `gd_cap`
unfoldable pub capacities : {Token : Type 0} → Sight Token → ℕ → Parser Token Capacities
capacities v l = length_behind v >>= λ len. capacity_values v >>= λ all. prototypes v >>= λ _. pure (capacities_of l len all)

-- ---- heads, up to their `)`, each with the line l of its first token

-- int N
unfoldable pub parameter : {Token : Type 0} → Sight Token → Parser Token (List ℕ)
parameter v = must (is_fixed v w.Int) (name v)

abbrev pub no_parameters_by : {Token : Type 0} → Sight Token → What → Move Token (List (List ℕ))
no_parameters_by v (What.Fixed w.Void) = Go (must (is v s.RightParenthesis) (pure []))
no_parameters_by v (What.Sign s.RightParenthesis) = Go (pure [])
no_parameters_by v other = Stop

-- [void] )
unfoldable pub no_parameters : {Token : Type 0} → Sight Token → Parser Token (List (List ℕ))
no_parameters v = commit (λ u. no_parameters_by v (seen v u)) refuse

-- behind `int`: N {, int N} )
unfoldable pub some_parameters : {Token : Type 0} → Sight Token → Parser Token (List (List ℕ))
some_parameters v = name v >>= λ n. ended v s.RightParenthesis (more v (parameter v) grown (alone n))

abbrev pub parameters_by : {Token : Type 0} → Sight Token → What → Move Token (List (List ℕ))
parameters_by v (What.Fixed w.Int) = Go (some_parameters v)
parameters_by v other = no_parameters_by v other

-- parameters or none, and `)`
unfoldable pub parameters : {Token : Type 0} → Sight Token → Parser Token (List (List ℕ))
parameters v = commit (λ u. parameters_by v (seen v u)) refuse

-- behind `int main (`
unfoldable pub main_head : {Token : Type 0} → Sight Token → ℕ → Parser Token Head
main_head v l = no_parameters v >>= λ all. pure (record { name = spelling w.Main; kind = kind.Main; params = all; line = l })

-- behind `int N (`
unfoldable pub int_head : {Token : Type 0} → Sight Token → ℕ → List ℕ → Parser Token Head
int_head v l n = parameters v >>= λ all. pure (record { name = n; kind = kind.Int; params = all; line = l })

-- behind `void N`
unfoldable pub void_head : {Token : Type 0} → Sight Token → ℕ → List ℕ → Parser Token Head
void_head v l n = must (is v s.LeftParenthesis) (parameters v >>= λ all. pure (record { name = n; kind = kind.Void; params = all; line = l }))

-- void * N
unfoldable pub start_parameter : {Token : Type 0} → Sight Token → Parser Token (List ℕ)
start_parameter v = must (is_fixed v w.Void) (must (is v s.Star) (name v))

-- behind `void * N`
unfoldable pub start_head : {Token : Type 0} → Sight Token → ℕ → List ℕ → Parser Token Head
start_head v l n =
    must (is v s.LeftParenthesis) (ended v s.RightParenthesis (start_parameter v) >>= λ x. pure (record { name = n; kind = kind.Thread; params = x ∷ []; line = l }))

-- behind `void *`
unfoldable pub thread_head : {Token : Type 0} → Sight Token → ℕ → Parser Token Head
thread_head v l = commit (λ u. go_named (start_head v l) (function_name (seen v u))) refuse

abbrev pub void_by : {Token : Type 0} → Sight Token → ℕ → Token → Move Token Head
void_by v l u = if is v s.Star u then Go (thread_head v l) else go_named (void_head v l) (function_name (seen v u))

-- behind `void`
unfoldable pub head_behind_void : {Token : Type 0} → Sight Token → ℕ → Parser Token Head
head_behind_void v l = commit (void_by v l) refuse

-- ---- what `int` begins, on the line l of `int`

abbrev pub by_head : {Token : Type 0} → Parser Token Head → Parser Token Begun
by_head p = p >>= λ h. pure (begun.Head h)

abbrev pub by_cells : {Token : Type 0} → Parser Token Ints → Parser Token Begun
by_cells p = p >>= λ all. pure (begun.Cells all)

abbrev pub by_capacities : {Token : Type 0} → Parser Token Capacities → Parser Token Begun
by_capacities p = p >>= λ c. pure (begun.Capacities c)

-- behind a name, on its line m: a function of such a head, or else scalars and arrays
unfoldable pub head_or_cells : {Token : Type 0} → Sight Token → (ℕ → Bool) → ℕ → List ℕ → Parser Token Head → Parser Token Begun
head_or_cells v holds m n head = commit (λ u. when (is v s.LeftParenthesis u) (by_head head)) (by_cells (cells_behind v holds m n))

-- behind `int main`
abbrev pub main_or_cells : {Token : Type 0} → Sight Token → (ℕ → Bool) → ℕ → ℕ → Parser Token Begun
main_or_cells v holds l m = head_or_cells v holds m (spelling w.Main) (main_head v l)

-- behind `int` and another name
abbrev pub function_or_cells : {Token : Type 0} → Sight Token → (ℕ → Bool) → ℕ → ℕ → List ℕ → Parser Token Begun
function_or_cells v holds l m n = head_or_cells v holds m n (int_head v l n)

-- a function by the name of the capacities
abbrev pub capacities_head : {Token : Type 0} → Sight Token → ℕ → Parser Token Begun
capacities_head v l = must (is v s.LeftParenthesis) (by_head (int_head v l (spelling w.Capacities)))

abbrev pub capacities_by : {Token : Type 0} → Sight Token → Bool → ℕ → Token → Move Token Begun
capacities_by v first m u = if is v s.LeftBracket u then when first (by_capacities (capacities v m)) else Stop

-- behind `int gd_cap`, on its line m: the capacities, where nothing stands before them, or else a function
unfoldable pub capacities_or_head : {Token : Type 0} → Sight Token → Bool → ℕ → ℕ → Parser Token Begun
capacities_or_head v first l m = commit (capacities_by v first m) (capacities_head v l)

abbrev pub behind_int_by : {Token : Type 0} → Sight Token → (ℕ → Bool) → Bool → ℕ → ℕ → What → Move Token Begun
behind_int_by v holds first l m (What.Fixed w.Main) = Go (main_or_cells v holds l m)
behind_int_by v holds first l m (What.Fixed w.Capacities) = Go (capacities_or_head v first l m)
behind_int_by v holds first l m other = go_named (function_or_cells v holds l m) (name_of other)

-- behind `int`; where nothing stands before it, the capacities may
unfoldable pub behind_int : {Token : Type 0} → Sight Token → (ℕ → Bool) → Bool → ℕ → Parser Token Begun
behind_int v holds first l = commit (λ u. behind_int_by v holds first l (line v u) (seen v u)) refuse

-- ---- what comes next

abbrev pub is_at : {Token : Type 0} → (Token → Bool) → List Token → Bool
is_at test [] = false
is_at test (u ∷ rest) = test u

-- a token that passes a test, and behind it others that pass theirs
abbrev pub comes_then : {Token : Type 0} → (Token → Bool) → (List Token → Bool) → List Token → Bool
comes_then test more [] = false
comes_then test more (u ∷ rest) = if test u then more rest else false

-- ---- the declaration of `gd_cond_wait`

-- pthread_cond_t
abbrev pub type_comes : {Token : Type 0} → Sight Token → List Token → Bool
type_comes v ts = is_at (is_fixed v w.Condition) ts

-- ( pthread_cond_t
abbrev pub open_comes : {Token : Type 0} → Sight Token → List Token → Bool
open_comes v ts = comes_then (is v s.LeftParenthesis) (type_comes v) ts

-- gd_cond_wait ( pthread_cond_t
abbrev pub word_comes : {Token : Type 0} → Sight Token → List Token → Bool
word_comes v ts = comes_then (is_fixed v w.ControlledWait) (open_comes v) ts

-- void gd_cond_wait ( pthread_cond_t
abbrev pub wait_comes : {Token : Type 0} → Sight Token → List Token → Bool
wait_comes v ts = comes_then (is_fixed v w.Void) (word_comes v) ts

-- * c , pthread_mutex_t * m , ... ) ;
unfoldable pub wait_end : {Token : Type 0} → Sight Token → Parser Token (Unit {0})
wait_end v =
    must (is v s.Star) (must (is_fixed v w.ConditionParameter) (must (is v s.Comma) (must (is_fixed v w.Mutex) (must (is v s.Star) (must (is_fixed v w.MutexParameter) (must (is v s.Comma) (must (is v s.Ellipsis)
    (must (is v s.RightParenthesis) (must (is v s.Semicolon) (pure tt))))))))))

-- the same behind `void`
unfoldable pub wait_behind_void : {Token : Type 0} → Sight Token → Parser Token (Unit {0})
wait_behind_void v = must (is_fixed v w.ControlledWait) (must (is v s.LeftParenthesis) (must (is_fixed v w.Condition) (wait_end v)))

unfoldable pub wait_prototype : {Token : Type 0} → Sight Token → Parser Token (Unit {0})
wait_prototype v = must (is_fixed v w.Void) (wait_behind_void v)

-- the declaration, if the tokens come that nothing else begins with
unfoldable pub wait_declared : {Token : Type 0} → Sight Token → Parser Token (Unit {0})
wait_declared v = λ ts. (if wait_comes v ts then wait_prototype v else pure tt) ts
