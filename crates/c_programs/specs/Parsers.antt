-- The parser of programs, as functions on lists of tokens.
--
-- Definitions stand outside functions alone, and change what the words after them are. So what was read so far is a program,
-- and the definitions so far. In each declaration they are fixed.
use Rattle.std.specs.Prelude.{ℕ, Bool, true, false, List, [], ◌∷◌, ◌++◌}
use Rattle.c_lexer.specs.declared.token.Sign.TheVariants as s
use Rattle.c_tree.specs.Lined.{Program}
use Rattle.c_tree.specs.declared.program.Object.{Object}
use Rattle.c_grammar.specs.Levels.{Tall, tall}
use Rattle.c_grammar.specs.Statements.{Body}
use Rattle.c_grammar.specs.Declarations.{Defined}
use Rattle.c_grammar.specs.Declarations as g
use Rattle.c_grammar.specs.Programs.{empty_program, with_slots, with_function}
use Rattle.c_grammar.specs.Programs as programs
use Rattle.parse_laws.specs.Parser.{Parser, ◌>>=◌, pure, refuse, Move, Stop, Go, commit, and_go, when, expect, must, loop}
use Rattle.c_expressions.specs.Parsers.{Sight, seen, is}
use Rattle.c_declarations.specs.declared.tree.Sort.{Sort}
use Rattle.c_declarations.specs.declared.tree.Sort.TheVariants as sort
use Rattle.c_declarations.specs.declared.tree.Ints.{Ints}
use Rattle.c_declarations.specs.declared.tree.Capacities.{Capacities}
use Rattle.c_declarations.specs.declared.tree.Head.{Head}
use Rattle.c_declarations.specs.declared.tree.Begun.{Begun}
use Rattle.c_declarations.specs.declared.tree.Begun.TheVariants as begun
use Rattle.c_declarations.specs.Parsers.{line, behind_int, head_behind_void, objects, wait_declared}
use Rattle.c_declarations.specs.Shown.{sort_of, head_of}
use Rattle.c_statements.specs.Parsers.{body, slot_list}
use Rattle.c_programs.specs.declared.token.Opening.{Opening}
use Rattle.c_programs.specs.declared.token.Opening.TheVariants as o
use Rattle.c_programs.specs.Words.{outer_opening, goes}

-- How tokens of any type are seen, by the definitions that stand before them.
pub record Views (Token Definitions : Type 0) : Type 0 where
  pub none : Definitions
  -- the definitions with that of a token
  pub then : Definitions → Token → Definitions
  pub sight : Definitions → Sight Token
  -- which numbers a first value may be
  pub holds : ℕ → Bool

-- ---- functions

-- behind the `{`, the line of whose closing brace is that of the function's end
abbrev pub body_end : {Token : Type 0} → Sight Token → Head → Tall Body → Parser Token (Tall Defined)
body_end v h b = expect (is v s.RightBrace) >>= λ u. pure (tall (g.defined (head_of h) b.tree (line v u)) b.levels)

-- behind a head
unfoldable pub function_behind : {Token : Type 0} → Sight Token → ℕ → Head → Parser Token (Tall Defined)
function_behind v room h = must (is v s.LeftBrace) (body v h.kind room >>= λ b. body_end v h b)

-- ---- what is added to a program

abbrev pub with_ints : Tall Program → Ints → Tall Program
with_ints p all = tall (record p.tree { ints = p.tree.ints ++ all.cells; arrays = p.tree.arrays ++ all.arrays }) p.levels

abbrev pub with_objects : Tall Program → Sort → List Object → Tall Program
with_objects p o all = programs.with_objects p (sort_of o) all

abbrev pub with_capacities : Tall Program → Capacities → Tall Program
with_capacities p c = tall (record p.tree { monitors = c.values; cap_len = c.len; cap_line = c.line }) p.levels

-- ---- declarations

abbrev pub function_added : {Token : Type 0} → Sight Token → ℕ → Tall Program → Head → Parser Token (Tall Program)
function_added v room p h = function_behind v room h >>= λ f. pure (with_function p f)

-- behind what `int` begins
abbrev pub finished : {Token : Type 0} → Sight Token → ℕ → Tall Program → Begun → Parser Token (Tall Program)
finished v room p (begun.Cells all) = pure (with_ints p all)
finished v room p (begun.Head h) = function_added v room p h
finished v room p (begun.Capacities c) = wait_declared v >>= λ _. pure (with_capacities p c)

-- behind `int`, on its line l; `first` where nothing stands before it
unfoldable pub ints_added : {Token : Type 0} → Sight Token → (ℕ → Bool) → ℕ → Bool → ℕ → Tall Program → Parser Token (Tall Program)
ints_added v holds room first l p = behind_int v holds first l >>= λ x. finished v room p x

-- behind `void`, on its line l
unfoldable pub void_added : {Token : Type 0} → Sight Token → ℕ → ℕ → Tall Program → Parser Token (Tall Program)
void_added v room l p = head_behind_void v l >>= λ h. function_added v room p h

unfoldable pub objects_added : {Token : Type 0} → Sight Token → Sort → Tall Program → Parser Token (Tall Program)
objects_added v o p = objects v o >>= λ all. pure (with_objects p o all)

unfoldable pub slots_added : {Token : Type 0} → Sight Token → Tall Program → Parser Token (Tall Program)
slots_added v p = slot_list v >>= λ all. pure (with_slots p all)

-- what a token of a line begins, `static` and definitions aside
abbrev pub declared_by : {Token : Type 0} → Sight Token → (ℕ → Bool) → ℕ → Tall Program → ℕ → Opening → Move Token (Tall Program)
declared_by v holds room p l o.Int = Go (ints_added v holds room false l p)
declared_by v holds room p l o.Void = Go (void_added v room l p)
declared_by v holds room p l o.Mutex = Go (objects_added v sort.Mutex p)
declared_by v holds room p l o.Condition = Go (objects_added v sort.Condition p)
declared_by v holds room p l o.Thread = Go (slots_added v p)
declared_by v holds room p l _ = Stop

-- behind `static`
unfoldable pub static_added : {Token : Type 0} → Sight Token → (ℕ → Bool) → ℕ → Tall Program → Parser Token (Tall Program)
static_added v holds room p = commit (λ u. declared_by v holds room p (line v u) (outer_opening (seen v u))) refuse

-- with `static` before it or not
abbrev pub outer_by : {Token : Type 0} → Sight Token → (ℕ → Bool) → ℕ → Tall Program → ℕ → Opening → Move Token (Tall Program)
outer_by v holds room p l o.Static = when v.declarations (static_added v holds room p)
outer_by v holds room p l x = declared_by v holds room p l x

-- ---- programs

-- What was read so far: the definitions, and the program.
pub record Reading (Definitions : Type 0) : Type 0 where
  pub defined : Definitions
  pub program : Tall Program

abbrev pub read : {Definitions : Type 0} → Definitions → Tall Program → Reading Definitions
read d p = record { defined = d; program = p }

module _ {Token Definitions : Type 0} (views : Views Token Definitions) (room : ℕ) where
  abbrev pub turn_by : Reading Definitions → Token → Opening → Move Token (Reading Definitions)
  turn_by r u o.Definition = Go (pure (read (views.then r.defined u) r.program))
  turn_by r u x = and_go (outer_by (views.sight r.defined) views.holds room r.program (line (views.sight r.defined) u) x) (λ p. pure (read r.defined p))

  -- one more of what stands outside functions
  abbrev pub turn : Reading Definitions → Token → Move Token (Reading Definitions)
  turn r u = turn_by r u (outer_opening (seen (views.sight r.defined) u))

  abbrev pub first_by : Tall Program → ℕ → Opening → Move Token (Tall Program)
  first_by p l o.Int = Go (ints_added (views.sight views.none) views.holds room true l p)
  first_by p l _ = Stop

  -- what the text begins with, if that is `int`
  unfoldable pub first_part : Tall Program → Parser Token (Tall Program)
  first_part p = commit (λ u. first_by p (line (views.sight views.none) u) (outer_opening (seen (views.sight views.none) u))) (pure p)

  -- a program in a file that ends on this line
  unfoldable pub program : ℕ → Parser Token (Tall Program)
  program end = first_part (empty_program end) >>= λ p. loop turn (read views.none p) >>= λ r. pure r.program

-- ---- what comes next

-- something outside functions comes
abbrev pub outer_comes : {Token : Type 0} → Sight Token → List Token → Bool
outer_comes v [] = false
outer_comes v (u ∷ rest) = goes v.declarations (outer_opening (seen v u))
