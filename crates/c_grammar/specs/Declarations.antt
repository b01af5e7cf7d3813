-- What stands outside functions, and the heads of functions (ISO/IEC 9899:1999, sections 6.7 and 6.9, narrowed).
use Rattle.std.specs.Prelude.{◌≡◌, ℕ, ℤ, pos, neg_ℤ, true, false, List, [], ◌∷◌, length, Some, None}
use Rattle.c_lexer.specs.declared.token.Sign.TheVariants as s
use Rattle.c_tree.specs.declared.program.Cell.{Cell}
use Rattle.c_tree.specs.declared.program.Array.{Array}
use Rattle.c_tree.specs.declared.program.Object.{Object}
use Rattle.c_tree.specs.declared.program.Slot.{Slot}
use Rattle.c_tree.specs.declared.program.Kind.{Kind}
use Rattle.c_tree.specs.declared.program.Kind.TheVariants as kind
use Rattle.c_tree.specs.Lined.{Function, listed}
use Rattle.c_grammar.specs.declared.words.FixedWord.{FixedWord}
use Rattle.c_grammar.specs.declared.words.FixedWord.TheVariants as w
use Rattle.c_grammar.specs.Items.{What, Item, at, sign, fixed, spelling, name_of, cell_name, function_name}
use Rattle.c_grammar.specs.Levels.{Tall, tall}
use Rattle.c_grammar.specs.Commas.{Commas}
use Rattle.c_grammar.specs.Simple.{SpellsNumber}
use Rattle.c_grammar.specs.Statements.{SpellsStatic, Body, SpellsBody}

-- value = [-] K
pub data SpellsValue : List Item → List Item → ℤ → Type 0 where
  plain : {l k : ℕ} {rest : List Item} → SpellsValue (at l (What.Number k) ∷ rest) rest (pos k)
  negative : {l m k : ℕ} {rest : List Item} → SpellsValue (sign l s.Minus ∷ at m (What.Number k) ∷ rest) rest (neg_ℤ (pos k))

-- ---- ints

-- A scalar or an array.
pub data Declared : Type 0 where
  Scalar : (cell : Cell) → Declared
  Several : (array : Array) → Declared

abbrev pub scalars : List Declared → List Cell
scalars [] = []
scalars (Scalar cell ∷ more) = cell ∷ scalars more
scalars (Several array ∷ more) = scalars more

abbrev pub arrays : List Declared → List Array
arrays [] = []
arrays (Scalar cell ∷ more) = arrays more
arrays (Several array ∷ more) = array ∷ arrays more

-- cell = N [= value] | N [ K ] [= { value {, value} }], where N isn't `gd_cap`; it has the line of N
pub data SpellsCell : List Item → List Item → Declared → Type 0 where
  scalar : {l : ℕ} {a : What} {n : List ℕ} {rest : List Item}
      → cell_name a ≡ Some n → SpellsCell (at l a ∷ rest) rest (Scalar (record { name = n; value = pos 0; line = l }))
  scalar_by : {l m : ℕ} {a : What} {n : List ℕ} {ts rest : List Item} {v : ℤ}
      → cell_name a ≡ Some n → SpellsValue ts rest v
      → SpellsCell (at l a ∷ sign m s.Assign ∷ ts) rest (Scalar (record { name = n; value = v; line = l }))
  array : {l m i j len : ℕ} {a : What} {n : List ℕ} {rest : List Item}
      → cell_name a ≡ Some n
      → SpellsCell (at l a ∷ sign m s.LeftBracket ∷ at i (What.Number len) ∷ sign j s.RightBracket ∷ rest) rest
      (Several (record { name = n; len = len; values = []; line = l }))
  array_by : {l m i j g h d len : ℕ} {a : What} {n : List ℕ} {ts rest : List Item} {all : List ℤ}
      → cell_name a ≡ Some n → Commas SpellsValue ts (sign d s.RightBrace ∷ rest) all
      → SpellsCell (at l a ∷ sign m s.LeftBracket ∷ at i (What.Number len) ∷ sign j s.RightBracket ∷ sign g s.Assign ∷ sign h s.LeftBrace ∷ ts) rest
      (Several (record { name = n; len = len; values = all; line = l }))

-- cells = [static] int cell {, cell} ;
pub data SpellsCells : List Item → List Item → List Declared → Type 0 where
  cells : {l m : ℕ} {ts mid rest : List Item} {all : List Declared}
      → SpellsStatic ts (fixed l w.Int ∷ mid) → Commas SpellsCell mid (sign m s.Semicolon ∷ rest) all → SpellsCells ts rest all

-- ---- mutexes and conditions

pub data Sort : Type 0 where
  mutex : Sort
  condition : Sort

-- OBJ = pthread_mutex_t | pthread_cond_t
abbrev pub type_word : Sort → FixedWord
type_word mutex = w.Mutex
type_word condition = w.Condition

-- INIT = PTHREAD_MUTEX_INITIALIZER | PTHREAD_COND_INITIALIZER, by the sort
abbrev pub initial_word : Sort → FixedWord
initial_word mutex = w.MutexInitializer
initial_word condition = w.ConditionInitializer

pub data SpellsInitial : Sort → List Item → List Item → Unit {0} → Type 0 where
  initial : {o : Sort} {l : ℕ} {rest : List Item} → SpellsInitial o (fixed l (initial_word o) ∷ rest) rest tt

-- obj = N [= INIT] | N [ K ] [= { INIT {, INIT} }]; it has the line of N
pub data SpellsObject : Sort → List Item → List Item → Object → Type 0 where
  single : {o : Sort} {l : ℕ} {a : What} {n : List ℕ} {rest : List Item}
      → name_of a ≡ Some n → SpellsObject o (at l a ∷ rest) rest (record { name = n; len = None; ready = false; given = 0; line = l })
  single_ready : {o : Sort} {l m i : ℕ} {a : What} {n : List ℕ} {rest : List Item}
      → name_of a ≡ Some n
      → SpellsObject o (at l a ∷ sign m s.Assign ∷ fixed i (initial_word o) ∷ rest) rest (record { name = n; len = None; ready = true; given = 1; line = l })
  several : {o : Sort} {l m i j len : ℕ} {a : What} {n : List ℕ} {rest : List Item}
      → name_of a ≡ Some n
      → SpellsObject o (at l a ∷ sign m s.LeftBracket ∷ at i (What.Number len) ∷ sign j s.RightBracket ∷ rest) rest
      (record { name = n; len = Some len; ready = false; given = 0; line = l })
  several_ready : {o : Sort} {l m i j g h d len : ℕ} {a : What} {n : List ℕ} {ts rest : List Item} {all : List (Unit {0})}
      → name_of a ≡ Some n → Commas (SpellsInitial o) ts (sign d s.RightBrace ∷ rest) all
      → SpellsObject o (at l a ∷ sign m s.LeftBracket ∷ at i (What.Number len) ∷ sign j s.RightBracket ∷ sign g s.Assign ∷ sign h s.LeftBrace ∷ ts) rest
      (record { name = n; len = Some len; ready = true; given = length all; line = l })

-- objects = [static] OBJ obj {, obj} ;
pub data SpellsObjects : Sort → List Item → List Item → List Object → Type 0 where
  objects : {o : Sort} {l m : ℕ} {ts mid rest : List Item} {all : List Object}
      → SpellsStatic ts (fixed l (type_word o) ∷ mid) → Commas (SpellsObject o) mid (sign m s.Semicolon ∷ rest) all → SpellsObjects o ts rest all

-- ---- the capacities

-- The number that `gd_cap` is declared with, its values, and its line.
pub record Capacities : Type 0 where
  pub len : ℕ
  pub values : List ℕ
  pub line : ℕ

-- void W ( int k ) ;
pub data SpellsPrototype (word : FixedWord) : List Item → List Item → Type 0 where
  prototype : {l m n i j g h : ℕ} {rest : List Item}
      → SpellsPrototype word
      (fixed l w.Void ∷ fixed m word ∷ sign n s.LeftParenthesis ∷ fixed i w.Int ∷ fixed j w.Parameter ∷ sign g s.RightParenthesis ∷ sign h s.Semicolon ∷ rest) rest

-- [void gd_cond_wait ( pthread_cond_t * c , pthread_mutex_t * m , ... ) ;]
pub data SpellsWaitPrototype : List Item → List Item → Type 0 where
  absent : {ts : List Item} → SpellsWaitPrototype ts ts
  present : {a b c d e f g h i j k l m n : ℕ} {rest : List Item}
      → SpellsWaitPrototype
      (fixed a w.Void ∷ fixed b w.ControlledWait ∷ sign c s.LeftParenthesis ∷ fixed d w.Condition ∷ sign e s.Star ∷ fixed f w.ConditionParameter ∷ sign g s.Comma
      ∷ fixed h w.Mutex ∷ sign i s.Star ∷ fixed j w.MutexParameter ∷ sign k s.Comma ∷ sign l s.Ellipsis ∷ sign m s.RightParenthesis ∷ sign n s.Semicolon ∷ rest) rest

-- gdhead = int gd_cap [ K ] = { K {, K} } ; void gd_take ( int k ) ; void gd_give ( int k ) ; and the declaration of `gd_cond_wait`, if it is there
pub data SpellsCapacities : List Item → List Item → Capacities → Type 0 where
  capacities : {l m n i j g h d e len : ℕ} {ts mid next last rest : List Item} {all : List ℕ}
      → Commas SpellsNumber ts (sign d s.RightBrace ∷ sign e s.Semicolon ∷ mid) all
      → SpellsPrototype w.Take mid next → SpellsPrototype w.Give next last → SpellsWaitPrototype last rest
      → SpellsCapacities
      (fixed l w.Int ∷ fixed m w.Capacities ∷ sign n s.LeftBracket ∷ at i (What.Number len) ∷ sign j s.RightBracket ∷ sign g s.Assign ∷ sign h s.LeftBrace ∷ ts) rest
      (record { len = len; values = all; line = m })

-- ---- functions

-- int N
pub data SpellsParameter : List Item → List Item → List ℕ → Type 0 where
  parameter : {l m : ℕ} {a : What} {n : List ℕ} {rest : List Item} → name_of a ≡ Some n → SpellsParameter (fixed l w.Int ∷ at m a ∷ rest) rest n

-- params = nothing | void | int N {, int N}
pub data SpellsParameters : List Item → List Item → List (List ℕ) → Type 0 where
  nothing : {ts : List Item} → SpellsParameters ts ts []
  void : {l : ℕ} {rest : List Item} → SpellsParameters (fixed l w.Void ∷ rest) rest []
  ints : {ts rest : List Item} {all : List (List ℕ)} → Commas SpellsParameter ts rest all → SpellsParameters ts rest all

-- [void]
pub data SpellsVoid : List Item → List Item → Type 0 where
  absent : {ts : List Item} → SpellsVoid ts ts
  present : {l : ℕ} {rest : List Item} → SpellsVoid (fixed l w.Void ∷ rest) rest

-- What a head says; it has the line of its first token.
pub record Head : Type 0 where
  pub name : List ℕ
  pub kind : Kind
  pub params : List (List ℕ)
  pub line : ℕ

-- head = int main ( [void] ) | int N ( params ) | void N ( params ) | void * N ( void * N ), where the first N isn't `main`
pub data SpellsHead : List Item → List Item → Head → Type 0 where
  main : {l m n i : ℕ} {ts rest : List Item}
      → SpellsVoid ts (sign i s.RightParenthesis ∷ rest)
      → SpellsHead (fixed l w.Int ∷ fixed m w.Main ∷ sign n s.LeftParenthesis ∷ ts) rest
      (record { name = spelling w.Main; kind = kind.Main; params = []; line = l })
  int_function : {l m n i : ℕ} {a : What} {f : List ℕ} {ts rest : List Item} {all : List (List ℕ)}
      → function_name a ≡ Some f → SpellsParameters ts (sign i s.RightParenthesis ∷ rest) all
      → SpellsHead (fixed l w.Int ∷ at m a ∷ sign n s.LeftParenthesis ∷ ts) rest (record { name = f; kind = kind.Int; params = all; line = l })
  void_function : {l m n i : ℕ} {a : What} {f : List ℕ} {ts rest : List Item} {all : List (List ℕ)}
      → function_name a ≡ Some f → SpellsParameters ts (sign i s.RightParenthesis ∷ rest) all
      → SpellsHead (fixed l w.Void ∷ at m a ∷ sign n s.LeftParenthesis ∷ ts) rest (record { name = f; kind = kind.Void; params = all; line = l })
  thread_function : {l m n i j g h d : ℕ} {a b : What} {f x : List ℕ} {rest : List Item}
      → function_name a ≡ Some f → name_of b ≡ Some x
      → SpellsHead
      (fixed l w.Void ∷ sign m s.Star ∷ at n a ∷ sign i s.LeftParenthesis ∷ fixed j w.Void ∷ sign g s.Star ∷ at h b ∷ sign d s.RightParenthesis ∷ rest) rest
      (record { name = f; kind = kind.Thread; params = x ∷ []; line = l })

-- A function, and the threads that main declares in it.
pub record Defined : Type 0 where
  pub function : Function
  pub slots : List Slot

abbrev pub defined : Head → Body → ℕ → Defined
defined h b end = record {
  function = record { name = h.name; kind = h.kind; params = h.params; body = listed b.stmts; line = h.line; end_line = end };
  slots = b.slots;
}

-- function = [static] head { {stmt} }
pub data SpellsFunction : List Item → List Item → Tall Defined → Type 0 where
  function : {l m : ℕ} {ts mid next rest : List Item} {h : Head} {b : Tall Body}
      → SpellsStatic ts mid → SpellsHead mid (sign l s.LeftBrace ∷ next) h → SpellsBody h.kind next (sign m s.RightBrace ∷ rest) b
      → SpellsFunction ts rest (tall (defined h b.tree m) b.levels)
