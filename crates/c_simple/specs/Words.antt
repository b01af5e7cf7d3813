-- What tokens stand for in statements that hold no others.
use Rattle.std.specs.Prelude.{ℕ, nat_eq, bytes_eq, Bool, true, false, if◌then◌else◌, List, Option, Some, None}
use Rattle.c_lexer.specs.declared.token.Sign.TheVariants as s
use Rattle.c_tree.specs.declared.expr.Op.{Op}
use Rattle.c_grammar.specs.declared.words.FixedWord.{FixedWord}
use Rattle.c_grammar.specs.declared.words.FixedWord.TheVariants as w
use Rattle.c_grammar.specs.Items.{What}
use Rattle.c_grammar.specs.Simple.{changing, counting, number_format}
use Rattle.c_simple.specs.declared.token.Way.{Way}
use Rattle.c_simple.specs.declared.token.Way.TheVariants as way
use Rattle.c_simple.specs.declared.token.Routine.{Routine}
use Rattle.c_simple.specs.declared.token.Routine.TheVariants as routine

-- ---- how a place changes

abbrev pub way_by : Option Op → Option Op → Way
way_by (Some o) other = way.Change o
way_by None (Some o) = way.Count o
way_by None None = way.Other

-- by the token behind it
abbrev pub way_of : What → Way
way_of (What.Sign s.Assign) = way.Set
way_of (What.Sign t) = way_by (changing t) (counting t)
way_of other = way.Other

-- the operator of `++` or `--`
abbrev pub counter : What → Option Op
counter (What.Sign t) = counting t
counter other = None

-- ---- the calls of the library

abbrev pub if_null : Bool → Routine → Option Routine
if_null null x = if null then Some x else None

-- What a word calls. The four that take `NULL` are no calls where that word has a definition, as no token is `NULL` then.
abbrev pub routine_by : Bool → FixedWord → Option Routine
routine_by null w.Print = Some routine.Print
routine_by null w.Scan = Some routine.Scan
routine_by null w.Create = if_null null routine.Create
routine_by null w.Join = if_null null routine.Join
routine_by null w.InitMutex = if_null null routine.InitMutex
routine_by null w.InitCondition = if_null null routine.InitCondition
routine_by null w.Lock = Some routine.Lock
routine_by null w.Unlock = Some routine.Unlock
routine_by null w.Wait = Some routine.Wait
routine_by null w.Signal = Some routine.Signal
routine_by null w.Broadcast = Some routine.Broadcast
routine_by null w.Take = Some routine.Take
routine_by null w.Give = Some routine.Give
routine_by null w.ControlledWait = Some routine.ControlledWait
routine_by null other = None

abbrev pub routine_of : Bool → What → Option Routine
routine_of null (What.Fixed word) = routine_by null word
routine_of null other = None

-- ---- single tokens

abbrev pub is_null : What → Bool
is_null (What.Fixed w.Null) = true
is_null other = false

-- what the function of a thread gives back
abbrev pub is_no_value : What → Bool
is_no_value (What.Fixed w.Null) = true
is_no_value (What.Number value) = nat_eq value 0
is_no_value other = false

abbrev pub is_one : What → Bool
is_one (What.Number value) = nat_eq value 1
is_one other = false

abbrev pub number_of : What → Option ℕ
number_of (What.Number value) = Some value
number_of other = None

abbrev pub text_of : What → Option (List ℕ)
text_of (What.Text format) = Some format
text_of other = None

-- the text "%d"
abbrev pub is_number_format : What → Bool
is_number_format (What.Text format) = bytes_eq format number_format
is_number_format other = false
