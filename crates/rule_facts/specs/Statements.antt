-- What the rules say of calls, of the places of objects, and of monitors.
use Rattle.std.specs.Prelude.{List, false, ◌≡◌, ◌⊎◌, ◌<◌, ⊤, ℕ, true, Contains, length, is_some, unwrap_or}
use Rattle.std.specs.declared.option.Option.{Option}
use Rattle.c_tree.specs.declared.program.Kind.TheVariants as kind
use Rattle.c_tree.specs.Expressions.{Exprs, Place}
use Rattle.c_tree.specs.Bare as bare
use Rattle.c_tree.specs.Lined.{Function, Program}
use Rattle.c_rules.specs.Uses.{is_indexed_so}
use Rattle.c_rules.specs.Using.{count_of}
use Rattle.c_rules.specs.Threads.{is_fixed_index}
use Rattle.rule_facts.specs.Apart.{Listed}

-- ---- calls

-- a function above this place that may be called so
pub record Callee (p : Program) (here : ℕ) (target : Option Place) (name : List ℕ) (args : Exprs) : Type 0 where
  pub place : ℕ
  pub function : Function
  pub listed : Listed p (place, function)
  pub above : place < here
  pub named : function.name ≡ name
  pub kind : (function.kind ≡ kind.Int) ⊎ ((function.kind ≡ kind.Void) × (is_some target ≡ false))
  pub params : length function.params ≡ count_of args

abbrev pub CallsAbove : Program → ℕ → bare.Stmt → Type 0
CallsAbove p here (bare.Call target name args) = Callee p here target name args
CallsAbove p here s = ⊤

-- ---- places

-- a place of one of these objects: with an index where it is an array, and with none elsewhere
pub record NamesObject (objects : List bare.Object) (place : Place) : Type 0 where
  pub object : bare.Object
  pub listed : Contains objects object
  pub named : object.name ≡ place.name
  pub indexed : is_indexed_so object.len (is_some place.index) ≡ true

-- a place of a thread; an index is built of numbers and within the length
pub record NamesSlot (slots : List bare.Slot) (place : Place) : Type 0 where
  pub slot : bare.Slot
  pub listed : Contains slots slot
  pub named : slot.name ≡ place.name
  pub indexed : is_indexed_so slot.len (is_some place.index) ≡ true
  pub fixed : is_fixed_index (unwrap_or slot.len 0) place.index ≡ true

-- the places of a statement name objects of their kinds
abbrev pub PlacesFit : bare.Program → bare.Stmt → Type 0
PlacesFit p (bare.Create slot name arg) = NamesSlot p.threads slot
PlacesFit p (bare.Join slot) = NamesSlot p.threads slot
PlacesFit p (bare.InitMutex place) = NamesObject p.mutexes place
PlacesFit p (bare.InitCond place) = NamesObject p.conds place
PlacesFit p (bare.Lock place) = NamesObject p.mutexes place
PlacesFit p (bare.TryLock place taken busy) = NamesObject p.mutexes place
PlacesFit p (bare.Unlock place) = NamesObject p.mutexes place
PlacesFit p (bare.Wait cond mutex takes) = NamesObject p.conds cond × NamesObject p.mutexes mutex
PlacesFit p (bare.Signal cond) = NamesObject p.conds cond
PlacesFit p (bare.Broadcast cond) = NamesObject p.conds cond
PlacesFit p s = ⊤

-- ---- monitors

-- a take, a give and each take of a wait is of one of so many monitors
abbrev pub WithinMonitors : ℕ → bare.Stmt → Type 0
WithinMonitors count (bare.Take monitor) = monitor < count
WithinMonitors count (bare.Give monitor) = monitor < count
WithinMonitors count (bare.Wait cond mutex takes) = (monitor : ℕ) → Contains takes monitor → monitor < count
WithinMonitors count s = ⊤
