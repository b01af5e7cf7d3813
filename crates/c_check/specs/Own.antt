-- What the statements of a function's own list break.
use Rattle.std.specs.Prelude.{ℕ, Bool, false, not, ◌&&◌, ◌||◌, List, [], ◌++◌}
use Rattle.c_tree.specs.Expressions.{Place}
use Rattle.c_tree.specs.Numbering.{same_slot}
use Rattle.c_tree.specs.Lined.{Stmt, Stmts, Nil, Cons, If, While, For, Create, Join}
use Rattle.c_rules.specs.Sites.{declared}
use Rattle.c_rules.specs.Threads.{is_fixed_index, thread_len}
use Rattle.c_rules.specs.Objects.{is_active}
use Rattle.c_names.specs.Tables.{meaning_by}
use Rattle.c_acts.specs.declared.first.Break.{Break}
use Rattle.c_check.specs.declared.own.Past as declared_past
use Rattle.c_check.specs.Slots.{has_slot}
use Rattle.c_acts.specs.Uses.{Around}
use Rattle.c_check.specs.Walk.{with_names, stmt_breaks}

-- ---- statements that may use an object

abbrev mutual
  -- a statement is one or holds one
  pub acts : Stmt → Bool
  acts (If line test then_arm else_arm) = list_acts then_arm || list_acts else_arm
  acts (While line test body) = list_acts body
  acts (For line first_part test step body) = list_acts first_part || (list_acts step || list_acts body)
  acts s = is_active s

  pub list_acts : Stmts → Bool
  list_acts Nil = false
  list_acts (Cons s rest) = acts s || list_acts rest

-- ---- fixed places

-- the slots of the creates and of the joins so far, and whether some statement so far may use an object
pub record Past : Type 0 where
  pub created : Place → Bool
  pub joined : Place → Bool
  pub active : Bool

abbrev pub nothing_past : Past
nothing_past = record { created = λ slot. false; joined = λ slot. false; active = false }

abbrev pub create_added : (Place → Bool) → Stmt → Place → Bool
create_added created (Create line other function arg) slot = same_slot other slot || created slot
create_added created s slot = created slot

abbrev pub join_added : (Place → Bool) → Stmt → Place → Bool
join_added joined (Join line other) slot = same_slot other slot || joined slot
join_added joined s slot = joined slot

abbrev pub added : Past → Stmt → Past
added past s = record { created = create_added past.created s; joined = join_added past.joined s; active = acts s || past.active }

-- a slot of main, with an index that is fixed
abbrev pub is_fixed_slot : Around → (List ℕ → Bool) → (main : Bool) → Place → Bool
is_fixed_slot a inside main slot = main && is_fixed_index (thread_len (meaning_by a.outside inside a.function slot.name)) slot.index

-- a create or a join that isn't fixed
abbrev pub is_unfixed : Around → (List ℕ → Bool) → (main : Bool) → Past → Stmt → Bool
is_unfixed a inside main past (Create line slot function arg) = not (is_fixed_slot a inside main slot) || past.created slot
is_unfixed a inside main past (Join line slot) = not (is_fixed_slot a inside main slot) || (not (past.created slot) || past.joined slot)
is_unfixed a inside main past s = false

-- an init in a statement comes late
abbrev pub is_late : (main : Bool) → Past → Stmt → Bool
is_late main past s = not main || (acts s || past.active)

-- what the statements of the own list that are left break
abbrev pub own_breaks : Around → (main : Bool) → (List ℕ → Bool) → Past → Stmts → List Break
own_breaks a main inside past Nil = []
own_breaks a main inside past (Cons s rest) =
    stmt_breaks a inside (is_unfixed a inside main past s) (is_late main past s) s
    ++ own_breaks a main (with_names (declared s) inside) (added past s) rest

-- ---- what the code keeps

abbrev pub past_of : declared_past.Past → Past
past_of past = record { created = has_slot past.created; joined = has_slot past.joined; active = past.active }
