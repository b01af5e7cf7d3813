-- Places name objects of their kinds.
use Rattle.std.proofs.Common.{Bool, List, ap, false, inl, inr, refl, sym, true, ℕ, ◌&&◌, ◌++◌, ◌∙◌, ◌≡◌}
use Rattle.std.specs.Prelude.{Some, if◌then◌else◌, map, option_map}
use Rattle.std.specs.declared.option.Option.{Option}
use Rattle.c_tree.specs.Bare as bare
use Rattle.c_tree.specs.Lined.{Program, bare_object, bare_slot}
use Rattle.c_tree.specs.Lined as lined
use Rattle.c_tree.specs.declared.program.Array as declared_array
use Rattle.c_tree.specs.declared.program.Object.{Object}
use Rattle.c_tree.specs.declared.program.Slot.{Slot}
use Rattle.c_tree.specs.declared.program.Cell.{Cell}
use Rattle.c_rules.specs.Sites.{Site}
use Rattle.c_rules.specs.Names.{mentions}
use Rattle.c_rules.specs.Declarations.{Declaration, Thing, declaration_of, named, of_array, of_cell, of_condition, of_mutex, of_slot}
use Rattle.c_rules.specs.Declarations as thing
use Rattle.c_rules.specs.Uses.{is_start}
use Rattle.c_rules.specs.Meaning.{local_thing, meaning, visible}
use Rattle.c_rules.proofs.Members.{Image, In, from_map, image, in_append_cases, in_map}
use Rattle.rule_facts.proofs.Apart.{Declares, thing_declared}
use Rattle.rule_facts.proofs.Fixed.{fixed, in_fixed, is_function}

-- ---- what isn't a function is one of the lists of declarations

pub data DeclaredAs (p : Program) (d : Declaration) : Type 0 where
  cell : (c : Cell) → In c p.ints → of_cell c ≡ d → DeclaredAs p d
  array : (a : declared_array.Array) → In a p.arrays → of_array a ≡ d → DeclaredAs p d
  mutex : (m : Object) → In m p.mutexes → of_mutex m ≡ d → DeclaredAs p d
  condition : (c : Object) → In c p.conds → of_condition c ≡ d → DeclaredAs p d
  slot : (t : Slot) → In t p.threads → of_slot t ≡ d → DeclaredAs p d

pub declared_as : (p : Program) (d : Declaration) → In d (fixed p) → DeclaredAs p d
declared_as p d at = elim (in_append_cases (map of_cell p.ints ++ map of_array p.arrays ++ map of_mutex p.mutexes ++ map of_condition p.conds) (map of_slot p.threads) d at) [
  | inr h ↦ as_slot (from_map of_slot p.threads d h)
  | inl k ↦ elim (in_append_cases (map of_cell p.ints ++ map of_array p.arrays ++ map of_mutex p.mutexes) (map of_condition p.conds) d k) [
    | inr h ↦ as_condition (from_map of_condition p.conds d h)
    | inl l ↦ elim (in_append_cases (map of_cell p.ints ++ map of_array p.arrays) (map of_mutex p.mutexes) d l) [
      | inr h ↦ as_mutex (from_map of_mutex p.mutexes d h)
      | inl m ↦ elim (in_append_cases (map of_cell p.ints) (map of_array p.arrays) d m) [
        | inl h ↦ as_cell (from_map of_cell p.ints d h)
        | inr h ↦ as_array (from_map of_array p.arrays d h)
      ]
    ]
  ]
]
  where
    as_cell : Image of_cell p.ints d → DeclaredAs p d
    as_cell (image c among e) = DeclaredAs.cell c among e

    as_array : Image of_array p.arrays d → DeclaredAs p d
    as_array (image a among e) = DeclaredAs.array a among e

    as_mutex : Image of_mutex p.mutexes d → DeclaredAs p d
    as_mutex (image m among e) = DeclaredAs.mutex m among e

    as_condition : Image of_condition p.conds d → DeclaredAs p d
    as_condition (image c among e) = DeclaredAs.condition c among e

    as_slot : Image of_slot p.threads d → DeclaredAs p d
    as_slot (image t among e) = DeclaredAs.slot t among e

-- ---- objects of a name

-- an object of this name and length
pub record HasObject (objects : List bare.Object) (n : List ℕ) (len : Option ℕ) : Type 0 where
  pub object : bare.Object
  pub listed : In object objects
  pub named : object.name ≡ n
  pub long : object.len ≡ len

has_object : (os : List Object) (o : Object) (n : List ℕ) (len : Option ℕ) → In o os → o.name ≡ n → o.len ≡ len → HasObject (map bare_object os) n len
has_object os o n len at named long = record { object = bare_object o; listed = in_map bare_object os o at; named = named; long = long }

-- a thread, or an array of them, of this name and length
pub record HasSlot (slots : List bare.Slot) (n : List ℕ) (len : Option ℕ) : Type 0 where
  pub slot : bare.Slot
  pub listed : In slot slots
  pub named : slot.name ≡ n
  pub long : slot.len ≡ len

has_slot : (ts : List Slot) (t : Slot) (n : List ℕ) (len : Option ℕ) → In t ts → t.name ≡ n → t.len ≡ len → HasSlot (map bare_slot ts) n len
has_slot ts t n len at named long = record { slot = bare_slot t; listed = in_map bare_slot ts t at; named = named; long = long }

mutex_as : (p : Program) (d : Declaration) (n : List ℕ) (len : Option ℕ) → d.name ≡ n → d.thing ≡ thing.Mutex len → DeclaredAs p d → HasObject (map bare_object p.mutexes) n len
mutex_as p d n len name is (DeclaredAs.cell c at e) = let k : thing.Scalar ≡ thing.Mutex len = ap (λ (x : Declaration). x.thing) e ∙ is in absurd (cc k)
mutex_as p d n len name is (DeclaredAs.array a at e) = let k : thing.Array ≡ thing.Mutex len = ap (λ (x : Declaration). x.thing) e ∙ is in absurd (cc k)
mutex_as p d n len name is (DeclaredAs.condition c at e) = let k : thing.Condition c.len ≡ thing.Mutex len = ap (λ (x : Declaration). x.thing) e ∙ is in absurd (cc k)
mutex_as p d n len name is (DeclaredAs.slot t at e) = let k : thing.Thread t.len ≡ thing.Mutex len = ap (λ (x : Declaration). x.thing) e ∙ is in absurd (cc k)
mutex_as p d n len name is (DeclaredAs.mutex m at e) =
    let k : thing.Mutex m.len ≡ thing.Mutex len = ap (λ (x : Declaration). x.thing) e ∙ is in
    let long : m.len ≡ len = cc k in
    has_object p.mutexes m n len at (ap (λ (x : Declaration). x.name) e ∙ name) long

condition_as : (p : Program) (d : Declaration) (n : List ℕ) (len : Option ℕ) → d.name ≡ n → d.thing ≡ thing.Condition len → DeclaredAs p d → HasObject (map bare_object p.conds) n len
condition_as p d n len name is (DeclaredAs.cell c at e) = let k : thing.Scalar ≡ thing.Condition len = ap (λ (x : Declaration). x.thing) e ∙ is in absurd (cc k)
condition_as p d n len name is (DeclaredAs.array a at e) = let k : thing.Array ≡ thing.Condition len = ap (λ (x : Declaration). x.thing) e ∙ is in absurd (cc k)
condition_as p d n len name is (DeclaredAs.mutex m at e) = let k : thing.Mutex m.len ≡ thing.Condition len = ap (λ (x : Declaration). x.thing) e ∙ is in absurd (cc k)
condition_as p d n len name is (DeclaredAs.slot t at e) = let k : thing.Thread t.len ≡ thing.Condition len = ap (λ (x : Declaration). x.thing) e ∙ is in absurd (cc k)
condition_as p d n len name is (DeclaredAs.condition c at e) =
    let k : thing.Condition c.len ≡ thing.Condition len = ap (λ (x : Declaration). x.thing) e ∙ is in
    let long : c.len ≡ len = cc k in
    has_object p.conds c n len at (ap (λ (x : Declaration). x.name) e ∙ name) long

slot_as : (p : Program) (d : Declaration) (n : List ℕ) (len : Option ℕ) → d.name ≡ n → d.thing ≡ thing.Thread len → DeclaredAs p d → HasSlot (map bare_slot p.threads) n len
slot_as p d n len name is (DeclaredAs.cell c at e) = let k : thing.Scalar ≡ thing.Thread len = ap (λ (x : Declaration). x.thing) e ∙ is in absurd (cc k)
slot_as p d n len name is (DeclaredAs.array a at e) = let k : thing.Array ≡ thing.Thread len = ap (λ (x : Declaration). x.thing) e ∙ is in absurd (cc k)
slot_as p d n len name is (DeclaredAs.mutex m at e) = let k : thing.Mutex m.len ≡ thing.Thread len = ap (λ (x : Declaration). x.thing) e ∙ is in absurd (cc k)
slot_as p d n len name is (DeclaredAs.condition c at e) = let k : thing.Condition c.len ≡ thing.Thread len = ap (λ (x : Declaration). x.thing) e ∙ is in absurd (cc k)
slot_as p d n len name is (DeclaredAs.slot t at e) =
    let k : thing.Thread t.len ≡ thing.Thread len = ap (λ (x : Declaration). x.thing) e ∙ is in
    let long : t.len ≡ len = cc k in
    has_slot p.threads t n len at (ap (λ (x : Declaration). x.name) e ∙ name) long

-- ---- what a name means that is used as an object

abbrev pub is_local : Thing → Bool
is_local thing.Local = true
is_local thing.Argument = true
is_local th = false

local_is : (f : lined.Function) (n : List ℕ) → is_local (local_thing f n) ≡ true
local_is f n = go (is_start f.kind && mentions f.params n)
  where
    go : (b : Bool) → is_local (if b then thing.Argument else thing.Local) ≡ true
    go true = refl
    go false = refl

pub meant_outside : (p : Program) (x : Site) (n : List ℕ) (th : Thing) → is_local th ≡ false → meaning p x n ≡ Some th → Declares p n th
meant_outside p x n th other e = go (mentions (visible x) n) e
  where
    go : (b : Bool) → (if b then Some (local_thing x.function n) else option_map (λ (d : Declaration). d.thing) (declaration_of p n)) ≡ Some th → Declares p n th
    go true k = let l : local_thing x.function n ≡ th = cc k in let m : true ≡ false = sym (local_is x.function n) ∙ (ap is_local l ∙ other) in absurd (cc m)
    go false k = thing_declared p n th k

pub mutex_meant : (p : Program) (x : Site) (n : List ℕ) (len : Option ℕ) → meaning p x n ≡ Some (thing.Mutex len) → HasObject (map bare_object p.mutexes) n len
mutex_meant p x n len e = by (meant_outside p x n (thing.Mutex len) refl e)
  where
    by : Declares p n (thing.Mutex len) → HasObject (map bare_object p.mutexes) n len
    by (Declares.declares d at name is) = mutex_as p d n len name is (declared_as p d (in_fixed p d at (ap is_function is)))

pub condition_meant : (p : Program) (x : Site) (n : List ℕ) (len : Option ℕ) → meaning p x n ≡ Some (thing.Condition len) → HasObject (map bare_object p.conds) n len
condition_meant p x n len e = by (meant_outside p x n (thing.Condition len) refl e)
  where
    by : Declares p n (thing.Condition len) → HasObject (map bare_object p.conds) n len
    by (Declares.declares d at name is) = condition_as p d n len name is (declared_as p d (in_fixed p d at (ap is_function is)))

pub slot_meant : (p : Program) (x : Site) (n : List ℕ) (len : Option ℕ) → meaning p x n ≡ Some (thing.Thread len) → HasSlot (map bare_slot p.threads) n len
slot_meant p x n len e = by (meant_outside p x n (thing.Thread len) refl e)
  where
    by : Declares p n (thing.Thread len) → HasSlot (map bare_slot p.threads) n len
    by (Declares.declares d at name is) = slot_as p d n len name is (declared_as p d (in_fixed p d at (ap is_function is)))
