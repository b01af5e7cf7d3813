-- The body of a function that seen items spell is shaped and writable.
use Rattle.std.proofs.Common.{List, [], ◌∷◌, ◌++◌, map}
use Rattle.c_tree.specs.declared.program.Kind.{Kind}
use Rattle.c_tree.specs.declared.program.Slot.{Slot}
use Rattle.c_tree.specs.Bare as bare
use Rattle.c_tree.specs.Lined.{listed, bare_stmts, bare_slot}
use Rattle.c_grammar.specs.Items.{Item}
use Rattle.c_grammar.specs.Levels.{Tall}
use Rattle.c_grammar.specs.Commas as c
use Rattle.c_grammar.specs.Commas.{Commas}
use Rattle.c_grammar.specs.Statements as st
use Rattle.c_grammar.specs.Statements.{SpellsStatic, SpellsSlot, SpellsSlots, Body, SpellsBody}
use Rattle.c_canonical.specs.Writable.{IsWritableSlot, AreWritableStmts}
use Rattle.c_canonical.specs.Shaped.{ShapedStmts, ShapedSlots}
use Rattle.c_canonical.proofs.Seen.{Seen}
use Rattle.c_canonical.proofs.Usable.{name_known}
use Rattle.c_canonical.proofs.KnownSimple.{shaped_append, writable_append}
use Rattle.c_canonical.proofs.KnownStatements.{statement_known}

-- ---- threads

-- Each of these is writable.
abbrev pub WritableSlots : List bare.Slot → Type 0
WritableSlots [] = Unit {0}
WritableSlots (t ∷ ts) = IsWritableSlot t × WritableSlots ts

-- What is known of declared threads, and of the items after them.
pub record KnownSlots (Bounded : Type 0) (all : List Slot) (rest : List Item) : Type 0 where
  pub shaped : ShapedSlots (map bare_slot all)
  pub writable : Bounded → WritableSlots (map bare_slot all)
  pub after : Seen Bounded rest

pub shaped_slots : (xs ys : List Slot) → ShapedSlots (map bare_slot xs) → ShapedSlots (map bare_slot ys) → ShapedSlots (map bare_slot (xs ++ ys))
shaped_slots [] ys f g = g
shaped_slots (x ∷ xs) ys f g = (f.0, shaped_slots xs ys f.1 g)

pub writable_slots : (xs ys : List Slot) → WritableSlots (map bare_slot xs) → WritableSlots (map bare_slot ys) → WritableSlots (map bare_slot (xs ++ ys))
writable_slots [] ys f g = g
writable_slots (x ∷ xs) ys f g = (f.0, writable_slots xs ys f.1 g)

pub static_seen : (Bounded : Type 0) {ts rest : List Item} → SpellsStatic ts rest → Seen Bounded ts → Seen Bounded rest
static_seen Bounded st.absent s = s
static_seen Bounded st.present s = s.1

slot_known : {Bounded : Type 0} {ts rest : List Item} {t : Slot} → SpellsSlot ts rest t → Seen Bounded ts → KnownSlots Bounded (t ∷ []) rest
slot_known (st.one {a = a} {n = n} q) s = let m = name_known a n s.0 q in record { shaped = (m.0, tt); writable = λ u. ((m.1 u, tt), tt); after = s.1 }
slot_known (st.several {a = a} {n = n} q) s =
    let m = name_known a n s.0 q in record { shaped = (m.0, tt); writable = λ u. ((m.1 u, s.1.1.0 u), tt); after = s.1.1.1.1 }

commas_known : {Bounded : Type 0} {ts rest : List Item} {all : List Slot} → Commas SpellsSlot ts rest all → Seen Bounded ts → KnownSlots Bounded all rest
commas_known (c.one h) s = slot_known h s
commas_known (c.more {all = all} {a = a} h i) s =
    let xs = commas_known h s in
    let y = slot_known i xs.after.1 in
    record {
      shaped = shaped_slots all (a ∷ []) xs.shaped y.shaped;
      writable = λ u. writable_slots all (a ∷ []) (xs.writable u) (y.writable u);
      after = y.after;
    }

pub slots_shaped : {Bounded : Type 0} {ts rest : List Item} {all : List Slot} → SpellsSlots ts rest all → Seen Bounded ts → KnownSlots Bounded all rest
slots_shaped (st.slots f h) s =
    let b = static_seen _ f s in
    let v = commas_known h b.1 in
    record { shaped = v.shaped; writable = v.writable; after = v.after.1 }

-- ---- bodies

-- What is known of the body of a function of this kind, and of the items after it.
pub record KnownBody (Bounded : Type 0) (k : Kind) (b : Body) (rest : List Item) : Type 0 where
  pub shaped : ShapedStmts k (bare_stmts (listed b.stmts))
  pub writable : Bounded → AreWritableStmts (bare_stmts (listed b.stmts))
  pub slots : KnownSlots Bounded b.slots rest

pub body_shaped : {Bounded : Type 0} {k : Kind} {ts rest : List Item} {b : Tall Body} → SpellsBody k ts rest b → Seen Bounded ts → KnownBody Bounded k b.tree rest
body_shaped st.none s = record { shaped = tt; writable = λ u. tt; slots = record { shaped = tt; writable = λ u. tt; after = s } }
body_shaped {k = k} (st.then {all = all} {x = x} h i) s =
    let xs = body_shaped h s in
    let y = statement_known i xs.slots.after in
    record {
      shaped = shaped_append k all.tree.stmts x.tree xs.shaped y.shaped;
      writable = λ u. writable_append all.tree.stmts x.tree (xs.writable u) (y.writable u);
      slots = record { shaped = xs.slots.shaped; writable = xs.slots.writable; after = y.after };
    }
body_shaped (st.then_slots {all = all} {threads = threads} h i) s =
    let xs = body_shaped h s in
    let y = slots_shaped i xs.slots.after in
    record {
      shaped = xs.shaped;
      writable = xs.writable;
      slots = record {
        shaped = shaped_slots all.tree.slots threads xs.slots.shaped y.shaped;
        writable = λ u. writable_slots all.tree.slots threads (xs.slots.writable u) (y.writable u);
        after = y.after;
      };
    }
