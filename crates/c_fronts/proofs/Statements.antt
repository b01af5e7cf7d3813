-- Statements, declarations of threads, and bodies.
use Rattle.std.proofs.Common.{Bool, List, ◌∷◌, refl, ap, ◌∙◌}
use Rattle.c_lexer.specs.declared.token.Sign.TheVariants as s
use Rattle.c_tree.specs.declared.program.Kind.{Kind}
use Rattle.c_tree.specs.declared.program.Slot.{Slot}
use Rattle.c_tree.specs.Expressions.{Expr, Place}
use Rattle.c_tree.specs.Lined.{Stmt}
use Rattle.c_grammar.specs.declared.words.FixedWord.TheVariants as w
use Rattle.c_grammar.specs.Items.{What, Item, at, sign, fixed}
use Rattle.c_grammar.specs.Levels.{Tall}
use Rattle.c_grammar.specs.Statements as g
use Rattle.c_grammar.specs.Statements.{SpellsFirst, SpellsTest, SpellsLast, Choice, SpellsTry, SpellsChoice, SpellsStatement, SpellsArm, SpellsList, SpellsStatic, SpellsSlot, SpellsSlots, Body, SpellsBody}
use Rattle.c_fronts.proofs.Put.{nothing, token, both, Taken, taken, named, commas_taken}
use Rattle.c_fronts.proofs.Expressions.{T, whole_taken, address_taken}
use Rattle.c_fronts.proofs.Simple.{step_taken, simple_taken}

first_taken : {before after : List Item} {x : Tall (List Stmt)} → SpellsFirst before after x → T SpellsFirst before after x
first_taken g.none = taken nothing refl (λ z. g.none)
first_taken (g.declare {l = l} {m = m} {n = n} {a = a} {x = f} d x) =
    let y = whole_taken x in
    taken (token (fixed l w.Int) refl (token (at m a) (named m a f d) (token (sign n s.Assign) refl y.p))) (ap (λ (t : List Item). fixed l w.Int ∷ at m a ∷ sign n s.Assign ∷ t) y.parts) (λ z. g.declare d (y.again z))
first_taken (g.step x) = let y = step_taken x in taken y.p y.parts (λ z. g.step (y.again z))

test_taken : {before after : List Item} {x : Tall Expr} → SpellsTest before after x → T SpellsTest before after x
test_taken g.missing = taken nothing refl (λ z. g.missing)
test_taken (g.given x) = let y = whole_taken x in taken y.p y.parts (λ z. g.given (y.again z))

last_taken : {before after : List Item} {x : Tall (List Stmt)} → SpellsLast before after x → T SpellsLast before after x
last_taken g.none = taken nothing refl (λ z. g.none)
last_taken (g.step x) = let y = step_taken x in taken y.p y.parts (λ z. g.step (y.again z))

try_taken : {before after : List Item} {p : Tall Place} → SpellsTry before after p → T SpellsTry before after p
try_taken (g.try {l = l} {m = m} {n = n} x) =
    let y = address_taken x in
    taken (token (fixed l w.TryLock) refl (token (sign m s.LeftParenthesis) refl (both y.p (token (sign n s.RightParenthesis) refl nothing))))
    (ap (λ (t : List Item). fixed l w.TryLock ∷ sign m s.LeftParenthesis ∷ t) y.parts) (λ z. g.try (y.again (sign n s.RightParenthesis ∷ z)))

choice_taken : {before after : List Item} {c : Tall Choice} → SpellsChoice before after c → T SpellsChoice before after c
choice_taken (g.value x) = let y = whole_taken x in taken y.p y.parts (λ z. g.value (y.again z))
choice_taken (g.tried x) = let y = try_taken x in taken y.p y.parts (λ z. g.tried (y.again z))
choice_taken (g.not_tried {l = l} x) = let y = try_taken x in taken (token (sign l s.Not) refl y.p) (ap (λ (t : List Item). sign l s.Not ∷ t) y.parts) (λ z. g.not_tried (y.again z))
choice_taken (g.zero {l = l} {m = m} x) =
    let y = try_taken x in
    taken (both y.p (token (sign l s.Equal) refl (token (at m (What.Number 0)) refl nothing))) y.parts (λ z. g.zero (y.again (sign l s.Equal ∷ at m (What.Number 0) ∷ z)))
choice_taken (g.other {l = l} {m = m} x) =
    let y = try_taken x in
    taken (both y.p (token (sign l s.NotEqual) refl (token (at m (What.Number 0)) refl nothing))) y.parts (λ z. g.other (y.again (sign l s.NotEqual ∷ at m (What.Number 0) ∷ z)))

mutual
  pub statement_taken : {k : Kind} {b : Bool} {before after : List Item} {x : Tall (List Stmt)} → SpellsStatement k b before after x → T (SpellsStatement k b) before after x
  statement_taken (g.simple {l = l} x) = let y = simple_taken x in taken (both y.p (token (sign l s.Semicolon) refl nothing)) y.parts (λ z. g.simple (y.again (sign l s.Semicolon ∷ z)))
  statement_taken (g.empty {l = l}) = taken (token (sign l s.Semicolon) refl nothing) refl (λ z. g.empty)
  statement_taken (g.if_only {l = l} {m = m} {n = n} x a) =
      let y = choice_taken x in
      let r = arm_taken a in
      taken (token (fixed l w.If) refl (token (sign m s.LeftParenthesis) refl (both y.p (token (sign n s.RightParenthesis) refl r.p))))
      (ap (λ (t : List Item). fixed l w.If ∷ sign m s.LeftParenthesis ∷ t) (y.parts ∙ ap (λ (t : List Item). y.p.put (sign n s.RightParenthesis ∷ t)) r.parts)) (λ z. g.if_only (y.again (sign n s.RightParenthesis ∷ r.p.put z)) (r.again z))
  statement_taken (g.if_else {l = l} {m = m} {n = n} {i = i} x a c) =
      let y = choice_taken x in
      let r = arm_taken a in
      let q = arm_taken c in
      taken (token (fixed l w.If) refl (token (sign m s.LeftParenthesis) refl (both y.p (token (sign n s.RightParenthesis) refl (both r.p (token (fixed i w.Else) refl q.p))))))
      (ap (λ (t : List Item). fixed l w.If ∷ sign m s.LeftParenthesis ∷ t) (y.parts ∙ ap (λ (t : List Item). y.p.put (sign n s.RightParenthesis ∷ t)) (r.parts ∙ ap (λ (t : List Item). r.p.put (fixed i w.Else ∷ t)) q.parts)))
      (λ z. g.if_else (y.again (sign n s.RightParenthesis ∷ r.p.put (fixed i w.Else ∷ q.p.put z))) (r.again (fixed i w.Else ∷ q.p.put z)) (q.again z))
  statement_taken (g.while {l = l} {m = m} {n = n} x a) =
      let y = whole_taken x in
      let r = arm_taken a in
      taken (token (fixed l w.While) refl (token (sign m s.LeftParenthesis) refl (both y.p (token (sign n s.RightParenthesis) refl r.p))))
      (ap (λ (t : List Item). fixed l w.While ∷ sign m s.LeftParenthesis ∷ t) (y.parts ∙ ap (λ (t : List Item). y.p.put (sign n s.RightParenthesis ∷ t)) r.parts)) (λ z. g.while (y.again (sign n s.RightParenthesis ∷ r.p.put z)) (r.again z))
  statement_taken (g.for {l = l} {m = m} {n = n} {i = i} {j = j} f x c a) =
      let y = first_taken f in
      let r = test_taken x in
      let q = last_taken c in
      let o = arm_taken a in
      taken (token (fixed l w.For) refl (token (sign m s.LeftParenthesis) refl (both y.p (token (sign n s.Semicolon) refl (both r.p (token (sign i s.Semicolon) refl (both q.p (token (sign j s.RightParenthesis) refl o.p))))))))
      (ap (λ (t : List Item). fixed l w.For ∷ sign m s.LeftParenthesis ∷ t)
      (y.parts ∙ ap (λ (t : List Item). y.p.put (sign n s.Semicolon ∷ t)) (r.parts ∙ ap (λ (t : List Item). r.p.put (sign i s.Semicolon ∷ t)) (q.parts ∙ ap (λ (t : List Item). q.p.put (sign j s.RightParenthesis ∷ t)) o.parts))))
      (λ z. g.for (y.again (sign n s.Semicolon ∷ r.p.put (sign i s.Semicolon ∷ q.p.put (sign j s.RightParenthesis ∷ o.p.put z)))) (r.again (sign i s.Semicolon ∷ q.p.put (sign j s.RightParenthesis ∷ o.p.put z)))
      (q.again (sign j s.RightParenthesis ∷ o.p.put z)) (o.again z))

  arm_taken : {k : Kind} {b : Bool} {before after : List Item} {x : Tall (List Stmt)} → SpellsArm k b before after x → T (SpellsArm k b) before after x
  arm_taken (g.braces {l = l} {m = m} x) =
      let y = list_taken x in taken (token (sign l s.LeftBrace) refl (both y.p (token (sign m s.RightBrace) refl nothing))) (ap (λ (t : List Item). sign l s.LeftBrace ∷ t) y.parts) (λ z. g.braces (y.again (sign m s.RightBrace ∷ z)))
  arm_taken (g.single x) = let y = statement_taken x in taken y.p y.parts (λ z. g.single (y.again z))

  list_taken : {k : Kind} {before after : List Item} {x : Tall (List Stmt)} → SpellsList k before after x → T (SpellsList k) before after x
  list_taken g.none = taken nothing refl (λ z. g.none)
  list_taken (g.then x a) = let y = list_taken x in let r = statement_taken a in taken (both y.p r.p) (y.parts ∙ ap y.p.put r.parts) (λ z. g.then (y.again (r.p.put z)) (r.again z))

pub static_taken : {before after : List Item} → SpellsStatic before after → Taken SpellsStatic before after
static_taken g.absent = taken nothing refl (λ z. g.absent)
static_taken (g.present {l = l}) = taken (token (fixed l w.Static) refl nothing) refl (λ z. g.present)

slot_taken : {before after : List Item} {x : Slot} → SpellsSlot before after x → T SpellsSlot before after x
slot_taken (g.one {l = l} {a = a} {n = n} d) = taken (token (at l a) (named l a n d) nothing) refl (λ z. g.one d)
slot_taken (g.several {l = l} {m = m} {i = i} {j = j} {len = len} {a = a} {n = n} d) =
    taken (token (at l a) (named l a n d) (token (sign m s.LeftBracket) refl (token (at i (What.Number len)) refl (token (sign j s.RightBracket) refl nothing)))) refl (λ z. g.several d)

pub slots_taken : {before after : List Item} {all : List Slot} → SpellsSlots before after all → T SpellsSlots before after all
slots_taken (g.slots {l = l} {m = m} x d) =
    let y = static_taken x in
    let r = commas_taken SpellsSlot (λ b c e d. slot_taken d) d in
    taken (both y.p (token (fixed l w.Thread) refl (both r.p (token (sign m s.Semicolon) refl nothing)))) (y.parts ∙ ap (λ (t : List Item). y.p.put (fixed l w.Thread ∷ t)) r.parts)
    (λ z. g.slots (y.again (fixed l w.Thread ∷ r.p.put (sign m s.Semicolon ∷ z))) (r.again (sign m s.Semicolon ∷ z)))

pub body_taken : {k : Kind} {before after : List Item} {b : Tall Body} → SpellsBody k before after b → T (SpellsBody k) before after b
body_taken g.none = taken nothing refl (λ z. g.none)
body_taken (g.then x a) = let y = body_taken x in let r = statement_taken a in taken (both y.p r.p) (y.parts ∙ ap y.p.put r.parts) (λ z. g.then (y.again (r.p.put z)) (r.again z))
body_taken (g.then_slots x a) = let y = body_taken x in let r = slots_taken a in taken (both y.p r.p) (y.parts ∙ ap y.p.put r.parts) (λ z. g.then_slots (y.again (r.p.put z)) (r.again z))
