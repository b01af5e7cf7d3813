use Rattle.std.proofs.Common.{ap, sym, ◌∙◌, arith, vec_len}
use Rattle.std.proofs.lemmas.Bool.{eqb-true}
use Rattle.context_locals.proofs.Keeping.{now_known, outers_kept, outers_none, no_items}
use Rattle.context_locals.proofs.known.Known.declare.Goals as goal
use Rattle.context_locals.proofs.known.Known.declare.Goals.{then-not-is_empty+in_ok-push, else-not-is_empty}

pub returns-clause-known : goal.returns-clause-known
returns-clause-known c = λ name at.
    let before = c.args.self.now in
    let now = c.if-not-is_empty.self in
    elim c.if-not-is_empty.branch [
      | then-not-is_empty+in_ok-push w ↦ now_known before.names.now now.names.now before.values.items now.values.items c.set.new.values.items c.args.local c.in-Some.k name c.args.value
          c.requires.values (ap (λ s. s.names.now) w.self-is) (ap (λ s. s.values.items) w.self-is) c.set.ensures c.in-Some.is at
      | else-not-is_empty w ↦ now_known before.names.now now.names.now before.values.items now.values.items c.set.new.values.items c.args.local c.in-Some.k name c.args.value
          c.requires.values (ap (λ s. s.names.now) w.self-is) (ap (λ s. s.values.items) w.self-is) c.set.ensures c.in-Some.is at
    ]

pub returns-clause-outer : goal.returns-clause-outer
returns-clause-outer c =
    let before = c.args.self.now in
    let now = c.if-not-is_empty.self in
    elim c.if-not-is_empty.branch [
      | then-not-is_empty+in_ok-push w ↦ outers_kept before.names.now now.names.now before.values.items now.values.items c.set.new.values.items before.changes.items now.changes.items
          c.in-Some.k c.args.value w.local-before.result (ap (λ s. s.names.now) w.self-is) (ap (λ s. s.values.items) w.self-is) c.set.ensures
          (ap (λ s. s.changes.items) w.self-is ∙ w.in_ok-push.ensures.items) w.local-before.ensures
      | else-not-is_empty w ↦ outers_none before.names.now now.names.now before.values.items c.set.new.values.items before.changes.items now.changes.items (ap (λ s. s.changes.items) w.self-is)
          (no_items before.changes.items (omega (arith, eqb-true (vec_len before.changes) 0 (sym c.is_empty.ensures ∙ w.if-not-is_empty.false), before.changes.ok.0)))
    ]
