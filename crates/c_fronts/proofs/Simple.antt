-- Simple statements.
use Rattle.std.proofs.Common.{ℕ, max, List, ◌∷◌, Option, Some, None, refl, ap, subst, ◌∙◌}
use Rattle.c_lexer.specs.declared.token.Sign.TheVariants as s
use Rattle.c_tree.specs.declared.program.Kind.{Kind}
use Rattle.c_tree.specs.Expressions.{Expr, Place}
use Rattle.c_tree.specs.Expressions as tree
use Rattle.c_tree.specs.Lined.{Stmt}
use Rattle.c_tree.specs.Lined as lined
use Rattle.c_grammar.specs.declared.words.FixedWord.TheVariants as w
use Rattle.c_grammar.specs.Items.{What, Item, at, sign, fixed}
use Rattle.c_grammar.specs.Levels.{Tall, alone}
use Rattle.c_grammar.specs.Simple as g
use Rattle.c_grammar.specs.Simple.{SpellsStep, SpellsDeclarator, SpellsResult, SpellsNumber, SpellsSimple, changed, number_format}
use Rattle.c_fronts.proofs.Put.{nothing, token, both, taken, named, commas_taken}
use Rattle.c_fronts.proofs.Expressions.{T, whole_taken, expressions_taken, place_taken, address_taken, call_taken, argument_taken}

pub step_taken : {before after : List Item} {x : Tall (List Stmt)} → SpellsStep before after x → T SpellsStep before after x
step_taken {before} {after} (g.assign {l = l} {p = p} {e = e} d x) =
    let a = place_taken d in
    let y = whole_taken x in
    taken (both a.0.p (token (sign l s.Assign) refl y.p)) (a.0.parts ∙ ap (λ (t : List Item). a.0.p.put (sign l s.Assign ∷ t)) y.parts)
    (λ z. subst (λ (j : ℕ). SpellsStep (a.0.p.put (sign l s.Assign ∷ y.p.put z)) z (alone (lined.Assign j p.tree e.tree) (max p.levels e.levels))) (a.1 (sign l s.Assign ∷ y.p.put z)) (g.assign (a.0.again (sign l s.Assign ∷ y.p.put z)) (y.again z)))
step_taken (g.change {l = l} {p = p} {e = e} {t = t} {o = o} d q x) =
    let a = place_taken d in
    let y = whole_taken x in
    taken (both a.0.p (token (sign l t) refl y.p)) (a.0.parts ∙ ap (λ (r : List Item). a.0.p.put (sign l t ∷ r)) y.parts)
    (λ z. subst (λ (j : ℕ). SpellsStep (a.0.p.put (sign l t ∷ y.p.put z)) z (alone (changed j o p.tree e.tree) (max p.levels e.levels))) (a.1 (sign l t ∷ y.p.put z)) (g.change (a.0.again (sign l t ∷ y.p.put z)) q (y.again z)))
step_taken (g.count_after {l = l} {p = p} {t = t} {o = o} d q) =
    let a = place_taken d in
    taken (both a.0.p (token (sign l t) refl nothing)) a.0.parts (λ z. subst (λ (j : ℕ). SpellsStep (a.0.p.put (sign l t ∷ z)) z (alone (changed j o p.tree (tree.Number 1)) p.levels)) (a.1 (sign l t ∷ z)) (g.count_after (a.0.again (sign l t ∷ z)) q))
step_taken (g.count_before {l = l} {t = t} q d) = let a = (place_taken d).0 in taken (token (sign l t) refl a.p) (ap (λ (r : List Item). sign l t ∷ r) a.parts) (λ z. g.count_before q (a.again z))

pub declarator_taken : {before after : List Item} {x : Tall (List Stmt)} → SpellsDeclarator before after x → T SpellsDeclarator before after x
declarator_taken (g.bare {l = l} {a = a} {n = n} d) = taken (token (at l a) (named l a n d) nothing) refl (λ z. g.bare d)
declarator_taken (g.by_value {l = l} {m = m} {a = a} {n = n} d x) =
    let y = whole_taken x in taken (token (at l a) (named l a n d) (token (sign m s.Assign) refl y.p)) (ap (λ (t : List Item). at l a ∷ sign m s.Assign ∷ t) y.parts) (λ z. g.by_value d (y.again z))
declarator_taken (g.by_call {l = l} {m = m} {a = a} {n = n} d x) =
    let y = (call_taken x).0 in taken (token (at l a) (named l a n d) (token (sign m s.Assign) refl y.p)) (ap (λ (t : List Item). at l a ∷ sign m s.Assign ∷ t) y.parts) (λ z. g.by_call d (y.again z))

result_taken : {k : Kind} {before after : List Item} {x : Tall (Option Expr)} → SpellsResult k before after x → T (SpellsResult k) before after x
result_taken (g.of_main x) = let y = whole_taken x in taken y.p y.parts (λ z. g.of_main (y.again z))
result_taken (g.of_int x) = let y = whole_taken x in taken y.p y.parts (λ z. g.of_int (y.again z))
result_taken g.of_void = taken nothing refl (λ z. g.of_void)
result_taken (g.null_of_thread {l = l}) = taken (token (fixed l w.Null) refl nothing) refl (λ z. g.null_of_thread)
result_taken (g.zero_of_thread {l = l}) = taken (token (at l (What.Number 0)) refl nothing) refl (λ z. g.zero_of_thread)

-- ---- numbers

pub number_taken : {before after : List Item} {k : ℕ} → SpellsNumber before after k → T SpellsNumber before after k
number_taken (g.number {l = l} {k = k}) = taken (token (at l (What.Number k)) refl nothing) refl (λ z. g.number)

-- ---- simple statements

pub simple_taken : {k : Kind} {before after : List Item} {x : Tall (List Stmt)} → SpellsSimple k before after x → T (SpellsSimple k) before after x
simple_taken (g.step x) = let y = step_taken x in taken y.p y.parts (λ z. g.step (y.again z))
simple_taken (g.declare {l = l} x) =
    let y = commas_taken SpellsDeclarator (λ b c e d. declarator_taken d) x in taken (token (fixed l w.Int) refl y.p) (ap (λ (t : List Item). fixed l w.Int ∷ t) y.parts) (λ z. g.declare (y.again z))
simple_taken {k} (g.call {c = c} x) =
    let a = call_taken x in taken a.0.p a.0.parts (λ z. subst (λ (j : ℕ). SpellsSimple k (a.0.p.put z) z (alone (lined.Call j None c.tree.function c.tree.args) c.levels)) (a.1 z) (g.call (a.0.again z)))
simple_taken {k} (g.call_into {l = l} {p = p} {c = c} d x) =
    let a = place_taken d in
    let y = (call_taken x).0 in
    taken (both a.0.p (token (sign l s.Assign) refl y.p)) (a.0.parts ∙ ap (λ (t : List Item). a.0.p.put (sign l s.Assign ∷ t)) y.parts)
    (λ z. subst (λ (j : ℕ). SpellsSimple k (a.0.p.put (sign l s.Assign ∷ y.p.put z)) z (alone (lined.Call j (Some p.tree) c.tree.function c.tree.args) (max p.levels c.levels))) (a.1 (sign l s.Assign ∷ y.p.put z))
    (g.call_into (a.0.again (sign l s.Assign ∷ y.p.put z)) (y.again z)))
simple_taken (g.give_back {l = l} x) = let y = result_taken x in taken (token (fixed l w.Return) refl y.p) (ap (λ (t : List Item). fixed l w.Return ∷ t) y.parts) (λ z. g.give_back (y.again z))
simple_taken (g.scan {l = l} {m = m} {n = n} {i = i} {j = j} x) =
    let y = address_taken x in
    taken (token (fixed l w.Scan) refl (token (sign m s.LeftParenthesis) refl (token (at n (What.Text number_format)) refl (token (sign i s.Comma) refl (both y.p (token (sign j s.RightParenthesis) refl nothing))))))
    (ap (λ (t : List Item). fixed l w.Scan ∷ sign m s.LeftParenthesis ∷ at n (What.Text number_format) ∷ sign i s.Comma ∷ t) y.parts) (λ z. g.scan (y.again (sign j s.RightParenthesis ∷ z)))
simple_taken (g.print {l = l} {m = m} {n = n} {i = i} {format = f}) =
    taken (token (fixed l w.Print) refl (token (sign m s.LeftParenthesis) refl (token (at n (What.Text f)) refl (token (sign i s.RightParenthesis) refl nothing)))) refl (λ z. g.print)
simple_taken (g.print_with {l = l} {m = m} {n = n} {i = i} {j = j} {format = f} x) =
    let y = expressions_taken x in
    taken (token (fixed l w.Print) refl (token (sign m s.LeftParenthesis) refl (token (at n (What.Text f)) refl (token (sign i s.Comma) refl (both y.p (token (sign j s.RightParenthesis) refl nothing))))))
    (ap (λ (t : List Item). fixed l w.Print ∷ sign m s.LeftParenthesis ∷ at n (What.Text f) ∷ sign i s.Comma ∷ t) y.parts) (λ z. g.print_with (y.again (sign j s.RightParenthesis ∷ z)))
simple_taken (g.create {l = l} {m = m} {n = n} {i = i} {j = j} {g = o} {h = h} {d = e} {a = a} {f = f} x d q) =
    let y = address_taken x in
    let r = argument_taken q in
    taken (token (fixed l w.Create) refl (token (sign m s.LeftParenthesis) refl (both y.p (token (sign n s.Comma) refl (token (fixed i w.Null) refl (token (sign j s.Comma) refl (token (at o a) (named o a f d) (token (sign h s.Comma) refl (both r.p (token (sign e s.RightParenthesis) refl nothing))))))))))
    (ap (λ (t : List Item). fixed l w.Create ∷ sign m s.LeftParenthesis ∷ t) (y.parts ∙ ap (λ (t : List Item). y.p.put (sign n s.Comma ∷ fixed i w.Null ∷ sign j s.Comma ∷ at o a ∷ sign h s.Comma ∷ t)) r.parts))
    (λ z. g.create (y.again (sign n s.Comma ∷ fixed i w.Null ∷ sign j s.Comma ∷ at o a ∷ sign h s.Comma ∷ r.p.put (sign e s.RightParenthesis ∷ z))) d (r.again (sign e s.RightParenthesis ∷ z)))
simple_taken (g.join {l = l} {m = m} {n = n} {i = i} {j = j} x) =
    let y = (place_taken x).0 in
    taken (token (fixed l w.Join) refl (token (sign m s.LeftParenthesis) refl (both y.p (token (sign n s.Comma) refl (token (fixed i w.Null) refl (token (sign j s.RightParenthesis) refl nothing))))))
    (ap (λ (t : List Item). fixed l w.Join ∷ sign m s.LeftParenthesis ∷ t) y.parts) (λ z. g.join (y.again (sign n s.Comma ∷ fixed i w.Null ∷ sign j s.RightParenthesis ∷ z)))
simple_taken (g.init_mutex {l = l} {m = m} {n = n} {i = i} {j = j} x) =
    let y = address_taken x in
    taken (token (fixed l w.InitMutex) refl (token (sign m s.LeftParenthesis) refl (both y.p (token (sign n s.Comma) refl (token (fixed i w.Null) refl (token (sign j s.RightParenthesis) refl nothing))))))
    (ap (λ (t : List Item). fixed l w.InitMutex ∷ sign m s.LeftParenthesis ∷ t) y.parts) (λ z. g.init_mutex (y.again (sign n s.Comma ∷ fixed i w.Null ∷ sign j s.RightParenthesis ∷ z)))
simple_taken (g.init_condition {l = l} {m = m} {n = n} {i = i} {j = j} x) =
    let y = address_taken x in
    taken (token (fixed l w.InitCondition) refl (token (sign m s.LeftParenthesis) refl (both y.p (token (sign n s.Comma) refl (token (fixed i w.Null) refl (token (sign j s.RightParenthesis) refl nothing))))))
    (ap (λ (t : List Item). fixed l w.InitCondition ∷ sign m s.LeftParenthesis ∷ t) y.parts) (λ z. g.init_condition (y.again (sign n s.Comma ∷ fixed i w.Null ∷ sign j s.RightParenthesis ∷ z)))
simple_taken (g.lock {l = l} {m = m} {n = n} x) =
    let y = address_taken x in
    taken (token (fixed l w.Lock) refl (token (sign m s.LeftParenthesis) refl (both y.p (token (sign n s.RightParenthesis) refl nothing)))) (ap (λ (t : List Item). fixed l w.Lock ∷ sign m s.LeftParenthesis ∷ t) y.parts) (λ z. g.lock (y.again (sign n s.RightParenthesis ∷ z)))
simple_taken (g.unlock {l = l} {m = m} {n = n} x) =
    let y = address_taken x in
    taken (token (fixed l w.Unlock) refl (token (sign m s.LeftParenthesis) refl (both y.p (token (sign n s.RightParenthesis) refl nothing)))) (ap (λ (t : List Item). fixed l w.Unlock ∷ sign m s.LeftParenthesis ∷ t) y.parts) (λ z. g.unlock (y.again (sign n s.RightParenthesis ∷ z)))
simple_taken (g.wait {l = l} {m = m} {n = n} {i = i} x r) =
    let y = address_taken x in
    let q = address_taken r in
    taken (token (fixed l w.Wait) refl (token (sign m s.LeftParenthesis) refl (both y.p (token (sign n s.Comma) refl (both q.p (token (sign i s.RightParenthesis) refl nothing))))))
    (ap (λ (t : List Item). fixed l w.Wait ∷ sign m s.LeftParenthesis ∷ t) (y.parts ∙ ap (λ (t : List Item). y.p.put (sign n s.Comma ∷ t)) q.parts)) (λ z. g.wait (y.again (sign n s.Comma ∷ q.p.put (sign i s.RightParenthesis ∷ z))) (q.again (sign i s.RightParenthesis ∷ z)))
simple_taken (g.signal {l = l} {m = m} {n = n} x) =
    let y = address_taken x in
    taken (token (fixed l w.Signal) refl (token (sign m s.LeftParenthesis) refl (both y.p (token (sign n s.RightParenthesis) refl nothing)))) (ap (λ (t : List Item). fixed l w.Signal ∷ sign m s.LeftParenthesis ∷ t) y.parts) (λ z. g.signal (y.again (sign n s.RightParenthesis ∷ z)))
simple_taken (g.broadcast {l = l} {m = m} {n = n} x) =
    let y = address_taken x in
    taken (token (fixed l w.Broadcast) refl (token (sign m s.LeftParenthesis) refl (both y.p (token (sign n s.RightParenthesis) refl nothing)))) (ap (λ (t : List Item). fixed l w.Broadcast ∷ sign m s.LeftParenthesis ∷ t) y.parts)
    (λ z. g.broadcast (y.again (sign n s.RightParenthesis ∷ z)))
simple_taken (g.take {l = l} {m = m} {n = n} {i = i} {monitor = c}) =
    taken (token (fixed l w.Take) refl (token (sign m s.LeftParenthesis) refl (token (at n (What.Number c)) refl (token (sign i s.RightParenthesis) refl nothing)))) refl (λ z. g.take)
simple_taken (g.give {l = l} {m = m} {n = n} {i = i} {monitor = c}) =
    taken (token (fixed l w.Give) refl (token (sign m s.LeftParenthesis) refl (token (at n (What.Number c)) refl (token (sign i s.RightParenthesis) refl nothing)))) refl (λ z. g.give)
simple_taken (g.controlled_wait {l = l} {m = m} {n = n} {i = i} {j = j} {g = o} {h = h} {d = d} x r q) =
    let y = address_taken x in
    let c = address_taken r in
    let u = commas_taken SpellsNumber (λ b c e d. number_taken d) q in
    taken (token (fixed l w.ControlledWait) refl (token (sign m s.LeftParenthesis) refl (both y.p (token (sign n s.Comma) refl (both c.p (token (sign i s.Comma) refl
    (both u.p (token (sign j s.Comma) refl (token (sign o s.Minus) refl (token (at h (What.Number 1)) refl (token (sign d s.RightParenthesis) refl nothing)))))))))))
    (ap (λ (t : List Item). fixed l w.ControlledWait ∷ sign m s.LeftParenthesis ∷ t)
    (y.parts ∙ ap (λ (t : List Item). y.p.put (sign n s.Comma ∷ t)) (c.parts ∙ ap (λ (t : List Item). c.p.put (sign i s.Comma ∷ t)) u.parts)))
    (λ z. g.controlled_wait (y.again (sign n s.Comma ∷ c.p.put (sign i s.Comma ∷ u.p.put (sign j s.Comma ∷ sign o s.Minus ∷ at h (What.Number 1) ∷ sign d s.RightParenthesis ∷ z))))
    (c.again (sign i s.Comma ∷ u.p.put (sign j s.Comma ∷ sign o s.Minus ∷ at h (What.Number 1) ∷ sign d s.RightParenthesis ∷ z)))
    (u.again (sign j s.Comma ∷ sign o s.Minus ∷ at h (What.Number 1) ∷ sign d s.RightParenthesis ∷ z)))
