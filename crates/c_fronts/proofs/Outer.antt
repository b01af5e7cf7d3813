-- What stands outside functions.
use Rattle.std.proofs.Common.{ℕ, ℤ, List, ◌∷◌, refl, ap, ◌∙◌}
use Rattle.c_lexer.specs.declared.token.Sign.TheVariants as s
use Rattle.c_tree.specs.declared.program.Object.{Object}
use Rattle.c_grammar.specs.declared.words.FixedWord.{FixedWord}
use Rattle.c_grammar.specs.declared.words.FixedWord.TheVariants as w
use Rattle.c_grammar.specs.Items.{What, Item, at, sign, fixed}
use Rattle.c_grammar.specs.Levels.{Tall}
use Rattle.c_grammar.specs.Simple.{SpellsNumber}
use Rattle.c_grammar.specs.Declarations as g
use Rattle.c_grammar.specs.Declarations.{SpellsValue, Declared, SpellsCell, SpellsCells, Sort, type_word, initial_word, SpellsInitial, SpellsObject, SpellsObjects, Capacities, SpellsPrototype, SpellsWaitPrototype, SpellsCapacities, SpellsParameter, SpellsParameters, SpellsVoid, Head, SpellsHead, Defined, SpellsFunction}
use Rattle.c_fronts.proofs.Put.{nothing, token, both, Taken, taken, named, celled, functioned, commas_taken}
use Rattle.c_fronts.proofs.Expressions.{T}
use Rattle.c_fronts.proofs.Simple.{number_taken}
use Rattle.c_fronts.proofs.Statements.{static_taken, body_taken}

value_taken : {before after : List Item} {k : ℤ} → SpellsValue before after k → T SpellsValue before after k
value_taken (g.plain {l = l} {k = k}) = taken (token (at l (What.Number k)) refl nothing) refl (λ z. g.plain)
value_taken (g.negative {l = l} {m = m} {k = k}) = taken (token (sign l s.Minus) refl (token (at m (What.Number k)) refl nothing)) refl (λ z. g.negative)

-- ---- scalars and arrays

cell_taken : {before after : List Item} {x : Declared} → SpellsCell before after x → T SpellsCell before after x
cell_taken (g.scalar {l = l} {a = a} {n = n} d) = taken (token (at l a) (celled l a n d) nothing) refl (λ z. g.scalar d)
cell_taken (g.scalar_by {l = l} {m = m} {a = a} {n = n} d x) =
    let y = value_taken x in taken (token (at l a) (celled l a n d) (token (sign m s.Assign) refl y.p)) (ap (λ (t : List Item). at l a ∷ sign m s.Assign ∷ t) y.parts) (λ z. g.scalar_by d (y.again z))
cell_taken (g.array {l = l} {m = m} {i = i} {j = j} {len = len} {a = a} {n = n} d) =
    taken (token (at l a) (celled l a n d) (token (sign m s.LeftBracket) refl (token (at i (What.Number len)) refl (token (sign j s.RightBracket) refl nothing)))) refl (λ z. g.array d)
cell_taken (g.array_by {l = l} {m = m} {i = i} {j = j} {g = o} {h = h} {d = e} {len = len} {a = a} {n = n} d x) =
    let y = commas_taken SpellsValue (λ b c e d. value_taken d) x in
    taken (token (at l a) (celled l a n d) (token (sign m s.LeftBracket) refl (token (at i (What.Number len)) refl (token (sign j s.RightBracket) refl (token (sign o s.Assign) refl (token (sign h s.LeftBrace) refl (both y.p (token (sign e s.RightBrace) refl nothing))))))))
    (ap (λ (t : List Item). at l a ∷ sign m s.LeftBracket ∷ at i (What.Number len) ∷ sign j s.RightBracket ∷ sign o s.Assign ∷ sign h s.LeftBrace ∷ t) y.parts) (λ z. g.array_by d (y.again (sign e s.RightBrace ∷ z)))

pub cells_taken : {before after : List Item} {all : List Declared} → SpellsCells before after all → T SpellsCells before after all
cells_taken (g.cells {l = l} {m = m} x d) =
    let y = static_taken x in
    let r = commas_taken SpellsCell (λ b c e d. cell_taken d) d in
    taken (both y.p (token (fixed l w.Int) refl (both r.p (token (sign m s.Semicolon) refl nothing)))) (y.parts ∙ ap (λ (t : List Item). y.p.put (fixed l w.Int ∷ t)) r.parts)
    (λ z. g.cells (y.again (fixed l w.Int ∷ r.p.put (sign m s.Semicolon ∷ z))) (r.again (sign m s.Semicolon ∷ z)))

-- ---- mutexes and conditions

initial_taken : {o : Sort} {before after : List Item} {x : Unit {0}} → SpellsInitial o before after x → T (SpellsInitial o) before after x
initial_taken {o} (g.initial {l = l}) = taken (token (fixed l (initial_word o)) refl nothing) refl (λ z. g.initial)

object_taken : {o : Sort} {before after : List Item} {x : Object} → SpellsObject o before after x → T (SpellsObject o) before after x
object_taken (g.single {l = l} {a = a} {n = n} d) = taken (token (at l a) (named l a n d) nothing) refl (λ z. g.single d)
object_taken {o} (g.single_ready {l = l} {m = m} {i = i} {a = a} {n = n} d) =
    taken (token (at l a) (named l a n d) (token (sign m s.Assign) refl (token (fixed i (initial_word o)) refl nothing))) refl (λ z. g.single_ready d)
object_taken (g.several {l = l} {m = m} {i = i} {j = j} {len = len} {a = a} {n = n} d) =
    taken (token (at l a) (named l a n d) (token (sign m s.LeftBracket) refl (token (at i (What.Number len)) refl (token (sign j s.RightBracket) refl nothing)))) refl (λ z. g.several d)
object_taken {o} (g.several_ready {l = l} {m = m} {i = i} {j = j} {g = p} {h = h} {d = e} {len = len} {a = a} {n = n} d x) =
    let y = commas_taken (SpellsInitial o) (λ b c e d. initial_taken d) x in
    taken (token (at l a) (named l a n d) (token (sign m s.LeftBracket) refl (token (at i (What.Number len)) refl (token (sign j s.RightBracket) refl (token (sign p s.Assign) refl (token (sign h s.LeftBrace) refl (both y.p (token (sign e s.RightBrace) refl nothing))))))))
    (ap (λ (t : List Item). at l a ∷ sign m s.LeftBracket ∷ at i (What.Number len) ∷ sign j s.RightBracket ∷ sign p s.Assign ∷ sign h s.LeftBrace ∷ t) y.parts) (λ z. g.several_ready d (y.again (sign e s.RightBrace ∷ z)))

pub objects_taken : {o : Sort} {before after : List Item} {all : List Object} → SpellsObjects o before after all → T (SpellsObjects o) before after all
objects_taken {o} (g.objects {l = l} {m = m} x d) =
    let y = static_taken x in
    let r = commas_taken (SpellsObject o) (λ b c e d. object_taken d) d in
    taken (both y.p (token (fixed l (type_word o)) refl (both r.p (token (sign m s.Semicolon) refl nothing)))) (y.parts ∙ ap (λ (t : List Item). y.p.put (fixed l (type_word o) ∷ t)) r.parts)
    (λ z. g.objects (y.again (fixed l (type_word o) ∷ r.p.put (sign m s.Semicolon ∷ z))) (r.again (sign m s.Semicolon ∷ z)))

-- ---- the capacities

prototype_taken : {word : FixedWord} {before after : List Item} → SpellsPrototype word before after → Taken (SpellsPrototype word) before after
prototype_taken {word} (g.prototype {l = l} {m = m} {n = n} {i = i} {j = j} {g = o} {h = h}) =
    taken (token (fixed l w.Void) refl (token (fixed m word) refl (token (sign n s.LeftParenthesis) refl (token (fixed i w.Int) refl (token (fixed j w.Parameter) refl (token (sign o s.RightParenthesis) refl (token (sign h s.Semicolon) refl nothing))))))) refl (λ z. g.prototype)

wait_prototype_taken : {before after : List Item} → SpellsWaitPrototype before after → Taken SpellsWaitPrototype before after
wait_prototype_taken g.SpellsWaitPrototype.absent = taken nothing refl (λ z. g.SpellsWaitPrototype.absent)
wait_prototype_taken (g.SpellsWaitPrototype.present {a = a} {b = b} {c = c} {d = d} {e = e} {f = f} {g = o} {h = h} {i = i} {j = j} {k = k} {l = l} {m = m} {n = n}) =
    taken (token (fixed a w.Void) refl (token (fixed b w.ControlledWait) refl (token (sign c s.LeftParenthesis) refl (token (fixed d w.Condition) refl (token (sign e s.Star) refl (token (fixed f w.ConditionParameter) refl (token (sign o s.Comma) refl
    (token (fixed h w.Mutex) refl (token (sign i s.Star) refl (token (fixed j w.MutexParameter) refl (token (sign k s.Comma) refl (token (sign l s.Ellipsis) refl (token (sign m s.RightParenthesis) refl (token (sign n s.Semicolon) refl nothing))))))))))))))
    refl (λ z. g.SpellsWaitPrototype.present)

pub capacities_taken : {before after : List Item} {c : Capacities} → SpellsCapacities before after c → T SpellsCapacities before after c
capacities_taken (g.capacities {l = l} {m = m} {n = n} {i = i} {j = j} {g = o} {h = h} {d = d} {e = e} {len = len} x a b c) =
    let y = commas_taken SpellsNumber (λ b c e d. number_taken d) x in
    let r = prototype_taken a in
    let q = prototype_taken b in
    let u = wait_prototype_taken c in
    taken (token (fixed l w.Int) refl (token (fixed m w.Capacities) refl (token (sign n s.LeftBracket) refl (token (at i (What.Number len)) refl (token (sign j s.RightBracket) refl (token (sign o s.Assign) refl (token (sign h s.LeftBrace) refl
    (both y.p (token (sign d s.RightBrace) refl (token (sign e s.Semicolon) refl (both r.p (both q.p u.p))))))))))))
    (ap (λ (t : List Item). fixed l w.Int ∷ fixed m w.Capacities ∷ sign n s.LeftBracket ∷ at i (What.Number len) ∷ sign j s.RightBracket ∷ sign o s.Assign ∷ sign h s.LeftBrace ∷ t)
    (y.parts ∙ ap (λ (t : List Item). y.p.put (sign d s.RightBrace ∷ sign e s.Semicolon ∷ t)) (r.parts ∙ ap r.p.put (q.parts ∙ ap q.p.put u.parts))))
    (λ z. g.capacities (y.again (sign d s.RightBrace ∷ sign e s.Semicolon ∷ r.p.put (q.p.put (u.p.put z)))) (r.again (q.p.put (u.p.put z))) (q.again (u.p.put z)) (u.again z))

-- ---- heads, and functions

parameter_taken : {before after : List Item} {n : List ℕ} → SpellsParameter before after n → T SpellsParameter before after n
parameter_taken {n = n} (g.parameter {l = l} {m = m} {a = a} d) = taken (token (fixed l w.Int) refl (token (at m a) (named m a n d) nothing)) refl (λ z. g.parameter d)

parameters_taken : {before after : List Item} {all : List (List ℕ)} → SpellsParameters before after all → T SpellsParameters before after all
parameters_taken g.nothing = taken nothing refl (λ z. g.nothing)
parameters_taken (g.void {l = l}) = taken (token (fixed l w.Void) refl nothing) refl (λ z. g.void)
parameters_taken (g.ints x) = let y = commas_taken SpellsParameter (λ b c e d. parameter_taken d) x in taken y.p y.parts (λ z. g.ints (y.again z))

void_taken : {before after : List Item} → SpellsVoid before after → Taken SpellsVoid before after
void_taken g.absent = taken nothing refl (λ z. g.absent)
void_taken (g.present {l = l}) = taken (token (fixed l w.Void) refl nothing) refl (λ z. g.present)

head_taken : {before after : List Item} {h : Head} → SpellsHead before after h → T SpellsHead before after h
head_taken (g.main {l = l} {m = m} {n = n} {i = i} x) =
    let y = void_taken x in
    taken (token (fixed l w.Int) refl (token (fixed m w.Main) refl (token (sign n s.LeftParenthesis) refl (both y.p (token (sign i s.RightParenthesis) refl nothing)))))
    (ap (λ (t : List Item). fixed l w.Int ∷ fixed m w.Main ∷ sign n s.LeftParenthesis ∷ t) y.parts) (λ z. g.main (y.again (sign i s.RightParenthesis ∷ z)))
head_taken (g.int_function {l = l} {m = m} {n = n} {i = i} {a = a} {f = f} d x) =
    let y = parameters_taken x in
    taken (token (fixed l w.Int) refl (token (at m a) (functioned m a f d) (token (sign n s.LeftParenthesis) refl (both y.p (token (sign i s.RightParenthesis) refl nothing)))))
    (ap (λ (t : List Item). fixed l w.Int ∷ at m a ∷ sign n s.LeftParenthesis ∷ t) y.parts) (λ z. g.int_function d (y.again (sign i s.RightParenthesis ∷ z)))
head_taken (g.void_function {l = l} {m = m} {n = n} {i = i} {a = a} {f = f} d x) =
    let y = parameters_taken x in
    taken (token (fixed l w.Void) refl (token (at m a) (functioned m a f d) (token (sign n s.LeftParenthesis) refl (both y.p (token (sign i s.RightParenthesis) refl nothing)))))
    (ap (λ (t : List Item). fixed l w.Void ∷ at m a ∷ sign n s.LeftParenthesis ∷ t) y.parts) (λ z. g.void_function d (y.again (sign i s.RightParenthesis ∷ z)))
head_taken (g.thread_function {l = l} {m = m} {n = n} {i = i} {j = j} {g = o} {h = h} {d = e} {a = a} {b = b} {f = f} {x = x} d q) =
    taken (token (fixed l w.Void) refl (token (sign m s.Star) refl (token (at n a) (functioned n a f d) (token (sign i s.LeftParenthesis) refl (token (fixed j w.Void) refl (token (sign o s.Star) refl (token (at h b) (named h b x q) (token (sign e s.RightParenthesis) refl nothing))))))))
    refl (λ z. g.thread_function d q)

pub function_taken : {before after : List Item} {f : Tall Defined} → SpellsFunction before after f → T SpellsFunction before after f
function_taken (g.function {l = l} {m = m} x h b) =
    let y = static_taken x in
    let r = head_taken h in
    let q = body_taken b in
    taken (both y.p (both r.p (token (sign l s.LeftBrace) refl (both q.p (token (sign m s.RightBrace) refl nothing)))))
    (y.parts ∙ ap y.p.put (r.parts ∙ ap (λ (t : List Item). r.p.put (sign l s.LeftBrace ∷ t)) q.parts))
    (λ z. g.function (y.again (r.p.put (sign l s.LeftBrace ∷ q.p.put (sign m s.RightBrace ∷ z)))) (r.again (sign l s.LeftBrace ∷ q.p.put (sign m s.RightBrace ∷ z))) (q.again (sign m s.RightBrace ∷ z)))
