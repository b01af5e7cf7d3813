-- No token of the canonical layout of a program is a definition.
use Rattle.std.proofs.Common.{ℕ, zero, suc, ℤ, pos, negsuc, Bool, true, false, List, [], ◌∷◌, ◌++◌, codes, map, replicate, Option, Some, None, refl}
use Rattle.std.specs.List.{flat_map}
use Rattle.c_lexer.specs.declared.token.Sign.TheVariants as s
use Rattle.c_layout.specs.Layout.{Item as Part, word, sign, space, newline}
use Rattle.c_tree.specs.declared.program.Kind.{Kind}
use Rattle.c_tree.specs.declared.program.Kind.TheVariants as k
use Rattle.c_tree.specs.Bare.{Cell, Array, Object, Slot, Function, Program}
use Rattle.c_canonical.specs.Expressions.{separated, numeral}
use Rattle.c_canonical.specs.Statements.{statements}
use Rattle.c_canonical.specs.Waits.{some_waits}
use Rattle.c_canonical.specs.Programs.{value, braced, equals, length_of, declared, cell, values, array, initialisers, readied, object, mutex, condition, slot, monitor_call, wait_call, monitors, result_type, parameter, parameters, function_head, function, declarations, layout_of}
use Rattle.c_canonical.proofs.Shown.{Plain, plain_append}
use Rattle.c_canonical.proofs.PlainExpressions.{before_sign, EachPlain, mapped_plain, separated_plain}
use Rattle.c_canonical.proofs.PlainStatements.{statements_plain}

lines_plain : {X : Type 0} (lines : X → List Part) → ((x : X) → Plain (lines x)) → (xs : List X) → Plain (flat_map lines xs)
lines_plain lines h [] = tt
lines_plain lines h (x ∷ xs) = plain_append (lines x) (flat_map lines xs) (h x) (lines_plain lines h xs)

-- ---- declarations

value_plain : (v : ℤ) → Plain (value v)
value_plain (pos n) = (refl, tt)
value_plain (negsuc n) = (refl, (refl, tt))

braced_plain : (parts : List (List Part)) → EachPlain parts → Plain (braced parts)
braced_plain parts h = (refl, before_sign s.RightBrace (separated parts) (separated_plain parts h))

length_plain : (len : Option ℕ) → Plain (length_of len)
length_plain None = tt
length_plain (Some n) = (refl, (refl, (refl, tt)))

declared_plain : (kind : List ℕ) (items : List Part) → Plain items → Plain (declared kind items)
declared_plain kind items p = (refl, plain_append items (sign s.Semicolon ∷ newline ∷ []) p (refl, tt))

-- a name, its length and these items
named_plain : (name : List ℕ) (len : Option ℕ) (items : List Part) → Plain items → Plain (word name ∷ (length_of len ++ items))
named_plain name len items p = (refl, plain_append (length_of len) items (length_plain len) p)

cell_plain : (c : Cell) → Plain (cell c)
cell_plain c = declared_plain (codes "int") (word c.name ∷ equals (value c.value)) (refl, (refl, value_plain c.value))

values_plain : (vs : List ℤ) → Plain (values vs)
values_plain [] = tt
values_plain (v ∷ vs) = (refl, braced_plain (map value (v ∷ vs)) (mapped_plain value value_plain (v ∷ vs)))

array_plain : (a : Array) → Plain (array a)
array_plain a = declared_plain (codes "int") (word a.name ∷ (length_of (Some a.len) ++ values a.values)) (named_plain a.name (Some a.len) (values a.values) (values_plain a.values))

so_many_plain : (w : List ℕ) (n : ℕ) → EachPlain (replicate n (word w ∷ []))
so_many_plain w zero = tt
so_many_plain w (suc n) = ((refl, tt), so_many_plain w n)

initialisers_plain : (w : List ℕ) (len : Option ℕ) (given : ℕ) → Plain (initialisers w len given)
initialisers_plain w None given = (refl, (refl, tt))
initialisers_plain w (Some len) given = (refl, braced_plain (replicate given (word w ∷ [])) (so_many_plain w given))

readied_plain : (ready : Bool) (items : List Part) → Plain items → Plain (readied ready items)
readied_plain false items p = tt
readied_plain true items p = p

object_plain : (kind w : List ℕ) (o : Object) → Plain (object kind w o)
object_plain kind w o =
    let given = readied o.ready (initialisers w o.len o.given) in
    declared_plain kind (word o.name ∷ (length_of o.len ++ given))
    (named_plain o.name o.len given (readied_plain o.ready (initialisers w o.len o.given) (initialisers_plain w o.len o.given)))

slot_plain : (t : Slot) → Plain (slot t)
slot_plain t = declared_plain (codes "pthread_t") (word t.name ∷ length_of t.len) (refl, length_plain t.len)

-- ---- capacities

call_plain : (name : List ℕ) → Plain (monitor_call name)
call_plain name = (refl, (refl, (refl, (refl, (refl, (refl, (refl, tt)))))))

wait_call_plain : (waits : Bool) → Plain (wait_call waits)
wait_call_plain false = tt
wait_call_plain true = (refl, (refl, (refl, (refl, (refl, (refl, (refl, (refl, (refl, (refl, (refl, (refl, (refl, (refl, tt))))))))))))))

monitors_plain : (len : ℕ) (all : List ℕ) (waits : Bool) → Plain (monitors len all waits)
monitors_plain len [] waits = tt
monitors_plain len (first ∷ more) waits =
    let given = equals (braced (map numeral (first ∷ more))) in
    let items = word (codes "gd_cap") ∷ (length_of (Some len) ++ given) in
    plain_append (declared (codes "int") items) (monitor_call (codes "gd_take") ++ (monitor_call (codes "gd_give") ++ wait_call waits))
    (declared_plain (codes "int") items (named_plain (codes "gd_cap") (Some len) given (refl, braced_plain (map numeral (first ∷ more)) (mapped_plain numeral (λ n. (refl, tt)) (first ∷ more)))))
    (plain_append (monitor_call (codes "gd_take")) (monitor_call (codes "gd_give") ++ wait_call waits) (call_plain (codes "gd_take"))
    (plain_append (monitor_call (codes "gd_give")) (wait_call waits) (call_plain (codes "gd_give")) (wait_call_plain waits)))

-- ---- functions

result_plain : (kind : Kind) → Plain (result_type kind)
result_plain k.Main = (refl, tt)
result_plain k.Int = (refl, tt)
result_plain k.Void = (refl, tt)
result_plain k.Thread = (refl, (refl, tt))

parameter_plain : (kind : Kind) (name : List ℕ) → Plain (parameter kind name)
parameter_plain k.Main name = (refl, (refl, tt))
parameter_plain k.Int name = (refl, (refl, tt))
parameter_plain k.Void name = (refl, (refl, tt))
parameter_plain k.Thread name = (refl, (refl, (refl, tt)))

parameters_plain : (kind : Kind) (ps : List (List ℕ)) → Plain (parameters kind ps)
parameters_plain kind [] = (refl, tt)
parameters_plain kind (p ∷ ps) = separated_plain (map (parameter kind) (p ∷ ps)) (mapped_plain (parameter kind) (parameter_plain kind) (p ∷ ps))

head_plain : (f : Function) → Plain (function_head f)
head_plain f =
    let behind = sign s.RightParenthesis ∷ space ∷ sign s.LeftBrace ∷ newline ∷ [] in
    plain_append (result_type f.kind) (word f.name ∷ sign s.LeftParenthesis ∷ (parameters f.kind f.params ++ behind)) (result_plain f.kind)
    (refl, (refl, plain_append (parameters f.kind f.params) behind (parameters_plain f.kind f.params) (refl, (refl, tt))))

function_plain : (f : Function) → Plain (function f)
function_plain f =
    let inside = statements f.kind (codes "    ") f.body in
    let end = sign s.RightBrace ∷ newline ∷ [] in
    plain_append (function_head f) (inside ++ end) (head_plain f) (plain_append inside end (statements_plain f.kind (codes "    ") f.body) (refl, tt))

-- ---- programs

declarations_plain : (p : Program) → Plain (declarations p)
declarations_plain p =
    let conds = flat_map condition p.conds in
    let mutexes = flat_map mutex p.mutexes in
    let arrays = flat_map array p.arrays in
    let threads = flat_map slot p.threads in
    plain_append (monitors p.cap_len p.monitors (some_waits p.functions)) (flat_map cell p.ints ++ (arrays ++ (mutexes ++ (conds ++ threads)))) (monitors_plain p.cap_len p.monitors (some_waits p.functions))
    (plain_append (flat_map cell p.ints) (arrays ++ (mutexes ++ (conds ++ threads))) (lines_plain cell cell_plain p.ints)
    (plain_append arrays (mutexes ++ (conds ++ threads)) (lines_plain array array_plain p.arrays)
    (plain_append mutexes (conds ++ threads) (lines_plain mutex (object_plain (codes "pthread_mutex_t") (codes "PTHREAD_MUTEX_INITIALIZER")) p.mutexes)
    (plain_append conds threads (lines_plain condition (object_plain (codes "pthread_cond_t") (codes "PTHREAD_COND_INITIALIZER")) p.conds) (lines_plain slot slot_plain p.threads)))))

pub layout_plain : (p : Program) → Plain (layout_of p)
layout_plain p = plain_append (declarations p) (flat_map function p.functions) (declarations_plain p) (lines_plain function function_plain p.functions)
