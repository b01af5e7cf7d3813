-- The layouts of declarations, functions and programs are parted.
use Rattle.std.proofs.Common.{ℕ, zero, suc, ℤ, pos, negsuc, Bool, true, false, List, [], ◌∷◌, ◌++◌, codes, map, replicate, refl, sym, subst, append_assoc, Option, Some, None}
use Rattle.std.specs.Prelude.{◌≤◌, All}
use Rattle.std.specs.List.{flat_map}
use Rattle.c_lexer.specs.declared.token.Sign.TheVariants as s
use Rattle.c_lexer.specs.Classes.{is_word}
use Rattle.c_lexer.specs.Words.{largest}
use Rattle.c_lexer.specs.Tokens.{Tokens}
use Rattle.c_layout.specs.Layout.{Item, text, words, word, sign, space, newline, blanks, skipped, IsName}
use Rattle.c_layout.specs.Laws.{Stops, goes_on, head, later}
use Rattle.c_layout.proofs.Readings.{reading}
use Rattle.c_layout.proofs.Fitting.{include_fits}
use Rattle.c_tree.specs.declared.program.Kind.{Kind}
use Rattle.c_tree.specs.declared.program.Kind.TheVariants as k
use Rattle.c_tree.specs.Bare.{Cell, Array, Object, Slot, Function, Program}
use Rattle.c_canonical.specs.Expressions.{followed, separated, numeral}
use Rattle.c_canonical.specs.Statements.{statements}
use Rattle.c_canonical.specs.Waits.{some_waits}
use Rattle.c_canonical.specs.Programs.{value, braced, equals, length_of, declared, cell, values, array, initialisers, readied, object, mutex, condition, slot, monitor_call, wait_call, monitors, result_type, parameter, parameters, function_head, function, declarations, layout_of}
use Rattle.c_canonical.specs.Writable.{IsWritableValue, IsWritableLength, IsWritableCell, IsWritableArray, IsWritableObject, IsWritableSlot, IsWritableFunction, IsWritableProgram}
use Rattle.c_canonical.proofs.Parts.{Joins, joins_append, nothing, word_then, number_then, sign_then, free_then, gap_then, Quiet, quiet_stops, star_before}
use Rattle.c_canonical.proofs.ExpressionParts.{name_stops}
use Rattle.c_canonical.proofs.ListParts.{all_head, all_tail, Each, separated_joins, numeral_joins, minus_joins}
use Rattle.c_canonical.proofs.StatementParts.{statements_join}

-- ---- lists

lines_join : {X : Type 0} (P : X → Type 0) (lines : X → List Item) → ((x : X) (rest : List ℕ) → P x → Joins (lines x) rest) → (xs : List X) (rest : List ℕ) → All P xs → Joins (flat_map lines xs) rest
lines_join P lines each [] rest f = nothing rest
lines_join P lines each (x ∷ xs) rest f = joins_append (lines x) (flat_map lines xs) rest (each x _ (all_head P x xs f)) (lines_join P lines each xs rest (all_tail P x xs f))

-- ---- declarations

equals_join : (items : List Item) (rest : List ℕ) → Joins items rest → Joins (equals items) rest
equals_join items rest h = gap_then (codes " ") _ rest refl (sign_then s.Assign (space ∷ items) rest refl (gap_then (codes " ") items rest refl h))

declared_joins : (kind : List ℕ) (items : List Item) (rest : List ℕ) → IsName kind → ((r : List ℕ) → Joins items (59 ∷ r)) → Joins (declared kind items) rest
unfolding is_word
declared_joins kind items rest n h =
    word_then kind _ rest n refl (gap_then (codes " ") _ rest refl (joins_append items (sign s.Semicolon ∷ newline ∷ []) rest (h _)
    (free_then s.Semicolon (λ c. refl) _ rest (gap_then (codes "\n") [] rest refl (nothing rest)))))

value_joins : (v : ℤ) (rest : List ℕ) → IsWritableValue v → Quiet rest → Joins (value v) rest
value_joins (pos n) rest f q = number_then n [] rest f (quiet_stops rest q) (nothing rest)
value_joins (negsuc n) rest f q = minus_joins (suc n) rest f q

braced_joins : {X : Type 0} (P : X → Type 0) (item : X → List Item) → Each P item → (xs : List X) (rest : List ℕ) → All P xs → Joins (braced (map item xs)) rest
braced_joins P item each xs rest f =
    free_then s.LeftBrace (λ c. refl) _ rest (joins_append (separated (map item xs)) (sign s.RightBrace ∷ []) rest (separated_joins P item each xs (125 ∷ rest) f refl)
    (free_then s.RightBrace (λ c. refl) [] rest (nothing rest)))

length_quiet : (len : Option ℕ) (rest : List ℕ) → Quiet rest → Stops is_word (text (length_of len) ++ rest)
unfolding is_word
length_quiet None rest q = quiet_stops rest q
length_quiet (Some n) rest q = refl

length_joins : (len : Option ℕ) (rest : List ℕ) → IsWritableLength len → Joins (length_of len) rest
unfolding is_word
length_joins None rest f = nothing rest
length_joins (Some n) rest f =
    free_then s.LeftBracket (λ c. refl) _ rest (number_then n _ rest f refl (free_then s.RightBracket (λ c. refl) [] rest (nothing rest)))

-- a name and its length before these items
named_joins : (name : List ℕ) (len : Option ℕ) (items : List Item) (rest : List ℕ) → IsName name → IsWritableLength len → Quiet (text items ++ rest) → Joins items rest
    → Joins (word name ∷ (length_of len ++ items)) rest
unfolding is_word
named_joins name None items rest n f q h = word_then name items rest n (quiet_stops (text items ++ rest) q) h
named_joins name (Some len) items rest n f q h = word_then name _ rest n refl (joins_append (length_of (Some len)) items rest (length_joins (Some len) (text items ++ rest) f) h)

cell_joins : (c : Cell) (rest : List ℕ) → IsWritableCell c → Joins (cell c) rest
unfolding is_word
cell_joins c rest f = declared_joins (codes "int") (word c.name ∷ equals (value c.value)) rest refl
    (λ r. word_then c.name (equals (value c.value)) (59 ∷ r) f.0 refl (equals_join (value c.value) (59 ∷ r) (value_joins c.value (59 ∷ r) f.1 refl)))

values_quiet : (vs : List ℤ) (r : List ℕ) → Quiet (text (values vs) ++ 59 ∷ r)
values_quiet [] r = refl
values_quiet (v ∷ vs) r = refl

values_join : (vs : List ℤ) (rest : List ℕ) → All IsWritableValue vs → Joins (values vs) rest
values_join [] rest f = nothing rest
values_join (v ∷ vs) rest f = equals_join (braced (map value (v ∷ vs))) rest (braced_joins IsWritableValue value value_joins (v ∷ vs) rest f)

array_joins : (a : Array) (rest : List ℕ) → IsWritableArray a → Joins (array a) rest
unfolding is_word
array_joins a rest f = declared_joins (codes "int") (word a.name ∷ (length_of (Some a.len) ++ values a.values)) rest refl
    (λ r. named_joins a.name (Some a.len) (values a.values) (59 ∷ r) f.0 f.1 (values_quiet a.values r) (values_join a.values (59 ∷ r) f.2))

-- ---- mutexes, conditions and threads

initialiser_quiet : (w : List ℕ) (n : ℕ) (rest : List ℕ) → Quiet rest → Quiet (text (followed (replicate n (word w ∷ []))) ++ rest)
initialiser_quiet w zero rest q = q
initialiser_quiet w (suc n) rest q = refl

initialisers_follow : (w : List ℕ) (n : ℕ) (rest : List ℕ) → IsName w → Quiet rest → Joins (followed (replicate n (word w ∷ []))) rest
initialisers_follow w zero rest f q = nothing rest
initialisers_follow w (suc n) rest f q =
    free_then s.Comma (λ c. refl) _ rest (gap_then (codes " ") _ rest refl
    (word_then w (followed (replicate n (word w ∷ []))) rest f (quiet_stops _ (initialiser_quiet w n rest q)) (initialisers_follow w n rest f q)))

initialiser_list : (w : List ℕ) (n : ℕ) (rest : List ℕ) → IsName w → Quiet rest → Joins (separated (replicate n (word w ∷ []))) rest
initialiser_list w zero rest f q = nothing rest
initialiser_list w (suc n) rest f q =
    word_then w (followed (replicate n (word w ∷ []))) rest f (quiet_stops _ (initialiser_quiet w n rest q)) (initialisers_follow w n rest f q)

initialisers_join : (w : List ℕ) (len : Option ℕ) (given : ℕ) (rest : List ℕ) → IsName w → Quiet rest → Joins (initialisers w len given) rest
initialisers_join w None given rest f q = equals_join (word w ∷ []) rest (word_then w [] rest f (quiet_stops rest q) (nothing rest))
initialisers_join w (Some len) given rest f q =
    equals_join (braced (replicate given (word w ∷ []))) rest (free_then s.LeftBrace (λ c. refl) _ rest
    (joins_append (separated (replicate given (word w ∷ []))) (sign s.RightBrace ∷ []) rest (initialiser_list w given (125 ∷ rest) f refl)
    (free_then s.RightBrace (λ c. refl) [] rest (nothing rest))))

readied_joins : (ready : Bool) (items : List Item) (rest : List ℕ) → Joins items rest → Joins (readied ready items) rest
readied_joins false items rest h = nothing rest
readied_joins true items rest h = h

readied_quiet : (ready : Bool) (w : List ℕ) (len : Option ℕ) (given : ℕ) (r : List ℕ) → Quiet (text (readied ready (initialisers w len given)) ++ 59 ∷ r)
readied_quiet false w len given r = refl
readied_quiet true w None given r = refl
readied_quiet true w (Some len) given r = refl

object_joins : (kind w : List ℕ) (o : Object) (rest : List ℕ) → IsName kind → IsName w → IsWritableObject o → Joins (object kind w o) rest
object_joins kind w o rest n i f =
    declared_joins kind _ rest n (λ r. named_joins o.name o.len (readied o.ready (initialisers w o.len o.given)) (59 ∷ r) f.0 f.1 (readied_quiet o.ready w o.len o.given r)
    (readied_joins o.ready (initialisers w o.len o.given) (59 ∷ r) (initialisers_join w o.len o.given (59 ∷ r) i refl)))

mutex_joins : (o : Object) (rest : List ℕ) → IsWritableObject o → Joins (mutex o) rest
unfolding is_word
mutex_joins o rest f = object_joins (codes "pthread_mutex_t") (codes "PTHREAD_MUTEX_INITIALIZER") o rest refl refl f

condition_joins : (o : Object) (rest : List ℕ) → IsWritableObject o → Joins (condition o) rest
unfolding is_word
condition_joins o rest f = object_joins (codes "pthread_cond_t") (codes "PTHREAD_COND_INITIALIZER") o rest refl refl f

slot_joins : (t : Slot) (rest : List ℕ) → IsWritableSlot t → Joins (slot t) rest
unfolding is_word
slot_joins t rest f =
    declared_joins (codes "pthread_t") (word t.name ∷ length_of t.len) rest refl
    (λ r. word_then t.name (length_of t.len) (59 ∷ r) f.0 (length_quiet t.len (59 ∷ r) refl) (length_joins t.len (59 ∷ r) f.1))

-- ---- monitors

monitor_call_joins : (name : List ℕ) (rest : List ℕ) → IsName name → Joins (monitor_call name) rest
unfolding is_word
monitor_call_joins name rest n = declared_joins (codes "void") _ rest refl
    (λ r. word_then name _ (59 ∷ r) n refl (free_then s.LeftParenthesis (λ c. refl) _ (59 ∷ r) (word_then (codes "int") _ (59 ∷ r) refl refl (gap_then (codes " ") _ (59 ∷ r) refl
    (word_then (codes "k") _ (59 ∷ r) refl refl (free_then s.RightParenthesis (λ c. refl) [] (59 ∷ r) (nothing (59 ∷ r))))))))

wait_call_joins : (waits : Bool) (rest : List ℕ) → Joins (wait_call waits) rest
unfolding is_word
wait_call_joins false rest = nothing rest
wait_call_joins true rest = declared_joins (codes "void") _ rest refl
    (λ r. word_then (codes "gd_cond_wait") _ (59 ∷ r) refl refl (free_then s.LeftParenthesis (λ c. refl) _ (59 ∷ r)
    (word_then (codes "pthread_cond_t") _ (59 ∷ r) refl refl (gap_then (codes " ") _ (59 ∷ r) refl (sign_then s.Star _ (59 ∷ r) refl
    (word_then (codes "c") _ (59 ∷ r) refl refl (free_then s.Comma (λ c. refl) _ (59 ∷ r) (gap_then (codes " ") _ (59 ∷ r) refl
    (word_then (codes "pthread_mutex_t") _ (59 ∷ r) refl refl (gap_then (codes " ") _ (59 ∷ r) refl (sign_then s.Star _ (59 ∷ r) refl
    (word_then (codes "m") _ (59 ∷ r) refl refl (free_then s.Comma (λ c. refl) _ (59 ∷ r) (gap_then (codes " ") _ (59 ∷ r) refl
    (free_then s.Ellipsis (λ c. refl) _ (59 ∷ r) (free_then s.RightParenthesis (λ c. refl) [] (59 ∷ r) (nothing (59 ∷ r))))))))))))))))))

monitors_join : (len : ℕ) (caps : List ℕ) (waits : Bool) (rest : List ℕ) → len ≤ largest → All (λ n. n ≤ largest) caps → Joins (monitors len caps waits) rest
unfolding is_word
monitors_join len [] waits rest l f = nothing rest
monitors_join len (cap ∷ caps) waits rest l f =
    let given = equals (braced (map numeral (cap ∷ caps))) in
    let calls = monitor_call (codes "gd_take") ++ (monitor_call (codes "gd_give") ++ wait_call waits) in
    joins_append (declared (codes "int") (word (codes "gd_cap") ∷ (length_of (Some len) ++ given))) calls rest
    (declared_joins (codes "int") (word (codes "gd_cap") ∷ (length_of (Some len) ++ given)) _ refl
    (λ r. named_joins (codes "gd_cap") (Some len) given (59 ∷ r) refl l refl (equals_join _ (59 ∷ r) (braced_joins (λ n. n ≤ largest) numeral numeral_joins (cap ∷ caps) (59 ∷ r) f))))
    (joins_append (monitor_call (codes "gd_take")) (monitor_call (codes "gd_give") ++ wait_call waits) rest (monitor_call_joins (codes "gd_take") _ refl)
    (joins_append (monitor_call (codes "gd_give")) (wait_call waits) rest (monitor_call_joins (codes "gd_give") _ refl) (wait_call_joins waits rest)))

-- ---- functions

star_joins : (name : List ℕ) (items : List Item) (rest : List ℕ) → IsName name → Joins (word name ∷ items) rest → Joins (sign s.Star ∷ word name ∷ items) rest
star_joins name items rest n h =
    sign_then s.Star (word name ∷ items) rest (subst (Stops (goes_on s.Star)) (sym (append_assoc name (text items) rest)) (name_stops s.Star name (text items ++ rest) star_before n)) h

typed_joins : (kind : List ℕ) (items : List Item) (rest : List ℕ) → IsName kind → Joins items rest → Joins (word kind ∷ space ∷ items) rest
unfolding is_word
typed_joins kind items rest n h = word_then kind _ rest n refl (gap_then (codes " ") items rest refl h)

result_joins : (kind : Kind) (name : List ℕ) (items : List Item) (rest : List ℕ) → IsName name → Joins (word name ∷ items) rest → Joins (result_type kind ++ word name ∷ items) rest
unfolding is_word
result_joins k.Main name items rest n h = typed_joins (codes "int") _ rest refl h
result_joins k.Int name items rest n h = typed_joins (codes "int") _ rest refl h
result_joins k.Void name items rest n h = typed_joins (codes "void") _ rest refl h
result_joins k.Thread name items rest n h = typed_joins (codes "void") _ rest refl (star_joins name items rest n h)

parameter_joins : (kind : Kind) (name : List ℕ) (rest : List ℕ) → IsName name → Quiet rest → Joins (parameter kind name) rest
unfolding is_word
parameter_joins k.Main name rest n q = typed_joins (codes "int") _ rest refl (word_then name [] rest n (quiet_stops rest q) (nothing rest))
parameter_joins k.Int name rest n q = typed_joins (codes "int") _ rest refl (word_then name [] rest n (quiet_stops rest q) (nothing rest))
parameter_joins k.Void name rest n q = typed_joins (codes "int") _ rest refl (word_then name [] rest n (quiet_stops rest q) (nothing rest))
parameter_joins k.Thread name rest n q = typed_joins (codes "void") _ rest refl (star_joins name [] rest n (word_then name [] rest n (quiet_stops rest q) (nothing rest)))

parameters_join : (kind : Kind) (ps : List (List ℕ)) (rest : List ℕ) → All IsName ps → Quiet rest → Joins (parameters kind ps) rest
unfolding is_word
parameters_join kind [] rest f q = word_then (codes "void") [] rest refl (quiet_stops rest q) (nothing rest)
parameters_join kind (p ∷ ps) rest f q = separated_joins IsName (parameter kind) (parameter_joins kind) (p ∷ ps) rest f q

head_joins : (f : Function) (rest : List ℕ) → IsWritableFunction f → Joins (function_head f) rest
unfolding is_word
head_joins f rest w =
    gap_then (codes "\n") _ rest refl (result_joins f.kind f.name _ rest w.0 (word_then f.name _ rest w.0 refl (free_then s.LeftParenthesis (λ c. refl) _ rest
    (joins_append (parameters f.kind f.params) (sign s.RightParenthesis ∷ space ∷ sign s.LeftBrace ∷ newline ∷ []) rest (parameters_join f.kind f.params _ w.1 refl)
    (free_then s.RightParenthesis (λ c. refl) _ rest (gap_then (codes " ") _ rest refl (free_then s.LeftBrace (λ c. refl) _ rest (gap_then (codes "\n") [] rest refl (nothing rest)))))))))

function_joins : (f : Function) (rest : List ℕ) → IsWritableFunction f → Joins (function f) rest
function_joins f rest w =
    joins_append (function_head f) (statements f.kind (codes "    ") f.body ++ sign s.RightBrace ∷ newline ∷ []) rest (head_joins f _ w)
    (joins_append (statements f.kind (codes "    ") f.body) (sign s.RightBrace ∷ newline ∷ []) rest (statements_join f.kind (codes "    ") f.body _ refl w.2)
    (free_then s.RightBrace (λ c. refl) _ rest (gap_then (codes "\n") [] rest refl (nothing rest))))

-- ---- programs

declarations_join : (p : Program) (rest : List ℕ) → IsWritableProgram p → Joins (declarations p) rest
declarations_join p rest w =
    joins_append (monitors p.cap_len p.monitors (some_waits p.functions)) _ rest (monitors_join p.cap_len p.monitors (some_waits p.functions) _ w.cap_len w.monitors)
    (joins_append (flat_map cell p.ints) _ rest (lines_join IsWritableCell cell cell_joins p.ints _ w.ints)
    (joins_append (flat_map array p.arrays) _ rest (lines_join IsWritableArray array array_joins p.arrays _ w.arrays)
    (joins_append (flat_map mutex p.mutexes) _ rest (lines_join IsWritableObject mutex mutex_joins p.mutexes _ w.mutexes)
    (joins_append (flat_map condition p.conds) (flat_map slot p.threads) rest (lines_join IsWritableObject condition condition_joins p.conds _ w.conds)
    (lines_join IsWritableSlot slot slot_joins p.threads rest w.threads)))))

pub reads_back : (p : Program) → IsWritableProgram p → Tokens (text (layout_of p)) (words [] (layout_of p))
reads_back p w =
    let items = declarations p ++ flat_map function p.functions in
    let inner : Joins items [] = joins_append (declarations p) (flat_map function p.functions) [] (declarations_join p _ w)
    (lines_join IsWritableFunction function function_joins p.functions [] w.functions) in
    reading (layout_of p) (
      skipped (include_fits (codes "<pthread.h>") _ head),
      (blanks refl, (skipped (include_fits (codes "<stdio.h>") _ (later head)), (blanks refl, inner.at true))),
    )
