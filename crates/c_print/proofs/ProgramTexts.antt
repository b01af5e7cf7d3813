-- The texts of declarations and functions, part by part.
use Rattle.std.proofs.Common.{◌≡◌, ℕ, suc, ◌<◌, ◌+◌, ℤ, pos, negsuc, Bool, List, [], ◌∷◌, ◌++◌, codes, map, replicate, length as size, get_or, drop, refl, sym, ◌∙◌, ap, append_assoc, append-nil, Some, None}
use Rattle.std.specs.List.{flat_map}
use Rattle.std.specs.Fmt.{decimal, signed_decimal}
use Rattle.c_lexer.specs.declared.token.Sign.TheVariants as s
use Rattle.c_layout.specs.Layout.{Item, text, word, sign, space, newline}
use Rattle.c_layout.proofs.Readings.{text_append}
use Rattle.c_tree.specs.declared.program.Kind.{Kind}
use Rattle.c_tree.specs.Bare.{Cell, Array, Object, Slot, Function, Program}
use Rattle.c_canonical.specs.Expressions.{followed, separated, numeral}
use Rattle.c_canonical.specs.Statements.{statements}
use Rattle.c_canonical.specs.Waits.{some_waits}
use Rattle.c_canonical.specs.Programs.{value, length_of, cell, values, array, initialisers, readied, object, mutex, condition, slot, monitor_call, wait_call, monitors, result_type, parameter_type, parameter, parameters, function_head, function, declarations}
use Rattle.c_print.proofs.Chains.{chain2, chain3, chain4, chain5, chain6, chain7}
use Rattle.c_print.proofs.Loops.{turn, turn_at}

-- the end of a declaration, of a function's head, and of a function
abbrev ending : List Item
ending = sign s.Semicolon ∷ newline ∷ []

abbrev opening : List Item
opening = sign s.RightParenthesis ∷ space ∷ sign s.LeftBrace ∷ newline ∷ []

abbrev last_line : List Item
last_line = sign s.RightBrace ∷ newline ∷ []

three : (a b c : List Item) → text ((a ++ b) ++ c) ≡ text a ++ (text b ++ text c)
three a b c = text_append (a ++ b) c ∙ ap (λ x. x ++ text c) (text_append a b) ∙ append_assoc (text a) (text b) (text c)

pub value_text : (v : ℤ) → text (value v) ≡ signed_decimal v
value_text (pos n) = append-nil (decimal n)
value_text (negsuc n) = ap (λ x. 45 ∷ x) (append-nil (decimal (suc n)))

declared_parts : (p : Program) → text (declarations p) ≡ text (monitors p.cap_len p.monitors (some_waits p.functions)) ++ (text (flat_map cell p.ints) ++ (text (flat_map array p.arrays)
    ++ (text (flat_map mutex p.mutexes) ++ (text (flat_map condition p.conds) ++ text (flat_map slot p.threads)))))
declared_parts p =
    text_append (monitors p.cap_len p.monitors (some_waits p.functions)) _ ∙ ap (λ x. text (monitors p.cap_len p.monitors (some_waits p.functions)) ++ x) (text_append (flat_map cell p.ints) _
    ∙ ap (λ x. text (flat_map cell p.ints) ++ x) (text_append (flat_map array p.arrays) _
    ∙ ap (λ x. text (flat_map array p.arrays) ++ x) (text_append (flat_map mutex p.mutexes) _
    ∙ ap (λ x. text (flat_map mutex p.mutexes) ++ x) (text_append (flat_map condition p.conds) (flat_map slot p.threads)))))

-- the values of an array
pub values_text : (old first second third fourth : List ℕ) (vs : List ℤ) (v : ℤ) (more : List ℤ) → vs ≡ v ∷ more → first ≡ old ++ codes " = {" → second ≡ first ++ signed_decimal v
    → third ≡ second ++ text (followed (map value more)) → fourth ≡ third ++ codes "}" → fourth ≡ old ++ text (values vs)
values_text old first second third fourth vs v more is p0 p1 p2 p3 =
    let rest = followed (map value more) in
    chain4 old first second third fourth (codes " = {") (signed_decimal v) (text rest) (codes "}") (text (values vs)) p0 p1 p2 p3
    (ap (λ x. text (values x)) is ∙ ap (λ x. codes " = {" ++ x) (three (value v) rest (sign s.RightBrace ∷ []) ∙ ap (λ x. x ++ (text rest ++ codes "}")) (value_text v)))

-- the initialisers of an array of objects
pub list_text : (old first second w : List ℕ) (given less : ℕ) → given ≡ suc less → first ≡ old ++ w → second ≡ first ++ text (followed (replicate less (word w ∷ [])))
    → second ≡ old ++ text (separated (replicate given (word w ∷ [])))
list_text old first second w given less is p0 p1 =
    chain2 old first second w (text (followed (replicate less (word w ∷ [])))) (text (separated (replicate given (word w ∷ [])))) p0 p1
    (ap (λ n. text (separated (replicate n (word w ∷ [])))) is)

-- the declarations of the monitors
abbrev calls_text : List ℕ
calls_text = codes "};\nvoid gd_take(int k);\nvoid gd_give(int k);\n"

monitors_shape : (len cap : ℕ) (caps : List ℕ) (waits : Bool) → text (monitors len (cap ∷ caps) waits)
    ≡ codes "int gd_cap" ++ (text (length_of (Some len)) ++ (codes " = {" ++ (decimal cap ++ (text (followed (map numeral caps)) ++ (calls_text ++ text (wait_call waits))))))
monitors_shape len cap caps waits =
    let rest = followed (map numeral caps) in
    let calls = monitor_call (codes "gd_take") ++ (monitor_call (codes "gd_give") ++ wait_call waits) in
    let brace : List Item = sign s.RightBrace ∷ [] in
    let inner : text (((rest ++ brace) ++ ending) ++ calls) ≡ text rest ++ (calls_text ++ text (wait_call waits)) =
    ap text (append_assoc (rest ++ brace) ending calls ∙ append_assoc rest brace (ending ++ calls)) ∙ text_append rest (brace ++ (ending ++ calls)) in
    ap (λ x. codes "int gd_cap[" ++ (decimal len ++ (codes "] = {" ++ (decimal cap ++ x)))) inner
    ∙ sym (ap (λ x. codes "int gd_cap[" ++ x) (append_assoc (decimal len) (codes "]") (codes " = {" ++ (decimal cap ++ (text rest ++ (calls_text ++ text (wait_call waits)))))))

pub monitors_text : (old first second third fourth fifth sixth seventh : List ℕ) (len : ℕ) (given : List ℕ) (cap : ℕ) (caps : List ℕ) (waits : Bool) → given ≡ cap ∷ caps
    → first ≡ old ++ codes "int gd_cap" → second ≡ first ++ text (length_of (Some len)) → third ≡ second ++ codes " = {" → fourth ≡ third ++ decimal cap
    → fifth ≡ fourth ++ text (followed (map numeral caps)) → sixth ≡ fifth ++ calls_text → seventh ≡ sixth ++ text (wait_call waits) → seventh ≡ old ++ text (monitors len given waits)
monitors_text old first second third fourth fifth sixth seventh len given cap caps waits is p0 p1 p2 p3 p4 p5 p6 =
    chain7 old first second third fourth fifth sixth seventh (codes "int gd_cap") (text (length_of (Some len))) (codes " = {") (decimal cap) (text (followed (map numeral caps))) calls_text (text (wait_call waits))
    (text (monitors len given waits)) p0 p1 p2 p3 p4 p5 p6 (ap (λ x. text (monitors len x waits)) is ∙ monitors_shape len cap caps waits)

-- the parameters of a function
pub parameters_text : (old first second : List ℕ) (kind : Kind) (given : List (List ℕ)) (p : List ℕ) (ps : List (List ℕ)) → given ≡ p ∷ ps → first ≡ old ++ text (parameter kind p)
    → second ≡ first ++ text (followed (map (parameter kind) ps)) → second ≡ old ++ text (parameters kind given)
parameters_text old first second kind given p ps is p0 p1 =
    chain2 old first second (text (parameter kind p)) (text (followed (map (parameter kind) ps))) (text (parameters kind given)) p0 p1
    (ap (λ x. text (parameters kind x)) is ∙ text_append (parameter kind p) (followed (map (parameter kind) ps)))

-- one more declaration, or one more item behind a comma
pub next_line : {X : Type 0} (lines : X → List Item) (xs : List X) (i : ℕ) (x : X) (old now next : List ℕ) → i < size xs → x ≡ get_or xs i x → next ≡ now ++ text (lines x)
    → now ++ text (flat_map lines (drop i xs)) ≡ old → next ++ text (flat_map lines (drop (i + 1) xs)) ≡ old
next_line lines xs i x old now next within is p h =
    turn (λ ys. text (flat_map lines ys)) xs i x (text (lines x)) old now next within is (λ more. text_append (lines x) (flat_map lines more)) p h

pub next_item : {X : Type 0} (item : X → List Item) (xs : List X) (i : ℕ) (x d : X) (old now next : List ℕ) → i < size xs → x ≡ get_or xs i d → next ≡ now ++ 44 ∷ 32 ∷ text (item x)
    → now ++ text (followed (map item (drop i xs))) ≡ old → next ++ text (followed (map item (drop (i + 1) xs))) ≡ old
next_item item xs i x d old now next within is p h =
    turn_at (λ ys. text (followed (map item ys))) xs i x d (44 ∷ 32 ∷ text (item x)) old now next within is (λ more. ap (λ y. 44 ∷ 32 ∷ y) (text_append (item x) (followed (map item more)))) p h

-- one more initialiser, and none
pub next_initialiser : (w : List ℕ) (count less : ℕ) (old now next : List ℕ) → count ≡ suc less → next ≡ now ++ 44 ∷ 32 ∷ w
    → now ++ text (followed (replicate count (word w ∷ []))) ≡ old → next ++ text (followed (replicate less (word w ∷ []))) ≡ old
next_initialiser w count less old now next is p h =
    let rest = text (followed (replicate less (word w ∷ []))) in
    ap (λ y. y ++ rest) p ∙ append_assoc now (44 ∷ 32 ∷ w) rest ∙ sym (ap (λ n. now ++ text (followed (replicate n (word w ∷ [])))) is) ∙ h

pub last_initialiser : (w : List ℕ) (count : ℕ) (old now : List ℕ) → count ≡ 0 → now ++ text (followed (replicate count (word w ∷ []))) ≡ old → now ≡ old
last_initialiser w count old now is h = sym (ap (λ n. now ++ text (followed (replicate n (word w ∷ [])))) is ∙ append-nil now) ∙ h

-- ---- the parts of each

pub length_text : (old first second third : List ℕ) (n : ℕ)
    → first ≡ old ++ codes "[" → second ≡ first ++ decimal n → third ≡ second ++ codes "]" → third ≡ old ++ text (length_of (Some n))
length_text old first second third n p0 p1 p2 =
    chain3 old first second third (codes "[") (decimal n) (codes "]") (text (length_of (Some n))) p0 p1 p2
    refl

pub cell_text : (old first second third fourth fifth : List ℕ) (given : Cell)
    → first ≡ old ++ codes "int " → second ≡ first ++ given.name → third ≡ second ++ codes " = " → fourth ≡ third ++ signed_decimal given.value → fifth ≡ fourth ++ codes ";\n" → fifth ≡ old ++ text (cell given)
cell_text old first second third fourth fifth given p0 p1 p2 p3 p4 =
    chain5 old first second third fourth fifth (codes "int ") given.name (codes " = ") (signed_decimal given.value) (codes ";\n") (text (cell given)) p0 p1 p2 p3 p4
    (ap (λ x. codes "int " ++ (given.name ++ (codes " = " ++ x))) (text_append (value given.value) ending ∙ ap (λ x. x ++ codes ";\n") (value_text given.value)))

pub following_value_text : (old first second : List ℕ) (v : ℤ)
    → first ≡ old ++ codes ", " → second ≡ first ++ signed_decimal v → second ≡ old ++ 44 ∷ 32 ∷ text (value v)
following_value_text old first second v p0 p1 =
    chain2 old first second (codes ", ") (signed_decimal v) (44 ∷ 32 ∷ text (value v)) p0 p1
    (ap (λ x. 44 ∷ 32 ∷ x) (value_text v))

pub array_text : (old first second third fourth fifth : List ℕ) (given : Array)
    → first ≡ old ++ codes "int " → second ≡ first ++ given.name → third ≡ second ++ text (length_of (Some given.len)) → fourth ≡ third ++ text (values given.values) → fifth ≡ fourth ++ codes ";\n" → fifth ≡ old ++ text (array given)
array_text old first second third fourth fifth given p0 p1 p2 p3 p4 =
    chain5 old first second third fourth fifth (codes "int ") given.name (text (length_of (Some given.len))) (text (values given.values)) (codes ";\n") (text (array given)) p0 p1 p2 p3 p4
    (ap (λ x. codes "int " ++ (given.name ++ x)) (three (length_of (Some given.len)) (values given.values) ending))

pub following_initialiser_text : (old first second : List ℕ) (w : List ℕ)
    → first ≡ old ++ codes ", " → second ≡ first ++ w → second ≡ old ++ 44 ∷ 32 ∷ w
following_initialiser_text old first second w p0 p1 =
    chain2 old first second (codes ", ") w (44 ∷ 32 ∷ w) p0 p1
    refl

pub one_initialiser_text : (old first second : List ℕ) (w : List ℕ) (given : ℕ)
    → first ≡ old ++ codes " = " → second ≡ first ++ w → second ≡ old ++ text (initialisers w None given)
one_initialiser_text old first second w given p0 p1 =
    chain2 old first second (codes " = ") w (text (initialisers w None given)) p0 p1
    (ap (λ x. codes " = " ++ x) (append-nil w))

pub more_initialisers_text : (old first second third : List ℕ) (w : List ℕ) (len : ℕ) (given : ℕ)
    → first ≡ old ++ codes " = {" → second ≡ first ++ text (separated (replicate given (word w ∷ []))) → third ≡ second ++ codes "}" → third ≡ old ++ text (initialisers w (Some len) given)
more_initialisers_text old first second third w len given p0 p1 p2 =
    chain3 old first second third (codes " = {") (text (separated (replicate given (word w ∷ [])))) (codes "}") (text (initialisers w (Some len) given)) p0 p1 p2
    (ap (λ x. codes " = {" ++ x) (text_append (separated (replicate given (word w ∷ []))) (sign s.RightBrace ∷ [])))

pub object_text : (old first second third fourth fifth sixth : List ℕ) (kind : List ℕ) (w : List ℕ) (given : Object)
    → first ≡ old ++ kind → second ≡ first ++ codes " " → third ≡ second ++ given.name → fourth ≡ third ++ text (length_of given.len) → fifth ≡ fourth ++ text (readied given.ready (initialisers w given.len given.given)) → sixth ≡ fifth ++ codes ";\n" → sixth ≡ old ++ text (object kind w given)
object_text old first second third fourth fifth sixth kind w given p0 p1 p2 p3 p4 p5 =
    chain6 old first second third fourth fifth sixth kind (codes " ") given.name (text (length_of given.len)) (text (readied given.ready (initialisers w given.len given.given))) (codes ";\n") (text (object kind w given)) p0 p1 p2 p3 p4 p5
    (ap (λ x. kind ++ (codes " " ++ (given.name ++ x))) (three (length_of given.len) (readied given.ready (initialisers w given.len given.given)) ending))

pub slot_text : (old first second third fourth : List ℕ) (given : Slot)
    → first ≡ old ++ codes "pthread_t " → second ≡ first ++ given.name → third ≡ second ++ text (length_of given.len) → fourth ≡ third ++ codes ";\n" → fourth ≡ old ++ text (slot given)
slot_text old first second third fourth given p0 p1 p2 p3 =
    chain4 old first second third fourth (codes "pthread_t ") given.name (text (length_of given.len)) (codes ";\n") (text (slot given)) p0 p1 p2 p3
    (ap (λ x. codes "pthread_t " ++ (given.name ++ x)) (text_append (length_of given.len) ending))

pub next_number_text : (old first second : List ℕ) (n : ℕ)
    → first ≡ old ++ codes ", " → second ≡ first ++ decimal n → second ≡ old ++ 44 ∷ 32 ∷ text (numeral n)
next_number_text old first second n p0 p1 =
    chain2 old first second (codes ", ") (decimal n) (44 ∷ 32 ∷ text (numeral n)) p0 p1
    (ap (λ x. 44 ∷ 32 ∷ x) (append-nil (decimal n)))

pub parameter_text : (old first second : List ℕ) (kind : Kind) (name : List ℕ)
    → first ≡ old ++ text (parameter_type kind) → second ≡ first ++ name → second ≡ old ++ text (parameter kind name)
parameter_text old first second kind name p0 p1 =
    chain2 old first second (text (parameter_type kind)) name (text (parameter kind name)) p0 p1
    (text_append (parameter_type kind) (word name ∷ []) ∙ ap (λ x. text (parameter_type kind) ++ x) (append-nil name))

pub following_parameter_text : (old first second : List ℕ) (kind : Kind) (name : List ℕ)
    → first ≡ old ++ codes ", " → second ≡ first ++ text (parameter kind name) → second ≡ old ++ 44 ∷ 32 ∷ text (parameter kind name)
following_parameter_text old first second kind name p0 p1 =
    chain2 old first second (codes ", ") (text (parameter kind name)) (44 ∷ 32 ∷ text (parameter kind name)) p0 p1
    refl

pub function_head_text : (old first second third fourth fifth sixth : List ℕ) (f : Function)
    → first ≡ old ++ codes "\n" → second ≡ first ++ text (result_type f.kind) → third ≡ second ++ f.name → fourth ≡ third ++ codes "(" → fifth ≡ fourth ++ text (parameters f.kind f.params) → sixth ≡ fifth ++ codes ") {\n" → sixth ≡ old ++ text (function_head f)
function_head_text old first second third fourth fifth sixth f p0 p1 p2 p3 p4 p5 =
    chain6 old first second third fourth fifth sixth (codes "\n") (text (result_type f.kind)) f.name (codes "(") (text (parameters f.kind f.params)) (codes ") {\n") (text (function_head f)) p0 p1 p2 p3 p4 p5
    (ap (λ x. 10 ∷ x) (text_append (result_type f.kind) (word f.name ∷ sign s.LeftParenthesis ∷ (parameters f.kind f.params ++ opening))
    ∙ ap (λ x. text (result_type f.kind) ++ (f.name ++ 40 ∷ x)) (text_append (parameters f.kind f.params) opening)))

pub function_text : (old first second third : List ℕ) (f : Function)
    → first ≡ old ++ text (function_head f) → second ≡ first ++ text (statements f.kind (codes "    ") f.body) → third ≡ second ++ codes "}\n" → third ≡ old ++ text (function f)
function_text old first second third f p0 p1 p2 =
    chain3 old first second third (text (function_head f)) (text (statements f.kind (codes "    ") f.body)) (codes "}\n") (text (function f)) p0 p1 p2
    (text_append (function_head f) (statements f.kind (codes "    ") f.body ++ last_line)
    ∙ ap (λ x. text (function_head f) ++ x) (text_append (statements f.kind (codes "    ") f.body) last_line))

pub declarations_text : (old first second third fourth fifth sixth : List ℕ) (p : Program)
    → first ≡ old ++ text (monitors p.cap_len p.monitors (some_waits p.functions)) → second ≡ first ++ text (flat_map cell p.ints) → third ≡ second ++ text (flat_map array p.arrays) → fourth ≡ third ++ text (flat_map mutex p.mutexes) → fifth ≡ fourth ++ text (flat_map condition p.conds) → sixth ≡ fifth ++ text (flat_map slot p.threads) → sixth ≡ old ++ text (declarations p)
declarations_text old first second third fourth fifth sixth p p0 p1 p2 p3 p4 p5 =
    chain6 old first second third fourth fifth sixth (text (monitors p.cap_len p.monitors (some_waits p.functions))) (text (flat_map cell p.ints)) (text (flat_map array p.arrays)) (text (flat_map mutex p.mutexes)) (text (flat_map condition p.conds)) (text (flat_map slot p.threads)) (text (declarations p)) p0 p1 p2 p3 p4 p5
    (declared_parts p)
