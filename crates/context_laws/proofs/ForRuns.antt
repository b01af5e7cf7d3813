-- What the rules and the outlines of a program say to a run of it.
use Rattle.std.specs.Prelude.{◌≡◌, ℕ, ℤ, pos, zero, suc, Bool, true, false, ◌||◌, if◌then◌else◌, List, [], ◌∷◌, length, map, bytes_eq, slice_get, get_or, Some, None, option_map}
use Rattle.std.specs.declared.option.Option.{Option}
use Rattle.std.specs.FinMap as finite
use Rattle.std.specs.List.{enumerate_from}
use Rattle.std.proofs.Common.{arith, ◌<◌, refl, ap, subst, sym, ◌∙◌, inl, inr}
use Rattle.std.proofs.lemmas.List.Quantifiers.{position-Some}
use Rattle.std.proofs.lemmas.Option.{slice_get-map}
use Rattle.c_tree.specs.Bare as bare
use Rattle.c_tree.specs.Everywhere.{Everywhere, EverywhereInside}
use Rattle.c_tree.specs.Expressions.{Expr, Place}
use Rattle.c_tree.specs.Values.{constant}
use Rattle.c_tree.specs.Numbering.{creations, function_named, main_name, scalar_cell}
use Rattle.c_tree.specs.Lined.{Stmt, Stmts, Nil, Cons, Function, Program, Call, If, While, For, Create, Lock, TryLock, Unlock, Wait, Take, Give, bare_stmt, bare_stmts, bare_function, bare_program}
use Rattle.c_meaning.specs.Calls as calls
use Rattle.c_meaning.proofs.Reading.{same_bytes, bytes_eq_itself, some_is}
use Rattle.c_rules.proofs.Members.{In, contains_of}
use Rattle.outlines.specs.Outline.{Thread}
use Rattle.rule_facts.specs.Apart.{Listed}
use Rattle.rule_facts.specs.FromLast.{from_last, function_in, named_in}
use Rattle.rule_facts.specs.Regular.{Regular}
use Rattle.rule_facts.proofs.Behind.{regular_names}
use Rattle.rule_facts.proofs.Main.{FoundAs, found_listed}
use Rattle.contexts.specs.Constants.{among, written_all}
use Rattle.contexts.specs.Resolved.{passed, writes_of}
use Rattle.contexts.specs.Bears.{bears, bears_all}
use Rattle.contexts.specs.Outlines.{above_of, starts}
use Rattle.contexts.specs.Outlined.{Code, IsCreation}
use Rattle.contexts.specs.Quiet.{IsQuiet}
use Rattle.contexts.specs.Threads.{code_of, Threads, ThreadAt, Outlines}
use Rattle.contexts.specs.Numbered.{after_all}
use Rattle.contexts.specs.Firsts.{HasFirstParts}
use Rattle.contexts.specs.Agreeing.{Agrees}
use Rattle.contexts.proofs.Names.{in_second}
use Rattle.contexts.proofs.Agreeing.{get_inserted}
use Rattle.context_laws.proofs.Steady.{IsSteady, Steady, SteadyBehind, from_reversed, steady}
use Rattle.context_laws.proofs.Sound.{Matches, matches_above, all_match}

-- ---- functions

function_there : (fs : List (ℕ × Function)) (name : List ℕ) (f : ℕ × Function) → function_in fs name ≡ Some f → In f fs × (f.1.name ≡ name)
function_there [] name f is = cc is
function_there (g ∷ fs) name f is = go (bytes_eq g.1.name name) refl (λ there. function_there fs name f there) is
  where
    go : (b : Bool) → bytes_eq g.1.name name ≡ b → (function_in fs name ≡ Some f → In f fs × (f.1.name ≡ name)) → (if b then Some g else function_in fs name) ≡ Some f
        → In f (g ∷ fs) × (f.1.name ≡ name)
    go true e later is = let same : g ≡ f = some_is g f is in (inl same, ap (λ (h : ℕ × Function). h.1.name) (sym same) ∙ same_bytes g.1.name name e)
    go false e later is = let there = later is in (inr there.0, there.1)

-- a function that is found by its name is listed, and is that which a call finds
pub function_is : (p : Program) → Regular p → (name : List ℕ) (f : ℕ × Function) → function_in (from_last p) name ≡ Some f
    → Listed p f × (f.1.name ≡ name) × (function_named (bare_program p) name ≡ Some (bare_function f.1))
function_is p regular name f is =
    let there = function_there (from_last p) name f is in
    let listed : Listed p f = contains_of (enumerate_from 0 p.functions) f (from_reversed (enumerate_from 0 p.functions) f there.0) in
    (listed, there.1, subst (λ n. function_named (bare_program p) n ≡ Some (bare_function f.1)) there.1 (regular.found f listed))

-- what a call finds
pub called_is : (p : Program) → Regular p → (name : List ℕ) (g : bare.Function) → function_named (bare_program p) name ≡ Some g
    → (f : ℕ × Function) × (function_in (from_last p) name ≡ Some f) × (bare_function f.1 ≡ g)
called_is p regular name g is =
    let there : FoundAs p name g = found_listed p name g is in (
      (there.place, there.function),
      subst (λ n. function_in (from_last p) n ≡ Some (there.place, there.function)) there.named ((regular_names p regular).found (there.place, there.function) there.listed),
      there.is,
    )

-- ---- ints

any_at : (cs : List bare.Cell) (q : List ℕ) (i : ℕ) (d : bare.Cell) → i < length cs → bytes_eq (get_or cs i d).name q ≡ true → among (map (λ c. c.name) cs) q ≡ true
any_at [] q i d less is = absurd (let bad : i < 0 = less in none i bad)
  where
    none : (i : ℕ) → i < 0 → ⊥
    none i less = omega arith
any_at (c ∷ cs) q zero d less is = ap (λ b. b || among (map (λ c. c.name) cs) q) (subst (λ n. bytes_eq q n ≡ true) (sym (same_bytes c.name q is)) (bytes_eq_itself q))
any_at (c ∷ cs) q (suc i) d less is = by (bytes_eq q c.name) (any_at cs q i d (omega arith) is)
  where
    by : (b : Bool) → among (map (λ c. c.name) cs) q ≡ true → (b || among (map (λ c. c.name) cs) q) ≡ true
    by true there = refl
    by false there = there

-- an int counts as written into
pub ints_among : (p : bare.Program) (f : Function) (name : List ℕ) (cell : ℕ) → scalar_cell p name ≡ Some cell → among (writes_of p f) name ≡ true
ints_among p f name cell is =
    let d : bare.Cell = record { name = []; value = pos 0 } in
    let at = position-Some (λ (c : bare.Cell). bytes_eq c.name name) p.ints cell d is in
    in_second name (written_all f.body) (map (λ c. c.name) p.ints) (any_at p.ints name cell d at.0 at.1)

-- ---- functions that bear no locks

or_none : (a b : Bool) → (a || b) ≡ false → (a ≡ false) × (b ≡ false)
or_none true b e = cc e
or_none false b e = (refl, e)

module _ (code : Code) (fs : List (ℕ × Function)) (there : Matches code fs) (writes : List (List ℕ)) where
  mutual
    own_quiet : (s : Stmt) → bears (above_of code.program fs).bears s ≡ false → IsSteady code.program (named_in fs) writes (bare_stmt s) → IsQuiet code (bare_stmt s)
    own_quiet (Call line target name args) none own = sym (there.bears name own.0) ∙ none
    own_quiet (Create line slot name arg) none own = own
    own_quiet (Lock line place) none own = cc none
    own_quiet (TryLock line place taken busy) none own = cc none
    own_quiet (Unlock line place) none own = cc none
    own_quiet (Wait line cond mutex takes) none own = cc none
    own_quiet (Take line monitor) none own = cc none
    own_quiet (Give line monitor) none own = cc none
    own_quiet s none own = tt

    inside_quiet : (s : Stmt) → bears (above_of code.program fs).bears s ≡ false → EverywhereInside (IsSteady code.program (named_in fs) writes) (bare_stmt s) → EverywhereInside (IsQuiet code) (bare_stmt s)
    inside_quiet (If line test a b) none all =
        let parts = or_none (bears_all (above_of code.program fs).bears a) (bears_all (above_of code.program fs).bears b) none in (all_quiet a parts.0 all.0, all_quiet b parts.1 all.1)
    inside_quiet (While line test body) none all = all_quiet body none all
    inside_quiet (For line first_part test step body) none all =
        let parts = or_none (bears_all (above_of code.program fs).bears first_part || bears_all (above_of code.program fs).bears step) (bears_all (above_of code.program fs).bears body) none in
        let fronts = or_none (bears_all (above_of code.program fs).bears first_part) (bears_all (above_of code.program fs).bears step) parts.0 in
        (all_quiet first_part fronts.0 all.0, all_quiet step fronts.1 all.1, all_quiet body parts.1 all.2)
    inside_quiet (TryLock line place taken busy) none all = cc none
    inside_quiet s none all = tt

    pub all_quiet : (ss : Stmts) → bears_all (above_of code.program fs).bears ss ≡ false → Steady code.program (named_in fs) writes ss → Everywhere (IsQuiet code) (bare_stmts ss)
    all_quiet Nil none all = tt
    all_quiet (Cons s rest) none all =
        let parts = or_none (bears (above_of code.program fs).bears s) (bears_all (above_of code.program fs).bears rest) none in
        (own_quiet s parts.0 all.0, inside_quiet s parts.0 all.1, all_quiet rest parts.1 all.2)

quiet_there : (code : Code) (fs : List (ℕ × Function)) → SteadyBehind code.program fs → Matches code fs → (name : List ℕ) (f : ℕ × Function) → function_in fs name ≡ Some f
    → (above_of code.program fs).bears name ≡ false → Everywhere (IsQuiet code) (bare_stmts f.1.body)
quiet_there code [] all there name f is none = cc is
quiet_there code (g ∷ fs) all there name f is none =
    go (bytes_eq g.1.name name) (λ is none. quiet_there code fs all.2 (matches_above code g fs all.1 there) name f is none) is none
  where
    go : (b : Bool) → (function_in fs name ≡ Some f → (above_of code.program fs).bears name ≡ false → Everywhere (IsQuiet code) (bare_stmts f.1.body))
        → (if b then Some g else function_in fs name) ≡ Some f → (if b then bears_all (above_of code.program fs).bears g.1.body else (above_of code.program fs).bears name) ≡ false
        → Everywhere (IsQuiet code) (bare_stmts f.1.body)
    go true later is none = subst (λ (h : ℕ × Function). Everywhere (IsQuiet code) (bare_stmts h.1.body)) (some_is g f is)
        (all_quiet code fs (matches_above code g fs all.1 there) (writes_of code.program g.1) g.1.body none all.0)
    go false later is none = later is none

-- a function that bears no locks is quiet
pub quiet : (p : Program) (places : List ℕ) → Regular p → HasFirstParts p → (name : List ℕ) (g : bare.Function) → function_named (bare_program p) name ≡ Some g → (code_of p places).bears name ≡ false
    → Everywhere (IsQuiet (code_of p places)) g.body
quiet p places regular firsts name g is none =
    let f = called_is p regular name g is in
    subst (λ (h : bare.Function). Everywhere (IsQuiet (code_of p places)) h.body) f.2
    (quiet_there (code_of p places) (from_last p) (steady p regular firsts) (all_match p places) name f.0 f.1 none)

-- ---- threads

thread_at : (code : Code) (ss : List (List ℕ × List (Option ℤ))) (es : List Thread) (n : ℕ) → Threads code ss es n → (k : ℕ) (s : List ℕ × List (Option ℤ)) → slice_get ss k ≡ Some s → ThreadAt code s es k
thread_at code [] es n threads k s is = cc is
thread_at code (r ∷ ss) [] n threads k s is = absurd threads
thread_at code (r ∷ ss) (e ∷ es) n threads zero s is = subst (λ q. ThreadAt code q (e ∷ es) 0) (some_is r s is) (record { e = e; n = n; at = refl; thread = threads.0 })
thread_at code (r ∷ ss) (e ∷ es) n threads (suc k) s is =
    let there : ThreadAt code s es k = thread_at code ss es (after_all e.body (suc n)) threads.1 k s is in record { e = there.e; n = there.n; at = there.at; thread = there.thread }

-- the thread that a create statement begins
pub created_thread : (p : Program) (es : List Thread) (places : List ℕ) → Outlines p es places → (slot : Place) (name : List ℕ) (arg : Expr) → (c : IsCreation (bare_program p) slot name arg)
    → ThreadAt (code_of p places) (name, constant arg ∷ []) es (suc c.creation)
created_thread p es places there slot name arg c =
    thread_at (code_of p places) (starts p) es 0 there.threads (suc c.creation) (name, constant arg ∷ [])
    (slice_get-map (λ d. (d.function, constant d.arg ∷ [])) (creations (bare_program p)) c.creation ∙ ap (option_map (λ d. (d.function, constant d.arg ∷ []))) c.created)

-- main's thread
pub main_thread : (p : Program) (es : List Thread) (places : List ℕ) → Outlines p es places → ThreadAt (code_of p places) (main_name, []) es 0
main_thread p es places there = thread_at (code_of p places) (starts p) es 0 there.threads 0 (main_name, []) refl

-- a thread's parameter has the value of its create statement
pub started_agrees : (writes params : List (List ℕ)) (zs : List ℤ) → Agrees (passed writes params (map (λ z. Some z) zs)) (calls.passed params zs)
started_agrees writes [] zs = λ q z e. cc e
started_agrees writes (name ∷ names) [] = λ q z e. cc e
started_agrees writes (name ∷ names) (v ∷ zs) = λ q z e. get_inserted (calls.passed names zs) name v q ∙ at q z (bytes_eq q name) (λ there. started_agrees writes names zs q z there) e
  where
    at : (q : List ℕ) (z : ℤ) (b : Bool) → (passed writes names (map (λ z. Some z) zs) q ≡ Some z → finite.get (calls.passed names zs) q ≡ Some z)
        → (if b then (if among writes name then None else Some v) else passed writes names (map (λ z. Some z) zs) q) ≡ Some z
        → (if b then Some v else finite.get (calls.passed names zs) q) ≡ Some z
    at q z true later e = own (among writes name) e
      where
        own : (c : Bool) → (if c then None else Some v) ≡ Some z → Some v ≡ Some z
        own true e = cc e
        own false e = e
    at q z false later e = later e
