-- The canonical tokens of each shaped statement of one line spell it.
use Rattle.std.proofs.Common.{ℕ, suc, max, List, [], ◌∷◌, ◌++◌, codes, map, refl}
use Rattle.c_lexer.specs.declared.token.Sign.TheVariants as s
use Rattle.c_layout.specs.Layout as layout
use Rattle.c_layout.specs.Layout.{Item as Part}
use Rattle.c_tree.specs.declared.program.Kind.{Kind}
use Rattle.c_tree.specs.Expressions.{Place}
use Rattle.c_tree.specs.Lined as lined
use Rattle.c_tree.specs.Bare.{Stmt, Declare, Assign, Call, If, While, For, Return, Read, Print, Create, Join, InitMutex, InitCond, Lock, TryLock, Unlock, Wait, Signal, Broadcast, Take, Give}
use Rattle.c_grammar.specs.declared.words.FixedWord.TheVariants as w
use Rattle.c_grammar.specs.Items.{What, Item, at, sign, fixed, undefined_name}
use Rattle.c_grammar.specs.Commas.{Commas}
use Rattle.c_grammar.specs.Simple as x
use Rattle.c_grammar.specs.Simple.{SpellsNumber}
use Rattle.c_canonical.specs.Expressions.{place, separated, numeral}
use Rattle.c_canonical.specs.Statements.{address, called, with_null, taking, waited, simple}
use Rattle.c_canonical.specs.Shown.{Shows, nothing, shown, unseen}
use Rattle.c_canonical.specs.Shaped.{ShapedPlace, ShapedStmt}
use Rattle.c_canonical.proofs.Shown.{shows_append}
use Rattle.c_canonical.proofs.ShownLists.{numerals_spelled}
use Rattle.c_canonical.proofs.Steps.{at_sign, at_end, at_number, past_gap}
use Rattle.c_canonical.proofs.SpelledPlaces.{PlaceAs, AddressAs, place_spelled, address_spelled, in_call}
use Rattle.c_canonical.proofs.SpelledSimple.{SimpleAs, at_null, at_quoted, step_spelled, declare_spelled, call_simple, return_spelled, print_spelled, create_spelled}

-- ---- calls on objects

-- a place or an address and `NULL` in parentheses
with_null_spelled : (f : List ℕ) (parts : List Part) (Q : List Item → List Item → Type 0) (P : List Item → Type 0) (ts rest : List Item)
    → ((ts rest : List Item) → Shows parts ts rest → Q ts rest) → Shows (called f (parts ++ with_null)) ts rest
    → ((l m n i j : ℕ) (mid : List Item) → Q mid (sign n s.Comma ∷ fixed i w.Null ∷ sign j s.RightParenthesis ∷ rest) → P (at l (undefined_name f) ∷ sign m s.LeftParenthesis ∷ mid)) → P ts
with_null_spelled f parts Q P ts rest spells h to =
    in_call P f (parts ++ with_null) ts rest h
    (λ l m j mid i.
    let a = shows_append parts with_null mid (sign j s.RightParenthesis ∷ rest) i in
    at_null (λ (end : List Item). Q mid end → P (at l (undefined_name f) ∷ sign m s.LeftParenthesis ∷ mid)) a.mid (sign j s.RightParenthesis ∷ rest) a.second
    (λ n i q. to l m n i j mid q) (spells mid a.mid a.first))

-- an address alone in parentheses
pub object_spelled : (f : List ℕ) (p : Place) (P : List Item → Type 0) (ts rest : List Item) → ShapedPlace p → Shows (called f (address p)) ts rest
    → ((l m n : ℕ) (mid : List Item) → AddressAs p mid (sign n s.RightParenthesis ∷ rest) → P (at l (undefined_name f) ∷ sign m s.LeftParenthesis ∷ mid)) → P ts
object_spelled f p P ts rest q h to =
    in_call P f (address p) ts rest h (λ l m n mid i. to l m n mid (address_spelled p mid (sign n s.RightParenthesis ∷ rest) q i))

-- a number alone in parentheses
monitor_spelled : (f : List ℕ) (monitor : ℕ) (P : List Item → Type 0) (ts rest : List Item) → Shows (called f (layout.number monitor ∷ [])) ts rest
    → ((l m i n : ℕ) → P (at l (undefined_name f) ∷ sign m s.LeftParenthesis ∷ at i (What.Number monitor) ∷ sign n s.RightParenthesis ∷ rest)) → P ts
monitor_spelled f monitor P ts rest h to =
    in_call P f (layout.number monitor ∷ []) ts rest h
    (λ l m n mid i. at_number (λ (all : List Item). P (at l (undefined_name f) ∷ sign m s.LeftParenthesis ∷ all)) monitor [] mid (sign n s.RightParenthesis ∷ rest) i
    (λ j next k. at_end (λ (all : List Item). P (at l (undefined_name f) ∷ sign m s.LeftParenthesis ∷ at j (What.Number monitor) ∷ all)) k (to l m j n)))

-- Items spell these numbers, and then `, -1`.
record TakesAs (takes : List ℕ) (ts rest : List Item) : Type 0 where
  comma : ℕ
  minus : ℕ
  last : ℕ
  spells : Commas SpellsNumber ts (sign comma s.Comma ∷ sign minus s.Minus ∷ at last (What.Number 1) ∷ rest) takes

-- the numbers behind their first comma and its space
takes_spelled : (k : ℕ) (ks : List ℕ) (ts rest : List Item)
    → Shows (separated (map numeral (k ∷ ks)) ++ layout.sign s.Comma ∷ layout.space ∷ layout.sign s.Minus ∷ layout.number 1 ∷ []) ts rest → TakesAs (k ∷ ks) ts rest
takes_spelled k ks ts rest h =
    let p = shows_append (separated (map numeral (k ∷ ks))) (layout.sign s.Comma ∷ layout.space ∷ layout.sign s.Minus ∷ layout.number 1 ∷ []) ts rest h in
    ended p.mid p.first p.second
  where
    ended : (mid : List Item) → Shows (separated (map numeral (k ∷ ks))) ts mid → Shows (layout.sign s.Comma ∷ layout.space ∷ layout.sign s.Minus ∷ layout.number 1 ∷ []) mid rest
        → TakesAs (k ∷ ks) ts rest
    ended _ g (shown {line = i} (unseen (shown {line = j} (shown {line = l} nothing)))) = record { comma = i; minus = j; last = l; spells = numerals_spelled k ks g }

-- a place, and behind it the numbers
taking_spelled : (q : Place) (k : ℕ) (ks : List ℕ) (P : List Item → Type 0) (ts rest : List Item) → ShapedPlace q → Shows (address q ++ taking (k ∷ ks)) ts rest
    → ((i : ℕ) (next : List Item) → AddressAs q ts (sign i s.Comma ∷ next) → TakesAs (k ∷ ks) next rest → P ts) → P ts
taking_spelled q k ks P ts rest g h to =
    let p = shows_append (address q) (taking (k ∷ ks)) ts rest h in
    at_sign (λ (mid : List Item). AddressAs q ts mid → P ts) s.Comma _ p.mid rest p.second
    (λ i next j second. to i next second (takes_spelled k ks next rest (past_gap _ _ next rest j))) (address_spelled q ts p.mid g p.first)

wait_spelled : (kind : Kind) (p q : Place) (takes : List ℕ) (ts rest : List Item) → ShapedPlace p → ShapedPlace q → Shows (waited p q takes) ts rest → SimpleAs kind (Wait p q takes) ts rest
wait_spelled kind p q (k ∷ ks) ts rest f g h =
    in_call (λ (all : List Item). SimpleAs kind (Wait p q (k ∷ ks)) all rest) (codes "gd_cond_wait") (address p ++ layout.sign s.Comma ∷ layout.space ∷ (address q ++ taking (k ∷ ks))) ts rest h
    (λ l m n mid i.
    let a = shows_append (address p) (layout.sign s.Comma ∷ layout.space ∷ (address q ++ taking (k ∷ ks))) mid (sign n s.RightParenthesis ∷ rest) i in
    at_sign (λ (next : List Item). AddressAs p mid next → SimpleAs kind (Wait p q (k ∷ ks)) (fixed l w.ControlledWait ∷ sign m s.LeftParenthesis ∷ mid) rest) s.Comma _ a.mid (sign n s.RightParenthesis ∷ rest) a.second
    (λ o next j first.
    taking_spelled q k ks (λ (all : List Item). SimpleAs kind (Wait p q (k ∷ ks)) (fixed l w.ControlledWait ∷ sign m s.LeftParenthesis ∷ mid) rest) next (sign n s.RightParenthesis ∷ rest) g
    (past_gap _ _ next (sign n s.RightParenthesis ∷ rest) j)
    (λ i after second t.
    record { stmt = lined.Wait l p q (k ∷ ks); levels = suc (max first.levels second.levels); spells = x.controlled_wait first.spells second.spells t.spells; same = refl }))
    (address_spelled p mid a.mid f a.first))
wait_spelled kind p q [] ts rest f g h =
    in_call (λ (all : List Item). SimpleAs kind (Wait p q []) all rest) (codes "pthread_cond_wait") (address p ++ layout.sign s.Comma ∷ layout.space ∷ address q) ts rest h
    (λ l m n mid i.
    let a = shows_append (address p) (layout.sign s.Comma ∷ layout.space ∷ address q) mid (sign n s.RightParenthesis ∷ rest) i in
    at_sign (λ (next : List Item). AddressAs p mid next → SimpleAs kind (Wait p q []) (fixed l w.Wait ∷ sign m s.LeftParenthesis ∷ mid) rest) s.Comma _ a.mid (sign n s.RightParenthesis ∷ rest) a.second
    (λ o next j first.
    let b = address_spelled q next (sign n s.RightParenthesis ∷ rest) g (past_gap _ _ next (sign n s.RightParenthesis ∷ rest) j) in
    record { stmt = lined.Wait l p q []; levels = suc (max first.levels b.levels); spells = x.wait first.spells b.spells; same = refl })
    (address_spelled p mid a.mid f a.first))

read_spelled : (kind : Kind) (p : Place) (ts rest : List Item) → ShapedPlace p → Shows (simple kind (Read p)) ts rest → SimpleAs kind (Read p) ts rest
read_spelled kind p ts rest f h =
    in_call (λ (all : List Item). SimpleAs kind (Read p) all rest) (codes "scanf") (layout.quoted (codes "%d") ∷ layout.sign s.Comma ∷ layout.space ∷ address p) ts rest h
    (λ l m n mid i. at_quoted (λ (all : List Item). SimpleAs kind (Read p) (fixed l w.Scan ∷ sign m s.LeftParenthesis ∷ all) rest) (codes "%d") _ mid (sign n s.RightParenthesis ∷ rest) i
    (λ line next j. at_sign (λ (all : List Item). SimpleAs kind (Read p) (fixed l w.Scan ∷ sign m s.LeftParenthesis ∷ at line (What.Text (codes "%d")) ∷ all) rest) s.Comma _ next (sign n s.RightParenthesis ∷ rest) j
    (λ o next g.
    let a = address_spelled p next (sign n s.RightParenthesis ∷ rest) f (past_gap _ _ next (sign n s.RightParenthesis ∷ rest) g) in
    record { stmt = lined.Read l p; levels = suc a.levels; spells = x.scan a.spells; same = refl })))

-- ---- all

-- A statement of one line: none that holds others.
abbrev pub IsSimple : Stmt → Type 0
IsSimple (If test then_arm else_arm) = ⊥
IsSimple (TryLock p taken busy) = ⊥
IsSimple (While test body) = ⊥
IsSimple (For first_part test step body) = ⊥
IsSimple other = Unit {0}

pub simple_spelled : (kind : Kind) (given : Stmt) (ts rest : List Item) → IsSimple given → ShapedStmt kind given → Shows (simple kind given) ts rest → SimpleAs kind given ts rest
simple_spelled kind (Declare name value) ts rest one f h = declare_spelled kind name value ts rest f.0 f.1 h
simple_spelled kind (Assign target value) ts rest one f h =
    let v = step_spelled target value ts rest f.0 f.1 h in record { stmt = lined.Assign v.line target value; levels = v.levels; spells = x.step v.spells; same = refl }
simple_spelled kind (Call target function args) ts rest one f h = call_simple kind target function args ts rest f.0 f.1 f.2 h
simple_spelled kind (If test then_arm else_arm) ts rest one f h = absurd one
simple_spelled kind (TryLock p taken busy) ts rest one f h = absurd one
simple_spelled kind (While test body) ts rest one f h = absurd one
simple_spelled kind (For first_part test step body) ts rest one f h = absurd one
simple_spelled kind (Return value) ts rest one f h = return_spelled kind value ts rest f h
simple_spelled kind (Read target) ts rest one f h = read_spelled kind target ts rest f h
simple_spelled kind (Print format args) ts rest one f h = print_spelled kind format args ts rest f h
simple_spelled kind (Create slot function arg) ts rest one f h = create_spelled kind slot function arg ts rest f.0 f.1 f.2 h
simple_spelled kind (Wait cond mutex takes) ts rest one f h = wait_spelled kind cond mutex takes ts rest f.0 f.1 h
simple_spelled kind (Join p) ts rest one f h =
    with_null_spelled (codes "pthread_join") (place p) (PlaceAs p) (λ (all : List Item). SimpleAs kind (Join p) all rest) ts rest (λ ts rest i. place_spelled p ts rest f i) h
    (λ l m n i j mid a. record { stmt = lined.Join l p; levels = suc a.levels; spells = x.join a.spells; same = refl })
simple_spelled kind (InitMutex p) ts rest one f h =
    with_null_spelled (codes "pthread_mutex_init") (address p) (AddressAs p) (λ (all : List Item). SimpleAs kind (InitMutex p) all rest) ts rest (λ ts rest i. address_spelled p ts rest f i) h
    (λ l m n i j mid a. record { stmt = lined.InitMutex l p; levels = suc a.levels; spells = x.init_mutex a.spells; same = refl })
simple_spelled kind (InitCond p) ts rest one f h =
    with_null_spelled (codes "pthread_cond_init") (address p) (AddressAs p) (λ (all : List Item). SimpleAs kind (InitCond p) all rest) ts rest (λ ts rest i. address_spelled p ts rest f i) h
    (λ l m n i j mid a. record { stmt = lined.InitCond l p; levels = suc a.levels; spells = x.init_condition a.spells; same = refl })
simple_spelled kind (Lock p) ts rest one f h =
    object_spelled (codes "pthread_mutex_lock") p (λ (all : List Item). SimpleAs kind (Lock p) all rest) ts rest f h
    (λ l m n mid a. record { stmt = lined.Lock l p; levels = suc a.levels; spells = x.lock a.spells; same = refl })
simple_spelled kind (Unlock p) ts rest one f h =
    object_spelled (codes "pthread_mutex_unlock") p (λ (all : List Item). SimpleAs kind (Unlock p) all rest) ts rest f h
    (λ l m n mid a. record { stmt = lined.Unlock l p; levels = suc a.levels; spells = x.unlock a.spells; same = refl })
simple_spelled kind (Signal p) ts rest one f h =
    object_spelled (codes "pthread_cond_signal") p (λ (all : List Item). SimpleAs kind (Signal p) all rest) ts rest f h
    (λ l m n mid a. record { stmt = lined.Signal l p; levels = suc a.levels; spells = x.signal a.spells; same = refl })
simple_spelled kind (Broadcast p) ts rest one f h =
    object_spelled (codes "pthread_cond_broadcast") p (λ (all : List Item). SimpleAs kind (Broadcast p) all rest) ts rest f h
    (λ l m n mid a. record { stmt = lined.Broadcast l p; levels = suc a.levels; spells = x.broadcast a.spells; same = refl })
simple_spelled kind (Take monitor) ts rest one f h = monitor_spelled (codes "gd_take") monitor (λ (all : List Item). SimpleAs kind (Take monitor) all rest) ts rest h
    (λ l m i n. record { stmt = lined.Take l monitor; levels = 1; spells = x.take; same = refl })
simple_spelled kind (Give monitor) ts rest one f h = monitor_spelled (codes "gd_give") monitor (λ (all : List Item). SimpleAs kind (Give monitor) all rest) ts rest h
    (λ l m i n. record { stmt = lined.Give l monitor; levels = 1; spells = x.give; same = refl })
