-- How the names of a function come together.
use Rattle.std.proofs.Common.{◌≡◌, ◌<◌, ◌≤◌, ◌+◌, ℕ, suc, Bool, true, false, List, [], ◌∷◌, length, cond, drop, slice_index_or, Some, None, refl, sym, ap, ◌∙◌, arith}
use Rattle.std.specs.Prelude.{bytes_eq, ◌||◌, not, map, position, nat_lt, Vec}
use Rattle.std.specs.declared.alloc.Global.{Global}
use Rattle.std.specs.List.{list_any, position_or_len}
use Rattle.std.proofs.lemmas.List.{drop_more, drop_all, length-map}
use Rattle.c_tree.specs.declared.stmt.Stmt as declared
use Rattle.c_tree.specs.Bare.{Stmts}
use Rattle.c_meaning.specs.Shown.{shown_stmt, shown_body}
use Rattle.c_meaning.proofs.Reading.{same_bytes}
use Rattle.c_frames.specs.Names.{is_target, is_set, is_set_inside, is_among}
use Rattle.c_frames.specs.Positions.{from}
use Rattle.c_frames.proofs.Standings.{there_of, from_there, from_past}

or_false : (a : Bool) → (a || false) ≡ a
or_false true = refl
or_false false = refl

or_assoc : (a b c : Bool) → ((a || b) || c) ≡ (a || (b || c))
or_assoc true b c = refl
or_assoc false b c = refl

-- a name that is there stays there
pub already : (names : List (List ℕ)) (name q : List ℕ) → is_among names name ≡ true → is_among names q ≡ (is_among names q || bytes_eq q name)
already names name q there = by (bytes_eq q name) refl
  where
    by : (same : Bool) → bytes_eq q name ≡ same → is_among names q ≡ (is_among names q || same)
    by true e = let here : is_among names q ≡ true = ap (is_among names) (same_bytes q name e) ∙ there in here ∙ sym (ap (λ b. b || true) here)
    by false e = sym (or_false (is_among names q))

-- ---- the parameters

pub next_param : (params : List (List ℕ)) (k : ℕ) (name q : List ℕ) (before now all : Bool) → k < length params → name ≡ slice_index_or params k name → now ≡ (before || bytes_eq q name)
    → (before || is_among (drop k params) q) ≡ all → (now || is_among (drop (k + 1) params) q) ≡ all
next_param params k name q before now all within is grown so_far =
    ap (λ b. b || is_among (drop (k + 1) params) q) grown ∙ or_assoc before (bytes_eq q name) (is_among (drop (k + 1) params) q)
    ∙ ap (λ n. before || (bytes_eq q n || is_among (drop (k + 1) params) q)) is
    ∙ ap (λ names. before || is_among names q) (sym (drop_more params k name within)) ∙ so_far

pub all_params : (params : List (List ℕ)) (k : ℕ) (q : List ℕ) (now all : Bool) → length params ≤ k → (now || is_among (drop k params) q) ≡ all → now ≡ all
all_params params k q now all past so_far = sym (or_false now) ∙ ap (λ names. now || is_among names q) (sym (drop_all k params past)) ∙ so_far

-- ---- the statements

pub next_target : (ss : List declared.Stmt) (k : ℕ) (s : declared.Stmt) (q : List ℕ) (before own now all : Bool) → k < length ss → s ≡ slice_index_or ss k s
    → own ≡ (before || is_target q (shown_stmt s)) → now ≡ (own || is_set_inside q (shown_stmt s))
    → (before || is_set q (from k (shown_body ss))) ≡ all → (now || is_set q (from (k + 1) (shown_body ss))) ≡ all
next_target ss k s q before own now all within is grown inside so_far =
    let one_more : suc k ≡ k + 1 = omega arith in
    let rest = is_set q (from (k + 1) (shown_body ss)) in
    let here : is_set q (from k (shown_body ss)) ≡ ((is_target q (shown_stmt s) || is_set_inside q (shown_stmt s)) || rest) =
    ap (is_set q) (from_there ss k s (there_of ss k s within is)) ∙ ap (λ j. (is_target q (shown_stmt s) || is_set_inside q (shown_stmt s)) || is_set q (from j (shown_body ss))) one_more in
    ap (λ b. b || rest) (inside ∙ ap (λ b. b || is_set_inside q (shown_stmt s)) grown ∙ or_assoc before (is_target q (shown_stmt s)) (is_set_inside q (shown_stmt s)))
    ∙ or_assoc before (is_target q (shown_stmt s) || is_set_inside q (shown_stmt s)) rest ∙ ap (λ b. before || b) (sym here) ∙ so_far

pub all_targets : (ss : List declared.Stmt) (k : ℕ) (q : List ℕ) (now all : Bool) → length ss ≤ k → (now || is_set q (from k (shown_body ss))) ≡ all → now ≡ all
all_targets ss k q now all past so_far = sym (or_false now) ∙ ap (λ l. now || is_set q l) (sym (from_past ss k past)) ∙ so_far

pub two_lists : (q : List ℕ) (before one two : Bool) (a b : Stmts) → one ≡ (before || is_set q a) → two ≡ (one || is_set q b) → two ≡ (before || (is_set q a || is_set q b))
two_lists q before one two a b first second = second ∙ ap (λ x. x || is_set q b) first ∙ or_assoc before (is_set q a) (is_set q b)

pub three_lists : (q : List ℕ) (before one two three : Bool) (a b c : Stmts) → one ≡ (before || is_set q a) → two ≡ (one || is_set q b) → three ≡ (two || is_set q c)
    → three ≡ (before || ((is_set q a || is_set q b) || is_set q c))
three_lists q before one two three a b c first second third =
    third ∙ ap (λ x. x || is_set q c) (two_lists q before one two a b first second) ∙ or_assoc before (is_set q a || is_set q b) (is_set q c)

-- no name is there at first
pub names_begin : (keys : List (Vec ℕ Global)) (given params : List (List ℕ)) (ss body : List declared.Stmt) (q : List ℕ) → keys ≡ [] → given ≡ params → ss ≡ body
    → ((is_among (map (λ name. name.items) keys) q || is_among given q) || is_set q (shown_body ss)) ≡ (is_among params q || is_set q (shown_body body))
names_begin keys given params ss body q none same_params same_body =
    ap (λ ks. (is_among (map (λ name. name.items) ks) q || is_among given q) || is_set q (shown_body ss)) none
    ∙ ap (λ names. is_among names q || is_set q (shown_body ss)) same_params ∙ ap (λ l. is_among params q || is_set q (shown_body l)) same_body

-- ---- the place of a name

place_map : {X Y : Type 0} (test : Y → Bool) (show : X → Y) (xs : List X) → position_or_len (λ x. test (show x)) xs ≡ position_or_len test (map show xs)
place_map test show [] = refl
place_map test show (x ∷ xs) = ap (λ k. cond (not (test (show x))) (1 + k) 0) (place_map test show xs)

-- the first place that passes, in a list of what the items show
pub position_map : {X Y : Type 0} (test : Y → Bool) (show : X → Y) (xs : List X) → position (λ x. test (show x)) xs ≡ position test (map show xs)
position_map test show xs =
    ap (λ k. cond (nat_lt k (length xs)) (Some k) None) (place_map test show xs)
    ∙ ap (λ n. cond (nat_lt (position_or_len test (map show xs)) n) (Some (position_or_len test (map show xs))) None) (sym (length-map xs show))

-- a test of what the items show
pub any_map : {X Y : Type 0} (test : Y → Bool) (show : X → Y) (xs : List X) → list_any (λ x. test (show x)) xs ≡ list_any test (map show xs)
any_map test show [] = refl
any_map test show (x ∷ xs) = ap (λ b. test (show x) || b) (any_map test show xs)
