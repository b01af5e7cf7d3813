-- How names come together, one after the other.
use Rattle.std.proofs.Common.{◌≡◌, ℕ, ◌+◌, ◌<◌, ◌≤◌, Bool, true, false, List, ◌∷◌, ◌++◌, length, get_or, drop, refl, sym, ap, ◌∙◌}
use Rattle.std.specs.Prelude.{◌||◌, ◌&&◌, bytes_eq}
use Rattle.std.proofs.lemmas.List.{drop_more, drop_all}
use Rattle.std.proofs.lemmas.List.Folds.{list_any-append}
use Rattle.c_tree.specs.declared.stmt.Stmt as declared
use Rattle.c_tree.specs.declared.program.Cell.{Cell}
use Rattle.c_tree.specs.Lined.{stmt_of, stmts_of}
use Rattle.contexts.specs.Constants.{among, written, written_all}
use Rattle.context_locals.specs.Writes.{int_texts}

pub or_false : (a : Bool) → (a || false) ≡ a
or_false true = refl
or_false false = refl

pub or_again : (a b c : Bool) → ((a || b) || c) ≡ (a || (b || c))
or_again true b c = refl
or_again false b c = refl

pub or_turned : (a b : Bool) → (a || b) ≡ (b || a)
or_turned true true = refl
or_turned true false = refl
or_turned false true = refl
or_turned false false = refl

pub among_both : (q : List ℕ) (xs ys : List (List ℕ)) → among (xs ++ ys) q ≡ (among xs q || among ys q)
among_both q xs ys = list_any-append (bytes_eq q) xs ys

-- ---- what is taken in, and what is left

pub step_on : (before own now left whole : Bool) → now ≡ (before || own) → (before || (own || left)) ≡ whole → (now || left) ≡ whole
step_on before own now left whole grown so_far = ap (λ b. b || left) grown ∙ or_again before own left ∙ so_far

-- ---- statements

-- what two lists write into, and three
pub two_lists : (q : List ℕ) (before one two : Bool) (a b : List (List ℕ)) → one ≡ (before || among a q) → two ≡ (one || among b q) → two ≡ (before || among (a ++ b) q)
two_lists q before one two a b first second =
    second ∙ ap (λ x. x || among b q) first ∙ or_again before (among a q) (among b q) ∙ ap (λ x. before || x) (sym (among_both q a b))

pub three_lists : (q : List ℕ) (before one two three : Bool) (a b c : List (List ℕ)) → one ≡ (before || among a q) → two ≡ (one || among b q) → three ≡ (two || among c q)
    → three ≡ (before || among (a ++ b ++ c) q)
three_lists q before one two three a b c first second third = two_lists q before two three (a ++ b) c (two_lists q before one two a b first second) third

-- what statements that are left write into
abbrev pub left_written : List declared.Stmt → List (List ℕ)
left_written ss = written_all (stmts_of ss)

pub next_written : (ss : List declared.Stmt) (k : ℕ) (s : declared.Stmt) (q : List ℕ) (before now whole : Bool) → k < length ss → s ≡ get_or ss k s → now ≡ (before || among (written (stmt_of s)) q)
    → (before || among (left_written (drop k ss)) q) ≡ whole → (now || among (left_written (drop (k + 1) ss)) q) ≡ whole
next_written ss k s q before now whole within is grown so_far =
    let rest = left_written (drop (k + 1) ss) in
    let here : drop k ss ≡ s ∷ drop (k + 1) ss = drop_more ss k s within ∙ ap (λ x. x ∷ drop (k + 1) ss) (sym is) in
    step_on before (among (written (stmt_of s)) q) now (among rest q) whole grown
    (ap (λ b. before || b) (sym (among_both q (written (stmt_of s)) rest) ∙ sym (ap (λ xs. among (left_written xs) q) here)) ∙ so_far)

pub all_written : (ss : List declared.Stmt) (k : ℕ) (q : List ℕ) (now whole : Bool) → length ss ≤ k → (now || among (left_written (drop k ss)) q) ≡ whole → now ≡ whole
all_written ss k q now whole past so_far = sym (or_false now) ∙ ap (λ xs. now || among (left_written xs) q) (sym (drop_all k ss past)) ∙ so_far

-- ---- ints

pub next_int : (ints : List Cell) (k : ℕ) (c : Cell) (q name : List ℕ) (before now whole : Bool) → k < length ints → c ≡ get_or ints k c → name ≡ c.name → now ≡ (bytes_eq q name || before)
    → (before || among (int_texts (drop k ints)) q) ≡ whole → (now || among (int_texts (drop (k + 1) ints)) q) ≡ whole
next_int ints k c q name before now whole within is named grown so_far =
    let here : drop k ints ≡ c ∷ drop (k + 1) ints = drop_more ints k c within ∙ ap (λ x. x ∷ drop (k + 1) ints) (sym is) in
    step_on before (bytes_eq q c.name) now (among (int_texts (drop (k + 1) ints)) q) whole
    (grown ∙ or_turned (bytes_eq q name) before ∙ ap (λ n. before || bytes_eq q n) named) (ap (λ xs. before || among (int_texts xs) q) (sym here) ∙ so_far)

pub all_ints : (ints : List Cell) (k : ℕ) (q : List ℕ) (now whole : Bool) → length ints ≤ k → (now || among (int_texts (drop k ints)) q) ≡ whole → now ≡ whole
all_ints ints k q now whole past so_far = sym (or_false now) ∙ ap (λ xs. now || among (int_texts xs) q) (sym (drop_all k ints past)) ∙ so_far

-- ---- names that can be constant

both_or : (b e n r : Bool) → ((b || (e && n)) || (r && n)) ≡ (b || ((e || r) && n))
both_or true e n r = refl
both_or false true true r = refl
both_or false true false true = refl
both_or false true false false = refl
both_or false false n r = refl

pub next_name : (names : List (List ℕ)) (k : ℕ) (name text q : List ℕ) (constant before now whole : Bool) → k < length names → name ≡ get_or names k name → text ≡ name → now ≡ (before || (bytes_eq q text && constant))
    → (before || (among (drop k names) q && constant)) ≡ whole → (now || (among (drop (k + 1) names) q && constant)) ≡ whole
next_name names k name text q constant before now whole within is same grown so_far =
    let here : drop k names ≡ name ∷ drop (k + 1) names = drop_more names k name within ∙ ap (λ x. x ∷ drop (k + 1) names) (sym is) in
    ap (λ b. b || (among (drop (k + 1) names) q && constant)) (grown ∙ ap (λ t. before || (bytes_eq q t && constant)) same)
    ∙ both_or before (bytes_eq q name) constant (among (drop (k + 1) names) q) ∙ ap (λ xs. before || (among xs q && constant)) (sym here) ∙ so_far

pub all_names : (names : List (List ℕ)) (k : ℕ) (q : List ℕ) (constant now whole : Bool) → length names ≤ k → (now || (among (drop k names) q && constant)) ≡ whole → now ≡ whole
all_names names k q constant now whole past so_far = sym (or_false now) ∙ ap (λ xs. now || (among xs q && constant)) (sym (drop_all k names past)) ∙ so_far
