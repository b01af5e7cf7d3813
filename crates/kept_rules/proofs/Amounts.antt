-- An edited program has as many threads, mutexes and cells.
use Rattle.std.proofs.Common.{List, [], ap, arith, length, refl, subst, sym, true, ℕ, ◌+◌, ◌∙◌, ◌∷◌, ◌≡◌, ◌≤◌}
use Rattle.std.specs.Prelude.{IsTrue, map, option_map, sum_by, unwrap_or}
use Rattle.std.specs.List.{enumerate_from, fold}
use Rattle.std.proofs.lemmas.List.{length-map}
use Rattle.c_tree.specs.declared.program.Mode.{Mode}
use Rattle.c_tree.specs.Bare as bare
use Rattle.c_tree.specs.Lined.{Cons, Create, Function, Program, Stmt, Stmts, bare_array, bare_cell, bare_program, bare_stmt, bare_stmts}
use Rattle.c_tree.specs.declared.program.Array as declared_array
use Rattle.c_tree.specs.Numbering.{creations_of, object_count}
use Rattle.c_tree.specs.Numbering as numbering
use Rattle.c_rules.specs.Sites.{is_main}
use Rattle.c_rules.specs.Formed.{Formed, KeepsRules}
use Rattle.c_rules.specs.declared.rule.Count.{Count}
use Rattle.c_rules.specs.declared.rule.Count.TheVariants as count
use Rattle.c_rules.specs.Counts.{amount, limit}
use Rattle.c_rules.proofs.Members.{In, Passing, contains_of, from_any, in_of, passing}
use Rattle.rule_facts.proofs.Main.{main_found, names_apart}
use Rattle.rule_facts.proofs.Places.{Placed, in_functions, place_in}
use Rattle.rule_facts.proofs.Places.{placed}
use Rattle.rule_facts.specs.Apart.{Apart, function_names}
use Rattle.kept_rules.proofs.Like.{monitor_of}
use Rattle.kept_rules.specs.Edit.{EditOf, Edits, Way, is_monitor_call, is_simple}
use Rattle.kept_rules.specs.Programs.{IsEditOf, KeepsOwn}

-- ---- creations

abbrev creates_of : Stmts → ℕ
creates_of ss = length (numbering.creations_of (bare_stmts ss))

monitor_creates : (s : Stmt) (ss : bare.Stmts) → IsTrue (is_monitor_call s) → numbering.creations_of (bare.Cons (bare_stmt s) ss) ≡ numbering.creations_of ss
monitor_creates (Create line slot name arg) ss is = cc is
monitor_creates s ss is = refl

simple_creates : (s : Stmt) (ss : bare.Stmts) → IsTrue (is_simple s) → numbering.creations_of (bare.Cons (bare_stmt s) ss) ≡ numbering.creations_of ss
simple_creates (Create line slot name arg) ss is = cc is
simple_creates s ss is = refl

one_more : (r : Way) (s t : Stmt) (ss ts : Stmts) → EditOf r s t → creates_of ss ≡ creates_of ts → creates_of (Cons s ss) ≡ creates_of (Cons t ts)
one_more r s t ss ts (EditOf.same u v a b e) h = ap length (simple_creates s (bare_stmts ss) a) ∙ (h ∙ sym (ap length (simple_creates t (bare_stmts ts) b)))
one_more r s t ss ts (EditOf.create l m slot name arg) h = omega arith
one_more r s t ss ts e h = h

creates_same : (r : Way) (ss ts : Stmts) → Edits r ss ts → creates_of ss ≡ creates_of ts
creates_same r ss ts Edits.none = refl
creates_same r ss ts (Edits.put s us vs is more) = ap length (monitor_creates s (bare_stmts us) (monitor_of r s is)) ∙ creates_same r us vs more
creates_same r ss ts (Edits.keep s t us vs like more) = one_more r s t us vs like (creates_same r us vs more)

threads_of : (p : Program) (f : Function) → Apart (function_names p) → In f p.functions → is_main f ≡ true → numbering.thread_count (bare_program p) ≡ creates_of f.body + 1
threads_of p f apart at is = ap (λ o. length (numbering.creations_of (unwrap_or (option_map (λ (b : bare.Function). b.body) o) bare.Nil)) + 1) (main_found p.functions f apart at is)

threads_same : (r : Way) (place : ℕ → ℕ) (n : Mode) (q p : Program) (mode : Mode) → IsEditOf r place q p → KeepsOwn n q → KeepsRules p mode
    → numbering.thread_count (bare_program q) ≡ numbering.thread_count (bare_program p)
threads_same r place n q p mode e own keeps = by (from_any is_main q.functions own.main)
  where
    at_place : (g : Function) → In g q.functions → is_main g ≡ true → Placed (enumerate_from 0 q.functions) g → numbering.thread_count (bare_program q) ≡ numbering.thread_count (bare_program p)
    at_place g at is (placed j among) =
        let s = e.functions (j, g) (contains_of (enumerate_from 0 q.functions) (j, g) among) in
        let in_p = in_functions 0 p.functions (place j, s.function) (in_of (enumerate_from 0 p.functions) (place j, s.function) s.listed) in
        threads_of q g e.apart at is
        ∙ (ap (λ k. k + 1) (creates_same r g.body s.function.body s.edit.body)
        ∙ sym (threads_of p s.function (names_apart p mode keeps) in_p (sym s.edit.main ∙ is)))

    by : Passing is_main q.functions → numbering.thread_count (bare_program q) ≡ numbering.thread_count (bare_program p)
    by (passing g at is) = at_place g at is (place_in 0 q.functions g at)

-- ---- mutexes and cells

same_length : {A B : Type 0} (bared : A → B) (xs ys : List A) → map bared xs ≡ map bared ys → length xs ≡ length ys
same_length {A = A} {B = B} bared xs ys e = sym (of xs) ∙ (ap length e ∙ of ys)
  where
    of : (zs : List A) → length (map bared zs) ≡ length zs
    of zs = length-map zs bared

lens_from : (k : ℕ) (xs : List declared_array.Array) → fold (λ n (a : declared_array.Array). n + a.len) k xs ≡ fold (λ n (a : bare.Array). n + a.len) k (map bare_array xs)
lens_from k [] = refl
lens_from k (x ∷ xs) = lens_from (k + x.len) xs

lens : (xs : List declared_array.Array) → sum_by (λ (a : declared_array.Array). a.len) xs ≡ sum_by (λ (a : bare.Array). a.len) (map bare_array xs)
lens xs = lens_from 0 xs

pub kept_amounts : (r : Way) (place : ℕ → ℕ) (n : Mode) (q p : Program) (mode : Mode) → IsEditOf r place q p → KeepsOwn n q → Formed p mode → (what : Count) → amount q what ≤ limit what
kept_amounts r place n q p mode e own formed count.Threads = subst (λ k. k ≤ 32) (sym (threads_same r place n q p mode e own formed.keeps_rules)) (formed.within count.Threads)
kept_amounts r place n q p mode e own formed count.Mutexes = subst (λ os. sum_by numbering.object_count os ≤ 48) (sym e.declared.mutexes) (formed.within count.Mutexes)
kept_amounts r place n q p mode e own formed count.Monitors = own.few
kept_amounts r place n q p mode e own formed count.Cells =
    let a = same_length bare_cell q.ints p.ints e.declared.ints in
    let b = lens q.arrays ∙ (ap (sum_by (λ (a : bare.Array). a.len)) e.declared.arrays ∙ sym (lens p.arrays)) in
    subst (λ k. k ≤ 65536) (sym (cc (a, b))) (formed.within count.Cells)
