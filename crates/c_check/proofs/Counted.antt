-- How many threads a program has.
use Rattle.std.proofs.Common.{◌≡◌, ℕ, nat_lt, ◌+◌, Bool, true, false, cond, List, [], ◌∷◌, length, map, refl, sym, ap, ◌∙◌, arith, Some, None, option_map, bytes_eq}
use Rattle.std.specs.Prelude.{find, position, unwrap_or}
use Rattle.std.specs.List.{position_or_len}
use Rattle.std.specs.declared.option.Option.{Option}
use Rattle.c_tree.specs.declared.program.Function as declared
use Rattle.c_tree.specs.declared.program.Program as declared_program
use Rattle.c_tree.specs.Bare as bare
use Rattle.c_tree.specs.Lined.{Stmts, Nil, Cons, Create, function_of, program_of, stmts_of, bare_function, bare_program, bare_stmts}
use Rattle.c_tree.specs.Numbering.{creations_of, main_body, main_name, thread_count}
use Rattle.c_rules.specs.Sites.{is_main}
use Rattle.c_check.specs.Tables.{count_creates}

creates_eq : (ss : Stmts) → length (creations_of (bare_stmts ss)) ≡ count_creates ss
creates_eq Nil = refl
creates_eq (Cons (Create line slot function arg) rest) = let h = creates_eq rest in omega (arith, h)
creates_eq (Cons s rest) = creates_eq rest

abbrev bared : declared.Function → bare.Function
bared f = bare_function (function_of f)

found_by : (t : bare.Function → Bool) (b : Bool) (x : declared.Function) (xs : List declared.Function) → t (bared x) ≡ b → find t (map bare_function (map function_of xs)) ≡ option_map bared (find (λ f. t (bared f)) xs)
    → find t (map bare_function (map function_of (x ∷ xs))) ≡ option_map bared (find (λ f. t (bared f)) (x ∷ xs))
found_by t true x xs e h = rw e refl
found_by t false x xs e h = rw e h

pub found_bare : (t : bare.Function → Bool) (xs : List declared.Function) → find t (map bare_function (map function_of xs)) ≡ option_map bared (find (λ f. t (bared f)) xs)
found_bare t [] = refl
found_bare t (x ∷ xs) = found_by t (t (bared x)) x xs refl (found_bare t xs)

abbrev body_or : Option bare.Function → bare.Stmts
body_or o = unwrap_or (option_map (λ f. f.body) o) bare.Nil

pub main_is : (p : declared_program.Program) (o : Option declared.Function) → o ≡ find (λ f. is_main (function_of f)) p.functions → main_body (bare_program (program_of p)) ≡ body_or (option_map bared o)
main_is p o e = ap body_or (found_bare (λ f. bytes_eq f.name main_name) p.functions) ∙ ap (λ x. body_or (option_map bared x)) (sym e)

pub some_threads : (p : declared_program.Program) (main : declared.Function) (count : ℕ) → Some main ≡ find (λ f. is_main (function_of f)) p.functions → count ≡ count_creates (stmts_of main.body)
    → count + 1 ≡ thread_count (bare_program (program_of p))
some_threads p main count e c = ap (λ n. n + 1) (c ∙ sym (creates_eq (stmts_of main.body)) ∙ sym (ap (λ b. length (creations_of b)) (main_is p (Some main) e)))

pub no_threads : (p : declared_program.Program) → None ≡ find (λ f. is_main (function_of f)) p.functions → 1 ≡ thread_count (bare_program (program_of p))
no_threads p e = sym (ap (λ b. length (creations_of b) + 1) (main_is p None e))

same_length : (xs : List declared.Function) → length (map bare_function (map function_of xs)) ≡ length xs
same_length [] = refl
same_length (x ∷ xs) = let h = same_length xs in omega (arith, h)

placed_by : (t : bare.Function → Bool) (b : Bool) (x : declared.Function) (xs : List declared.Function) → t (bared x) ≡ b
    → position_or_len t (map bare_function (map function_of xs)) ≡ position_or_len (λ f. t (bared f)) xs
    → position_or_len t (map bare_function (map function_of (x ∷ xs))) ≡ position_or_len (λ f. t (bared f)) (x ∷ xs)
placed_by t true x xs e h = rw e refl
placed_by t false x xs e h = rw e (ap (λ n. 1 + n) h)

placed_at : (t : bare.Function → Bool) (xs : List declared.Function) → position_or_len t (map bare_function (map function_of xs)) ≡ position_or_len (λ f. t (bared f)) xs
placed_at t [] = refl
placed_at t (x ∷ xs) = placed_by t (t (bared x)) x xs refl (placed_at t xs)

abbrev place_below : ℕ → ℕ → Option ℕ
place_below k n = cond (nat_lt k n) (Some k) None

placed_so : (t : bare.Function → Bool) (xs : List declared.Function) → position t (map bare_function (map function_of xs)) ≡ position (λ f. t (bared f)) xs
placed_so t xs = ap (λ k. place_below k (length (map bare_function (map function_of xs)))) (placed_at t xs) ∙ ap (place_below (position_or_len (λ f. t (bared f)) xs)) (same_length xs)

pub placed : (p : declared_program.Program) (name : List ℕ) → position (λ f. bytes_eq f.name name) (bare_program (program_of p)).functions ≡ position (λ f. bytes_eq f.name name) p.functions
placed p name = placed_so (λ f. bytes_eq f.name name) p.functions

pub some_body : (p : declared_program.Program) (main : declared.Function) → Some main ≡ find (λ f. is_main (function_of f)) p.functions → bare_stmts (stmts_of main.body) ≡ main_body (bare_program (program_of p))
some_body p main e = sym (main_is p (Some main) e)

pub no_body : (p : declared_program.Program) → None ≡ find (λ f. is_main (function_of f)) p.functions → bare.Nil ≡ main_body (bare_program (program_of p))
no_body p e = sym (main_is p None e)
