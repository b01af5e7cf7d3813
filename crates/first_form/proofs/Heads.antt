-- Names and functions of whole programs.
use Rattle.std.proofs.Common.{◌≡◌, ℕ, Bool, true, false, not, ◌&&◌, List, [], ◌∷◌, ◌++◌, length, map, refl, sym, ap, ◌∙◌, nat_le}
use Rattle.std.specs.Prelude.{flat_map}
use Rattle.std.specs.List.{list_all}
use Rattle.std.proofs.Math.Bool.{and-true, and-false}
use Rattle.std.proofs.lemmas.List.Folds.{list_all-append, list_all-map}
use Rattle.c_tree.specs.declared.program.Function.{Function}
use Rattle.c_tree.specs.declared.program.Program as declared
use Rattle.c_tree.specs.Lined.{bare_function, function_of}
use Rattle.c_tree.specs.Bare.{Program}
use Rattle.c_rules.specs.Names.{mentions, is_reserved}
use Rattle.first_form.specs.FirstForm.{all_differ, outer_names, has_good_names, is_thread, is_main, has_first_functions, has_first_declarations, is_balanced, has_balanced_locks, is_first_form}
use Rattle.first_form.specs.Shown.{shown}

pub when_true : (first second whole : Bool) → first ≡ true → whole ≡ second → whole ≡ (first && second)
when_true first second whole e f = f ∙ sym (ap (λ b. b && second) e)

shuffle : (s a b A F C : Bool) → ((s && (a && b)) && (A && (F && C))) ≡ ((a && A) && ((b && F) && (s && C)))
shuffle false a b A F C = sym (ap (λ t. (a && A) && t) (and-false (b && F)) ∙ and-false (a && A))
shuffle true false b A F C = refl
shuffle true true false A F C = sym (and-false A)
shuffle true true true A F C = refl

both : {A : Type 0} (f g : A → Bool) (xs : List A) → list_all (λ x. f x && g x) xs ≡ (list_all f xs && list_all g xs)
both f g [] = refl
both f g (x ∷ xs) = ap (λ t. (f x && g x) && t) (both f g xs) ∙ regroup (f x) (g x) (list_all f xs) (list_all g xs)
  where
    regroup : (a b c d : Bool) → ((a && b) && (c && d)) ≡ ((a && c) && (b && d))
    regroup false b c d = refl
    regroup true false c d = sym (and-false c)
    regroup true true c d = refl

module _ (new free : List ℕ → Bool) where
  heads : (fs : List Function)
      → list_all (λ f. nat_le (length f.name) 56 && list_all (λ name. new name && free name) f.params) fs
      ≡ (list_all new (flat_map (λ f. f.params) fs) && (list_all free (flat_map (λ f. f.params) fs) && list_all (λ f. nat_le (length f.name) 56) fs))
  heads [] = refl
  heads (f ∷ fs) =
      ap (λ t. (nat_le (length f.name) 56 && t) && list_all (λ (f : Function). nat_le (length f.name) 56 && list_all (λ name. new name && free name) f.params) fs) (both new free f.params)
      ∙ ap (λ t. (nat_le (length f.name) 56 && (list_all new f.params && list_all free f.params)) && t) (heads fs)
      ∙ shuffle (nat_le (length f.name) 56) (list_all new f.params) (list_all free f.params) (list_all new (flat_map (λ f. f.params) fs)) (list_all free (flat_map (λ f. f.params) fs)) (list_all (λ f. nat_le (length f.name) 56) fs)
      ∙ sym (ap (λ t. t && (list_all free (f.params ++ flat_map (λ f. f.params) fs) && list_all (λ (f : Function). nat_le (length f.name) 56) (f ∷ fs))) (list_all-append new f.params (flat_map (λ f. f.params) fs))
      ∙ ap (λ t. (list_all new f.params && list_all new (flat_map (λ f. f.params) fs)) && (t && list_all (λ (f : Function). nat_le (length f.name) 56) (f ∷ fs))) (list_all-append free f.params (flat_map (λ f. f.params) fs)))

parameters_of : (fs : List Function) → flat_map (λ f. f.params) (map bare_function (map function_of fs)) ≡ flat_map (λ f. f.params) fs
parameters_of [] = refl
parameters_of (f ∷ fs) = ap (λ xs. f.params ++ xs) (parameters_of fs)

short_of : (fs : List Function) → list_all (λ f. nat_le (length f.name) 56) (map bare_function (map function_of fs)) ≡ list_all (λ f. nat_le (length f.name) 56) fs
short_of fs =
    list_all-map (λ f. nat_le (length f.name) 56) bare_function (map function_of fs)
    ∙ list_all-map (λ f. nat_le (length (bare_function f).name) 56) function_of fs

in_order : (f a b c : Bool) → (f && (a && (b && c))) ≡ ((a && (f && b)) && c)
in_order true true b c = refl
in_order true false b c = refl
in_order false true b c = refl
in_order false false b c = refl

ordered : (o a f b c : Bool) → o ≡ true → (f && (a && (b && c))) ≡ (((o && a) && (f && b)) && c)
ordered o a f b c e = in_order f a b c ∙ sym (ap (λ t. ((t && a) && (f && b)) && c) e)

-- the names are good: what the code asks for, part by part
pub good_names : (p : declared.Program) (known : List ℕ → Bool) (names : List (List ℕ)) → names ≡ outer_names (shown p)
    → ((name : List ℕ) → known name ≡ mentions names name) → all_differ names ≡ true
    → (list_all (λ name. not (is_reserved name)) names
    && list_all (λ f. nat_le (length f.name) 56 && list_all (λ name. not (known name) && not (is_reserved name)) f.params) p.functions)
    ≡ has_good_names (shown p)
good_names p known names e knows differ =
    let free : List ℕ → Bool = λ name. not (is_reserved name) in
    let outer = outer_names (shown p) in
    let ps = flat_map (λ (f : Function). f.params) p.functions in
    ap (λ t. list_all free names && t) (heads (λ name. not (known name)) free p.functions)
    ∙ ap (λ xs. list_all free xs && (list_all (λ name. not (known name)) ps && (list_all free ps && list_all (λ (f : Function). nat_le (length f.name) 56) p.functions))) e
    ∙ ap (λ (k : List ℕ → Bool). list_all free outer && (list_all (λ name. not (k name)) ps && (list_all free ps && list_all (λ (f : Function). nat_le (length f.name) 56) p.functions)))
    (λ i name. (knows name ∙ ap (λ xs. mentions xs name) e) i)
    ∙ ordered (all_differ outer) (list_all (λ name. not (mentions outer name)) ps) (list_all free outer) (list_all free ps) (list_all (λ f. nat_le (length f.name) 56) p.functions) (ap all_differ (sym e) ∙ differ)
    ∙ ap (λ t. ((all_differ outer && list_all (λ name. not (mentions outer name)) ps) && t) && list_all (λ (f : Function). nat_le (length f.name) 56) p.functions) (sym (list_all-append free outer ps))
    ∙ ap (λ t. ((all_differ outer && list_all (λ name. not (mentions outer name)) ps) && list_all free (outer ++ ps)) && t) (sym (short_of p.functions))
    ∙ ap (λ xs. ((all_differ outer && list_all (λ name. not (mentions outer name)) xs) && list_all free (outer ++ xs)) && list_all (λ f. nat_le (length f.name) 56) (shown p).functions) (sym (parameters_of p.functions))

regroup_main : (a r b : Bool) → (a && (r && b)) ≡ (r && (a && b))
regroup_main true r b = refl
regroup_main false true b = refl
regroup_main false false b = refl

-- functions of threads, and last main
pub functions_split : (p : Program) (fs : List Function) (last : Function)
    → has_first_functions p (map bare_function (map function_of (fs ++ last ∷ [])))
    ≡ (is_main p (bare_function (function_of last)) && list_all (λ f. is_thread p (bare_function (function_of f))) fs)
functions_split p [] last = sym (and-true (is_main p (bare_function (function_of last))))
functions_split p (f ∷ []) last =
    ap (λ b. is_thread p (bare_function (function_of f)) && b) (functions_split p [] last)
    ∙ regroup_main (is_thread p (bare_function (function_of f))) (is_main p (bare_function (function_of last))) true
functions_split p (f ∷ g ∷ fs) last =
    ap (λ b. is_thread p (bare_function (function_of f)) && b) (functions_split p (g ∷ fs) last)
    ∙ regroup_main (is_thread p (bare_function (function_of f))) (is_main p (bare_function (function_of last))) (list_all (λ f. is_thread p (bare_function (function_of f))) (g ∷ fs))

all_four : (d n f b : Bool) → d ≡ true → n ≡ true → f ≡ true → b ≡ (((d && n) && f) && b)
all_four d n f b d' n' f' = sym (ap (λ t. ((t && n) && f) && b) d' ∙ ap (λ t. (t && f) && b) n' ∙ ap (λ t. t && b) f')

-- the first three parts hold, so the last one decides
last_decides : (p : Program) → has_first_declarations p ≡ true → has_good_names p ≡ true → has_first_functions p p.functions ≡ true → has_balanced_locks p ≡ is_first_form p
last_decides p d n f = all_four (has_first_declarations p) (has_good_names p) (has_first_functions p p.functions) (has_balanced_locks p) d n f

pub form_from_locks : (q p : declared.Program) → q ≡ p → (fs gs : List Function) → fs ≡ p.functions → gs ≡ p.functions
    → has_first_declarations (shown p) ≡ true → has_good_names (shown p) ≡ true
    → has_first_functions (shown q) (map bare_function (map function_of fs)) ≡ true
    → list_all (λ f. is_balanced (shown q) [] f.body) (map bare_function (map function_of gs)) ≡ is_first_form (shown p)
form_from_locks q p same fs gs ef eg d n f =
    ap (λ r. list_all (λ f. is_balanced (shown r) [] f.body) (map bare_function (map function_of gs))) same
    ∙ ap (λ xs. list_all (λ f. is_balanced (shown p) [] f.body) (map bare_function (map function_of xs))) eg
    ∙ last_decides (shown p) d n
    (sym (ap (λ r. has_first_functions (shown r) (map bare_function (map function_of fs))) same
    ∙ ap (λ xs. has_first_functions (shown p) (map bare_function (map function_of xs))) ef) ∙ f)
