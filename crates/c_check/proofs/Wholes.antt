-- Whole functions: their parameters and then their statements.
use Rattle.std.proofs.Common.{◌≡◌, ℕ, ◌+◌, ◌<◌, ◌≤◌, arith, Bool, true, false, ◌||◌, List, [], ◌∷◌, length, get_or, drop, map, refl, sym, ap, ◌∙◌, bytes_eq}
use Rattle.std.specs.declared.option.Option.{Option}
use Rattle.std.specs.List.{enumerate_from}
use Rattle.std.proofs.lemmas.List.{drop_more, drop_all}
use denote.Ref.{Bor}
use Rattle.c_tree.specs.declared.program.Mode.{Mode}
use Rattle.c_tree.specs.declared.program.Function as declared
use Rattle.c_tree.specs.Lined.{function_of}
use Rattle.c_rules.specs.Names.{mentions}
use Rattle.c_rules.specs.Declarations.{Declaration}
use Rattle.c_rules.specs.Sites.{is_main}
use Rattle.c_acts.specs.declared.first.Break.{Break}
use Rattle.c_acts.specs.First.{noted_all}
use Rattle.c_acts.specs.Uses.{Around}
use Rattle.c_acts.specs.Acts.{local_breaks, entered}
use Rattle.c_check.specs.Walk.{with_names}
use Rattle.c_check.specs.Own.{nothing_past, own_breaks}
use Rattle.c_check.specs.Functions.{parameter_breaks, none_inside, function_breaks, around_of, functions_breaks}
use Rattle.c_acts.proofs.Noted.{noted_append, noted_both}
use Rattle.c_check.proofs.Walks.{Names, same_tests, among}

swapped : (a b c : Bool) → ((a || b) || c) ≡ (b || (a || c))
swapped true true c = refl
swapped true false c = refl
swapped false b c = refl

pub enter_first : (name : List ℕ) (names : List (List ℕ)) (now : Names) → with_names (name ∷ names) now ≡ with_names names (entered name now)
enter_first name names now = same_tests _ _ λ n. swapped (bytes_eq n name) (mentions names n) (now n)

module _ (a : Around) (line : ℕ) where
  pub parameter_turn : (names : List (List ℕ)) (i : ℕ) (name : List ℕ) (now next : Names) (f g all : Option Break) → i < length names → name ≡ get_or names i name
      → next ≡ entered name now → g ≡ noted_all f (local_breaks a now name line)
      → noted_all f (parameter_breaks a line now (drop i names)) ≡ all → noted_all g (parameter_breaks a line next (drop (i + 1) names)) ≡ all
  parameter_turn names i name now next f g all within is e p h =
      let here : drop i names ≡ name ∷ drop (i + 1) names = drop_more names i name within ∙ ap (λ y. y ∷ drop (i + 1) names) (sym is) in
      ap (λ x. noted_all g (parameter_breaks a line x (drop (i + 1) names))) e
      ∙ ap (λ x. noted_all x (parameter_breaks a line (entered name now) (drop (i + 1) names))) p
      ∙ sym (noted_append f (local_breaks a now name line) (parameter_breaks a line (entered name now) (drop (i + 1) names)))
      ∙ ap (λ x. noted_all f (parameter_breaks a line now x)) (sym here) ∙ h

pub enter_turn : (names : List (List ℕ)) (i : ℕ) (name : List ℕ) (now next all : Names) → i < length names → name ≡ get_or names i name → next ≡ entered name now
    → with_names (drop i names) now ≡ all → with_names (drop (i + 1) names) next ≡ all
enter_turn names i name now next all within is e h =
    let here : drop i names ≡ name ∷ drop (i + 1) names = drop_more names i name within ∙ ap (λ y. y ∷ drop (i + 1) names) (sym is) in
    ap (with_names (drop (i + 1) names)) e ∙ sym (enter_first name (drop (i + 1) names) now) ∙ ap (λ x. with_names x now) (sym here) ∙ h

pub enter_end : (names : List (List ℕ)) (i : ℕ) (now all : Names) → length names ≤ i → with_names (drop i names) now ≡ all → now ≡ all
enter_end names i now all past h = ap (λ x. with_names x now) (sym (drop_all i names past)) ∙ h

pub function_both : (a : Around) (start behind : Names) (f g h : Option Break) (main : Bool) → start ≡ none_inside → behind ≡ with_names a.function.params start → main ≡ is_main a.function
    → g ≡ noted_all f (parameter_breaks a a.function.line start a.function.params) → h ≡ noted_all g (own_breaks a main behind nothing_past a.function.body)
    → h ≡ noted_all f (function_breaks a)
function_both a start behind f g h main s b m p q =
    noted_both f g h (parameter_breaks a a.function.line none_inside a.function.params) (own_breaks a (is_main a.function) (with_names a.function.params none_inside) nothing_past a.function.body)
    (p ∙ ap (λ x. noted_all f (parameter_breaks a a.function.line x a.function.params)) s)
    (q ∙ ap (λ x. noted_all g (own_breaks a x behind nothing_past a.function.body)) m
    ∙ ap (λ x. noted_all g (own_breaks a (is_main a.function) x nothing_past a.function.body)) (b ∙ ap (with_names a.function.params) s))

pub function_turn : (outside : List ℕ → Option Declaration) (mode : Mode) (monitors : ℕ) (fs : List declared.Function) (i place : ℕ) (fn : declared.Function) (f g all : Option Break)
    → i < length fs → fn ≡ get_or fs i fn → g ≡ noted_all f (function_breaks (around_of outside mode monitors (place, function_of fn)))
    → noted_all f (functions_breaks outside mode monitors (enumerate_from place (map function_of (drop i fs)))) ≡ all
    → noted_all g (functions_breaks outside mode monitors (enumerate_from (place + 1) (map function_of (drop (i + 1) fs)))) ≡ all
function_turn outside mode monitors fs i place fn f g all within is p h =
    let here : drop i fs ≡ fn ∷ drop (i + 1) fs = drop_more fs i fn within ∙ ap (λ y. y ∷ drop (i + 1) fs) (sym is) in
    let rest = functions_breaks outside mode monitors (enumerate_from (place + 1) (map function_of (drop (i + 1) fs))) in
    ap (λ x. noted_all x rest) p ∙ sym (noted_append f (function_breaks (around_of outside mode monitors (place, function_of fn))) rest)
    ∙ ap (λ x. noted_all f (functions_breaks outside mode monitors (enumerate_from place (map function_of x)))) (sym here) ∙ h

pub empty_scope : (keys : List (Bor (List ℕ))) → length keys ≡ 0 → among keys ≡ none_inside
empty_scope [] e = refl
empty_scope (k ∷ keys) e = absurd (omega arith)
