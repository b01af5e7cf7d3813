-- The function that is named main.
use Rattle.std.proofs.Common.{Bool, List, [], ap, false, inl, inr, refl, subst, sym, true, ℕ, ◌+◌, ◌∙◌, ◌∷◌, ◌≡◌}
use Rattle.std.specs.Prelude.{Some, bytes_eq, find, if◌then◌else◌, map, option_map, unwrap_or}
use Rattle.std.specs.List.{enumerate_from, list_any}
use Rattle.std.proofs.lemmas.Slice.Eq.{bytes_eq-Decides}
use Rattle.c_tree.specs.declared.program.Mode.{Mode}
use Rattle.c_tree.specs.Bare as bare
use Rattle.c_tree.specs.Lined.{Function, Program, bare_function, bare_program}
use Rattle.c_tree.specs.Numbering.{function_named, main_name}
use Rattle.c_rules.specs.declared.rule.Rule.TheVariants as rule
use Rattle.c_rules.specs.Sites.{is_main}
use Rattle.c_rules.specs.Threads.{no_main}
use Rattle.c_rules.specs.Formed.{KeepsRules}
use Rattle.c_rules.proofs.Members.{In, Passing, contains_of, from_any, in_map, passing}
use Rattle.rule_facts.proofs.Apart.{apart_right, names}
use Rattle.rule_facts.proofs.Fixed.{apart_kept, fixed, names_split}
use Rattle.rule_facts.proofs.Places.{Placed, place_in}
use Rattle.rule_facts.proofs.Places.{placed}
use Rattle.rule_facts.proofs.Tests.{NoLines, no_lines}
use Rattle.rule_facts.specs.Apart.{Apart, Listed, function_names}
use Rattle.rule_facts.specs.Regular.{HasMain}

pub has_main : (p : Program) → NoLines (no_main p) → list_any is_main p.functions ≡ true
has_main p free = go (list_any is_main p.functions) refl (λ e. free p.end_line (subst (λ b. In p.end_line (if b then [] else p.end_line ∷ [])) (sym e) (inl refl)))
  where
    go : (b : Bool) → list_any is_main p.functions ≡ b → (list_any is_main p.functions ≡ false → ⊥) → list_any is_main p.functions ≡ true
    go true e none = e
    go false e none = absurd (none e)

pub main_found : (fs : List Function) (f : Function) → Apart (map (λ (f : Function). f.name) fs) → In f fs → is_main f ≡ true
    → find (λ (b : bare.Function). bytes_eq b.name main_name) (map bare_function fs) ≡ Some (bare_function f)
main_found [] f apart at is = absurd at
main_found (g ∷ gs) f apart (inl e) is =
    ap (λ b. if b then Some (bare_function g) else find (λ (b : bare.Function). bytes_eq b.name main_name) (map bare_function gs)) (ap is_main e ∙ is) ∙ ap (λ (h : Function). Some (bare_function h)) e
main_found (g ∷ gs) f apart (inr at) is = go (main_found gs f apart.1 at is) (is_main g) refl
  where
    go : find (λ (b : bare.Function). bytes_eq b.name main_name) (map bare_function gs) ≡ Some (bare_function f) → (b : Bool) → is_main g ≡ b
        → (if b then Some (bare_function g) else find (λ (b : bare.Function). bytes_eq b.name main_name) (map bare_function gs)) ≡ Some (bare_function f)
    go less false e = less
    go less true e =
        let n : g.name ≡ f.name = (bytes_eq-Decides g.name main_name).0 e ∙ sym ((bytes_eq-Decides f.name main_name).0 is) in
        absurd (apart.0 (contains_of (map (λ (f : Function). f.name) gs) g.name (subst (λ k. In k (map (λ (f : Function). f.name) gs)) (sym n) (in_map (λ (f : Function). f.name) gs f at))))

-- the meaning finds each function by its name
pub function_found : (fs : List Function) (f : Function) → Apart (map (λ (g : Function). g.name) fs) → In f fs
    → find (λ (b : bare.Function). bytes_eq b.name f.name) (map bare_function fs) ≡ Some (bare_function f)
function_found [] f apart at = absurd at
function_found (g ∷ gs) f apart (inl e) =
    ap (λ b. if b then Some (bare_function g) else find (λ (b : bare.Function). bytes_eq b.name f.name) (map bare_function gs)) ((bytes_eq-Decides g.name f.name).1 (ap (λ (h : Function). h.name) e))
    ∙ ap (λ (h : Function). Some (bare_function h)) e
function_found (g ∷ gs) f apart (inr at) = go (function_found gs f apart.1 at) (bytes_eq g.name f.name) refl
  where
    go : find (λ (b : bare.Function). bytes_eq b.name f.name) (map bare_function gs) ≡ Some (bare_function f) → (b : Bool) → bytes_eq g.name f.name ≡ b
        → (if b then Some (bare_function g) else find (λ (b : bare.Function). bytes_eq b.name f.name) (map bare_function gs)) ≡ Some (bare_function f)
    go less false e = less
    go less true e =
        absurd (apart.0 (contains_of (map (λ (h : Function). h.name) gs) g.name
        (subst (λ k. In k (map (λ (h : Function). h.name) gs)) (sym ((bytes_eq-Decides g.name f.name).0 e)) (in_map (λ (h : Function). h.name) gs f at))))

-- what the meaning finds is a function of the program
pub record FoundAs (p : Program) (n : List ℕ) (g : bare.Function) : Type 0 where
  pub place : ℕ
  pub function : Function
  pub listed : Listed p (place, function)
  pub named : function.name ≡ n
  pub is : bare_function function ≡ g

pub found_listed : (p : Program) (n : List ℕ) (g : bare.Function) → function_named (bare_program p) n ≡ Some g → FoundAs p n g
found_listed p n g e = by p.functions 0 (λ f at. at) e
  where
    by : (fs : List Function) (k : ℕ) → ((f : ℕ × Function) → In f (enumerate_from k fs) → In f (enumerate_from 0 p.functions)) → find (λ (b : bare.Function). bytes_eq b.name n) (map bare_function fs) ≡ Some g → FoundAs p n g
    by [] k all h = absurd (cc h)
    by (f ∷ fs) k all h = go (bytes_eq f.name n) refl h (λ t. by fs (k + 1) (λ h at. all h (inr at)) t)
      where
        go : (b : Bool) → bytes_eq f.name n ≡ b → (if b then Some (bare_function f) else find (λ (b : bare.Function). bytes_eq b.name n) (map bare_function fs)) ≡ Some g
            → (find (λ (b : bare.Function). bytes_eq b.name n) (map bare_function fs) ≡ Some g → FoundAs p n g) → FoundAs p n g
        go true name t later = record { place = k; function = f; listed = contains_of (enumerate_from 0 p.functions) (k, f) (all (k, f) (inl refl)); named = (bytes_eq-Decides f.name n).0 name; is = cc t }
        go false name t later = later t

pub names_apart : (p : Program) (mode : Mode) → KeepsRules p mode → Apart (function_names p)
names_apart p mode keeps = apart_right (names (fixed p)) (function_names p) (subst Apart (names_split p) (apart_kept p mode keeps))

pub main_there : (p : Program) (mode : Mode) → KeepsRules p mode → HasMain p
main_there p mode keeps = by (from_any is_main p.functions (has_main p (no_lines (no_main p) (keeps rule.NoMain))))
  where
    at_place : (f : Function) → In f p.functions → is_main f ≡ true → Placed (enumerate_from 0 p.functions) f → HasMain p
    at_place f at is (placed j among) = record {
      place = j;
      function = f;
      listed = contains_of (enumerate_from 0 p.functions) (j, f) among;
      named = (bytes_eq-Decides f.name main_name).0 is;
      body = ap (λ o. unwrap_or (option_map (λ (b : bare.Function). b.body) o) bare.Nil) (main_found p.functions f (names_apart p mode keeps) at is);
    }

    by : Passing is_main p.functions → HasMain p
    by (passing f at is) = at_place f at is (place_in 0 p.functions f at)
