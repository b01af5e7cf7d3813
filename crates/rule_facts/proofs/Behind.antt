-- The functions from the last call only those behind them.
use Rattle.std.proofs.Common.{Bool, List, [], ap, arith, false, inl, inr, refl, subst, suc, sym, true, ℕ, ◌++◌, ◌+◌, ◌<◌, ◌||◌, ◌∙◌, ◌∷◌, ◌≡◌, ◌⊎◌}
use Rattle.std.specs.Prelude.{Contains, Some, bytes_eq, if◌then◌else◌, reverse, slice_get}
use Rattle.std.specs.List.{enumerate_from}
use Rattle.std.proofs.lemmas.Slice.Eq.{bytes_eq-Decides}
use Rattle.std.proofs.lemmas.List.{append-nil, append_assoc}
use Rattle.std.proofs.lemmas.Bool.{cases_eq}
use Rattle.std.proofs.lemmas.Grind.{reverse_onto}
use Rattle.c_tree.specs.Lined.{Call, Function, Program, Stmt, bare_program, bare_stmt, bare_stmts}
use Rattle.c_tree.specs.Numbering.{Creation, creations, main_name}
use Rattle.c_tree.specs.Everywhere.{Everywhere}
use Rattle.c_rules.specs.Using.{calls}
use Rattle.c_rules.proofs.Members.{In, contains_of, in_append_left, in_append_right, in_of}
use Rattle.rule_facts.proofs.Everything.{each_from, everywhere_from}
use Rattle.rule_facts.proofs.Places.{one_at}
use Rattle.rule_facts.proofs.Ruled.{regular}
use Rattle.rule_facts.specs.FromLast.{CallsBehind, CallsNamed, HasRegularNames, StartsNamed, from_last, function_in, named_in}
use Rattle.rule_facts.specs.Regular.{Regular}
use Rattle.rule_facts.specs.Statements.{CallsAbove}

-- the functions of p before a place, the last first
record Stacked (p : Program) (k : ℕ) (above : List (ℕ × Function)) : Type 0 where
  pub here : (f : ℕ × Function) → In f above → In f (enumerate_from 0 p.functions) × (f.0 < k)
  pub all : (f : ℕ × Function) → In f (enumerate_from 0 p.functions) → f.0 < k → In f above

pub named_of : (fs : List (ℕ × Function)) (f : ℕ × Function) (name : List ℕ) → In f fs → f.1.name ≡ name → named_in fs name ≡ true
named_of [] f name at e = absurd at
named_of (g ∷ fs) f name (inl same_one) e = ap (λ b. b || named_in fs name) ((bytes_eq-Decides g.1.name name).1 (ap (λ (h : ℕ × Function). h.1.name) same_one ∙ e))
named_of (g ∷ fs) f name (inr at) e = go (bytes_eq g.1.name name) (named_of fs f name at e)
  where
    go : (b : Bool) → named_in fs name ≡ true → (b || named_in fs name) ≡ true
    go true h = refl
    go false h = h

none_named_in : (fs : List (ℕ × Function)) (name : List ℕ) → ((f : ℕ × Function) → In f fs → f.1.name ≡ name → ⊥) → named_in fs name ≡ false
none_named_in [] name free = refl
none_named_in (g ∷ fs) name free = go (none_named_in fs name (λ f at. free f (inr at))) (bytes_eq g.1.name name) refl
  where
    go : named_in fs name ≡ false → (b : Bool) → bytes_eq g.1.name name ≡ b → (b || named_in fs name) ≡ false
    go less true e = absurd (free g (inl refl) ((bytes_eq-Decides g.1.name name).0 e))
    go less false e = less

-- what a call names is among the functions above
calls_named : (p : Program) (k : ℕ) (above : List (ℕ × Function)) → Stacked p k above → (s : Stmt) → CallsAbove p k (bare_stmt s) → CallsNamed (named_in above) (bare_stmt s)
calls_named p k above stack (Call line target name args) c =
    named_of above (c.place, c.function) name (stack.all (c.place, c.function) (in_of (enumerate_from 0 p.functions) (c.place, c.function) c.listed) c.above) c.named
calls_named p k above stack s c = tt

calls_stacked : (p : Program) → Regular p → (f : ℕ × Function) → In f (enumerate_from 0 p.functions) → (above : List (ℕ × Function)) → Stacked p f.0 above → Everywhere (CallsNamed (named_in above)) (bare_stmts f.1.body)
calls_stacked p regular f at above stack =
    everywhere_from (CallsNamed (named_in above)) f [] f.1.params f.1.body
    (λ x here. calls_named p f.0 above stack x.stmt
    (each_from (CallsAbove p f.0) f [] f.1.params f.1.body (regular.calls f (contains_of (enumerate_from 0 p.functions) f at)) x here))

less_than : (a : ℕ) → a < a → ⊥
less_than a h = omega arith

name_new : (p : Program) → Regular p → (f : ℕ × Function) → In f (enumerate_from 0 p.functions) → (above : List (ℕ × Function)) → Stacked p f.0 above → named_in above f.1.name ≡ false
name_new p regular f at above stack = none_named_in above f.1.name (λ g among e.
    let k = stack.here g among in
    let one = regular.names g.0 f.0 g.1 f.1 (contains_of (enumerate_from 0 p.functions) g k.0) (contains_of (enumerate_from 0 p.functions) f at) e in
    less_than f.0 (subst (λ j. j < f.0) one.0 k.1))

at_most : (a b : ℕ) → a < b + 1 → (a < b) ⊎ (a ≡ b)
at_most a b h = elim (cases_eq a b) [ inl e ↦ inr e | inr n ↦ inl (grind arith) ]

more_than : (a b : ℕ) → a < b → a < b + 1
more_than a b h = omega arith

one_more : (k : ℕ) → k < k + 1
one_more k = omega arith

stack_more : (p : Program) (k : ℕ) (f : Function) (above : List (ℕ × Function)) → In (k, f) (enumerate_from 0 p.functions) → Stacked p k above → Stacked p (k + 1) ((k, f) ∷ above)
stack_more p k f above at stack = record {
  here = λ g among. elim among [
    | inl e ↦ subst (λ (h : ℕ × Function). In h (enumerate_from 0 p.functions) × (h.0 < k + 1)) e (at, one_more k)
    | inr h ↦ let m = stack.here g h in (m.0, more_than g.0 k m.1)
  ];
  all = λ g among less. elim (at_most g.0 k less) [
    | inl l ↦ inr (stack.all g among l)
    | inr e ↦ inl (λ i. (sym e i, one_at 0 p.functions k f g.1 at (subst (λ j. In (j, g.1) (enumerate_from 0 p.functions)) e among) i))
  ];
}

reverse_step : {X : Type 0} (x : X) (xs ys : List X) → reverse (x ∷ xs) ++ ys ≡ reverse xs ++ x ∷ ys
reverse_step x xs ys = ap (λ zs. zs ++ ys) (reverse_onto xs x []) ∙ append_assoc (reverse xs) (x ∷ []) ys

-- the functions from a place on, upon those before
behind_all : (p : Program) → Regular p → (k : ℕ) (fs : List Function) (above : List (ℕ × Function)) → ((f : ℕ × Function) → In f (enumerate_from k fs) → In f (enumerate_from 0 p.functions)) → Stacked p k above
    → CallsBehind above → CallsBehind (reverse (enumerate_from k fs) ++ above)
behind_all p regular k [] above all stack calls = calls
behind_all p regular k (f ∷ fs) above all stack calls =
    let at = all (k, f) (inl refl) in
    subst CallsBehind (sym (reverse_step (k, f) (enumerate_from (k + 1) fs) above))
    (behind_all p regular (k + 1) fs ((k, f) ∷ above) (λ g among. all g (inr among)) (stack_more p k f above at stack)
    (calls_stacked p regular (k, f) at above stack, name_new p regular (k, f) at above stack, calls))

nothing_below : (a : ℕ) → a < 0 → ⊥
nothing_below a h = omega arith

pub calls_behind : (p : Program) → Regular p → CallsBehind (from_last p)
calls_behind p regular =
    subst CallsBehind (append-nil (from_last p))
    (behind_all p regular 0 p.functions [] (λ f at. at) (record { here = λ f at. absurd at; all = λ f at less. absurd (nothing_below f.0 less) }) tt)

-- ---- functions by name

in_reversed : {X : Type 0} (xs : List X) (x : X) → In x xs → In x (reverse xs)
in_reversed [] x h = absurd h
in_reversed (z ∷ xs) x (inl e) = subst (In x) (sym (reverse_onto xs z [])) (in_append_right (reverse xs) (z ∷ []) x (inl e))
in_reversed (z ∷ xs) x (inr h) = subst (In x) (sym (reverse_onto xs z [])) (in_append_left (reverse xs) (z ∷ []) x (in_reversed xs x h))

found_in : (fs : List (ℕ × Function)) → CallsBehind fs → (f : ℕ × Function) → In f fs → function_in fs f.1.name ≡ Some f
found_in [] calls f at = absurd at
found_in (g ∷ fs) calls f (inl e) =
    ap (λ b. if b then Some g else function_in fs f.1.name) ((bytes_eq-Decides g.1.name f.1.name).1 (ap (λ (h : ℕ × Function). h.1.name) e)) ∙ ap (λ (h : ℕ × Function). Some h) e
found_in (g ∷ fs) calls f (inr at) = go (found_in fs calls.2 f at) (bytes_eq g.1.name f.1.name) refl
  where
    go : function_in fs f.1.name ≡ Some f → (b : Bool) → bytes_eq g.1.name f.1.name ≡ b → (if b then Some g else function_in fs f.1.name) ≡ Some f
    go less false e = less
    go less true e =
        let k : named_in fs g.1.name ≡ true = named_of fs f g.1.name at (sym ((bytes_eq-Decides g.1.name f.1.name).0 e)) in
        let m : true ≡ false = sym k ∙ calls.1 in absurd (cc m)

listed_last : (p : Program) (f : ℕ × Function) → In f (enumerate_from 0 p.functions) → In f (from_last p)
listed_last p f at = in_reversed (enumerate_from 0 p.functions) f at

starts_named : (p : Program) (cs : List Creation) → ((k : ℕ) (c : Creation) → slice_get cs k ≡ Some c → named_in (from_last p) c.function ≡ true) → StartsNamed (named_in (from_last p)) cs
starts_named p [] all = tt
starts_named p (c ∷ cs) all = (all 0 c refl, starts_named p cs (λ k d e. all (suc k) d e))

pub regular_names : (p : Program) → Regular p → HasRegularNames p
regular_names p regular = record {
  calls = calls_behind p regular;
  found = λ f at. found_in (from_last p) (calls_behind p regular) f (listed_last p f (in_of (enumerate_from 0 p.functions) f at));
  main = named_listed regular.main.place regular.main.function main_name regular.main.listed regular.main.named;
  starts = starts_named p (creations (bare_program p)) (λ k c e. let s = (regular.created k c e).starts in named_listed s.place s.function c.function s.listed s.named);
}
  where
    named_listed : (place : ℕ) (f : Function) (name : List ℕ) → Contains (enumerate_from 0 p.functions) (place, f) → f.name ≡ name → named_in (from_last p) name ≡ true
    named_listed place f name at e = named_of (from_last p) (place, f) name (listed_last p (place, f) (in_of (enumerate_from 0 p.functions) (place, f) at)) e
