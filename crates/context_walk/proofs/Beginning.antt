-- How threads begin, one after the other.
use Rattle.std.proofs.Common.{◌≡◌, ℕ, ◌+◌, ◌<◌, ◌≤◌, Bool, true, false, List, [], ◌∷◌, ◌++◌, length, get_or, drop, reverse, refl, sym, ap, subst, ◌∙◌, Some, None, arith, cond, inl, inr, map, zero-add}
use Rattle.std.specs.Prelude.{ℤ, ◌||◌, bytes_eq, slice_get, option_map}
use Rattle.std.specs.declared.option.Option.{Option}
use Rattle.std.specs.List.{enumerate_from}
use Rattle.std.proofs.lemmas.List.{drop_more, drop_all}
use Rattle.std.proofs.Math.Seq.{take-length}
use Rattle.std.proofs.lemmas.Option.{some_pair_parts, slice_get_cases, slice_get-map}
use Rattle.c_tree.specs.declared.program.Function as declared_function
use Rattle.c_tree.specs.declared.stmt.Stmt as declared_stmt
use Rattle.c_tree.specs.Bare.{Stmt, Stmts, Nil, Cons, Create}
use Rattle.c_tree.specs.Everywhere.{Everywhere}
use Rattle.c_tree.specs.Expressions.{Expr}
use Rattle.c_tree.specs.Lined.{Function, Program, bare_function, bare_program, bare_stmts, function_of}
use Rattle.c_tree.specs.Numbering.{creations_of, main_body, main_name}
use Rattle.c_tree.specs.Values.{constant}
use Rattle.c_meaning.specs.Numbers.{HasSmallNumbers}
use Rattle.c_meaning.specs.Shown.{shown_body, shown_stmt}
use Rattle.c_rules.proofs.Members.{In, in_of}
use Rattle.contexts.specs.Walk.{Walked, Found, Unresolved, TooMany, then_walk}
use Rattle.rule_facts.specs.FromLast.{from_last, function_in, named_in, StartsNamed}
use Rattle.rule_facts.specs.Regular.{Regular}
use Rattle.rule_facts.proofs.Behind.{regular_names}
use Rattle.rule_facts.proofs.Places.{listed_at, one_at}
use Rattle.outlines.specs.Outline.{Thread}
use Rattle.context_items.specs.Flat.{flat_above, flat_starts}
use Rattle.context_items.specs.Marks as spec
use Rattle.context_items.specs.Marks.{marks_of}
use Rattle.state_parts.specs.Small.{IsSmall}
use Rattle.context_walk.specs.declared.functions.Functions.{Functions}
use Rattle.context_walk.specs.declared.marks.Contexts.{Contexts}
use Rattle.context_walk.specs.declared.marks.ContextError.{ContextError}
use Rattle.context_walk.specs.declared.marks.ContextError.TheVariants.{LockNotResolved, TooManyContexts, Memory}
use Rattle.context_walk.specs.Found.{marks_in, contexts_of, AreContexts, Finds, IsRefusal}
use Rattle.context_walk.specs.Places.{entered_at, first_functions, place_at}
use Rattle.context_walk.specs.Prepared.{count_in, placed, program_in, ArePrepared}
use Rattle.context_walk.specs.Starts.{all_above, begins, begun_by, created}
use Rattle.context_walk.specs.Walking.{Continues}
use Rattle.context_walk.proofs.Above.{StandsAt, stands}
use Rattle.context_walk.proofs.Preparing.{same_some}
use Rattle.context_walk.proofs.Walking.{Walk, refused_first}

-- ---- functions by name

-- all functions stand above the end
all_functions : (p : Program) → first_functions (length p.functions) p ≡ from_last p
all_functions p = ap (λ fs. reverse (enumerate_from 0 fs)) (take-length p.functions)

none_named : (fs : List (ℕ × Function)) (name : List ℕ) → option_map (λ (f : ℕ × Function). f.0) (function_in fs name) ≡ None → named_in fs name ≡ false
none_named [] name none = refl
none_named (f ∷ fs) name none = go (bytes_eq f.1.name name) none (none_named fs name)
  where
    go : (b : Bool) → option_map (λ (g : ℕ × Function). g.0) (cond b (Some f) (function_in fs name)) ≡ None → (option_map (λ (g : ℕ × Function). g.0) (function_in fs name) ≡ None → named_in fs name ≡ false)
        → (b || named_in fs name) ≡ false
    go true e later = absurd (cc e)
    go false e later = later e

module _ (q : Functions) (ready : ArePrepared q) (name : List ℕ) where
  placed_last : placed q.places name ≡ place_at (program_in q) (length (program_in q).functions) name
  placed_last = ready.so_far.places name ∙ ap (λ k. place_at (program_in q) k name) ready.all

  -- a name that is there has a place
  pub named_somewhere : named_in (from_last (program_in q)) name ≡ true → placed q.places name ≡ None → ⊥
  named_somewhere named none =
      let missing : named_in (from_last (program_in q)) name ≡ false =
      none_named (from_last (program_in q)) name (ap (λ fs. option_map (λ (f : ℕ × Function). f.0) (function_in fs name)) (sym (all_functions (program_in q))) ∙ sym placed_last ∙ none) in
      let bad : true ≡ false = sym named ∙ missing in cc bad

-- the last function of a name, as a thread begins with it
pub record BeginsAt (q : Functions) (name : List ℕ) (k : ℕ) : Type 0 where
  pub f : Function
  pub at : slice_get (program_in q).functions k ≡ Some f
  pub within : k < count_in q
  pub enters : (args : List (Option ℤ)) (n : List ℕ) → (all_above (program_in q)).enter name args n ≡ entered_at (program_in q) k f args n

pub begins_at : (q : Functions) → ArePrepared q → (name : List ℕ) (k : ℕ) → placed q.places name ≡ Some k → BeginsAt q name k
begins_at q ready name k at =
    let p : Program = program_in q in
    let there : StandsAt p (length p.functions) name k = stands p (length p.functions) name k (omega arith) (sym (placed_last q ready name) ∙ at) in
    record {
      f = there.f;
      at = there.at;
      within = let above : k < length p.functions = there.above in let same : count_in q ≡ length p.functions = ready.all in omega arith;
      enters = λ args n. ap (λ fs. (flat_above (bare_program p) fs).enter name args n) (sym (all_functions p)) ∙ there.enters args n;
    }

-- ---- create statements

pub begun_first : (s : Stmt) (name : List ℕ) (arg : Expr) → created s ≡ Some (name, arg) → (more : Stmts) → begun_by (Cons s more) ≡ (name, constant arg ∷ []) ∷ begun_by more
begun_first (Create slot function given) name arg is more =
    let parts = some_pair_parts function name given arg is in
    ap (λ f. (f, constant given ∷ []) ∷ begun_by more) parts.0 ∙ ap (λ e. (name, constant e ∷ []) ∷ begun_by more) parts.1
begun_first s name arg is more = absurd (cc is)

pub begun_same : (s : Stmt) → created s ≡ None → (more : Stmts) → begun_by (Cons s more) ≡ begun_by more
begun_same (Create slot function given) is more = absurd (cc is)
begun_same s is more = refl

pub created_named : (named : List ℕ → Bool) (s : Stmt) (name : List ℕ) (arg : Expr) → created s ≡ Some (name, arg) → StartsNamed named (creations_of (Cons s Nil)) → named name ≡ true
created_named named (Create slot function given) name arg is ok = ap named (sym (some_pair_parts function name given arg is).0) ∙ ok.0
created_named named s name arg is ok = absurd (cc is)

pub created_small : (s : Stmt) (name : List ℕ) (arg : Expr) → created s ≡ Some (name, arg) → IsSmall s → HasSmallNumbers arg
created_small (Create slot function given) name arg is small = subst HasSmallNumbers (some_pair_parts function name given arg is).1 small.2
created_small s name arg is small = absurd (cc is)

pub starts_split : (named : List ℕ → Bool) (s : Stmt) (rest : Stmts) → StartsNamed named (creations_of (Cons s rest)) → StartsNamed named (creations_of (Cons s Nil)) × StartsNamed named (creations_of rest)
starts_split named (Create slot function given) rest ok = ((ok.0, tt), ok.1)
starts_split named s rest ok = (tt, ok)

pub next_created : (body : List declared_stmt.Stmt) (i : ℕ) (s : declared_stmt.Stmt) → i < length body → s ≡ get_or body i s → shown_body (drop i body) ≡ Cons (shown_stmt s) (shown_body (drop (i + 1) body))
next_created body i s within is = ap shown_body (drop_more body i s within ∙ ap (λ x. x ∷ drop (i + 1) body) (sym is))

pub none_created : (body : List declared_stmt.Stmt) (i : ℕ) → length body ≤ i → shown_body (drop i body) ≡ Nil
none_created body i past = ap shown_body (drop_all i body past)

-- ---- threads

module _ (p : Program) (starts : List (List ℕ × List (Option ℤ))) (name : List ℕ) (args : List (Option ℤ)) where
  pub first_begun : (old new : Contexts) → Finds ((all_above p).enter name args (contexts_of old)) old new → Continues (begins p ((name, args) ∷ starts) old) (begins p starts new) old new
  first_begun old new finds = record {
    marks = finds.marks;
    grown = finds.grown;
    found = ap (λ w. then_walk w (λ ms m. then_walk (flat_starts (all_above p) starts m) (λ more k. Found (ms ++ more) k))) finds.found;
  }

  pub first_refused : (e : ContextError) (old : Contexts) → IsRefusal e ((all_above p).enter name args (contexts_of old)) → IsRefusal e (begins p ((name, args) ∷ starts) old)
  first_refused e old refused =
      refused_first e ((all_above p).enter name args (contexts_of old)) (λ ms m. then_walk (flat_starts (all_above p) starts m) (λ more k. Found (ms ++ more) k)) refused

-- ---- main

-- the function that is named main, at its place
pub main_at : (q : Functions) → ArePrepared q → Regular (program_in q) → (k : ℕ) (f : Function) → placed q.places main_name ≡ Some k → slice_get (program_in q).functions k ≡ Some f
    → bare_stmts f.body ≡ main_body (bare_program (program_in q))
main_at q ready regular k f at is =
    let p : Program = program_in q in
    let found : function_in (from_last p) main_name ≡ Some (regular.main.place, regular.main.function) =
    ap (function_in (from_last p)) (sym regular.main.named) ∙ (regular_names p regular).found (regular.main.place, regular.main.function) regular.main.listed in
    let place : Some k ≡ Some regular.main.place =
    sym at ∙ placed_last q ready main_name ∙ ap (λ fs. option_map (λ (g : ℕ × Function). g.0) (function_in fs main_name)) (all_functions p) ∙ ap (option_map (λ (g : ℕ × Function). g.0)) found in
    let same : regular.main.place ≡ k = sym (number k regular.main.place place) in
    let one : f ≡ regular.main.function =
    one_at 0 p.functions k f regular.main.function (subst (λ j. In (j, f) (enumerate_from 0 p.functions)) (zero-add k) (listed_at 0 k p.functions f is))
    (subst (λ j. In (j, regular.main.function) (enumerate_from 0 p.functions)) same (in_of (enumerate_from 0 p.functions) (regular.main.place, regular.main.function) regular.main.listed)) in
    ap (λ (g : Function). bare_stmts g.body) one ∙ sym regular.main.body
  where
    number : (a b : ℕ) → ◌≡◌ {A = Option ℕ} (Some a) (Some b) → a ≡ b
    number a b e = cc e

-- the statements of a function have small numbers
pub body_small : (functions : List declared_function.Function) → ((k : ℕ) (f : declared_function.Function) → slice_get functions k ≡ Some f → Everywhere IsSmall (bare_function (function_of f)).body)
    → (k : ℕ) (g : Function) → slice_get (map function_of functions) k ≡ Some g → Everywhere IsSmall (bare_stmts g.body)
body_small functions small k g at = elim (slice_get_cases functions k).1 [
  | inl here ↦
      subst (λ (f : Function). Everywhere IsSmall (bare_stmts f.body)) (same_some (slice_get (map function_of functions) k) (function_of here.0) g (slice_get-map function_of functions k ∙ ap (option_map function_of) here.2) at)
      (small k here.0 here.2)
  | inr past ↦ absurd (
      let none : slice_get (map function_of functions) k ≡ None = slice_get-map function_of functions k ∙ ap (option_map function_of) past.1 in
      let bad : None ≡ Some g = sym none ∙ at in cc bad)
]

-- ---- outlines

-- what is found along items is found through statements
pub outlined : (w : Walked (List Thread)) (v : Walk) (old new : Contexts) → v ≡ then_walk w (λ es n. Found (marks_of es) n) → marks_in old ≡ [] → Finds v old new → AreContexts w new
outlined (Found es n) v old new same none finds = record {
  threads = es;
  marks = finds.grown ∙ ap (λ ms. ms ++ finds.marks) none ∙ (found_parts finds.marks (marks_of es) (contexts_of new) n (sym finds.found ∙ same)).0;
  found = ap (Found es) (sym (found_parts finds.marks (marks_of es) (contexts_of new) n (sym finds.found ∙ same)).1);
}
  where
    found_parts : (a b : List spec.Mark) (m n : List ℕ) → ◌≡◌ {A = Walk} (Found a m) (Found b n) → (a ≡ b) × (m ≡ n)
    found_parts a b m n e = (cc e, cc e)
outlined (Unresolved line) v old new same none finds = absurd (let bad : Unresolved line ≡ Found finds.marks (contexts_of new) = sym same ∙ finds.found in cc bad)
outlined TooMany v old new same none finds = absurd (let bad : TooMany ≡ Found finds.marks (contexts_of new) = sym same ∙ finds.found in cc bad)

pub not_outlined : (e : ContextError) (w : Walked (List Thread)) (v : Walk) → v ≡ then_walk w (λ es n. Found (marks_of es) n) → IsRefusal e v → IsRefusal e w
not_outlined Memory w v same refused = tt
not_outlined (LockNotResolved line) (Found es n) v same refused = absurd (let bad : Unresolved line ≡ Found (marks_of es) n = sym refused ∙ same in cc bad)
not_outlined (LockNotResolved line) (Unresolved other) v same refused = let is : ◌≡◌ {A = Walk} (Unresolved other) (Unresolved line) = sym same ∙ refused in ap Unresolved (line_same other line is)
  where
    line_same : (a b : ℕ) → ◌≡◌ {A = Walk} (Unresolved a) (Unresolved b) → a ≡ b
    line_same a b e = cc e
not_outlined (LockNotResolved line) TooMany v same refused = absurd (let bad : Unresolved line ≡ TooMany = sym refused ∙ same in cc bad)
not_outlined TooManyContexts (Found es n) v same refused = absurd (let bad : TooMany ≡ Found (marks_of es) n = sym refused ∙ same in cc bad)
not_outlined TooManyContexts (Unresolved line) v same refused = absurd (let bad : TooMany ≡ Unresolved line = sym refused ∙ same in cc bad)
not_outlined TooManyContexts TooMany v same refused = refl
