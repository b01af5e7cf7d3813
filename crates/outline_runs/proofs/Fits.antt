-- What the outlines of a program say to its runs, for bodies of threads by their numbers.
use Rattle.std.proofs.Common.{◌≡◌, ℕ, zero, suc, ◌+◌, true, false, List, [], ◌∷◌, map, Option, Some, None, refl, sym, ap, ◌∙◌, subst, arith}
use Rattle.std.specs.Prelude.{ℤ, slice_get, unwrap_or, option_map}
use Rattle.std.specs.FinMap as finite
use Rattle.std.proofs.lemmas.Option.{same_Some}
use Rattle.c_tree.specs.Bare as bare
use Rattle.c_tree.specs.Everywhere.{Everywhere}
use Rattle.c_tree.specs.Expressions.{Expr, Place}
use Rattle.c_tree.specs.Values.{constant}
use Rattle.c_tree.specs.Numbering.{function_named, scalar_cell, main_name, main_body}
use Rattle.c_tree.specs.Lined.{Function, Program, bare_function}
use Rattle.c_meaning.specs.Calls as calls
use Rattle.outlines.specs.Outline.{Parts, Thread}
use Rattle.contexts.specs.Constants.{among}
use Rattle.contexts.specs.Resolved.{passed, writes_of}
use Rattle.contexts.specs.Outlined.{Code, IsCreation}
use Rattle.contexts.specs.Quiet.{IsQuiet}
use Rattle.contexts.specs.Threads.{code_of, IsThread, ThreadAt}
use Rattle.contexts.proofs.Runs.{passed_unwritten}
use Rattle.context_laws.proofs.ForRuns.{function_is, ints_among, quiet, main_thread, created_thread, started_agrees}
use Rattle.outline_runs.specs.Standing.{HasOutline}
use Rattle.outline_runs.specs.Moving.{body_of}
use Rattle.outline_runs.specs.Laws.{HasOutlines}

pub record Fits (code : Code) (bodies : ℕ → Parts) : Type 0 where
  -- the function that an outline enters is the one that a call runs
  pub same : (name : List ℕ) (f : ℕ × Function) → code.function name ≡ Some f → function_named code.program name ≡ Some (bare_function f.1)
  -- a function that bears no locks is quiet
  pub quiet : (name : List ℕ) (f : bare.Function) → code.bears name ≡ false → function_named code.program name ≡ Some f → Everywhere (IsQuiet code) f.body
  -- ints count as written into
  pub ints : (f : Function) (name : List ℕ) (cell : ℕ) → scalar_cell code.program name ≡ Some cell → among (writes_of code.program f) name ≡ true
  -- what a create statement begins has the outline of its thread
  pub begins : (slot : Place) (name : List ℕ) (arg : Expr) (c : IsCreation code.program slot name arg) (u : ℕ) (f : bare.Function) (z : ℤ) → u ≡ c.creation + 1
      → function_named code.program name ≡ Some f → constant arg ≡ Some z → (writes : List (List ℕ)) × HasOutline code writes (calls.passed f.params (z ∷ [])) f.body (bodies u)

pub body_found : (es : List Thread) (u : ℕ) (e : Thread) → slice_get es u ≡ Some e → body_of es u ≡ e.body
body_found [] u e is = absurd (cc is)
body_found (x ∷ es) zero e is = ap (λ (y : Thread). y.body) (same_Some x e is)
body_found (x ∷ es) (suc u) e is = body_found es u e is

module _ (p : Program) (es : List Thread) (places : List ℕ) (has : HasOutlines p es places) where
  abbrev code : Code
  code = code_of p places

  -- a thread that begins with these values has its outline
  begun : (name : List ℕ) (values : List ℤ) (u : ℕ) (th : ThreadAt code (name, map (λ z. Some z) values) es u)
      → HasOutline code (writes_of code.program th.thread.f) (calls.passed th.thread.f.params values) (bare_function th.thread.f).body (body_of es u)
  begun name values u th =
      let f = th.thread.f in
      let writes = writes_of code.program f in
      subst (HasOutline code writes (calls.passed f.params values) (bare_function f).body) (sym (body_found es u th.e th.at)) (record {
        known = passed writes f.params (map (λ z. Some z) values);
        end_line = f.end_line;
        left = f.body;
        todo_is = refl;
        outlined = th.thread.outlined;
        agrees = started_agrees writes f.params values;
        scoped = record { unwritten = λ q there. passed_unwritten writes f.params (map (λ z. Some z) values) q there; cells = λ q cell is. ints_among code.program f q cell is };
      })

  -- the function that a thread begins with
  begun_is : (name : List ℕ) (args : List (Option ℤ)) (n : ℕ) (e : Thread) (th : IsThread code name args n e) → function_named code.program name ≡ Some (bare_function th.f)
  begun_is name args n e th = (function_is p has.regular name (th.place, th.f) th.is).2

  creates : (slot : Place) (name : List ℕ) (arg : Expr) (c : IsCreation code.program slot name arg) (u : ℕ) (f : bare.Function) (z : ℤ) → u ≡ c.creation + 1
      → function_named code.program name ≡ Some f → constant arg ≡ Some z → (writes : List (List ℕ)) × HasOutline code writes (calls.passed f.params (z ∷ [])) f.body (body_of es u)
  creates slot name arg c u f z at named value =
      let th : ThreadAt code (name, Some z ∷ []) es (suc c.creation) = subst (λ v. ThreadAt code (name, v ∷ []) es (suc c.creation)) value (created_thread p es places has.outlines slot name arg c) in
      let g = th.thread.f in
      let is : bare_function g ≡ f = same_Some (bare_function g) f (sym (begun_is name (Some z ∷ []) th.n th.e th.thread) ∙ named) in
      let one : suc c.creation ≡ u = omega (arith, at) in (
        writes_of code.program g,
        subst (λ v. HasOutline code (writes_of code.program g) (calls.passed f.params (z ∷ [])) f.body (body_of es v)) one
            (subst (λ (h : bare.Function). HasOutline code (writes_of code.program g) (calls.passed h.params (z ∷ [])) h.body (body_of es (suc c.creation))) is (begun name (z ∷ []) (suc c.creation) th)),
      )

  -- main begins with its outline
  pub main_begins : (writes : List (List ℕ)) × HasOutline code writes finite.empty (main_body code.program) (body_of es 0)
  main_begins =
      let th : ThreadAt code (main_name, []) es 0 = main_thread p es places has.outlines in
      let g = th.thread.f in
      let named = begun_is main_name [] th.n th.e th.thread in
      let body : main_body code.program ≡ (bare_function g).body = main_is (function_named code.program main_name) g named in (
        writes_of code.program g,
        subst (λ b. HasOutline code (writes_of code.program g) finite.empty b (body_of es 0)) (sym body)
            (subst (λ l. HasOutline code (writes_of code.program g) l (bare_function g).body (body_of es 0)) (none_passed g.params) (begun main_name [] 0 th)),
      )
    where
      main_is : (o : Option bare.Function) (g : Function) → o ≡ Some (bare_function g) → unwrap_or (option_map (λ f. f.body) o) bare.Nil ≡ (bare_function g).body
      main_is None g is = absurd (cc is)
      main_is (Some f) g is = ap (λ (h : bare.Function). h.body) (same_Some f (bare_function g) is)

      none_passed : (params : List (List ℕ)) → calls.passed params [] ≡ finite.empty
      none_passed [] = refl
      none_passed (name ∷ names) = refl

  pub fits : Fits code (body_of es)
  fits = record {
    same = λ name f is. (function_is p has.regular name f is).2;
    quiet = λ name f none named. quiet p places has.regular has.firsts name f named none;
    ints = λ f name cell is. ints_among code.program f name cell is;
    begins = creates;
  }
