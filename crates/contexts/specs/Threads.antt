-- That the threads of a program have outlines, and how their contexts are numbered.
use Rattle.std.specs.Prelude.{◌≡◌, ◌≤◌, ℕ, ℤ, suc, if◌then◌else◌, nat_eq, List, [], ◌∷◌, length, slice_get, Some, None, ⊤}
use Rattle.std.specs.declared.option.Option.{Option}
use Rattle.c_tree.specs.Lined.{Function, Program, bare_program}
use Rattle.outlines.specs.Outline.{Thread}
use Rattle.rule_facts.specs.FromLast.{from_last, function_in}
use Rattle.contexts.specs.Resolved.{passed, writes_of}
use Rattle.contexts.specs.Outlines.{context_limit, functions_above, starts}
use Rattle.contexts.specs.Outlined.{Code, Outlined}
use Rattle.contexts.specs.Numbered.{NumberedAll, after_all}

-- the place of a context's function, where contexts are listed by these places, the last first
abbrev pub context_in : List ℕ → ℕ → Option ℕ
context_in [] k = None
context_in (j ∷ n) k = if nat_eq k (length n) then Some j else context_in n k

-- a program with these contexts
abbrev pub code_of : Program → List ℕ → Code
code_of p places = record {
  program = bare_program p;
  function = function_in (from_last p);
  bears = (functions_above p).bears;
  context = context_in places;
}

-- a thread that begins with this function and these arguments, as the context n
pub record IsThread (code : Code) (name : List ℕ) (args : List (Option ℤ)) (n : ℕ) (e : Thread) : Type 0 where
  pub place : ℕ
  pub f : Function
  pub is : code.function name ≡ Some (place, f)
  pub line : e.line ≡ f.line
  pub end_line : e.end_line ≡ f.end_line
  pub context : e.context ≡ n
  pub known : code.context n ≡ Some place
  pub outlined : Outlined code (writes_of code.program f) (passed (writes_of code.program f) f.params args) (Some f.end_line) f.body e.body
  pub numbered : NumberedAll e.body (suc n)

-- threads that begin so have these outlines, whose contexts are numbered from n
abbrev pub Threads : Code → List (List ℕ × List (Option ℤ)) → List Thread → ℕ → Type 0
Threads code [] [] n = ⊤
Threads code [] (e ∷ es) n = ⊥
Threads code (s ∷ ss) [] n = ⊥
Threads code (s ∷ ss) (e ∷ es) n = IsThread code s.0 s.1 n e × Threads code ss es (after_all e.body (suc n))

-- the k-th of these threads begins so
pub record ThreadAt (code : Code) (start : List ℕ × List (Option ℤ)) (es : List Thread) (k : ℕ) : Type 0 where
  pub e : Thread
  pub n : ℕ
  pub at : slice_get es k ≡ Some e
  pub thread : IsThread code start.0 start.1 n e

-- the number behind the contexts of threads that are numbered from n
abbrev pub contexts_end : List Thread → ℕ → ℕ
contexts_end [] n = n
contexts_end (e ∷ es) n = contexts_end es (after_all e.body (suc n))

-- the threads of a program have these outlines, with as many contexts as may be, whose functions stand at these places, the last first
pub record Outlines (p : Program) (es : List Thread) (places : List ℕ) : Type 0 where
  pub threads : Threads (code_of p places) (starts p) es 0
  pub counted : length places ≡ contexts_end es 0
  pub few : length places ≤ context_limit
