-- The state in which a program starts.
use Rattle.std.proofs.Common.{◌≡◌, ◌≤◌, Bool, false, replicate, None, ℕ, zero, suc, List, [], ◌∷◌, length, map, Some, sym, ap, ◌∙◌, arith}
use Rattle.std.specs.Prelude.{ℤ, slice_get}
use Rattle.std.specs.declared.option.Option.{Option}
use Rattle.std.specs.FinMap as finite
use Rattle.std.proofs.lemmas.List.{length-replicate}
use Rattle.c_tree.specs.Bare as bare
use Rattle.c_tree.specs.Numbering.{main_body, mutex_count, thread_count, creations}
use Rattle.c_meaning.specs.State as run
use Rattle.c_steps.specs.Kept.{OwnBelow}
use Rattle.std.proofs.lemmas.Option.{same_Some}

pub started : (p : bare.Program) (input : List ℤ) (s : run.State) → s.cells ≡ run.first_cells p → s.input ≡ input → s.output ≡ [] → s.main_ended ≡ false → s.owners ≡ replicate (mutex_count p) None
    → s.tokens ≡ map (λ capacity. replicate (thread_count p) 0) p.monitors
    → s.threads ≡ run.Running (run.frame finite.empty (main_body p) ∷ []) ∷ replicate (length (creations p)) run.NotBegun → s ≡ run.start p input
started p input s cells given printed ended owners tokens threads =
    ap {A = List ℤ} (λ x. record s { cells = x }) cells
    ∙ ap {A = List ℤ} (λ x. record s { cells = run.first_cells p; input = x }) given
    ∙ ap {A = List ℕ} (λ x. record s { cells = run.first_cells p; input = input; output = x }) printed
    ∙ ap {A = Bool} (λ x. record s { cells = run.first_cells p; input = input; output = []; main_ended = x }) ended
    ∙ ap {A = List (Option ℕ)} (λ x. record s { cells = run.first_cells p; input = input; output = []; main_ended = false; owners = x }) owners
    ∙ ap {A = List (List ℕ)} (λ x. record s { cells = run.first_cells p; input = input; output = []; main_ended = false; owners = replicate (mutex_count p) None; tokens = x }) tokens
    ∙ ap {A = List run.Status} (λ x. record s {
      cells = run.first_cells p;
      input = input;
      output = [];
      main_ended = false;
      owners = replicate (mutex_count p) None;
      tokens = map (λ capacity. replicate (thread_count p) 0) p.monitors;
      threads = x;
    }) threads

-- nothing is owned, and no token is held
pub none_own : (n below : ℕ) (owners : List (Option ℕ)) → owners ≡ replicate n None → OwnBelow below owners
none_own n below owners none mutex u e = absurd (by n mutex (ap (λ l. slice_get l mutex) (sym none) ∙ e))
  where
    by : (n mutex : ℕ) → slice_get (replicate n None) mutex ≡ Some (Some u) → ⊥
    by zero mutex e = cc e
    by (suc n) zero e = cc e
    by (suc n) (suc mutex) e = by n mutex e

pub rows_of : (n : ℕ) (monitors : List ℕ) (rows : List (List ℕ)) → n ≤ 32 → rows ≡ map (λ capacity. replicate n 0) monitors → (monitor : ℕ) (row : List ℕ) → slice_get rows monitor ≡ Some row → length row ≤ 32
rows_of n monitors rows few are monitor row e = by monitors monitor (ap (λ l. slice_get l monitor) (sym are) ∙ e)
  where
    by : (monitors : List ℕ) (monitor : ℕ) → slice_get (map (λ capacity. replicate n 0) monitors) monitor ≡ Some row → length row ≤ 32
    by [] monitor e = absurd (cc e)
    by (m ∷ monitors) zero e = let same = same_Some (replicate n 0) row e in omega (arith, ap length same, length-replicate {A = ℕ} n 0)
    by (m ∷ monitors) (suc monitor) e = by monitors monitor e
