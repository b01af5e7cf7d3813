-- Moved weights of a set.
use Rattle.std.proofs.Common.{ℕ, ◌<◌, ◌≤◌, Bool, sym, ◌∙◌, subst, ⊎_elim, arith}
use Rattle.std.specs.Prelude.{IsTrue}
use Rattle.net_laws.specs.Net.{Net}
use Rattle.net_laws.specs.Lines.{tokens_of}
use Rattle.weight_laws.specs.Flow.{IsFlow}
use Rattle.weight_laws.specs.Weights.{IsMarked, IsMovedFrom, IsMoved, IsEntry}
use Rattle.weight_laws.proofs.Capacity.{moved_below}
use Rattle.monitor_synth.specs.Weighed.{AreWeights}

-- weights of a set that are moved are its moved weights
pub moved_of : (n : Net) (R : ℕ → Bool) (w m : ℕ → ℕ) → (a : AreWeights n R w) → IsMovedFrom n w m → IsMoved n R a.marks m
moved_of n R w m a moved = record {
  bound = λ k p q path. subst (λ x. x ≤ m p) (a.exact q) (moved.bound k p q path);
  met = λ p. let r = moved.met p in (r.0, r.1, r.2, sym (a.exact r.1) ∙ r.3);
}

-- no entry weight reaches the tokens of the set
pub entry_below : (n : Net) (R S : ℕ → Bool) (m entry : ℕ → ℕ) → IsFlow n → IsMarked n R S → IsMoved n R S m → IsEntry n m entry → ((r : ℕ) × IsTrue (R r)) → (p : ℕ) → p < n.points → entry p < tokens_of n R
entry_below n R S m entry flow marked moved is some p lt =
    ⊎_elim
    (λ own. omega (arith, own, moved_below n R S m flow marked moved some p lt))
    (λ d. omega (arith, d.3, moved_below n R S m flow marked moved some d.0.to (flow.shaped.leads d.0 d.1).1))
    (is.met p)
