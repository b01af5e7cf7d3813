-- A sample: a monitor that is put into a program with a wait and a trylock.
use Rattle.std.specs.Prelude.{◌≡◌, List, [], ◌∷◌, codes}
use Rattle.c_tree.specs.declared.program.Mode.TheVariants as mode
use Rattle.c_tree.specs.Lined.{Stmt, Program, Lock, TryLock, Unlock, Wait, Take, Give}
use Rattle.c_rules.specs.Samples.{Only, all_breaks, single, statements, with_run, with_monitors}
use Rattle.kept_rules.specs.Uses.{IsPutInto}

-- it locks and waits, and then tries
abbrev pub before_it : List Stmt
before_it =
    Lock 31 (single (codes "a")) ∷ Wait 32 (single (codes "c")) (single (codes "a")) [] ∷ Unlock 33 (single (codes "a"))
    ∷ TryLock 34 (single (codes "a")) (statements (Unlock 35 (single (codes "a")) ∷ [])) (statements []) ∷ []

-- takes stand before the lock and the trylock and in the wait, and gives behind the unlocks and first in the other arm
abbrev pub with_it : List Stmt
with_it =
    Take 31 0 ∷ Lock 31 (single (codes "a")) ∷ Wait 32 (single (codes "c")) (single (codes "a")) (0 ∷ []) ∷ Unlock 34 (single (codes "a")) ∷ Give 34 0
    ∷ Take 35 0 ∷ TryLock 35 (single (codes "a")) (statements (Unlock 36 (single (codes "a")) ∷ Give 36 0 ∷ [])) (statements (Give 37 0 ∷ [])) ∷ []

abbrev pub plain : Program
plain = with_run before_it

-- the monitor has a capacity of 1
abbrev pub monitored : Program
monitored = with_monitors (with_run with_it) 1 (1 ∷ [])

-- neither breaks a rule, and the one is the other with a monitor put in
pub record PutSample : Type 0 where
  pub keeps : Only plain []
  pub put : IsPutInto monitored plain
  pub kept : all_breaks monitored mode.Any ≡ []
