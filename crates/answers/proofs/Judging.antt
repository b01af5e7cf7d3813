-- What is used of the laws of the rules.
use Rattle.std.proofs.Common.{◌≡◌, ℕ}
use Rattle.c_tree.specs.declared.program.Mode.{Mode}
use Rattle.c_tree.specs.Lined.{Program}
use Rattle.c_rules.specs.declared.rule.Rule.{Rule}
use Rattle.c_rules.specs.declared.rule.Count.{Count}
use Rattle.c_rules.specs.Formed.{FirstBreak, Judged}
use Rattle.c_rules.specs.Counts.{FirstPassed}

-- each program has a judgement, and one alone
pub record RuleLaws : Type 0 where
  pub judged : (p : Program) (mode : Mode) → Judged p mode
  pub one_break : (p : Program) (mode : Mode) (r s : Rule) (a b : ℕ) → FirstBreak p mode r a → FirstBreak p mode s b → (r ≡ s) × (a ≡ b)
  pub one_passed : (p : Program) (a b : Count) → FirstPassed p a → FirstPassed p b → a ≡ b
