-- Which programs are well formed, and which rule is broken first in one that isn't.
use Rattle.std.specs.Prelude.{◌≡◌, ℕ, ◌<◌, ◌≤◌, ◌⊎◌, List, Contains}
use Rattle.c_tree.specs.declared.program.Mode.{Mode}
use Rattle.c_tree.specs.Lined.{Program}
use Rattle.c_rules.specs.declared.rule.Rule.{Rule}
use Rattle.c_rules.specs.declared.rule.Rule.TheVariants as rule
use Rattle.c_rules.specs.declared.rule.Count.{Count}
use Rattle.c_rules.specs.Naming.{reserved, long_names, declared_twice}
use Rattle.c_rules.specs.Using.{unknown_names, wrong_kinds, wrong_counts, recursions}
use Rattle.c_rules.specs.Threads.{no_main, create_not_fixed, join_not_fixed, arg_not_constant}
use Rattle.c_rules.specs.Objects.{init_late, out_of_range}
use Rattle.c_rules.specs.Counts.{amount, limit, FirstPassed}

-- the lines at which a rule is broken
abbrev pub broken_lines : Rule → Program → Mode → List ℕ
broken_lines rule.Reserved p mode = reserved mode p
broken_lines rule.LongName p mode = long_names mode p
broken_lines rule.Twice p mode = declared_twice p
broken_lines rule.Unknown p mode = unknown_names p
broken_lines rule.WrongKind p mode = wrong_kinds p
broken_lines rule.WrongCount p mode = wrong_counts p
broken_lines rule.Recursion p mode = recursions p
broken_lines rule.NoMain p mode = no_main p
broken_lines rule.CreateNotFixed p mode = create_not_fixed p
broken_lines rule.JoinNotFixed p mode = join_not_fixed p
broken_lines rule.ArgNotConstant p mode = arg_not_constant p
broken_lines rule.InitLate p mode = init_late p
broken_lines rule.IndexRange p mode = out_of_range p

-- their order
abbrev pub rank : Rule → ℕ
rank rule.Reserved = 0
rank rule.LongName = 1
rank rule.Twice = 2
rank rule.Unknown = 3
rank rule.WrongKind = 4
rank rule.WrongCount = 5
rank rule.Recursion = 6
rank rule.NoMain = 7
rank rule.CreateNotFixed = 8
rank rule.JoinNotFixed = 9
rank rule.ArgNotConstant = 10
rank rule.InitLate = 11
rank rule.IndexRange = 12

-- a rule is broken at a line
abbrev pub Breaks : Rule → Program → Mode → ℕ → Type 0
Breaks rule p mode line = Contains (broken_lines rule p mode) line

-- no rule is broken
abbrev pub KeepsRules : Program → Mode → Type 0
KeepsRules p mode = (rule : Rule) (line : ℕ) → Breaks rule p mode line → ⊥

-- no rule is broken, and each count is within its number
pub record Formed (p : Program) (mode : Mode) : Type 0 where
  pub keeps_rules : KeepsRules p mode
  pub within : (count : Count) → amount p count ≤ limit count

-- a rule is broken at the least line at which any is, and no rule before it is broken at that line
pub record FirstBreak (p : Program) (mode : Mode) (rule : Rule) (line : ℕ) : Type 0 where
  pub broken : Breaks rule p mode line
  pub first : (other : Rule) (at : ℕ) → Breaks other p mode at → (line < at) ⊎ ((line ≡ at) × (rank rule ≤ rank other))

-- a program is well formed, or a rule is broken first, or no rule is broken and a count is the first that passes its number
pub data Judged (p : Program) (mode : Mode) : Type 0 where
  formed : Formed p mode → Judged p mode
  broken : (rule : Rule) (line : ℕ) → FirstBreak p mode rule line → Judged p mode
  passed : (what : Count) → KeepsRules p mode → FirstPassed p what → Judged p mode
