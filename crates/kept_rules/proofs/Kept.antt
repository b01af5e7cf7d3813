-- An edited program is well formed.
use Rattle.std.proofs.Common.{[], ap, subst, ℕ, ◌∷◌, ◌≡◌}
use Rattle.std.specs.Prelude.{if◌then◌else◌}
use Rattle.c_tree.specs.declared.program.Mode.{Mode}
use Rattle.c_tree.specs.Lined.{Program}
use Rattle.c_rules.specs.declared.rule.Rule.TheVariants as rule
use Rattle.c_rules.specs.Threads.{no_main}
use Rattle.c_rules.specs.Formed.{Formed, KeepsRules}
use Rattle.c_rules.proofs.Members.{In, in_of}
use Rattle.kept_rules.proofs.Amounts.{kept_amounts}
use Rattle.kept_rules.proofs.Fitting.{kept_kinds, kept_recursion}
use Rattle.kept_rules.proofs.Late.{kept_late}
use Rattle.kept_rules.proofs.Numbers.{kept_counts}
use Rattle.kept_rules.proofs.Reserved.{kept_reserved}
use Rattle.kept_rules.proofs.Threaded.{kept_arguments, kept_creates, kept_joins}
use Rattle.kept_rules.proofs.Twice.{kept_twice}
use Rattle.kept_rules.proofs.Unknown.{kept_unknown}
use Rattle.kept_rules.proofs.Within.{kept_ranges}
use Rattle.kept_rules.specs.Edit.{Way}
use Rattle.kept_rules.specs.Programs.{IsEditOf, KeepsOwn}

main_listed : (n : Mode) (q : Program) → KeepsOwn n q → no_main q ≡ []
main_listed n q own = ap (λ b. if b then [] else q.end_line ∷ []) own.main

kept : (r : Way) (place : ℕ → ℕ) (n : Mode) (q p : Program) (mode : Mode) → IsEditOf r place q p → KeepsOwn n q → KeepsRules p mode → KeepsRules q n
kept r place n q p mode e own keeps rule.Reserved line at = kept_reserved r place n q p mode e own keeps line at
kept r place n q p mode e own keeps rule.LongName line at = own.short line at
kept r place n q p mode e own keeps rule.Twice line at = kept_twice r place q p mode e keeps line at
kept r place n q p mode e own keeps rule.Unknown line at = kept_unknown r place q p mode e keeps line at
kept r place n q p mode e own keeps rule.WrongKind line at = kept_kinds r place q p mode e keeps line at
kept r place n q p mode e own keeps rule.WrongCount line at = kept_counts r place n q p mode e own keeps line at
kept r place n q p mode e own keeps rule.Recursion line at = kept_recursion r place q p mode e keeps line at
kept r place n q p mode e own keeps rule.NoMain line at = subst (λ xs. In line xs) (main_listed n q own) (in_of (no_main q) line at)
kept r place n q p mode e own keeps rule.CreateNotFixed line at = kept_creates r place q p mode e keeps line at
kept r place n q p mode e own keeps rule.JoinNotFixed line at = kept_joins r place q p mode e keeps line at
kept r place n q p mode e own keeps rule.ArgNotConstant line at = kept_arguments r place q p mode e keeps line at
kept r place n q p mode e own keeps rule.InitLate line at = kept_late r place q p mode e keeps line at
kept r place n q p mode e own keeps rule.IndexRange line at = kept_ranges r place n q p mode e own keeps line at

pub kept_formed : (r : Way) (place : ℕ → ℕ) (n : Mode) (q p : Program) (mode : Mode) → IsEditOf r place q p → KeepsOwn n q → Formed p mode → Formed q n
kept_formed r place n q p mode e own formed = record {
  keeps_rules = kept r place n q p mode e own formed.keeps_rules;
  within = kept_amounts r place n q p mode e own formed;
}
