-- All breaks of a program, and which one is first.
use Rattle.std.proofs.Common.{◌≡◌, ℕ, ◌<◌, ◌≤◌, ◌==◌, if◌then◌else◌, List, [], ◌∷◌, ◌++◌, ◌⊎◌, inl, inr, refl, subst, sym, ap, ◌∙◌, arith}
use Rattle.std.specs.Prelude.{map}
use Rattle.c_tree.specs.declared.program.Mode.{Mode}
use Rattle.c_tree.specs.Lined.{Program}
use Rattle.c_rules.specs.declared.rule.Rule.{Rule}
use Rattle.c_rules.specs.declared.rule.Rule.TheVariants as rule
use Rattle.c_rules.specs.Formed.{broken_lines, rank, Breaks, KeepsRules, FirstBreak}
use Rattle.c_rules.proofs.Members.{In, in_of, contains_of, in_or_not, in_append_left, in_append_right, in_append_cases, in_map}
use Rattle.c_rules.proofs.Least.{Break, Leads, none, first, leads}

-- ---- the order of the rules

abbrev all_rules : List Rule
all_rules =
    rule.Reserved ∷ rule.LongName ∷ rule.Twice ∷ rule.Unknown ∷ rule.WrongKind ∷ rule.WrongCount ∷ rule.Recursion ∷ rule.NoMain
    ∷ rule.CreateNotFixed ∷ rule.JoinNotFixed ∷ rule.ArgNotConstant ∷ rule.InitLate ∷ rule.IndexRange ∷ []

each_rule : (r : Rule) → In r all_rules
each_rule rule.Reserved = inl refl
each_rule rule.LongName = inr (inl refl)
each_rule rule.Twice = inr (inr (inl refl))
each_rule rule.Unknown = inr (inr (inr (inl refl)))
each_rule rule.WrongKind = inr (inr (inr (inr (inl refl))))
each_rule rule.WrongCount = inr (inr (inr (inr (inr (inl refl)))))
each_rule rule.Recursion = inr (inr (inr (inr (inr (inr (inl refl))))))
each_rule rule.NoMain = inr (inr (inr (inr (inr (inr (inr (inl refl)))))))
each_rule rule.CreateNotFixed = inr (inr (inr (inr (inr (inr (inr (inr (inl refl))))))))
each_rule rule.JoinNotFixed = inr (inr (inr (inr (inr (inr (inr (inr (inr (inl refl)))))))))
each_rule rule.ArgNotConstant = inr (inr (inr (inr (inr (inr (inr (inr (inr (inr (inl refl))))))))))
each_rule rule.InitLate = inr (inr (inr (inr (inr (inr (inr (inr (inr (inr (inr (inl refl)))))))))))
each_rule rule.IndexRange = inr (inr (inr (inr (inr (inr (inr (inr (inr (inr (inr (inr (inl refl))))))))))))

-- the rule at a place of their order
abbrev rule_at : ℕ → List Rule → Rule
rule_at n [] = rule.IndexRange
rule_at n (r ∷ rs) = if rank r == n then r else rule_at n rs

rule_of_rank : (r : Rule) → rule_at (rank r) all_rules ≡ r
rule_of_rank rule.Reserved = refl
rule_of_rank rule.LongName = refl
rule_of_rank rule.Twice = refl
rule_of_rank rule.Unknown = refl
rule_of_rank rule.WrongKind = refl
rule_of_rank rule.WrongCount = refl
rule_of_rank rule.Recursion = refl
rule_of_rank rule.NoMain = refl
rule_of_rank rule.CreateNotFixed = refl
rule_of_rank rule.JoinNotFixed = refl
rule_of_rank rule.ArgNotConstant = refl
rule_of_rank rule.InitLate = refl
rule_of_rank rule.IndexRange = refl

pub same_rank : (r s : Rule) → rank r ≡ rank s → r ≡ s
same_rank r s e = sym (rule_of_rank r) ∙ ap (λ n. rule_at n all_rules) e ∙ rule_of_rank s

-- ---- all breaks

abbrev break : Rule → ℕ → Break
break r line = record { rule = r; line = line }

abbrev breaks_of : Program → Mode → List Rule → List Break
breaks_of p mode [] = []
breaks_of p mode (r ∷ rs) = map (break r) (broken_lines r p mode) ++ breaks_of p mode rs

line_of_break : (r : Rule) (lines : List ℕ) (b : Break) → In b (map (break r) lines) → (r ≡ b.rule) × In b.line lines
line_of_break r [] b h = absurd h
line_of_break r (line ∷ lines) b (inl e) = (ap (λ x. x.rule) e, inl (ap (λ x. x.line) e))
line_of_break r (line ∷ lines) b (inr h) = let k = line_of_break r lines b h in (k.0, inr k.1)

is_broken : (p : Program) (mode : Mode) (rs : List Rule) (b : Break) → In b (breaks_of p mode rs) → Breaks b.rule p mode b.line
is_broken p mode [] b h = absurd h
is_broken p mode (r ∷ rs) b h = elim (in_append_cases (map (break r) (broken_lines r p mode)) (breaks_of p mode rs) b h) [
  | inl k ↦ let l = line_of_break r (broken_lines r p mode) b k in subst (λ x. Breaks x p mode b.line) l.0 (contains_of (broken_lines r p mode) b.line l.1)
  | inr k ↦ is_broken p mode rs b k
]

is_listed : (p : Program) (mode : Mode) (rs : List Rule) (r : Rule) (line : ℕ) → In r rs → Breaks r p mode line → In (break r line) (breaks_of p mode rs)
is_listed p mode [] r line at h = absurd at
is_listed p mode (s ∷ rs) r line (inl e) h =
    in_append_left (map (break s) (broken_lines s p mode)) (breaks_of p mode rs) (break r line)
    (subst (λ x. In (break r line) (map (break x) (broken_lines x p mode))) (sym e)
    (in_map (break r) (broken_lines r p mode) line (in_of (broken_lines r p mode) line h)))
is_listed p mode (s ∷ rs) r line (inr at) h =
    in_append_right (map (break s) (broken_lines s p mode)) (breaks_of p mode rs) (break r line) (is_listed p mode rs r line at h)

-- ---- the first break

pub broken_or_not : (rule : Rule) (p : Program) (mode : Mode) (line : ℕ) → Breaks rule p mode line ⊎ (Breaks rule p mode line → ⊥)
broken_or_not r p mode line = elim (in_or_not (broken_lines r p mode) line) [
  | inl h ↦ inl (contains_of (broken_lines r p mode) line h)
  | inr n ↦ inr (λ h. n (in_of (broken_lines r p mode) line h))
]

pub data Ruled (p : Program) (mode : Mode) : Type 0 where
  good : KeepsRules p mode → Ruled p mode
  bad : (r : Rule) (line : ℕ) → FirstBreak p mode r line → Ruled p mode

ruled_by : (p : Program) (mode : Mode) (bs : List Break) → bs ≡ breaks_of p mode all_rules → Leads bs → Ruled p mode
ruled_by p mode [] e none = good (λ r line h. subst (In (break r line)) (sym e) (is_listed p mode all_rules r line (each_rule r) h))
ruled_by p mode bs e (first b i h) = bad b.rule b.line (record {
  broken = is_broken p mode all_rules b (subst (In b) e i);
  first = λ r line k. h (break r line) (subst (In (break r line)) (sym e) (is_listed p mode all_rules r line (each_rule r) k));
})

pub ruled : (p : Program) (mode : Mode) → Ruled p mode
ruled p mode = ruled_by p mode (breaks_of p mode all_rules) refl (leads (breaks_of p mode all_rules))

same_place : (a b r s : ℕ) → (a < b) ⊎ ((a ≡ b) × (r ≤ s)) → (b < a) ⊎ ((b ≡ a) × (s ≤ r)) → (a ≡ b) × (r ≡ s)
same_place a b r s h k = (grind arith, grind arith)

pub one_first_break : (p : Program) (mode : Mode) (r s : Rule) (a b : ℕ) → FirstBreak p mode r a → FirstBreak p mode s b → (r ≡ s) × (a ≡ b)
one_first_break p mode r s a b f g =
    let same = same_place a b (rank r) (rank s) (f.first s b g.broken) (g.first r a f.broken) in (same_rank r s same.1, same.0)
