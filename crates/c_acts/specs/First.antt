-- The first of breaks: at the least line, and there the first in the order of the rules.
use Rattle.std.specs.Prelude.{ℕ, ◌==◌, nat_le, nat_lt, Bool, ◌&&◌, ◌||◌, if◌then◌else◌, List, [], ◌∷◌, map, Some, None}
use Rattle.std.specs.declared.option.Option.{Option}
use Rattle.c_rules.specs.declared.rule.Rule.{Rule}
use Rattle.c_rules.specs.Formed.{rank}
use Rattle.c_acts.specs.declared.first.Break.{Break}

abbrev pub break : Rule → ℕ → Break
break rule line = record { rule = rule; line = line }

-- a rule is broken at these lines
abbrev pub breaks : Rule → List ℕ → List Break
breaks rule lines = map (break rule) lines

abbrev pub break_if : Bool → Rule → ℕ → List Break
break_if broken rule line = if broken then break rule line ∷ [] else []

abbrev pub comes_first : Break → Break → Bool
comes_first a b = nat_lt a.line b.line || (a.line == b.line) && nat_le (rank a.rule) (rank b.rule)

-- the first of what was found so far and one more
abbrev pub noted : Option Break → Break → Option Break
noted None b = Some b
noted (Some a) b = if comes_first a b then Some a else Some b

abbrev pub noted_all : Option Break → List Break → Option Break
noted_all found [] = found
noted_all found (b ∷ bs) = noted_all (noted found b) bs
