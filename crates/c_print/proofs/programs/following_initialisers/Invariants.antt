use Rattle.std.proofs.Common.{◌≡◌, ◌++◌, ◌-◌, [], ◌∷◌, replicate}
use Rattle.c_layout.specs.Layout.{text, word}
use Rattle.c_canonical.specs.Expressions.{followed}
use Rattle.c_print.proofs.programs.following_initialisers.Given as goal

-- what is added and what is left make the whole
abbrev pub invariant-loop-i : goal.invariant-loop-i
invariant-loop-i l =
    l.out.items ++ text (followed (replicate (l.count - l._i) (word l.initialiser ∷ []))) ≡ l.fn.out.items ++ text (followed (replicate l.count (word l.initialiser ∷ [])))
