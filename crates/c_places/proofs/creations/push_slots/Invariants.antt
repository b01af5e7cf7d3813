use Rattle.std.proofs.Common.{◌≡◌, ◌++◌, map, drop}
use Rattle.c_tree.specs.Numbering.{creations_of}
use Rattle.c_meaning.specs.Shown.{shown_body}
use Rattle.c_places.specs.Slots.{slots_of, kept}
use Rattle.c_places.proofs.creations.push_slots.Given as goal

-- what is left to push leads to what is pushed in all
abbrev pub invariant-loop-s : goal.invariant-loop-s
invariant-loop-s l = map kept l.slots.items ++ slots_of (creations_of (shown_body (drop l.s-index l.body))) ≡ map kept l.initial.slots.items ++ slots_of (creations_of (shown_body l.body))
