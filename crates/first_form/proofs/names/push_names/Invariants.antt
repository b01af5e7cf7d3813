use Rattle.std.proofs.Common.{◌≡◌, take, map, ◌++◌}
use Rattle.first_form.specs.Sets.{texts}
use Rattle.first_form.proofs.names.push_names.Given as goal

-- the names so far stand behind the others
abbrev pub invariant-loop-item : goal.invariant-loop-item
invariant-loop-item g l = texts l.names.items ≡ texts l.initial.names.items ++ map g.T.Named.name_of (take l.item-index l.items)
