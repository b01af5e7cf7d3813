use Rattle.std.proofs.Common.{[], ◌∷◌, Some, refl}
use Rattle.std.specs.Prelude.{codes, pos}
use Rattle.std.specs.FinMap as finite
use Rattle.std.specs.Cmp.Lexicographic.{nat_list_cmp_total}
use Rattle.c_meaning.specs.State.{Locals}
use Rattle.c_meaning.proofs.samples.locals_have_values_before_they_are_read.Goals as goal

pub returns-clause-undefined : goal.returns-clause-undefined
returns-clause-undefined c = rw (finite.get-remove nat_list_cmp_total finite.empty (codes "k") (codes "k")) refl

pub returns-clause-looped : goal.returns-clause-looped
returns-clause-looped c =
    let k = codes "k" in
    let first : Locals = finite.insert finite.empty k (pos 0) in
    let second : Locals = finite.insert first k (pos 1) in
    let none_yet = finite.get-insert nat_list_cmp_total finite.empty k (pos 0) k in
    let one = finite.get-insert nat_list_cmp_total first k (pos 1) k in
    rw (none_yet, none_yet, one, one, finite.get-insert nat_list_cmp_total second k (pos 2) k) (refl {a = Some (pos 10 ∷ [])})
