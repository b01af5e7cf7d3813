use Rattle.std.proofs.Common.{refl}
use Rattle.std.specs.Prelude.{codes, pos}
use Rattle.std.specs.FinMap as finite
use Rattle.std.specs.Cmp.Lexicographic.{nat_list_cmp_total}
use Rattle.c_meaning.proofs.samples.calls_give_their_results.Goals as goal

pub returns-clause-called : goal.returns-clause-called
returns-clause-called c =
    let b = finite.insert finite.empty (codes "b") (pos 2) in
    let a = finite.get-insert nat_list_cmp_total b (codes "a") (pos 7) in
    rw (a (codes "a"), a (codes "b"), finite.get-insert nat_list_cmp_total finite.empty (codes "b") (pos 2) (codes "b")) refl
