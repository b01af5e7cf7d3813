use Rattle.std.proofs.Common.{ℕ, List, length, nat_le, ◌&&◌, not, rules, tests}
use Rattle.std.specs.List.{list_all}
use Rattle.std.proofs.lemmas.Bool.{le-leb}
use Rattle.std.proofs.lemmas.Iterator.{YieldsList-from_slice}
use Rattle.std.proofs.lemmas.Iterator.Search.{all_from_yields_List}
use Rattle.c_rules.specs.Names.{is_reserved}
use Rattle.first_form.specs.Sets.{knows}
use Rattle.first_form.proofs.Heads.{when_true}
use Rattle.first_form.proofs.form.has_good_head.Goals as goal

pub returns-then-len-le56 : goal.returns-then-len-le56
returns-then-len-le56 c =
    let f = c.args.f.now in
    let outer = c.args.outer.now in
    when_true (nat_le (length f.name) 56) (list_all (λ name. not (knows outer name) && not (is_reserved name)) f.params) c.all.result
    (le-leb (length f.name) 56 (search rules))
    (all_from_yields_List (λ (name : List ℕ). not (knows outer name) && not (is_reserved name)) _ _ _ c.all.ensures.ran (YieldsList-from_slice f.params cc) (λ x b q k. search (rules, tests)))
