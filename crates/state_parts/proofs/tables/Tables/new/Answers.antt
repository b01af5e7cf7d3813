use Rattle.std.proofs.Common.{◌+◌, ◌≤◌, length, ap, ◌∙◌, arith}
use Rattle.std.specs.Prelude.{slice_get, sum_by}
use Rattle.c_tree.specs.Numbering.{mutex_count}
use Rattle.c_rules.specs.declared.rule.Count.TheVariants as count
use Rattle.c_meaning.specs.Shown.{shown}
use Rattle.state_parts.proofs.tables.Tables.new.Goals as goal

pub new-requires-clause-cells : goal.new-requires-clause-cells
new-requires-clause-cells c =
    let p = c.args.p.now in
    let few : length p.ints + sum_by (λ a. a.len) p.arrays ≤ 65536 = c.requires.accepted.within count.Cells in omega arith

pub new-requires-clause-mutexes : goal.new-requires-clause-mutexes
new-requires-clause-mutexes c = let few : mutex_count (shown c.args.p.now) ≤ 48 = c.requires.accepted.within count.Mutexes in omega arith

pub returns : goal.returns
returns c = record {
  numbers = c.in_ok-new.ensures;
  each = c.in_ok-all_names.ensures.each ∙ ap length c.as_slice.ensures;
  names = λ k f names ef en. c.in_ok-all_names.ensures.names k f names (ap (λ l. slice_get l k) c.as_slice.ensures ∙ ef) en;
  small = c.requires.small;
}
