use Rattle.std.proofs.Common.{ap, ◌∙◌, arith, length, map}
use Rattle.std.specs.Prelude.{sum_by}
use Rattle.c_tree.specs.Lined.{bare_object}
use Rattle.c_check.specs.Tables.{object_count, numbered_of, numbered_from}
use Rattle.c_check.proofs.Few.{few_threads, few_mutexes, few_monitors, numbers_eq}
use Rattle.c_check.proofs.numbers.Table.new.Goals as goal

pub overflow_cast-result : goal.overflow_cast-result
overflow_cast-result c =
    let few = few_threads c.args.p.now c.requires.within in
    let same = ap length c.in_ok-starts.ensures in
    omega (arith, few, same, c.len.ensures)

pub mutexes_of-requires : goal.mutexes_of-requires
mutexes_of-requires c =
    let few = few_mutexes c.args.p.now c.requires.within in
    let same = ap (sum_by object_count) c.as_slice.ensures in
    omega (arith, few, same)

pub mutex_count-requires : goal.mutex_count-requires
mutex_count-requires c =
    let few = few_mutexes c.args.p.now c.requires.within in
    let same = ap (sum_by object_count) c.as_slice-2.ensures in
    omega (arith, few, same)

pub overflow_cast-result-2 : goal.overflow_cast-result-2
overflow_cast-result-2 c =
    let few = few_monitors c.args.p.now c.requires.within in
    omega (arith, few, c.len-2.ensures)

pub returns : goal.returns
returns c =
    numbers_eq c.args.p.now c.requires.within c.len.result c.in_ok-starts.starts.items (map numbered_of c.in_ok-mutexes_of.field-0.items) c.mutex_count.result c.len-2.result
    (omega (arith, c.len.ensures, c.in_ok-starts.starts.ok.0)) c.in_ok-starts.ensures (c.in_ok-mutexes_of.ensures ∙ ap (λ os. numbered_from 0 (map bare_object os)) c.as_slice.ensures) (c.mutex_count.ensures ∙ ap (sum_by object_count) c.as_slice-2.ensures) c.len-2.ensures
