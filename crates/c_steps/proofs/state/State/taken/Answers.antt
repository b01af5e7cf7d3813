use Rattle.std.proofs.Common.{◌+◌, Some, option_map, sym, ap, ◌∙◌, arith}
use Rattle.std.proofs.lemmas.Option.{slice_get_within}
use Rattle.c_tree.specs.Numbering.{monitor_resource}
use Rattle.c_rules.specs.declared.rule.Count.TheVariants as count
use Rattle.c_meaning.specs.Shown.{shown}
use Rattle.c_steps.proofs.state.State.taken.Goals as goal

pub overflow_cast-result : goal.overflow_cast-result
overflow_cast-result c =
    let e = c.mutexes.ensures (shown c.args.p.now) c.requires.state.tables.numbers in
    let w = c.requires.accepted.within count.Mutexes in
    omega (arith, e, w)

pub overflow_add-result : goal.overflow_add-result
overflow_add-result c =
    let e = c.mutexes.ensures (shown c.args.p.now) c.requires.state.tables.numbers in
    let w = c.requires.accepted.within count.Mutexes in
    let m = c.requires.accepted.within count.Monitors in
    let lt = slice_get_within c.args.p.now.monitors c.args.monitor c.in_ok-_capacity._capacity (sym c.capacity.ensures ∙ c.in_ok-_capacity.was) in
    omega (arith, e, w, m, lt)

pub returns : goal.returns
returns c =
    let p = c.args.p.now in
    ap (λ n. Some (n + c.args.monitor)) (c.mutexes.ensures (shown p) c.requires.state.tables.numbers)
    ∙ ap (option_map (λ capacity. monitor_resource (shown p) c.args.monitor)) (sym c.in_ok-_capacity.was ∙ c.capacity.ensures)
