use Rattle.std.proofs.Common.{drop}
use Rattle.c_tree.specs.Everywhere.{Everywhere}
use Rattle.c_tree.specs.Numbering.{creations_of}
use Rattle.c_meaning.specs.Shown.{shown_body}
use Rattle.rule_facts.specs.FromLast.{from_last, named_in, StartsNamed}
use Rattle.state_parts.specs.Small.{IsSmall}
use Rattle.context_walk.specs.Prepared.{program_in}
use Rattle.context_walk.specs.Starts.{begins, begun_by}
use Rattle.context_walk.specs.Walking.{Continues}
use Rattle.context_walk.proofs.functions.Functions.begin_all_created.Given as goal

abbrev pub invariant-loop-s : goal.invariant-loop-s
invariant-loop-s l = record {
  found : Continues (begins (program_in l.self) (begun_by (shown_body l.body)) l.fn.found) (begins (program_in l.self) (begun_by (shown_body (drop l.s-index l.body))) l.found) l.fn.found l.found;
  named : StartsNamed (named_in (from_last (program_in l.self))) (creations_of (shown_body (drop l.s-index l.body)));
  small : Everywhere IsSmall (shown_body (drop l.s-index l.body));
}
