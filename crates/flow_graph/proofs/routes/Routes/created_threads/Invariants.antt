use Rattle.std.proofs.Common.{drop}
use Rattle.c_tree.specs.Numbering.{creations_of}
use Rattle.c_meaning.specs.Shown.{shown_body}
use Rattle.context_walk.specs.Prepared.{program_in}
use Rattle.rule_facts.specs.FromLast.{from_last, named_in, StartsNamed}
use Rattle.flow_graph.specs.Left.{left_in}
use Rattle.flow_graph.specs.Walking.{created_names, threads_at, AddsThreads}
use Rattle.flow_graph.proofs.routes.Routes.created_threads.Given as goal

abbrev pub invariant-loop-s : goal.invariant-loop-s
invariant-loop-s l = record {
  added : AddsThreads (threads_at l.self (created_names (shown_body l.body)) (left_in l.fn.marks)) (threads_at l.self (created_names (shown_body (drop l.s-index l.body))) (left_in l.marks)) l.fn.builder l.builder;
  named : StartsNamed (named_in (from_last (program_in l.self.functions.now))) (creations_of (shown_body (drop l.s-index l.body)));
}
