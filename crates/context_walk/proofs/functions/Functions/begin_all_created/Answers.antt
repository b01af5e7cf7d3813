use Rattle.std.proofs.Common.{◌≡◌, ◌+◌, drop, sym, subst}
use Rattle.c_tree.specs.Bare.{Stmts, Cons}
use Rattle.c_tree.specs.Everywhere.{Everywhere}
use Rattle.c_tree.specs.Numbering.{creations_of}
use Rattle.c_meaning.specs.Shown.{shown_body, shown_stmt}
use Rattle.rule_facts.specs.FromLast.{from_last, named_in, StartsNamed}
use Rattle.state_parts.specs.Small.{IsSmall}
use Rattle.context_walk.specs.Prepared.{program_in}
use Rattle.context_walk.specs.Starts.{begins, begun_by}
use Rattle.context_walk.specs.Walking.{Continues}
use Rattle.context_walk.proofs.Beginning.{next_created, starts_split}
use Rattle.context_walk.proofs.Walking.{goes_on}
use Rattle.context_walk.proofs.functions.Functions.begin_all_created.Goals as goal

pub loop-s-preserved : goal.loop-s-preserved
loop-s-preserved c =
    let p = program_in c.args.self.now in
    let rest : Stmts = shown_body (drop (c.loop-s.s-index + 1) c.args.body.now) in
    let here : shown_body (drop c.loop-s.s-index c.args.body.now) ≡ Cons (shown_stmt c.s-item.result) rest = next_created c.args.body.now c.loop-s.s-index c.s-item.result c.loop-s-test.true c.s-item.is in
    let named = subst (λ ss. StartsNamed (named_in (from_last p)) (creations_of ss)) here c.loop-s.invariant.named in
    let small = subst (Everywhere IsSmall) here c.loop-s.invariant.small in
    record {
      found = goes_on (begins p (begun_by (shown_body c.args.body.now)) c.args.found.now) (begins p (begun_by (shown_body (drop c.loop-s.s-index c.args.body.now))) c.loop-s.found) (begins p (begun_by rest) c.begin_created.new.found)
          c.args.found.now c.loop-s.found c.begin_created.new.found c.loop-s.invariant.found
          (subst (λ ss. Continues (begins p (begun_by ss) c.loop-s.found) (begins p (begun_by rest) c.begin_created.new.found) c.loop-s.found c.begin_created.new.found) (sym here) (c.in_ok-begin_created.ensures.found rest));
      named = (starts_split (named_in (from_last p)) (shown_stmt c.s-item.result) rest named).1;
      small = small.2;
    }
