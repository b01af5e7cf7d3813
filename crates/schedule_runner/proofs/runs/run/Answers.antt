use Rattle.std.proofs.Common.{length, subst}
use Rattle.c_check.specs.Tables.{numbers}
use Rattle.c_meaning.specs.Shown.{shown}
use Rattle.c_meaning.specs.State.{start}
use Rattle.c_steps.specs.Model.{state_of}
use Rattle.schedule_runner.specs.Traces.{IsFollowed, EndsAt}
use Rattle.schedule_runner.proofs.runs.run.Goals as goal

pub returns : goal.returns
returns c =
    let p = c.args.p.now in
    let last = state_of p c.follow.new.state in
    let acts = c.follow.new.acts in
    record {
      last = last;
      followed = subst (λ n. IsFollowed (shown p) n (start (shown p) c.args.input) c.args.schedule.now acts last) c.requires.table
          (subst (λ first. IsFollowed (shown p) (numbers c.args.table.now) first c.args.schedule.now acts last) c.in_ok-state.ensures.is
          (subst (λ es. IsFollowed (shown p) (numbers c.args.table.now) (state_of p c.in_ok-state.state) es acts last) c.as_slice.ensures c.in_ok-end.ensures.followed));
      end = subst (λ es. EndsAt (shown p) last es (length acts) c.in_ok-end.end) c.as_slice.ensures c.in_ok-end.ensures.end;
      ended = c.ended.ensures p;
      stuck = record {
        none = c.largest_stuck.ensures.none;
        stuck = c.largest_stuck.ensures.stuck;
        each = c.largest_stuck.ensures.each;
      };
    }
