use Rattle.std.specs.Prelude.{◌≤◌, length, map, take}
use Rattle.schedule_texts.specs.Schedules.{Say, most_events}
use Rattle.schedule_texts.proofs.schedule.read_schedule.Given as goal

-- the lines so far say the events so far, which aren't too many
abbrev pub invariant-loop-k : goal.invariant-loop-k
invariant-loop-k l = Say (take l.k (map (λ line. line.now) l.line-items)) l.events × (length l.events ≤ most_events)
