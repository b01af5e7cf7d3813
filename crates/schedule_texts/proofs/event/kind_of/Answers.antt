use Rattle.std.proofs.Common.{[], ap, map, rules, tests}
use Rattle.schedule_texts.proofs.Shapes.{one_of, two_of}
use Rattle.schedule_texts.proofs.event.kind_of.Goals as goal

pub returns-in-len1-clause-some : goal.returns-in-len1-clause-some
returns-in-len1-clause-some c = (let is = ap (map (λ w. w.now)) (one_of c.args.words.now (record { ref_ptr = (0, 0); now = [] }) c.in-len1.len_at_least c.in-len1.len_below) in grind (rules, tests), tt)

pub returns-in-len1-2-clause-some : goal.returns-in-len1-2-clause-some
returns-in-len1-2-clause-some c = (let is = ap (map (λ w. w.now)) (one_of c.args.words.now (record { ref_ptr = (0, 0); now = [] }) c.in-len1.len_at_least c.in-len1.len_below) in grind (rules, tests), tt)

pub returns-in_ok-thread_of-in-len2-clause-some : goal.returns-in_ok-thread_of-in-len2-clause-some
returns-in_ok-thread_of-in-len2-clause-some c = (let is = ap (map (λ w. w.now)) (two_of c.args.words.now (record { ref_ptr = (0, 0); now = [] }) c.in-len2.len_at_least c.in-len2.len_below) in grind (rules, tests), search rules)
