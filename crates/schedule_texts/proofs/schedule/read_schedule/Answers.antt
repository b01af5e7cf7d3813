use Rattle.std.proofs.Common.{Bor, ℕ, List, [], get_or, map, sym, ap, ◌∙◌, subst, rules}
use Rattle.schedule_texts.specs.Schedules.{LineIs}
use Rattle.schedule_texts.proofs.Sayings.{too_long_at, bad_line_at, silent_at, says_at, places_fit, room_for}
use Rattle.schedule_texts.proofs.schedule.read_schedule.Goals as goal
use Rattle.schedule_texts.proofs.schedule.read_schedule.Goals.{in-Silent, in-Says-2+in_ok-push-in-Says-2}

pub returns-in-Says : goal.returns-in-Says
returns-in-Says c =
    let items = c.deref-line-items.result.now in
    let none : Bor (List ℕ) = record { ref_ptr = (0, 0); now = [] } in
    let are = ap (map (λ line. line.now)) c.deref-line-items.ensures.value ∙ c.in_ok-lines.ensures in
    too_long_at (λ line. line.now) items none c.args.text.now are c.loop-k.k c.loop-k.events c.in-Says.field-0 c.loop-k-test.true c.loop-k.invariant.0 (sym c.len.ensures ∙ c.if-len-eq-LONGEST.true) (subst (LineIs (get_or items c.loop-k.k none).now) c.in-Says.is c.in_ok-line_of.ensures)

pub returns-in-Bad : goal.returns-in-Bad
returns-in-Bad c =
    let items = c.deref-line-items.result.now in
    let none : Bor (List ℕ) = record { ref_ptr = (0, 0); now = [] } in
    let are = ap (map (λ line. line.now)) c.deref-line-items.ensures.value ∙ c.in_ok-lines.ensures in
    bad_line_at (λ line. line.now) items none c.args.text.now are c.loop-k.k c.loop-k.events c.loop-k-test.true c.loop-k.invariant.0 c.loop-k.invariant.1 (subst (LineIs (get_or items c.loop-k.k none).now) c.in-Bad.is c.in_ok-line_of.ensures)

pub overflow_cast-result : goal.overflow_cast-result
overflow_cast-result c =
    let are = ap (map (λ line. line.now)) c.deref-line-items.ensures.value ∙ c.in_ok-lines.ensures in
    let fit = places_fit (λ line. line.now) c.deref-line-items.result.now (record { ref_ptr = (0, 0); now = [] }) c.args.text.now are (search rules) in
    search rules

pub overflow_add-result : goal.overflow_add-result
overflow_add-result c =
    let are = ap (map (λ line. line.now)) c.deref-line-items.ensures.value ∙ c.in_ok-lines.ensures in
    let fit = places_fit (λ line. line.now) c.deref-line-items.result.now (record { ref_ptr = (0, 0); now = [] }) c.args.text.now are (search rules) in
    search rules

pub loop-k-preserved : goal.loop-k-preserved
loop-k-preserved c =
    let items = c.deref-line-items.result.now in
    let none : Bor (List ℕ) = record { ref_ptr = (0, 0); now = [] } in
    elim c.match-branch-3.branch [
      | in-Silent w ↦
          let is = subst (LineIs (get_or items c.loop-k.k none).now) w.in-Silent.is c.in_ok-line_of.ensures in
          rw w.events-is (silent_at (λ line. line.now) items none c.loop-k.k c.loop-k.events c.loop-k-test.true c.loop-k.invariant.0 is, c.loop-k.invariant.1)
      | in-Says-2+in_ok-push-in-Says-2 w ↦
          let is = subst (LineIs (get_or items c.loop-k.k none).now) w.in-Says.is c.in_ok-line_of.ensures in
          let more = says_at (λ line. line.now) items none c.loop-k.k c.loop-k.events w.in-Says.field-0 c.loop-k-test.true c.loop-k.invariant.0 is in
          rw (w.events-is, w.in_ok-push-in-Says-2.ensures.ok) (more, room_for c.loop-k.events w.in-Says.field-0 c.loop-k.invariant.1 (λ full. w.if-len-eq-LONGEST.false (w.len.ensures ∙ full)))
    ]
