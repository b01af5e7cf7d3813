use Rattle.std.proofs.Common.{Bor, ℕ, List, [], get_or, map, ap, ◌∙◌, subst, rules}
use Rattle.schedule_texts.specs.Inputs.{LineAnswers}
use Rattle.schedule_texts.proofs.Sayings.{places_fit}
use Rattle.schedule_texts.proofs.Valued.{line_at, bad_line_at}
use Rattle.schedule_texts.proofs.input.read_input.Goals as goal

pub overflow_cast-result : goal.overflow_cast-result
overflow_cast-result c =
    let are = ap (map (λ line. line.now)) c.deref-line-items.ensures.value ∙ c.in_ok-lines.ensures in
    let fit = places_fit (λ line. line.now) c.deref-line-items.result.now (record { ref_ptr = (0, 0); now = [] }) c.args.text.now are (search rules) in
    search rules

pub overflow_add-result : goal.overflow_add-result
overflow_add-result c =
    let are = ap (map (λ line. line.now)) c.deref-line-items.ensures.value ∙ c.in_ok-lines.ensures in
    let fit = places_fit (λ line. line.now) c.deref-line-items.result.now (record { ref_ptr = (0, 0); now = [] }) c.args.text.now are (search rules) in
    search rules

pub returns-then-not-branch : goal.returns-then-not-branch
returns-then-not-branch c =
    let items = c.deref-line-items.result.now in
    let none : Bor (List ℕ) = record { ref_ptr = (0, 0); now = [] } in
    let are = ap (map (λ line. line.now)) c.deref-line-items.ensures.value ∙ c.in_ok-lines.ensures in
    bad_line_at (λ line. line.now) items none c.args.text.now are c.loop-k.k c.loop-k.input c.loop-k-test.true c.loop-k.invariant (subst (λ b. LineAnswers (get_or items c.loop-k.k none).now b c.loop-k.input c.read_line.new.input) c.if-not-branch.true c.in_ok-read_line.ensures)

pub loop-k-preserved : goal.loop-k-preserved
loop-k-preserved c =
    let items = c.deref-line-items.result.now in
    let none : Bor (List ℕ) = record { ref_ptr = (0, 0); now = [] } in
    line_at (λ line. line.now) items none c.loop-k.k c.loop-k.input c.read_line.new.input c.loop-k-test.true c.loop-k.invariant (subst (λ b. LineAnswers (get_or items c.loop-k.k none).now b c.loop-k.input c.read_line.new.input) c.if-not-branch.false c.in_ok-read_line.ensures)
