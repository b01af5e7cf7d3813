use Rattle.std.proofs.Common.{Bor, ℕ, List, [], get_or, map, ap, ◌∙◌, rules}
use Rattle.schedule_texts.proofs.Shapes.{empty_when, not_empty_when}
use Rattle.schedule_texts.proofs.Valued.{empty_at, number_at, bad_word_at}
use Rattle.schedule_texts.proofs.input.read_line.Goals as goal

pub loop-word-preserved-then-is_empty : goal.loop-word-preserved-then-is_empty
loop-word-preserved-then-is_empty c =
    let items = c.deref-word-items.result.now in
    let none : Bor (List ℕ) = record { ref_ptr = (0, 0); now = [] } in
    empty_at (λ word. word.now) items none c.loop-word.word-index c.args.input.now c.loop-word.input c.loop-word-test.true c.loop-word.invariant (empty_when (get_or items c.loop-word.word-index none).now (search rules))

pub returns-in-None : goal.returns-in-None
returns-in-None c =
    let items = c.deref-word-items.result.now in
    let none : Bor (List ℕ) = record { ref_ptr = (0, 0); now = [] } in
    let are = ap (map (λ word. word.now)) c.deref-word-items.ensures.value ∙ c.in_ok-pieces.ensures in
    bad_word_at (λ word. word.now) items none c.args.line.now are c.loop-word.word-index c.loop-word-test.true (not_empty_when (get_or items c.loop-word.word-index none).now (search rules)) c.in-None.ensures.none

pub loop-word-preserved : goal.loop-word-preserved
loop-word-preserved c =
    let items = c.deref-word-items.result.now in
    let none : Bor (List ℕ) = record { ref_ptr = (0, 0); now = [] } in
    let have = number_at (λ word. word.now) items none c.loop-word.word-index c.in-Some.number c.args.input.now c.loop-word.input c.loop-word-test.true c.loop-word.invariant (not_empty_when (get_or items c.loop-word.word-index none).now (search rules)) c.in-Some.ensures.some.0 c.in-Some.ensures.some.1 in
    (have.0, have.1, search rules)
