use Rattle.std.proofs.Common.{◌≡◌, ◌∙◌, ◌≤◌, length, drop, sym, ap, refl, arith, length-drop}
use Rattle.std.proofs.lemmas.List.{drop-drop}
use Rattle.c_lexer.specs.Classes.{in_line}
use Rattle.c_lexer.specs.Readings.{after_line}
use Rattle.c_lexer.specs.Directives.{tail}
use Rattle.c_lexer.proofs.WordPieces.{prefix_stops}
use Rattle.c_lexer.proofs.DirectivePieces.{tail_block, tail_line, tail_end}
use Rattle.c_lexer.proofs.directives.tail_part_len.Goals as goal

pub returns-then-text-eq42 : goal.returns-then-text-eq42
returns-then-text-eq42 c =
    let text = c.args.text.now in
    let n = c.in_ok-tail_comment_len.field-0 in
    let e = rw c.from.ensures at c.in_ok-tail_comment_len.ensures in (
      omega arith,
      omega (arith, length-drop 2 text, e.0),
      tail_block text c.if-text-le1.false c.if-text-ne47.false c.if-text-eq42.true ∙ e.1 ∙ ap tail (drop-drop n 2 text),
    )

pub returns-then-text-eq47 : goal.returns-then-text-eq47
returns-then-text-eq47 c =
    let text = c.args.text.now in
    let n = c.line_len.result in
    let within : n ≤ length (drop 2 text) = rw c.from-then-text-eq47.ensures at c.line_len.ensures.within in
    let left : drop n (drop 2 text) ≡ after_line (drop 2 text) = rw (c.line_len.ensures.value, c.from-then-text-eq47.ensures) refl in (
      omega arith,
      omega (arith, length-drop 2 text, within),
      tail_line text c.if-text-le1.false c.if-text-ne47.false c.if-text-eq47.true ∙ sym (tail_end (after_line (drop 2 text)) (prefix_stops in_line (drop 2 text)))
          ∙ ap tail (sym left ∙ drop-drop n 2 text),
    )
