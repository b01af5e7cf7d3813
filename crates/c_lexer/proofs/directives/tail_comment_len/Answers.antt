use Rattle.std.proofs.Common.{sym, ◌∙◌}
use Rattle.c_lexer.proofs.DirectivePieces.{comment_passed, comment_lines, comment_open}
use Rattle.c_lexer.proofs.directives.tail_comment_len.Goals as goal

pub returns-in_default : goal.returns-in_default
returns-in_default c = comment_open c.args.text.now c.in_default.ensures

pub returns-then-is_one_line : goal.returns-then-is_one_line
returns-then-is_one_line c =
    let e = c.in-Some.ensures in
    (e.within, comment_passed c.args.text.now c.in-Some.len e.within e.reads (sym c.is_one_line.ensures ∙ c.if-is_one_line.true))

pub returns-else-is_one_line : goal.returns-else-is_one_line
returns-else-is_one_line c =
    let e = c.in-Some.ensures in
    comment_lines c.args.text.now c.in-Some.len e.within e.reads (sym c.is_one_line.ensures ∙ c.if-is_one_line.false)
