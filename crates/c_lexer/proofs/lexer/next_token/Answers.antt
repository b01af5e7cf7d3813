use Rattle.std.proofs.Common.{length-drop, arith}
use Rattle.c_lexer.proofs.PlaceSteps.{next_past, next_ended, next_found, next_refused, cut_moves}
use Rattle.c_lexer.proofs.TextLaws.{inside}
use Rattle.c_lexer.proofs.lexer.next_token.Goals as goal

pub loop-place-smaller : goal.loop-place-smaller
loop-place-smaller c =
    let moves = cut_moves _ _ _ _ c.piece-cut.ensures.begins in
    omega arith

pub loop-place-preserved : goal.loop-place-preserved
loop-place-preserved c =
    let within = c.piece-cut.ensures.begins.within in (
      omega (arith, length-drop c.loop-place.place c.args.text.now),
      λ found more. c.loop-place.invariant.1 found (next_past c.args.text.now c.loop-place.place c.piece-cut.result found c.piece-cut.ensures c.in-Skip.is more),
    )

pub returns-in-Token-clause-found : goal.returns-in-Token-clause-found
returns-in-Token-clause-found c =
    c.loop-place.invariant.1 _ (next_found c.args.text.now c.loop-place.place c.piece-cut.result c.in-Token.token c.loop-place.invariant.0 c.piece-cut.ensures c.in-Token.is)

pub returns-in-Token-clause-inside : goal.returns-in-Token-clause-inside
returns-in-Token-clause-inside c =
    inside c.args.text.now c.args.at _ c.requires.within
    (c.loop-place.invariant.1 _ (next_found c.args.text.now c.loop-place.place c.piece-cut.result c.in-Token.token c.loop-place.invariant.0 c.piece-cut.ensures c.in-Token.is))

pub returns-in-Refused-clause-found : goal.returns-in-Refused-clause-found
returns-in-Refused-clause-found c =
    rw (c.error.ensures, c.line_at.ensures)
    (c.loop-place.invariant.1 _ (next_refused c.args.text.now c.loop-place.place c.piece-cut.result c.in-Refused.fault c.piece-cut.ensures c.in-Refused.is))

pub returns-clause-found : goal.returns-clause-found
returns-clause-found c = c.loop-place.invariant.1 _ (next_ended c.args.text.now c.loop-place.place (omega arith))
