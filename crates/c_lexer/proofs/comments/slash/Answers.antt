use Rattle.std.proofs.Common.{arith}
use Rattle.c_lexer.proofs.SignPieces.{slash_signs}
use Rattle.c_lexer.proofs.comments.slash.Goals as goal

pub sign-requires-clause-by : goal.sign-requires-clause-by
sign-requires-clause-by c = slash_signs c.args.text.now c.requires.some c.requires.slash (λ h. absurd (omega arith)) (λ h. absurd (omega arith))

pub sign-requires-2-clause-by : goal.sign-requires-2-clause-by
sign-requires-2-clause-by c = slash_signs c.args.text.now c.requires.some c.requires.slash (λ h. c.if-text-eq42.false) (λ h. c.if-text-eq47.false)
