use Rattle.parse_laws.proofs.Promise.{right, only, fails}
use Rattle.parse_laws.proofs.parse.parse.Goals as goal

pub returns-clause-right : goal.returns-clause-right
returns-clause-right c = right c.args.tokens.now c.whole.result c.whole.ensures

pub returns-clause-only : goal.returns-clause-only
returns-clause-only c = only c.args.tokens.now c.whole.result c.whole.ensures

pub returns-clause-fails : goal.returns-clause-fails
returns-clause-fails c = fails c.args.tokens.now c.whole.result c.whole.ensures
