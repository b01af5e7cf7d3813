use Rattle.flow_laws.proofs.Tokens.{tokens_of_resources}
use Rattle.flow_laws.proofs.nets.tokens_are_of_resources.Goals as goal

pub returns : goal.returns
returns c = tokens_of_resources
