use Rattle.flow_laws.proofs.One.{flows_one, flows_no_error, errors_one}
use Rattle.flow_laws.proofs.flows.flows_are_one.Goals as goal

pub returns-clause-flows : goal.returns-clause-flows
returns-clause-flows c = flows_one

pub returns-clause-no_error : goal.returns-clause-no_error
returns-clause-no_error c = flows_no_error

pub returns-clause-errors : goal.returns-clause-errors
returns-clause-errors c = errors_one
