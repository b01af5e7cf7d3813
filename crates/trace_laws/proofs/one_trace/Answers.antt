use Rattle.trace_laws.proofs.EachTrace.{each_trace}
use Rattle.trace_laws.proofs.OneTrace as traces
use Rattle.trace_laws.proofs.one_trace.Goals as goal

pub returns-clause-some : goal.returns-clause-some
returns-clause-some c = each_trace

pub returns-clause-one : goal.returns-clause-one
returns-clause-one c = traces.one_trace
