use Rattle.context_walk.proofs.Fitting.{mutexes_few}
use Rattle.flow_graph.proofs.routes.Routes.new.Goals as goal

pub mutex_count-requires : goal.mutex_count-requires
mutex_count-requires c = mutexes_few c.args.functions.now.program.now c.requires.formed
