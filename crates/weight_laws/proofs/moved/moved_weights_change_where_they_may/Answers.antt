use Rattle.weight_laws.proofs.Moving.{rise, fall, stay}
use Rattle.weight_laws.proofs.moved.moved_weights_change_where_they_may.Goals as goal

pub returns-clause-rises : goal.returns-clause-rises
returns-clause-rises c = rise

pub returns-clause-falls : goal.returns-clause-falls
returns-clause-falls c = fall

pub returns-clause-stays : goal.returns-clause-stays
returns-clause-stays c = stay
