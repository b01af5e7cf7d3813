use Rattle.step_effects.proofs.Todos as todos
use Rattle.step_effects.proofs.todos_are_of_bodies.Goals as goal

pub returns : goal.returns
returns g c = todos.todos_are_of_bodies g.F.Fact.holds
