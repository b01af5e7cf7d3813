use Rattle.first_form.proofs.HeldNames.{taken}
use Rattle.first_form.proofs.locks.Held.take.Goals as goal

pub returns-in_ok-push : goal.returns-in_ok-push
returns-in_ok-push c = taken c.args.self.now.names.items c.push.new.self.items c.args.name c.in_ok-push.ensures.items
