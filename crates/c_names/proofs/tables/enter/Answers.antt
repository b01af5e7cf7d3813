use Rattle.std.proofs.Common.{◌∙◌, ap}
use Rattle.std.specs.List.{list_any}
use Rattle.std.proofs.Common.{bytes_eq}
use Rattle.c_names.proofs.Scopes.{entered}
use Rattle.c_names.proofs.tables.enter.Goals as goal

pub returns-clause-scoped : goal.returns-clause-scoped
returns-clause-scoped c = λ n. ap (λ keys. list_any (λ key. bytes_eq n key.now) keys) c.in_ok-insert.ensures.keys ∙ entered c.args.scope.now.keys c.args.name n
