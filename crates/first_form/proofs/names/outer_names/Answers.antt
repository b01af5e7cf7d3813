use Rattle.std.proofs.Common.{rules}
use Rattle.first_form.specs.Sets.{texts}
use Rattle.first_form.proofs.OuterNames.{outer_names_shown}
use Rattle.first_form.proofs.names.outer_names.Goals as goal

pub returns : goal.returns
returns c =
    outer_names_shown c.args.p.now (texts c.push_names.new.names.items) (texts c.push_names-2.new.names.items) (texts c.push_names-3.new.names.items) (texts c.push_names-4.new.names.items)
    (search rules) (search rules) (search rules) (search rules)
