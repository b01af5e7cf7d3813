use Rattle.std.proofs.Common.{◌∙◌, sym}
use Rattle.c_names.proofs.Declared.{kept, put}
use Rattle.c_names.proofs.tables.declare.Goals as goal

pub returns-then-has_earlier : goal.returns-then-has_earlier
returns-then-has_earlier c = λ name. kept c.args.names.now c.args.d (sym c.has_earlier.ensures ∙ c.if-has_earlier.true) name

pub returns : goal.returns
returns c = λ name. put c.args.names.now c.insert.new.self c.args.d c.in_ok-insert.ensures.updates (sym c.has_earlier.ensures ∙ c.if-has_earlier.false) name
