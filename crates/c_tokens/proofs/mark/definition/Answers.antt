use Rattle.c_tokens.proofs.Tables.{told_before, defines_more}
use Rattle.c_tokens.proofs.mark.definition.Goals as goal

pub returns : goal.returns
returns c = λ text defined h.
    let t = told_before text c.args.known.now defined c.args.name.now c.in_ok-before.before h c.in_ok-before.ensures.old in
    rw c.defined.ensures (t.0, t.1, defines_more c.args.known.now c.insert.new.self defined c.args.name.now c.args.value h c.in_ok-before.ensures.updates)
