use Rattle.c_meaning.specs.Shown.{shown_stmt}
use Rattle.state_parts.proofs.Firsts.{stands_of}
use Rattle.state_parts.proofs.first.first_in.Goals as goal

pub returns-in-Some-next-clause-is : goal.returns-in-Some-next-clause-is
returns-in-Some-next-clause-is c =
    stands_of c.args.p.now c.args.tables.now c.args.x.now c.in-Some.f.now (shown_stmt c.in-Some-next.s.now) c.begun.result c.requires.tables c.requires.valid c.in-Some.ensures.some
    c.in-Some-next.ensures.some c.begun.ensures

pub returns-in-Some-next-clause-small : goal.returns-in-Some-next-clause-small
returns-in-Some-next-clause-small c =
    (stands_of c.args.p.now c.args.tables.now c.args.x.now c.in-Some.f.now (shown_stmt c.in-Some-next.s.now) c.begun.result c.requires.tables c.requires.valid c.in-Some.ensures.some
    c.in-Some-next.ensures.some c.begun.ensures).small
