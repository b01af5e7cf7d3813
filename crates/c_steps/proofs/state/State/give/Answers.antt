use Rattle.std.proofs.Common.{◌∷◌, ◌-◌, option_map, sym, ap, ◌∙◌, arith}
use Rattle.c_tree.specs.Bare.{Give}
use Rattle.c_meaning.specs.declared.Did.TheVariants as did
use Rattle.c_meaning.specs.State.{frame}
use Rattle.c_meaning.specs.Outcome.{Done}
use Rattle.c_meaning.specs.Locks.{given, held_by}
use Rattle.c_steps.specs.Model.{state_of}
use Rattle.c_steps.proofs.Effects.{given_where_held}
use Rattle.c_steps.proofs.state.State.give.Goals as goal

pub returns-clause-is : goal.returns-clause-is
returns-clause-is c at =
    let s = state_of c.args.p.now c.args.self.now in
    let frames = frame at.locals at.rest ∷ at.more in
    let row = c.in-Some.row.now in
    let there = sym c.row.ensures ∙ ap (option_map (λ row. row.now)) c.in-Some.is in
    ap (given s c.args.t frames c.args.monitor) there
    ∙ given_where_held s c.args.t frames c.args.monitor (held_by row c.args.t) (c.held_by-held.result - 1) row (omega (arith, c.held_by-held.ensures, c.if-held-eq0.false))
    ∙ ap (Done (did.Give c.args.monitor)) (sym (c.go_on_holding.ensures.goes (Give c.args.monitor) at row there))
