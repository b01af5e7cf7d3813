use Rattle.std.proofs.Common.{false, subst, sym, ap, ◌∙◌}
use Rattle.c_frames.specs.declared.positions.Entered.{Entered}
use Rattle.c_frames.specs.Positions.{todo, inside, Descends}
use Rattle.c_frames.proofs.Lower.{descends_end, enters_lower}
use Rattle.c_frames.proofs.Leaving.{enters_part}
use Rattle.c_frames.proofs.positions.Standing.enter.Goals as goal

pub returns-clause-enters : goal.returns-clause-enters
returns-clause-enters c body s stands =
    ap (λ at. todo body at 0 false) c.push_reserved.ensures.items
    ∙ enters_part body c.args.self.now.entered.items (record { index = c.args.self.now.index; part = c.args.part }) s _ stands.here

pub returns-clause-descends : goal.returns-clause-descends
returns-clause-descends c body s stands down =
    let at = c.args.self.now.entered.items in
    let q : Entered = record { index = c.args.self.now.index; part = c.args.part } in
    subst (Descends body) (sym c.push_reserved.ensures.items) (descends_end body at q down (enters_lower q.part q.index (inside body at) s _ stands.here))
