use Rattle.std.proofs.Common.{◌≡◌, ◌≤◌, length, List, ◌∷◌, Some, sym, ap, ◌∙◌, arith}
use Rattle.std.specs.Prelude.{ℤ, slice_set}
use Rattle.std.proofs.Math.Facts.{to_z-of_z}
use Rattle.c_frames.specs.LocalValues.{changed}
use Rattle.state_parts.specs.Onward.{onward}
use Rattle.c_meaning.specs.State as run
use Rattle.c_meaning.specs.Setting as setting
use Rattle.c_steps.specs.Model.{state_of}
use Rattle.state_parts.specs.Targets.{shown_target}
use Rattle.std.proofs.lemmas.List.{set_past}
use Rattle.c_steps.proofs.state.State.set.Goals as goal

pub returns-in-Local-clause-goes : goal.returns-in-Local-clause-goes
returns-in-Local-clause-goes c act at =
    c.set_local.ensures.goes act at
    ∙ ap (λ z. run.goes_on (state_of c.args.p.now c.args.self.now) c.args.t (run.frame (changed at.locals c.in-Local.name.now (Some z)) (onward c.args.to act at.rest) ∷ at.more)) (to_z-of_z c.ranges.z)
    ∙ ap (λ x. setting.set (state_of c.args.p.now c.args.self.now) c.args.t at.locals (onward c.args.to act at.rest) at.more (shown_target x) c.args.z) (sym c.in-Local.is)

pub returns-then-cell-len-clause-goes : goal.returns-then-cell-len-clause-goes
returns-then-cell-len-clause-goes c act at =
    let s = state_of c.args.p.now c.args.self.now in
    ap (λ z. record (state_of c.args.p.now c.go_on.new.self) { cells = slice_set c.go_on.new.self.cells.items c.in-Cell.cell z }) (to_z-of_z c.ranges.z)
    ∙ ap {A = run.State} (λ x. record x { cells = slice_set x.cells c.in-Cell.cell c.args.z }) (c.go_on.ensures.goes act at)
    ∙ ap (λ x. setting.set s c.args.t at.locals (onward c.args.to act at.rest) at.more (shown_target x) c.args.z) (sym c.in-Cell.is)

pub returns-else-cell-len-clause-goes : goal.returns-else-cell-len-clause-goes
returns-else-cell-len-clause-goes c act at =
    let s = state_of c.args.p.now c.args.self.now in
    let past : length c.go_on.new.self.cells.items ≤ c.in-Cell.cell = omega arith in
    let nothing : c.go_on.new.self.cells.items ≡ slice_set c.go_on.new.self.cells.items c.in-Cell.cell c.args.z = sym (set_past c.go_on.new.self.cells.items c.in-Cell.cell c.args.z past) in
    ap {A = List ℤ} (λ cells. record (state_of c.args.p.now c.go_on.new.self) { cells = cells }) nothing
    ∙ ap {A = run.State} (λ x. record x { cells = slice_set x.cells c.in-Cell.cell c.args.z }) (c.go_on.ensures.goes act at)
    ∙ ap (λ x. setting.set s c.args.t at.locals (onward c.args.to act at.rest) at.more (shown_target x) c.args.z) (sym c.in-Cell.is)
