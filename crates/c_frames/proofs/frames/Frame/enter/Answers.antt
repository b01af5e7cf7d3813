use Rattle.std.proofs.Common.{◌≤◌, ℕ, List, subst, sym, ap, ◌∙◌}
use Rattle.c_tree.specs.declared.stmt.Stmt as declared
use Rattle.c_meaning.specs.Shown.{shown_body, shown_stmt}
use Rattle.c_frames.specs.Frames.{picked}
use Rattle.c_frames.specs.Heights.{height}
use Rattle.c_frames.specs.Names.{shown_function}
use Rattle.c_frames.specs.Positions.{todo_at, rest_at, StandsAt}
use Rattle.c_frames.proofs.Placed.{found, picked_begun, has_room, still_room, of_some}
use Rattle.c_frames.proofs.frames.Frame.enter.Goals as goal

pub enter-requires : goal.enter-requires
enter-requires c =
    let next = of_some _ c.next.result (sym c.is_some.ensures ∙ c.if-is_some.true) c.next.ensures.some in
    let Stands : List declared.Stmt → Type 0 = λ ss. StandsAt (shown_body ss) c.args.self.now.at (shown_stmt next.0.now) in
    has_room (shown_function c.args.f.now) c.args.self.now (shown_stmt next.0.now) c.requires (subst Stands c.as_slice-body.ensures next.1)

pub settle-requires : goal.settle-requires
settle-requires c =
    let body = shown_body c.args.f.now.body in
    let next = of_some _ c.next.result (sym c.is_some.ensures ∙ c.if-is_some.true) c.next.ensures.some in
    let Stands : List declared.Stmt → Type 0 = λ ss. StandsAt (shown_body ss) c.args.self.now.at (shown_stmt next.0.now) in
    let down = c.enter.ensures.descends body (shown_stmt next.0.now) (subst Stands c.as_slice-body.ensures next.1) c.requires.descends in
    let AtMost : ℕ → Type 0 = λ capacity. height body ≤ capacity in
    still_room body c.enter.new.self.entered.items c.enter.new.self.entered.capacity down (subst AtMost (sym c.enter.ensures.capacity) c.requires.room)

pub returns-then-is_some-clause-enters : goal.returns-then-is_some-clause-enters
returns-then-is_some-clause-enters c s rest todo =
    let body = shown_body c.args.f.now.body in
    let at = c.args.self.now.at in
    let here = found body at s rest c.requires.settled todo in
    ap (λ ss. todo_at (shown_body ss) c.settle.new.self) (sym c.as_slice-body.ensures) ∙ c.settle.ensures.same ∙ ap (λ ss. todo_at (shown_body ss) c.enter.new.self) c.as_slice-body.ensures
    ∙ c.enter.ensures.enters body here.stmt here.stands ∙ c.part.ensures here.stmt (rest_at body at)
    ∙ sym (picked_begun c.args.arm at.begun here.stmt (rest_at body at))
    ∙ ap (λ first. picked c.args.arm first (rest_at body at)) here.first ∙ ap (picked c.args.arm s) here.behind
