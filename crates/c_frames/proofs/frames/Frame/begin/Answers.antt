use Rattle.std.proofs.Common.{true, ap, ◌∙◌, sym}
use Rattle.c_tree.specs.Bare.{Cons}
use Rattle.c_meaning.specs.Shown.{shown_body}
use Rattle.c_frames.specs.Positions.{first_of, rest_at}
use Rattle.c_frames.proofs.Placed.{found, begun_once}
use Rattle.c_frames.proofs.frames.Frame.begin.Goals as goal

pub returns-clause-begins : goal.returns-clause-begins
returns-clause-begins c s rest todo =
    let body = shown_body c.args.f.now.body in
    let here = found body c.args.self.now.at s rest c.requires.settled todo in
    c.begin.ensures.begins body here.stmt here.stands
    ∙ ap (λ first. Cons first (rest_at body c.args.self.now.at)) (sym (begun_once c.args.self.now.at.begun here.stmt) ∙ ap (first_of true) here.first) ∙ ap (Cons (first_of true s)) here.behind
