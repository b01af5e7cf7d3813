use Rattle.std.proofs.Common.{◌≡◌, [], ◌∷◌, ◌++◌, ◌+◌, subst, sym, ap, ◌∙◌, arith}
use Rattle.c_tree.specs.Bare.{Nil}
use Rattle.c_tree.specs.Bare.{before}
use Rattle.c_meaning.specs.Shown.{shown_body}
use Rattle.c_frames.specs.Positions.{from, left, inside, behind, todo, weight, weight_of, Descends}
use Rattle.c_frames.proofs.Lower.{descends_front}
use Rattle.c_frames.proofs.Standings.{from_past, something}
use Rattle.c_frames.proofs.Leaving.{leaves, weight_end}
use Rattle.c_frames.proofs.positions.Standing.settle.Goals as goal

pub loop-self-smaller : goal.loop-self-smaller
loop-self-smaller c =
    let was : weight c.loop-self.self.entered.items ≡ weight c.pop.new.self.items + weight_of c.in-Some.q.part =
    ap weight c.in-Some.ensures.items ∙ weight_end c.pop.new.self.items c.in-Some.q in
    omega (arith, was, c.resume.ensures.shorter)

pub loop-self-preserved : goal.loop-self-preserved
loop-self-preserved c =
    let body = shown_body c.args.body.now in
    let at = c.pop.new.self.items in
    let q = c.in-Some.q in
    let here : inside body c.loop-self.self.entered.items ≡ shown_body c.inside.result.now = ap (inside body) (sym c.as_slice.ensures) ∙ sym c.inside.ensures in
    let outer : inside body at ≡ shown_body c.inside-outer.result.now = ap (inside body) (sym c.as_slice-in-loop-self.ensures) ∙ sym c.inside-outer.ensures in
    let items : c.loop-self.self.entered.items ≡ at ++ q ∷ [] = c.in-Some.ensures.items in
    let nothing : from c.loop-self.self.index (inside body (at ++ q ∷ [])) ≡ Nil =
    ap (λ x. from c.loop-self.self.index (inside body x)) (sym items) ∙ ap (from c.loop-self.self.index) here
    ∙ from_past c.inside.result.now c.loop-self.self.index c.loop-self-test.true in
    let same = c.resume.ensures.resumes body outer ∙ ap (λ l. before (left q.part (from q.index l)) (behind body at)) (sym outer)
    ∙ leaves body at q c.loop-self.self.index c.loop-self.self.begun nothing
    ∙ ap (λ x. todo body x c.loop-self.self.index c.loop-self.self.begun) (sym items) ∙ c.loop-self.invariant.0 in (
      same,
      c.resume.ensures.capacity ∙ c.in-Some.ensures.capacity ∙ c.loop-self.invariant.1,
      omega (arith, c.resume.ensures.room, c.in-Some.ensures.len, c.loop-self.invariant.2),
      λ down. c.resume.ensures.descends body outer (descends_front body at q (subst (Descends body) items (c.loop-self.invariant.3 down))),
    )

pub returns-clause-settled : goal.returns-clause-settled
returns-clause-settled c = record {
  here = λ e.
      let here : inside (shown_body c.args.body.now) c.loop-self.self.entered.items ≡ shown_body c.inside.result.now = ap (inside (shown_body c.args.body.now)) (sym c.as_slice.ensures) ∙ sym c.inside.ensures in
      absurd (something c.inside.result.now c.loop-self.self.index c.loop-self-test.false (ap (from c.loop-self.self.index) (sym here) ∙ e));
}
