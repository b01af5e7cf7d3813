use Rattle.std.proofs.Common.{◌≡◌, ◌<◌, ◌+◌, suc, true, false, refl, subst, sym, ap, ◌∙◌, arith}
use Rattle.std.proofs.lemmas.Option.{slice_get_past}
use Rattle.c_frames.specs.declared.positions.Part.TheVariants as parts
use Rattle.c_frames.specs.declared.positions.Entered.{Entered}
use Rattle.c_tree.specs.Bare.{before}
use Rattle.c_meaning.specs.Shown.{shown_body}
use Rattle.c_tree.specs.Bare.{Stmts}
use Rattle.c_frames.specs.Heights.{height}
use Rattle.c_frames.specs.Positions.{todo, from, left, entered, next_in, weight, weight_of, Descends}
use Rattle.c_frames.proofs.Lower.{descends_end, enters_lower}
use Rattle.c_frames.proofs.Standings.{there_of, from_there, from_nothing}
use Rattle.c_frames.proofs.Leaving.{resumes_here, resumes_step, weight_end}
use Rattle.c_frames.proofs.positions.Standing.resume.Goals as goal

pub returns-in-Past-clause-resumes : goal.returns-in-Past-clause-resumes
returns-in-Past-clause-resumes c body is =
    let found = c.in-Some.ensures.lookup in
    let there = from_there c.args.list.now c.args.q.index c.in-Some.s.now (there_of c.args.list.now c.args.q.index c.in-Some.s.now found.3.0 found.1) in
    let next : suc c.args.q.index ≡ c.args.q.index + 1 = omega arith in
    resumes_here body (shown_body c.args.list.now) c.args.self.now.entered.items c.args.q false (c.args.q.index + 1) is
    (ap (left c.args.q.part) there ∙ c.in-Past.ensures.resumes _ ∙ ap (λ k. from k (shown_body c.args.list.now)) next)

pub returns-in-Again-clause-resumes : goal.returns-in-Again-clause-resumes
returns-in-Again-clause-resumes c body is =
    let found = c.in-Some.ensures.lookup in
    let there = from_there c.args.list.now c.args.q.index c.in-Some.s.now (there_of c.args.list.now c.args.q.index c.in-Some.s.now found.3.0 found.1) in
    resumes_here body (shown_body c.args.list.now) c.args.self.now.entered.items c.args.q false c.args.q.index is
    (ap (left c.args.q.part) there ∙ c.in-Again.ensures.resumes _ ∙ sym there)

pub returns-in-Test-clause-resumes : goal.returns-in-Test-clause-resumes
returns-in-Test-clause-resumes c body is =
    let found = c.in-Some.ensures.lookup in
    let there = from_there c.args.list.now c.args.q.index c.in-Some.s.now (there_of c.args.list.now c.args.q.index c.in-Some.s.now found.3.0 found.1) in
    resumes_here body (shown_body c.args.list.now) c.args.self.now.entered.items c.args.q true c.args.q.index is
    (ap (left c.args.q.part) there ∙ c.in-Test.ensures.resumes _ ∙ ap (next_in true) (sym there))

pub returns-in-Stepping-clause-resumes : goal.returns-in-Stepping-clause-resumes
returns-in-Stepping-clause-resumes c body is =
    let found = c.in-Some.ensures.lookup in
    let there = from_there c.args.list.now c.args.q.index c.in-Some.s.now (there_of c.args.list.now c.args.q.index c.in-Some.s.now found.3.0 found.1) in
    ap (λ at. todo body at 0 false) c.push_reserved.ensures.items
    ∙ resumes_step body (shown_body c.args.list.now) c.args.self.now.entered.items c.args.q (record { index = c.args.q.index; part = parts.Step }) refl refl is
    (ap (left c.args.q.part) there ∙ c.in-Stepping.ensures.resumes _ ∙ ap (λ l. before (entered parts.Step l) (left parts.Step l)) (sym there))

pub returns-in-Stepping-clause-shorter : goal.returns-in-Stepping-clause-shorter
returns-in-Stepping-clause-shorter c =
    let step : Entered = record { index = c.args.q.index; part = parts.Step } in
    let body_is : weight_of c.args.q.part ≡ 2 = ap weight_of (c.in-Stepping.ensures.steps refl) in
    let now : weight c.push_reserved.new.self.items ≡ weight c.args.self.now.entered.items + 1 = ap weight c.push_reserved.ensures.items ∙ weight_end c.args.self.now.entered.items step in
    omega (arith, body_is, now)

pub returns-in_default-clause-resumes : goal.returns-in_default-clause-resumes
returns-in_default-clause-resumes c body is =
    let nothing = from_nothing c.args.list.now c.args.q.index (slice_get_past c.args.list.now c.args.q.index c.in_default.ensures.lookup.3) in
    resumes_here body (shown_body c.args.list.now) c.args.self.now.entered.items c.args.q false c.args.q.index is (ap (left c.args.q.part) nothing ∙ sym nothing)

pub returns-in-Stepping-clause-descends : goal.returns-in-Stepping-clause-descends
returns-in-Stepping-clause-descends c body is down =
    let at = c.args.self.now.entered.items in
    let list = shown_body c.args.list.now in
    let step : Entered = record { index = c.args.q.index; part = parts.Step } in
    let found = c.in-Some.ensures.lookup in
    let there = from_there c.args.list.now c.args.q.index c.in-Some.s.now (there_of c.args.list.now c.args.q.index c.in-Some.s.now found.3.0 found.1) in
    let Lower : Stmts → Type 0 = λ l. height (entered parts.Step (from c.args.q.index l)) < height l in
    subst (Descends body) (sym c.push_reserved.ensures.items)
    (descends_end body at step down (subst Lower (sym is) (enters_lower parts.Step c.args.q.index list _ _ there)))
