use Rattle.std.proofs.Common.{◌≡◌, ◌+◌, suc, rules, w32, to_z, of_z, drop, Some, refl, sym, ap, ◌∙◌, arith}
use Rattle.c_tree.specs.Bare as bare
use Rattle.c_tree.specs.Expressions.{place_of}
use Rattle.c_meaning.specs.Setting.{read_into, set}
use Rattle.c_meaning.specs.Outcome.{Done}
use Rattle.c_meaning.specs.declared.Did.TheVariants.{Read}
use Rattle.c_steps.specs.Model.{state_of}
use Rattle.c_steps.specs.Standing.{At}
use Rattle.state_parts.specs.Targets.{shown_target}
use Rattle.c_steps.proofs.Rows.{may_target, drop_there, drop_past, set_input}
use Rattle.c_steps.proofs.state.State.read.Goals as goal

pub returns-in_default-clause-is : goal.returns-in_default-clause-is
returns-in_default-clause-is c at =
    let s = c.args.self.now in
    (ap (λ target. read_into (state_of c.args.p.now s) c.args.t at.locals at.rest at.more target (drop s.read s.input)) (sym (c.in_default.ensures.is (bare.Read (place_of c.args.place.now)) at)), refl)

pub set-requires-clause-may : goal.set-requires-clause-may
set-requires-clause-may c = may_target c.args.self.now c.args.t c.args.place.now.name c.in-Some.target c.requires.may c.in-Some.ensures.named

pub returns-in-None-clause-is : goal.returns-in-None-clause-is
returns-in-None-clause-is c at =
    let s = c.args.self.now in let act = bare.Read (place_of c.args.place.now) in
    ap (λ target. read_into (state_of c.args.p.now s) c.args.t at.locals at.rest at.more target (drop s.read s.input)) (sym (c.in-Some.ensures.is act at))
    ∙ ap (read_into (state_of c.args.p.now s) c.args.t at.locals at.rest at.more (Some (shown_target c.in-Some.target))) (drop_past s.input s.read (sym c.in-None.ensures.is))
    ∙ ap (λ x. Done Read x) (sym (c.go_on.ensures.goes act at))

pub returns-in-Some-next_number-clause-is : goal.returns-in-Some-next_number-clause-is
returns-in-Some-next_number-clause-is c at =
    let s = c.args.self.now in let act = bare.Read (place_of c.args.place.now) in let z = c.in-Some-next_number.z in
    let same : to_z w32 (of_z w32 z) ≡ z = search rules in
    let one : suc s.read ≡ s.read + 1 = omega arith in
    let moved : At c.args.p.now (record s { read = s.read + 1 }) c.args.t act = record { thread = at.thread; there = at.there; runs = at.runs; locals = at.locals; rest = at.rest; more = at.more; stands = at.stands } in
    ap (λ target. read_into (state_of c.args.p.now s) c.args.t at.locals at.rest at.more target (drop s.read s.input)) (sym (c.in-Some.ensures.is act at))
    ∙ ap (read_into (state_of c.args.p.now s) c.args.t at.locals at.rest at.more (Some (shown_target c.in-Some.target))) (drop_there s.input s.read z (sym c.in-Some-next_number.ensures.is))
    ∙ ap (λ k. Done Read (record (set (state_of c.args.p.now s) c.args.t at.locals at.rest at.more (shown_target c.in-Some.target) z) { input = drop k s.input })) one
    ∙ ap (λ x. Done Read x) (sym (set_input (state_of c.args.p.now s) (drop (s.read + 1) s.input) c.args.t at.locals at.rest at.more (shown_target c.in-Some.target) z))
    ∙ ap (λ z. Done Read (set (record (state_of c.args.p.now s) { input = drop (s.read + 1) s.input }) c.args.t at.locals at.rest at.more (shown_target c.in-Some.target) z)) (sym same)
    ∙ ap (λ x. Done Read x) (sym (c.set.ensures.goes act moved))
