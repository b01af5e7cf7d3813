use Rattle.std.proofs.Common.{◌≡◌, ◌-◌, drop, slice_index_or, ℤ, pos, SFits, w32, rules, refl, sym, ap, ◌∙◌, arith}
use Rattle.std.proofs.lemmas.Int.{to_z-of_z}
use Rattle.std.specs.FinMap as finite
use Rattle.c_frames.specs.LocalValues.{locals_of}
use Rattle.c_frames.specs.Names.{names_in}
use Rattle.c_meaning.specs.Calls.{passed}
use Rattle.c_frames.proofs.LocalPlaces.{passed_none, passed_more}
use Rattle.c_frames.proofs.locals.pass_args.Goals as goal

pub loop-k-init : goal.loop-k-init
loop-k-init c = c.requires.none ∙ sym (passed_none c.args.params.now c.args.args.now c.min-count.result c.min-count.ensures)

pub loop-k-preserved : goal.loop-k-preserved
loop-k-preserved c =
    let k = c.loop-k.k in
    let names = names_in c.args.names.now in
    let z : ℤ = slice_index_or c.args.args.now (k - 1) (pos 0) in
    let fits : SFits w32 z = search rules in
    let name : c.as_slice.result.now ≡ slice_index_or c.args.params.now (k - 1) c.as_slice.result.now =
    c.as_slice.ensures ∙ c.index-params-k.is ∙ ap (slice_index_or c.args.params.now (k - 1)) (sym c.as_slice.ensures) in
    let sets : locals_of names c.set_local.new.values ≡ finite.insert (locals_of names c.loop-k.values) c.as_slice.result.now z =
    c.set_local.ensures ∙ ap (finite.insert (locals_of names c.loop-k.values) c.as_slice.result.now) (to_z-of_z w32 z fits) in
    passed_more c.args.params.now c.args.args.now k c.as_slice.result.now z (pos 0) (locals_of names c.loop-k.values) (locals_of names c.set_local.new.values)
    c.loop-k-test.true (omega arith) (omega arith) name refl c.loop-k.invariant sets

pub returns : goal.returns
returns c =
    let none : c.loop-k.k ≡ 0 = omega (arith, c.loop-k-test.false) in
    c.loop-k.invariant ∙ ap (λ k. passed (drop k c.args.params.now) (drop k c.args.args.now)) none
