use Rattle.std.proofs.Common.{◌≡◌, ◌+◌, length, Some, refl, sym, ap, ◌∙◌, arith}
use Rattle.std.specs.Prelude.{slice_get}
use Rattle.std.proofs.lemmas.List.{length_push}
use Rattle.std.proofs.lemmas.Option.{slice_get_read}
use Rattle.c_tree.specs.declared.program.Function.{Function}
use Rattle.c_frames.specs.declared.names.LocalNames.{LocalNames}
use Rattle.c_frames.specs.Names.{shown_function, NamesOf}
use Rattle.state_parts.proofs.Starts.{each_more}
use Rattle.state_parts.proofs.starting.all_names.Goals as goal

pub loop-f-preserved : goal.loop-f-preserved
loop-f-preserved c =
    let items = c.in_ok-push.ensures.items in
    let there : slice_get c.args.functions.now c.loop-f.f-index ≡ Some c.f-item.result =
    slice_get_read c.args.functions.now (length c.args.functions.now) c.loop-f.f-index c.f-item.result refl (omega arith) c.f-item.is in (
      ap length items ∙ length_push c.loop-f.all.items c.in_ok-local_names.field-0 ∙ ap (λ n. n + 1) c.loop-f.invariant.0,
      λ k f names ef en. each_more (λ (f : Function) (names : LocalNames). NamesOf (shown_function f) names) c.args.functions.now c.loop-f.all.items c.f-item.result c.in_ok-local_names.field-0 c.loop-f.f-index
          c.loop-f.invariant.0 there c.in_ok-local_names.ensures c.loop-f.invariant.1 k f names ef (ap (λ l. slice_get l k) (sym items) ∙ en),
    )
