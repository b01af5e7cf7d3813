use Rattle.std.proofs.Common.{ap, ◌∙◌}
use Rattle.std.specs.Prelude.{◌||◌}
use Rattle.c_frames.specs.Names.{is_among, is_set, key_texts}
use Rattle.c_frames.specs.Heights.{height}
use Rattle.c_meaning.specs.Shown.{shown_body}
use Rattle.c_frames.proofs.Collecting.{names_begin}
use Rattle.c_frames.proofs.names.local_names.Goals as goal

pub returns : goal.returns
returns c = record {
  exact = λ name.
      ap (λ names. is_among (key_texts names) name) c.names-2.view_is ∙ c.in_ok-add_targets.ensures name
      ∙ ap (λ b. b || is_set name (shown_body c.as_slice-2.result.now)) (c.in_ok-add_params.ensures name)
      ∙ names_begin c.new-names.result.keys c.as_slice.result.now c.args.f.now.params c.as_slice-2.result.now c.args.f.now.body name c.new-names.ensures.empty c.as_slice.ensures c.as_slice-2.ensures;
  height = c.in_ok-height.ensures ∙ ap (λ ss. height (shown_body ss)) c.as_slice-3.ensures;
}
