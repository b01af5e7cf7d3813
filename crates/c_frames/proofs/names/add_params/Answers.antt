use Rattle.std.proofs.Common.{refl, ap, ◌∙◌}
use Rattle.std.specs.Prelude.{bytes_eq, ◌||◌}
use Rattle.c_frames.specs.Names.{is_among, key_texts}
use Rattle.c_frames.proofs.Collecting.{next_param, all_params}
use Rattle.c_frames.proofs.names.add_params.Goals as goal

pub loop-name-init : goal.loop-name-init
loop-name-init c q = refl

pub loop-name-preserved : goal.loop-name-preserved
loop-name-preserved c q =
    next_param c.args.params.now c.loop-name.name-index c.name-item.result q (is_among (key_texts c.loop-name.names) q) (is_among (key_texts c.add.new.names) q)
    (is_among (key_texts c.args.names.now) q || is_among c.args.params.now q) c.loop-name-test.true c.name-item.is
    (c.in_ok-add.ensures q ∙ ap (λ name. is_among (key_texts c.loop-name.names) q || bytes_eq q name) c.as_slice.ensures) (c.loop-name.invariant q)

pub returns : goal.returns
returns c q =
    all_params c.args.params.now c.loop-name.name-index q (is_among (key_texts c.loop-name.names) q) (is_among (key_texts c.args.names.now) q || is_among c.args.params.now q)
    c.loop-name-test.false (c.loop-name.invariant q)
