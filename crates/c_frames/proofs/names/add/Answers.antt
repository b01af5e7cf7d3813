use Rattle.std.proofs.Common.{sym, ◌∙◌}
use Rattle.std.specs.Prelude.{bytes_eq}
use Rattle.c_frames.specs.Names.{key_texts}
use Rattle.c_frames.proofs.Collecting.{already, any_map}
use Rattle.c_frames.proofs.names.add.Goals as goal

pub returns-then-contains : goal.returns-then-contains
returns-then-contains c q =
    already (key_texts c.args.names.now) c.args.name.now q
    (sym (any_map (bytes_eq c.args.name.now) (λ name. name.items) c.args.names.now.keys) ∙ sym c.contains.ensures ∙ c.if-contains.true)
