use Rattle.std.proofs.Common.{◌∙◌}
use Rattle.std.specs.Prelude.{bytes_eq}
use Rattle.c_frames.proofs.Collecting.{position_map}
use Rattle.c_frames.proofs.names.LocalNames.place.Goals as goal

pub returns-clause-place : goal.returns-clause-place
returns-clause-place c = c.get_index_of.ensures.index ∙ position_map (bytes_eq c.args.name.now) (λ name. name.items) c.args.self.now.names.keys
