use Rattle.place_sets.proofs.BitLaws.{blocks_are_same}
use Rattle.place_sets.proofs.words.blocks_are_same.Goals as goal

pub returns : goal.returns
returns c =
    let words = blocks_are_same c.args.one.now c.args.other.now c.args.at in
    (λ t. words.0 (c.are_same.ensures.0 t), λ same. c.are_same.ensures.1 (words.1 same))
