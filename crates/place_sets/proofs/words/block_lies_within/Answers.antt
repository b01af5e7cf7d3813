use Rattle.place_sets.proofs.BitLaws.{block_lies_within}
use Rattle.place_sets.proofs.words.block_lies_within.Goals as goal

pub returns : goal.returns
returns c =
    let words = block_lies_within c.args.one.now c.args.other.now c.args.at c.requires.one c.requires.other in
    (λ t. words.0 (c.are_same.ensures.0 t), λ lie. c.are_same.ensures.1 (words.1 lie))
