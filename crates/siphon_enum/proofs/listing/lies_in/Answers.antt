use Rattle.gadara_net.specs.Flows.{flow_net}
use Rattle.siphon_enum.proofs.Judged.{lies_from_rows, rows_from_lies}
use Rattle.siphon_enum.proofs.listing.lies_in.Goals as goal

pub returns-then-is_part : goal.returns-then-is_part
returns-then-is_part g c =
    let n = flow_net c.args.net.now in
    let shaped = c.keeps_flow.ensures.shaped in (
      λ on. lies_from_rows n shaped c.args.one c.args.other _ _ c.requires.one c.requires.other (c.subset.ensures.part.0 on),
      λ lies. c.subset.ensures.part.1 (rows_from_lies n shaped c.args.one c.args.other _ _ c.requires.one c.requires.other lies),
    )
