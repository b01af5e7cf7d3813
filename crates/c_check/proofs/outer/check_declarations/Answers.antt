use Rattle.c_names.specs.Tables.{meant}
use Rattle.c_check.proofs.Outers.{declaration_turn, told_turn, same_told}
use Rattle.c_check.proofs.outer.check_declarations.Goals as goal

pub loop-d-preserved : goal.loop-d-preserved
loop-d-preserved c =
    let more = same_told _ _ c.in_ok-declare.ensures in
    record {
      breaks = declaration_turn c.args.mode c.args.ds.now c.loop-d.d-index c.d-item.result (meant c.loop-d.names) (meant c.declare.new.names) c.loop-d.first c.check_declaration.new.first _
          c.loop-d-test.true c.d-item.is more c.check_declaration.ensures c.loop-d.invariant.breaks;
      known = told_turn c.args.ds.now c.loop-d.d-index c.d-item.result (meant c.loop-d.names) (meant c.declare.new.names) _
          c.loop-d-test.true c.d-item.is more c.loop-d.invariant.known;
    }
