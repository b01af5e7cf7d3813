use Rattle.std.proofs.Common.{arith}
use Rattle.outline_pieces.proofs.Taking.{takes, at_ok}
use Rattle.outline_pieces.proofs.builder.Builder.push.Goals as goal

pub returns-else-is_err : goal.returns-else-is_err
returns-else-is_err c m n ps has =
    takes m n c.args.self.now c.keep.new.self ps c.args.piece c.if-self.false (omega arith) c.keep.ensures.mutexes c.keep.ensures.resources
    (at_ok c.keep.result c.if-is_err.ensures.value c.keep.ensures.course) (at_ok c.keep.result c.if-is_err.ensures.value c.keep.ensures.kept) has
