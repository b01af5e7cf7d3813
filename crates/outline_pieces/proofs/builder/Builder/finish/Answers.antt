use Rattle.std.proofs.Common.{replicate, refl, sym, subst, arith}
use Rattle.std.proofs.lemmas.Result.{err_from_is_err_and}
use Rattle.outline_pieces.specs.declared.error.FlowError.{FlowError}
use Rattle.outline_pieces.specs.Found.{IsErrorFor}
use Rattle.outline_pieces.proofs.Taking.{many_points}
use Rattle.outline_pieces.proofs.Finishing.{found, refused}
use Rattle.outline_pieces.proofs.builder.Builder.finish.Goals as goal

pub returns-then-self-gt-MOST_POINTS-clause-refused :
    goal.returns-then-self-gt-MOST_POINTS-clause-refused
returns-then-self-gt-MOST_POINTS-clause-refused c m n ths has = many_points m n c.args.self ths c.if-self.false (omega arith) has

pub returns-in_err-points-clause-refused : goal.returns-in_err-points-clause-refused
returns-in_err-points-clause-refused c =
    let p = err_from_is_err_and c.from_residual-in_err-points.result c.from_residual-in_err-points.ensures.1 in
    rw p.1
    (λ m n ths has.
    let P : FlowError → Type 0 = IsErrorFor m (replicate n 0) ths in
    subst P (sym p.2)
    (refused m n c.args.self ths c.if-self.false (omega arith) has c.in_ok-nothing.nothing c.in_ok-nothing.ensures c.as_slice.result.now c.as_slice.ensures _
    c.in_err-points.ensures.err))

pub returns-clause-found : goal.returns-clause-found
returns-clause-found c m n ths has =
    found m n c.args.self ths c.if-self.false (omega arith) has c.in_ok-nothing.nothing c.in_ok-nothing.ensures c.as_slice.result.now c.as_slice.ensures _
    refl c.in_ok-points.ensures.ok c.in_ok-edges.ensures
