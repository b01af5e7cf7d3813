use Rattle.std.proofs.Common.{sym, ap, ◌∙◌, None, if◌then◌else◌}
use Rattle.std.specs.Prelude.{is_some}
use Rattle.std.proofs.lemmas.Result.{on_ok_weaker}
use Rattle.contexts.specs.Constants.{with_value}
use Rattle.context_locals.specs.Known.{known_of, place_of}
use Rattle.context_walk.proofs.Declaring.{declared_known}
use Rattle.context_walk.proofs.walk.declare.Goals as goal

pub returns-clause-known : goal.returns-clause-known
returns-clause-known c = on_ok_weaker c.declare.result (λ known writes name value at is fit.
    known name at ∙ ap (with_value (known_of c.args.known.now) name) (
    ap (λ o. if is_some o then c.first_value-value.result else None) (sym at)
    ∙ ap (λ z. if is_some (place_of c.args.known.now.names.now name) then z else None) c.first_value-value.ensures
    ∙ declared_known c.args.known.now.names.now c.args.known.now.values.items writes name value c.args.operand.now is fit)) c.declare.ensures.known
