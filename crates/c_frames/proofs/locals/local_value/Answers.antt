use Rattle.std.proofs.Common.{None, sym, ap, ◌∙◌, refl}
use Rattle.std.proofs.lemmas.Option.{slice_get_read, slice_get_past}
use Rattle.std.specs.Prelude.{length, unwrap_or}
use Rattle.c_frames.specs.Names.{names_in}
use Rattle.c_frames.proofs.LocalPlaces.{value_there, value_nowhere}
use Rattle.c_frames.proofs.locals.local_value.Goals as goal

pub returns-in_err-place : goal.returns-in_err-place
returns-in_err-place c = c.from_residual.ensures ∙ sym (value_nowhere c.args.name.now (names_in c.args.names.now) c.args.values.now (sym c.in_err-place.ensures.place))

pub returns-in_err-get : goal.returns-in_err-get
returns-in_err-get c =
    value_there c.args.name.now (names_in c.args.names.now) c.args.values.now c.in_ok-place.place _ (sym c.in_ok-place.ensures.place)
    (ap (λ r. unwrap_or r None) (slice_get_past c.args.values.now c.in_ok-place.place c.in_err-get.ensures.lookup.3) ∙ sym c.from_residual-in_err-get.ensures)

pub returns : goal.returns
returns c =
    let found = c.in_ok-get.ensures.lookup in
    value_there c.args.name.now (names_in c.args.names.now) c.args.values.now c.in_ok-place.place _ (sym c.in_ok-place.ensures.place)
    (ap (λ r. unwrap_or r None) (slice_get_read c.args.values.now (length c.args.values.now) c.in_ok-place.place c.in_ok-get.field-0.now refl found.3.0 found.1))
