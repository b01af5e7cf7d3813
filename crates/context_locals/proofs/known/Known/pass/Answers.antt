use Rattle.std.proofs.Common.{refl, sym, ap, ◌∙◌}
use Rattle.context_locals.specs.Known.{place_of}
use Rattle.context_locals.proofs.Keeping.{now_known}
use Rattle.context_locals.proofs.known.Known.pass.Goals as goal

pub returns-in-Some-clause-known : goal.returns-in-Some-clause-known
returns-in-Some-clause-known c =
    let before = c.args.self.now in
    now_known before.names.now before.names.now before.values.items before.values.items c.set.new.values.items (place_of before.names.now c.args.name.now) c.in-Some.k c.args.name.now c.args.arg
    c.requires.values refl refl c.set.ensures (ap (place_of before.names.now) (sym c.as_slice.ensures) ∙ sym c.place.ensures.place ∙ c.in-Some.is) refl
