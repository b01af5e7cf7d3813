use Rattle.std.proofs.Common.{refl, sym, ◌∙◌, ap}
use Rattle.c_expressions.specs.declared.token.What.TheVariants as marked
use Rattle.c_tokens.proofs.Tables.{name_found, name_plain}
use Rattle.std.specs.Option.{option_copied}
use Rattle.c_tokens.proofs.mark.name.Goals as goal

pub returns-in-Some : goal.returns-in-Some
returns-in-Some c = λ defined h.
    name_found c.args.text.now c.args.known.now defined _ (marked.Name c.args.place) c.in-Some.what.now h
    (rw⁻¹ c.piece.ensures (sym c.get.ensures.value ∙ ap option_copied c.in-Some.is)) refl

pub returns-in-None : goal.returns-in-None
returns-in-None c = λ defined h.
    name_plain c.args.text.now c.args.known.now defined _ (marked.Name c.args.place) h
    (rw⁻¹ c.piece.ensures (sym c.get.ensures.value ∙ ap option_copied c.in-None.is)) refl
