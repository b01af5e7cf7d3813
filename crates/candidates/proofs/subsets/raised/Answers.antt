use Rattle.std.proofs.Common.{◌∙◌, sym, inl, inr, ⊎_elim}
use Rattle.std.proofs.lemmas.Bool.{or_cases, eqb-true}
use Rattle.candidates.proofs.Bitwise.{high_members, high_lacks, high_raised}
use Rattle.candidates.proofs.subsets.raised.Goals as goal

pub returns-clause-number : goal.returns-clause-number
returns-clause-number c = c.with_member.ensures.number (high_lacks c.args.set c.args.place c.ranges.set.fits c.requires.lacks) ∙ high_raised c.args.set c.args.place c.ranges.set.fits

pub returns-clause-members : goal.returns-clause-members
returns-clause-members c r on =
    ⊎_elim
    (λ old. inr (high_members c.args.set c.args.place r c.ranges.set.fits old))
    (λ same. inl (eqb-true _ _ same))
    (or_cases _ _ (sym (c.with_member.ensures.members r) ∙ on))
