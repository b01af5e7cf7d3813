use Rattle.std.proofs.Common.{◌∙◌, sym, inl, inr, ⊎_elim}
use Rattle.std.proofs.lemmas.Bool.{or_cases, or_left, or_right, eqb-true, eq-eqb}
use Rattle.net_laws.specs.Candidates.{members}
use Rattle.candidates.proofs.Bitwise.{members-all}
use Rattle.candidates.proofs.Kept.{mutual_from, have_bits}
use Rattle.candidates.proofs.graph.mutual.Goals as goal

pub returns : goal.returns
returns c s =
    let both = mutual_from c.args.rows.now c.args.back.now (members 18446744073709551615) (members c.reached-there.result) (members c.reached-again.result) c.args.resource c.requires.resource
    (have_bits c.args.rows.now (λ k. (c.type_inv.rows k).fits)) c.requires.reversed members-all c.reached-there.ensures c.reached-again.ensures s in
    let is = c.with_member.ensures.members s in (
      λ on. ⊎_elim
          (λ common. inr (both.0 ((c.common.ensures s).0 common)))
          (λ same. inl (eqb-true _ _ same))
          (or_cases _ _ (sym is ∙ on)),
      λ m. is ∙ ⊎_elim
          (λ same. or_right (members c.common.result s) _ (eq-eqb _ _ same))
          (λ way. or_left (members c.common.result s) _ ((c.common.ensures s).1 (both.1 way)))
          m,
    )
