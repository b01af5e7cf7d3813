use Rattle.std.proofs.Common.{◌++◌, ◌∷◌, [], ap, ◌∙◌, append_assoc}
use Rattle.std.proofs.lemmas.Bool.{ne_eqb}
use Rattle.std.specs.Prelude.{codes}
use Rattle.answers.specs.Traced.{threads_text}
use Rattle.answers.proofs.traced.put_stuck.Goals as goal

pub returns : goal.returns
returns c =
    let threads = threads_text c.args.set 32 in
    let old = c.args.out.now.items in
    rw (ne_eqb c.args.set 0 c.if-set-eq0.false)
    (c.in_ok-push.ensures.items
    ∙ ap (λ x. x ++ 10 ∷ []) (c.in_ok-put_threads.ensures ∙ ap (λ x. x ++ threads) c.in_ok-extend_from_slice.ensures.items)
    ∙ append_assoc (old ++ codes "stuck") threads (10 ∷ []) ∙ append_assoc old (codes "stuck") (threads ++ 10 ∷ []))
