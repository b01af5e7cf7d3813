use Rattle.std.proofs.Common.{◌≡◌, ◌++◌, ◌∷◌, [], map, replicate, take, get_or, rules, sym, ap, ◌∙◌, arith}
use Rattle.std.proofs.lemmas.List.{map-append, take_more}
use Rattle.state_parts.proofs.starting.first_rows.Goals as goal

pub loop-capacity-preserved : goal.loop-capacity-preserved
loop-capacity-preserved c =
    let row : c.in_ok-vec.field-0.items ≡ replicate c.args.threads 0 = search rules in
    let n = c.loop-capacity._capacity-index in
    ap (map (λ row. row.items)) c.in_ok-push.ensures.items ∙ map-append (λ row. row.items) c.loop-capacity.all.items (c.in_ok-vec.field-0 ∷ [])
    ∙ ap (λ l. l ++ c.in_ok-vec.field-0.items ∷ []) c.loop-capacity.invariant
    ∙ ap (λ l. map (λ capacity. replicate c.args.threads 0) (take n c.args.monitors.now) ++ l ∷ []) row
    ∙ sym (ap (map (λ capacity. replicate c.args.threads 0)) (take_more c.args.monitors.now n 0 (omega arith))
    ∙ map-append (λ capacity. replicate c.args.threads 0) (take n c.args.monitors.now) (get_or c.args.monitors.now n 0 ∷ []))
