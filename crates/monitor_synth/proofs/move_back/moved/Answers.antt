use Rattle.std.proofs.Common.{◌≡◌, ℕ, ◌<◌, List, ◌++◌, length, take, drop, sym, ◌∙◌, subst, ⊎_elim, inl, inr, arith}
use Rattle.std.specs.Prelude.{slice_index}
use Rattle.std.proofs.lemmas.Bool.{cases_lt}
use Rattle.std.proofs.lemmas.List.{take-append-le, take_all}
use Rattle.gadara_net.specs.Flows.{flow_net}
use Rattle.weight_laws.specs.Weights.{IsMovedFrom}
use Rattle.monitor_synth.proofs.Rising.{moved_from, reached_first, settled_zero}
use Rattle.monitor_synth.proofs.move_back.moved.Goals as goal

-- what a vector holds once its slice has been written
put_back : (n : ℕ) (xs ys : List ℕ) → length xs ≡ n → take n (xs ++ drop (length xs) ys) ≡ xs
put_back n xs ys same = take-append-le n xs (drop (length xs) ys) (omega (arith, same)) ∙ take_all n xs (omega (arith, same))

pub raise_all-requires-clause-settled : goal.raise_all-requires-clause-settled
raise_all-requires-clause-settled c p =
    let n = flow_net c.args.n.now in
    let same : c.deref_mut.result.now ≡ c.args.w.now = c.deref_mut.ensures.value ∙ (c.in_ok-moved.ensures.items ∙ c.as_slice-2.ensures) in
    ⊎_elim
    (λ above. inr (c.in_ok-todo.ensures.each p (subst (λ xs. 0 < slice_index xs p) (same ∙ sym c.as_slice.ensures) above)))
    (λ none. inl (settled_zero n (slice_index c.deref_mut.result.now) p (omega (arith, none))))
    (cases_lt 0 (slice_index c.deref_mut.result.now p))

pub returns-clause-moved : goal.returns-clause-moved
returns-clause-moved c =
    let n = flow_net c.args.n.now in
    let first = c.deref_mut.result.now in
    let last = c.raise_all.new.moved in
    let same : first ≡ c.args.w.now = c.deref_mut.ensures.value ∙ (c.in_ok-moved.ensures.items ∙ c.as_slice-2.ensures) in
    let given : c.from_vec.result ≡ last = c.from_vec.ensures ∙ put_back c.in_ok-moved.moved.len last c.in_ok-moved.moved.items (omega (arith, c.raise_all.auto.moved, c.deref_mut.ensures.len)) in
    let made = c.in_ok-raise_all.ensures in
    let moved = moved_from n (slice_index first) (slice_index last) (made.reached (slice_index first) (reached_first n (slice_index first))) made.settled in
    subst (λ xs. IsMovedFrom n (slice_index c.args.w.now) (slice_index xs)) (sym given) (subst (λ xs. IsMovedFrom n (slice_index xs) (slice_index last)) same moved)
