use Rattle.std.proofs.Common.{ℕ, List, not, bytes_eq, rules, tests}
use Rattle.std.proofs.lemmas.Fn.{filter_same}
use Rattle.first_form.proofs.HeldNames.{released}
use Rattle.first_form.proofs.locks.Held.release.Goals as goal
use denote.Ref.{Bor}

pub returns : goal.returns
returns c =
    let name = c.args.name.now in
    released c.args.self.now.names.items c.retain.new.self.items name
    (filter_same _ (λ (k : Bor (List ℕ)). not (bytes_eq k.now name)) _ (λ x b q k. search (rules, tests)) _ _ c.retain.ensures.filtered)
