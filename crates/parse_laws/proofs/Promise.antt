-- The promise is kept.
use Rattle.std.proofs.Common.{◌≤◌, List, [], Result, Ok, Err, subst}
use Rattle.parse_laws.specs.declared.fault.Fault.{Fault}
use Rattle.parse_laws.specs.declared.fault.Refusal.{Refusal}
use Rattle.parse_laws.specs.declared.fault.Refusal.TheVariants.{Memory, At}
use Rattle.parse_laws.specs.declared.token.Token.{Token}
use Rattle.parse_laws.specs.declared.tree.Sum.{Sum}
use Rattle.parse_laws.specs.declared.tree.Tall.{Tall}
use Rattle.parse_laws.specs.Parser.{Outcome, Got, Failed}
use Rattle.parse_laws.specs.Exact.{FailsAt, IsExact, whole}
use Rattle.parse_laws.specs.Sums.{Spells, height}
use Rattle.parse_laws.specs.SumParser.{list}
use Rattle.parse_laws.specs.Promise as promise
use Rattle.parse_laws.specs.Promise.{max_levels}
use Rattle.parse_laws.proofs.Exact.{whole_is_exact, whole_reads, whole_fails}
use Rattle.parse_laws.proofs.Sums.{list_exact}

pub right : (ts : List Token) (result : Result (Tall (List Sum)) (Refusal Token)) → promise.Ends result (whole (list max_levels) ts) → promise.Right result ts
right ts result e = go result (whole (list max_levels) ts) e (whole_is_exact list_exact max_levels ts)
  where
    go : (result : Result (Tall (List Sum)) (Refusal Token)) (o : Outcome Token (Tall (List Sum))) → promise.Ends result o → IsExact Spells height max_levels ts o → promise.Right result ts
    go (Ok x) (Got all rest) e h = rw e (h.1, h.2)
    go (Ok x) (Failed f rest) e h = absurd e
    go (Err Memory) o e h = tt
    go (Err (At g after)) (Got all rest) e h = absurd e
    go (Err (At g after)) (Failed f rest) e h = rw (e.0, e.1) h

pub only : (ts : List Token) (result : Result (Tall (List Sum)) (Refusal Token)) → promise.Ends result (whole (list max_levels) ts) → (all : Tall (List Sum)) → Spells ts all → all.height ≤ max_levels → promise.Is result all
only ts result e all d le = go result (subst (λ (o : Outcome Token (Tall (List Sum))). promise.Ends result o) (whole_reads list_exact max_levels ts all d le) e)
  where
    go : (result : Result (Tall (List Sum)) (Refusal Token)) → promise.Ends result (Got all []) → promise.Is result all
    go (Ok x) e = e
    go (Err Memory) e = tt
    go (Err (At g after)) e = e

pub fails : (ts : List Token) (result : Result (Tall (List Sum)) (Refusal Token)) → promise.Ends result (whole (list max_levels) ts) → (f : Fault) (rest : List Token) → FailsAt Spells height max_levels ts f rest → promise.Fails result f rest
fails ts result e f rest h = go result (subst (λ (o : Outcome Token (Tall (List Sum))). promise.Ends result o) (whole_fails list_exact max_levels ts f rest h) e)
  where
    go : (result : Result (Tall (List Sum)) (Refusal Token)) → promise.Ends result (Failed f rest) → promise.Fails result f rest
    go (Ok x) e = e
    go (Err Memory) e = tt
    go (Err (At g after)) e = e
