-- What threads hold is what is held at their points.
use Rattle.std.proofs.Common.{◌≡◌, ℕ, zero, suc, ◌-◌, Bool, true, false, List, [], ◌∷◌, map, replicate, Option, Some, None, inl, inr, refl, sym, ap, ◌∙◌, arith}
use Rattle.std.specs.Prelude.{ℤ, ◌==◌, nat_lt, if◌then◌else◌, slice_get, slice_index, unwrap_or}
use Rattle.std.proofs.lemmas.Bool.{eq-eqb, eqb-true, lt-ltb}
use Rattle.c_tree.specs.Bare as bare
use Rattle.c_tree.specs.Lined.{bare_program}
use Rattle.c_tree.specs.Numbering.{mutex_count, thread_count}
use Rattle.c_meaning.specs.Locks.{held_by}
use Rattle.c_meaning.specs.State.{start}
use Rattle.c_meaning.specs.Stuck.{is_owner, row_of}
use Rattle.edges.specs.Ops.{takes, gives}
use Rattle.net_laws.specs.Net.{Net, IsNet, one}
use Rattle.outlines.specs.Outline.{Thread}
use Rattle.outline_laws.specs.Leading.{first_point, begins}
use Rattle.outline_laws.proofs.Numbers.{from_self}
use Rattle.outline_laws.proofs.Placed.{rows_of, src_of}
use Rattle.held_counts.specs.Nets.{nothing_of, IsHeldNetOf}
use Rattle.held_counts.proofs.Along.{all_none, is_net}
use Rattle.held_counts.proofs.Whole.{walks_keep}
use Rattle.reached_states.specs.Counts.{tokens_held}
use Rattle.accounts.specs.Points.{GoesIn}
use Rattle.accounts.specs.Accounts.{Accounts}
use Rattle.accounts.specs.Laws.{ReachedHaveAccounts, StepsKeepAccounts, OwnersAreCounted}
use Rattle.accounts.proofs.Outlined.{formed_outlined, nets_have_resources}
use Rattle.accounts.proofs.Located.{located_first, point_within}
use Rattle.accounts.proofs.Going.{steps_go_along}
use Rattle.accounts.proofs.Reaching.{in_reached, start_at_points}

abbrev counted : Bool → ℕ
counted b = if b then 1 else 0

-- ---- at the start nothing is held

no_owner : (n r u : ℕ) → is_owner u (slice_get (replicate n None) r) ≡ false
no_owner zero r u = refl
no_owner (suc n) zero u = refl
no_owner (suc n) (suc r) u = no_owner n r u

no_token : (n u : ℕ) → held_by (replicate n 0) u ≡ 0
no_token zero u = refl
no_token (suc n) zero = refl
no_token (suc n) (suc u) = no_token n u

no_row : (capacities : List ℕ) (n k u : ℕ) → held_by (unwrap_or (slice_get (map (λ capacity. replicate n 0) capacities) k) []) u ≡ 0
no_row [] n k u = refl
no_row (capacity ∷ capacities) n zero u = no_token n u
no_row (capacity ∷ capacities) n (suc k) u = no_row capacities n k u

start_holds : (p : bare.Program) (input : List ℤ) (u r : ℕ) → tokens_held p (start p input) u r ≡ 0
start_holds p input u r = by (nat_lt r (mutex_count p))
  where
    by : (b : Bool) → (if b then (if is_owner u (slice_get (start p input).owners r) then 1 else 0) else held_by (row_of p (start p input) r) u) ≡ 0
    by true = ap counted (no_owner (mutex_count p) r u)
    by false = no_row p.monitors (thread_count p) (r - mutex_count p) u

-- and threads begin where nothing is held
first_holds : (n : Net) (es : List Thread) (counts : ℕ → List ℕ) → IsHeldNetOf n es counts → (u : ℕ) (th : Thread) → slice_get es u ≡ Some th → (r : ℕ) → n.held (first_point 0 es 0 u) r ≡ 0
first_holds n es counts held u th found r =
    let at = first_point 0 es 0 u in
    let within = point_within es u th found (begins u th.body) at (located_first es u th found) in
    let points = held.net.points in
    let walked = walks_keep n.mutexes (nothing_of n) es (src_of es) counts (from_self (rows_of es)) held.counted held.whole (λ q lt. all_none n.resources q) held.accepted in
    held.held at r (omega (arith, within, points)) ∙ ap (λ c. slice_index c r) (walked.1 u th found) ∙ all_none n.resources r

-- ---- along edges

one_is : (b : Bool) → one b ≡ counted b
one_is true = refl
one_is false = refl

held_on : (n : Net) → IsNet n → (p q : ℕ) (before after : ℕ → ℕ) → GoesIn n p q before after → ((r : ℕ) → before r ≡ n.held p r) → (r : ℕ) → after r ≡ n.held q r
held_on n net p q before after (inl stays) was r = stays.keeps r ∙ was r ∙ ap (λ z. n.held z r) (sym stays.there)
held_on n net p q before after (inr goes) was r =
    let account = net.accounts goes.edge r goes.has in
    let alters = goes.alters r in
    let from : n.held goes.edge.from r ≡ n.held p r = ap (λ z. n.held z r) goes.from in
    let to : n.held goes.edge.to r ≡ n.held q r = ap (λ z. n.held z r) goes.to in
    let given = one_is (gives goes.edge.op r) in
    let taken = one_is (takes goes.edge.op r) in
    omega (arith, account, alters, from, to, given, taken, was r)

pub steps_keep : StepsKeepAccounts
steps_keep p mode es places n counts input s points e done next net reached accounts leads =
    let has = formed_outlined p mode es places net.formed net.shaped net.found in
    let gone = steps_go_along p es places n input s points e done next has net.held.net reached accounts.at_points leads in
    let is = is_net n es counts net.held (nets_have_resources p mode es places n counts net).filled in (
      gone.0,
      record {
        at_points = gone.1;
        holds = λ u th found r. held_on n is (points u) (gone.0 u) (tokens_held (bare_program p) s u) (tokens_held (bare_program p) next u) (gone.2 u th found) (accounts.holds u th found) r;
      },
      gone.2,
    )

pub reached_accounts : ReachedHaveAccounts
reached_accounts p mode es places n counts input s net reached =
    in_reached (bare_program p) input (λ x. (points : ℕ → ℕ) × Accounts p es places n x points)
    (λ x e done next r accounts leads. let kept = steps_keep p mode es places n counts input x accounts.0 e done next net r accounts.1 leads in (kept.0, kept.1)) (
      first_point 0 es 0,
      record {
        at_points = start_at_points p es places input (formed_outlined p mode es places net.formed net.shaped net.found);
        holds = λ u th found r. start_holds (bare_program p) input u r ∙ sym (first_holds n es counts net.held u th found r);
      },
    )
    s reached

-- ---- owners

owner_is : (u : ℕ) (o : Option (Option ℕ)) → counted (is_owner u o) ≡ 1 → o ≡ Some (Some u)
owner_is u None e = absurd (omega (arith, e))
owner_is u (Some None) e = absurd (omega (arith, e))
owner_is u (Some (Some owner)) e = by (owner == u) refl e
  where
    by : (b : Bool) → (owner == u) ≡ b → counted b ≡ 1 → Some (Some owner) ≡ Some (Some u)
    by true same e = ap (λ x. Some (Some x)) (eqb-true owner u same)
    by false same e = absurd (omega (arith, e))

pub owners_counted : OwnersAreCounted
owners_counted p es places n s points accounts u th r found lt =
    let held = accounts.holds u th found r in
    let counts : tokens_held (bare_program p) s u r ≡ counted (is_owner u (slice_get s.owners r)) =
    ap (λ b. if b then counted (is_owner u (slice_get s.owners r)) else held_by (row_of (bare_program p) s r) u) (lt-ltb r (mutex_count (bare_program p)) lt) in (
      λ owns. sym held ∙ counts ∙ ap (λ o. counted (is_owner u o)) owns ∙ ap counted (eq-eqb u u refl),
      λ one. owner_is u (slice_get s.owners r) (sym counts ∙ held ∙ one),
    )
