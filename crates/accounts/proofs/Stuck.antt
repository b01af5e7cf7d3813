-- Stuck sets of reached states are those of their markings.
use Rattle.std.proofs.Common.{◌≡◌, ℕ, ◌<◌, Bool, List, length, Option, Some, None, refl, sym, ap, ◌∙◌, subst, arith}
use Rattle.std.specs.Prelude.{ℤ, IsTrue, slice_get}
use Rattle.std.proofs.lemmas.Bool.{eqb-true, lt-ltb}
use Rattle.std.proofs.lemmas.Option.{same_Some, slice_get_within}
use Rattle.c_tree.specs.declared.program.Mode.{Mode}
use Rattle.c_tree.specs.Lined.{Program, bare_program}
use Rattle.c_meaning.specs.State.{Status, State}
use Rattle.c_meaning.specs.Stuck.{wanted, Blocked, IsStuck}
use Rattle.contexts.specs.Threads.{code_of}
use Rattle.edges.specs.declared.EdgeOp.{EdgeOp}
use Rattle.edges.specs.declared.EdgeOp.TheVariants.{Plain, Acquire, Try, Reacquire, Release}
use Rattle.edges.specs.Ops.{blocks}
use Rattle.outlines.specs.Outline.{Thread}
use Rattle.outlines.specs.Rows.{way, edge}
use Rattle.outline_laws.proofs.Placed.{edge_of}
use Rattle.outline_runs.proofs.Wanted.{wanted_comes_next}
use Rattle.net_laws.specs.Net.{Net, IsNet}
use Rattle.net_laws.specs.Markings as marking
use Rattle.net_laws.proofs.Least.{blocks-takes}
use Rattle.net_laws.proofs.Minimal.{covered_lines, valid_lines, no_stuck_set}
use Rattle.net_laws.proofs.Stuck.{wanted as wanted_in, wanted-is, no_thread, stuck_candidate}
use Rattle.held_counts.proofs.Along.{is_net}
use Rattle.held_counts.proofs.Flows.{held_shaped}
use Rattle.reached_states.proofs.Counts.{holders_are_counted}
use Rattle.reached_states.proofs.Lengths.{reached_have_lengths}
use Rattle.accounts.specs.Points.{points_of}
use Rattle.accounts.specs.Accounts.{IsNetOfProgram}
use Rattle.accounts.specs.StuckSets.{IsMarked, IsWanted, BlockedAreMarked, StuckAreMarked, StuckAreWanted, StuckLeaveNoThread, StuckLeaveNoToken, StuckHaveCandidates, LinesKeepUnstuck, CoveredAreUnstuck, ValidAreUnstuck}
use Rattle.accounts.proofs.Outlined.{nets_have_resources}
use Rattle.accounts.proofs.Located.{point_within, goes_along}
use Rattle.accounts.proofs.Holding.{reached_accounts}
use Rattle.accounts.proofs.Marked.{threads_are, thread_there, point_at, point_found, states_marked, free_marked}

-- an operation waits for one resource
waits_once : (does : EdgeOp) (r q : ℕ) → IsTrue (blocks does r) → IsTrue (blocks does q) → r ≡ q
waits_once Plain r q one other = absurd (cc one)
waits_once (Acquire c) r q one other = sym (eqb-true c r one) ∙ eqb-true c q other
waits_once (Try c) r q one other = absurd (cc one)
waits_once (Reacquire c) r q one other = sym (eqb-true c r one) ∙ eqb-true c q other
waits_once (Release c) r q one other = absurd (cc one)

pub net_is : (p : Program) (mode : Mode) (es : List Thread) (places : List ℕ) (n : Net) (counts : ℕ → List ℕ) → IsNetOfProgram p mode es places n counts → IsNet n
net_is p mode es places n counts net = is_net n es counts net.held (nets_have_resources p mode es places n counts net).filled

module _ (p : Program) (mode : Mode) (es : List Thread) (places : List ℕ) (n : Net) (counts : ℕ → List ℕ) (input : List ℤ) (s : State) (points : ℕ → ℕ)
    (marked : IsMarked p mode es places n counts input s points) where
  abbrev m : List ℕ
  m = points_of es points

  net_kept : IsNet n
  net_kept = net_is p mode es places n counts marked.net

  pub is_marking : marking.IsMarking n m
  is_marking = states_marked p mode es places n counts input s points marked.net marked.reached marked.accounts

  -- a thread that wants something has an outline
  has_outline : (t r : ℕ) → wanted (bare_program p) s (slice_get s.threads t) ≡ Some r → t < length es
  has_outline t r e = by (slice_get s.threads t) refl e
    where
      by : (o : Option Status) → slice_get s.threads t ≡ o → wanted (bare_program p) s o ≡ Some r → t < length es
      by None is e = absurd (cc e)
      by (Some x) is e =
          let within = slice_get_within s.threads t x is in
          let long = (reached_have_lengths (bare_program p) input s marked.reached).threads in
          let as_many = threads_are p mode es places n counts marked.net in
          omega (arith, within, long, as_many)

  pub blocked_there : (t r : ℕ) → Blocked (bare_program p) s t r → marking.Blocked n m t r
  blocked_there t r b =
      let lt = has_outline t r b.next in
      let th = thread_there es t lt in
      let x = marked.accounts.at_points.positions t in
      let at = marked.accounts.at_points.located t th.0 th.1 in
      let next = wanted_comes_next (code_of p places) s t r th.0.body x (marked.accounts.at_points.standing t) b.next in
      let along = goes_along es t th.0 th.1 x (points t) at next.0 next.1 next.2 in
      let over = edge (points t) (way next.0 along.0) in
      let has = edge_of n es marked.net.held.net (points t) (way next.0 along.0) (point_within es t th.0 th.1 x (points t) at) along.1 in
      let named = net_kept.taken over r has (blocks-takes next.0 r next.3) in
      record {
        edge = over;
        has = has;
        stands = point_at es points t lt;
        blocks = next.3;
        none_free = (free_marked p mode es places n counts input s points marked.net marked.reached marked.accounts r named).0 b.taken;
      }

  module _ (threads : ℕ → Bool) (stuck : IsStuck (bare_program p) s threads) where
    -- a thread of the set is blocked for one resource
    pub blocked_back : (t r : ℕ) → IsTrue (threads t) → marking.Blocked n m t r → Blocked (bare_program p) s t r
    blocked_back t r inside b =
        let own = stuck.blocked t inside in
        let mine = blocked_there t own.0 own.1 in
        let same = net_kept.sole mine.edge b.edge own.0 mine.has b.has (same_Some mine.edge.from b.edge.from (sym mine.stands ∙ b.stands)) mine.blocks in
        subst (Blocked (bare_program p) s t) (waits_once b.edge.op own.0 r (subst (λ e. IsTrue (blocks e.op own.0)) same mine.blocks) b.blocks) own.1

    pub stuck_there : marking.IsStuck n m threads
    stuck_there = record {
      some = stuck.some;
      blocked = λ t inside. let b = stuck.blocked t inside in (b.0, blocked_there t b.0 b.1);
      inside = λ t r u q inside b stands some.
          let found = point_found es points u q stands in
          let th = thread_there es u found.0 in
          let holds = marked.accounts.holds u th.0 th.1 r in
          let held : n.held (points u) r ≡ n.held q r = ap (λ z. n.held z r) found.1 in
          stuck.inside t r u inside (blocked_back t r inside b)
          (holders_are_counted (bare_program p) s u r ∙ lt-ltb 0 _ (omega (arith, holds, held, some)));
    }

    -- what the set is blocked for
    pub wanted_back : (R : ℕ → Bool) → marking.IsWanted n m threads R → IsWanted (bare_program p) s threads R
    wanted_back R wants r = (
      λ on. let b = (wants r).0 on in (b.0, b.1, blocked_back b.0 r b.1 b.2),
      λ b. (wants r).1 (b.0, b.1, blocked_there b.0 r b.2),
    )

    pub wanted_there : (R : ℕ → Bool) → IsWanted (bare_program p) s threads R → marking.IsWanted n m threads R
    wanted_there R wants r = (
      λ on. let b = (wants r).0 on in (b.0, b.1, blocked_there b.0 r b.2),
      λ b. (wants r).1 (b.0, b.1, blocked_back b.0 r b.1 b.2),
    )

-- ---- stuck sets

pub blocked_marked : BlockedAreMarked
blocked_marked p mode es places n counts input s points marked t r b = blocked_there p mode es places n counts input s points marked t r b

pub stuck_marked : StuckAreMarked
stuck_marked p mode es places n counts input s points marked threads stuck = stuck_there p mode es places n counts input s points marked threads stuck

pub stuck_wanted : StuckAreWanted
stuck_wanted p mode es places n counts input s points marked threads stuck =
    let R = wanted_in n (points_of es points) threads in (
      R,
      wanted_back p mode es places n counts input s points marked threads stuck R
          (wanted-is n (points_of es points) threads (is_marking p mode es places n counts input s points marked)),
    )

pub stuck_no_thread : StuckLeaveNoThread
stuck_no_thread p mode es places n counts input s points marked threads R stuck wants u th found inside =
    no_thread n (points_of es points) threads R (net_is p mode es places n counts marked.net)
    (stuck_there p mode es places n counts input s points marked threads stuck) (wanted_there p mode es places n counts input s points marked threads stuck R wants)
    u (points u) (point_at es points u (slice_get_within es u th found)) inside

pub stuck_no_token : StuckLeaveNoToken
stuck_no_token p s threads R stuck wants r on = ((wants r).0 on).2.taken

pub stuck_candidates : StuckHaveCandidates
stuck_candidates p mode es places n counts input s points marked threads R stuck wants =
    stuck_candidate n (points_of es points) threads R (net_is p mode es places n counts marked.net)
    (stuck_there p mode es places n counts input s points marked threads stuck) (wanted_there p mode es places n counts input s points marked threads stuck R wants)

-- ---- programs that never get stuck

pub lines_unstuck : LinesKeepUnstuck
lines_unstuck p mode es places n counts net lines input s threads reached stuck =
    let at = reached_accounts p mode es places n counts input s net reached in
    let marked : IsMarked p mode es places n counts input s at.0 = record { net = net; reached = reached; accounts = at.1 } in
    no_stuck_set n (points_of es at.0) threads (net_is p mode es places n counts net) (nets_have_resources p mode es places n counts net).few lines
    (is_marking p mode es places n counts input s at.0 marked) (stuck_there p mode es places n counts input s at.0 marked threads stuck)

pub covered_unstuck : CoveredAreUnstuck
covered_unstuck p mode es places n counts net covered =
    lines_unstuck p mode es places n counts net (covered_lines n (held_shaped n es counts net.held (nets_have_resources p mode es places n counts net)) covered)

pub valid_unstuck : ValidAreUnstuck
valid_unstuck p mode es places n counts lines net valid = lines_unstuck p mode es places n counts net (valid_lines n lines valid)
