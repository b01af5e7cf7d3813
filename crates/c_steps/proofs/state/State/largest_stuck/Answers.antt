use Rattle.std.proofs.Common.{◌≡◌, true, false, sym, ap, ◌∙◌}
use Rattle.std.specs.Prelude.{◌==◌}
use Rattle.std.proofs.lemmas.Bool.{false≢true}
use Rattle.std.proofs.lemmas.Nat.Bits.{bit_at-zero}
use Rattle.c_meaning.proofs.Masks.{has_few}
use Rattle.c_meaning.specs.Shown.{shown}
use Rattle.c_meaning.specs.Closed.{has}
use Rattle.c_steps.specs.Model.{state_of}
use Rattle.c_steps.proofs.Largest.{blocked_below, some_bit, closed_in_state, closed_in_table}
use Rattle.c_steps.proofs.state.State.largest_stuck.Goals as goal

pub returns-clause-none : goal.returns-clause-none
returns-clause-none c none threads stuck =
    let p = c.args.p.now in let s = c.args.self.now in
    let is = (c.stuck_sets_are_closed.ensures.closed (shown p) (state_of p s) threads).0 stuck in
    let t = is.0.0 in
    let h = is.1.stays t is.0.1 in
    let lt = blocked_below p s c.requires.state t h.resource h.waits in
    let there : has c.largest.result t ≡ true = c.largest.ensures.each threads (closed_in_table p s c.requires.state c.blocking.result.holders c.blocking.ensures threads is.1) t lt is.0.1 in
    let empty : has 0 t ≡ false = ap (λ b. b == 1) (bit_at-zero t) in
    absurd (false≢true (sym empty ∙ ap (λ n. has n t) (sym none) ∙ there))

pub returns-clause-stuck : goal.returns-clause-stuck
returns-clause-stuck c some =
    let p = c.args.p.now in let s = c.args.self.now in
    let fits = c.largest.type_inv in
    (c.stuck_sets_are_closed.ensures.closed (shown p) (state_of p s) (has c.largest.result)).1 (
      some_bit 32 c.largest.result fits some,
      closed_in_state p s c.requires.state c.blocking.result.holders c.blocking.ensures (has c.largest.result) (λ t h. has_few c.largest.result t fits h) c.largest.ensures.closed,
    )

pub returns-clause-each : goal.returns-clause-each
returns-clause-each c threads stuck t is_there =
    let p = c.args.p.now in let s = c.args.self.now in
    let is = (c.stuck_sets_are_closed.ensures.closed (shown p) (state_of p s) threads).0 stuck in
    let h = is.1.stays t is_there in
    c.largest.ensures.each threads (closed_in_table p s c.requires.state c.blocking.result.holders c.blocking.ensures threads is.1) t
    (blocked_below p s c.requires.state t h.resource h.waits) is_there
