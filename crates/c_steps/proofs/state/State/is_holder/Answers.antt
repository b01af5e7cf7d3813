use Rattle.std.proofs.Common.{◌-◌, [], nat_lt, map, sym, ap, ◌∙◌}
use Rattle.std.specs.Prelude.{if◌then◌else◌, slice_get, unwrap_or}
use Rattle.c_tree.specs.Numbering.{mutex_count}
use Rattle.c_meaning.specs.Shown.{shown}
use Rattle.c_meaning.specs.Stuck.{is_owner, row_of}
use Rattle.c_steps.specs.Model.{state_of}
use Rattle.c_steps.proofs.Acquirings.{chose_some, chose_none}
use Rattle.c_steps.proofs.state.State.is_holder.Goals as goal

pub returns-in-Some : goal.returns-in-Some
returns-in-Some c =
    let p = c.args.p.now in let s = c.args.self.now in let r = c.args.r in let u = c.args.u in
    let m = mutex_count (shown p) in
    let is = chose_some (nat_lt r m) (r - m) c.in-Some.monitor (sym (c.monitor_of.ensures (shown p) c.requires.tables.numbers) ∙ c.in-Some.is) in
    c.holds_of.ensures ∙ ap (λ k. nat_lt 0 (unwrap_or (slice_get (unwrap_or (slice_get (map (λ row. row.items) s.tokens.items) k) []) u) 0)) (sym is.1)
    ∙ sym (ap (λ b. if b then is_owner u (slice_get s.owners.items r) else nat_lt 0 (unwrap_or (slice_get (row_of (shown p) (state_of p s) r) u) 0)) is.0)

pub returns-in-None : goal.returns-in-None
returns-in-None c =
    let p = c.args.p.now in let s = c.args.self.now in let r = c.args.r in let u = c.args.u in
    let m = mutex_count (shown p) in
    let is = chose_none (nat_lt r m) (r - m) (sym (c.monitor_of.ensures (shown p) c.requires.tables.numbers) ∙ c.in-None.is) in
    c.is_owner.ensures ∙ sym (ap (λ b. if b then is_owner u (slice_get s.owners.items r) else nat_lt 0 (unwrap_or (slice_get (row_of (shown p) (state_of p s) r) u) 0)) is)
