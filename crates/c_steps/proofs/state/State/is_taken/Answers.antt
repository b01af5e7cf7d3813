use Rattle.std.proofs.Common.{◌-◌, [], nat_lt, sum, map, sym, ap, ◌∙◌}
use Rattle.std.specs.Prelude.{if◌then◌else◌, nat_le, slice_get, unwrap_or}
use Rattle.c_tree.specs.Numbering.{mutex_count}
use Rattle.c_meaning.specs.Shown.{shown}
use Rattle.c_meaning.specs.Stuck.{is_owned, capacity_of, row_of}
use Rattle.c_steps.specs.Model.{state_of}
use Rattle.c_steps.proofs.Acquirings.{chose_some, chose_none}
use Rattle.c_steps.proofs.state.State.is_taken.Goals as goal

pub returns-in-Some : goal.returns-in-Some
returns-in-Some c =
    let p = c.args.p.now in let s = c.args.self.now in let r = c.args.r in
    let m = mutex_count (shown p) in
    let e = sym (c.monitor_of.ensures (shown p) c.requires.tables.numbers) ∙ c.in-Some.is in
    let is = chose_some (nat_lt r m) (r - m) c.in-Some.monitor e in
    c.is_full.ensures ∙ ap (λ k. nat_le (unwrap_or (slice_get p.monitors k) 0) (sum (unwrap_or (slice_get (map (λ row. row.items) s.tokens.items) k) []))) (sym is.1)
    ∙ sym (ap (λ b. if b then is_owned (slice_get s.owners.items r) else nat_le (capacity_of (shown p) r) (sum (row_of (shown p) (state_of p s) r))) is.0)

pub returns-in-None : goal.returns-in-None
returns-in-None c =
    let p = c.args.p.now in let s = c.args.self.now in let r = c.args.r in
    let m = mutex_count (shown p) in
    let is = chose_none (nat_lt r m) (r - m) (sym (c.monitor_of.ensures (shown p) c.requires.tables.numbers) ∙ c.in-None.is) in
    c.is_owned.ensures ∙ sym (ap (λ b. if b then is_owned (slice_get s.owners.items r) else nat_le (capacity_of (shown p) r) (sum (row_of (shown p) (state_of p s) r))) is)
