use Rattle.std.proofs.Common.{◌≡◌, ◌≤◌, Some, map, length, option_map, sym, ap, refl, ◌∙◌, arith}
use Rattle.std.specs.Prelude.{slice_get, slice_set, vec_len}
use Rattle.std.proofs.lemmas.List.{map-set, length-set}
use Rattle.std.proofs.lemmas.Option.{slice_get_read, slice_get-map, same_Some}
use Rattle.c_steps.specs.Model.{state_of}
use Rattle.c_steps.proofs.Effects.{rows_short}
use Rattle.c_steps.proofs.state.State.set_row.Goals as goal

pub returns-in-Some-clause-is : goal.returns-in-Some-clause-is
returns-in-Some-clause-is c p row e =
    let tokens = c.args.self.now.tokens in
    let v = c.in-Some.ensures.variant.0 refl in
    let there : slice_get tokens.items c.args.monitor ≡ Some c.in-Some.row.now = slice_get_read tokens.items (vec_len tokens) c.args.monitor c.in-Some.row.now (omega arith) v c.in-Some.ensures.value in
    let same : c.in-Some.row.now.items ≡ row =
    same_Some _ _ (sym (ap (option_map (λ row. row.items)) there) ∙ sym (slice_get-map (λ row. row.items) tokens.items c.args.monitor) ∙ e) in
    ap (λ rows. record (state_of p c.args.self.now) { tokens = rows })
    (map-set (λ row. row.items) tokens.items c.args.monitor c.set_held.new.row ∙ ap (slice_set (map (λ row. row.items) tokens.items) c.args.monitor) (c.set_held.ensures ∙ ap (λ r. slice_set r c.args.t c.args.held) same))

pub returns-in-Some-clause-kept : goal.returns-in-Some-clause-kept
returns-in-Some-clause-kept c p is =
    let tokens = c.args.self.now.tokens in
    let v = c.in-Some.ensures.variant.0 refl in
    let there : slice_get tokens.items c.args.monitor ≡ Some c.in-Some.row.now = slice_get_read tokens.items (vec_len tokens) c.args.monitor c.in-Some.row.now (omega arith) v c.in-Some.ensures.value in
    let old : length c.in-Some.row.now.items ≤ 32 = is.rows c.args.monitor c.in-Some.row.now.items (slice_get-map (λ row. row.items) tokens.items c.args.monitor ∙ ap (option_map (λ row. row.items)) there) in
    let same = ap length c.set_held.ensures ∙ length-set c.in-Some.row.now.items c.args.t c.args.held in
    let many = length-set tokens.items c.args.monitor c.set_held.new.row in
    record {
      tables = is.tables;
      threads = is.threads;
      few_threads = is.few_threads;
      few_mutexes = is.few_mutexes;
      few_monitors = omega (arith, is.few_monitors, many);
      rows = λ m r e.
          rows_short (map (λ row. row.items) tokens.items) c.args.monitor c.set_held.new.row.items is.rows (omega (arith, old, same)) m r
          (ap (λ rows. slice_get rows m) (sym (map-set (λ row. row.items) tokens.items c.args.monitor c.set_held.new.row)) ∙ e);
      owners = is.owners;
    }
