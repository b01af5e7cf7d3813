use Rattle.std.proofs.Common.{Some, option_map, sym, ap, ◌∙◌}
use Rattle.std.specs.Prelude.{slice_get}
use Rattle.c_tree.specs.Bare as bare
use Rattle.c_meaning.specs.Shown.{shown}
use Rattle.c_meaning.specs.State.{frame}
use Rattle.c_meaning.specs.Calls.{passed}
use Rattle.c_frames.specs.Names.{shown_function}
use Rattle.state_parts.proofs.Framing.{frame_is}
use Rattle.state_parts.proofs.Making.{by_place, named_at, both_there}
use Rattle.state_parts.proofs.new_frames.make_frame.Goals as goal

pub returns-in_default-clause-is : goal.returns-in_default-clause-is
returns-in_default-clause-is c =
    let p = c.args.p.now in
    let named = named_at p c.args.name.now c.function.result (c.function.ensures (shown p) c.requires.numbers) in
    sym (ap (option_map (λ (f : bare.Function). frame (passed f.params c.args.args.now) f.body)) (named ∙ ap (by_place p) c.in_default.is))

pub returns-in_default-function_at-clause-is : goal.returns-in_default-function_at-clause-is
returns-in_default-function_at-clause-is c =
    let p = c.args.p.now in
    let named = named_at p c.args.name.now c.function.result (c.function.ensures (shown p) c.requires.numbers) in
    let none = sym c.function_at.ensures ∙ ap (option_map (λ f. f.now)) c.in_default-function_at.is in
    sym (ap (option_map (λ (f : bare.Function). frame (passed f.params c.args.args.now) f.body)) (named ∙ ap (by_place p) c.in-Some.is ∙ ap (option_map shown_function) none))

pub returns-in_default-names_at-clause-is : goal.returns-in_default-names_at-clause-is
returns-in_default-names_at-clause-is c =
    let p = c.args.p.now in
    let there = sym c.function_at.ensures ∙ ap (option_map (λ f. f.now)) c.in-Some-function_at.is in
    let none = sym c.names_at.ensures ∙ ap (option_map (λ names. names.now)) c.in_default-names_at.is in
    absurd (both_there p.functions c.args.tables.now.names.items c.in-Some.function c.in-Some-function_at.f.now c.requires.each there none)

pub new-requires : goal.new-requires
new-requires c =
    c.requires.names c.in-Some.function c.in-Some-function_at.f.now c.in-Some-names_at.names.now (sym c.function_at.ensures ∙ ap (option_map (λ f. f.now)) c.in-Some-function_at.is)
    (sym c.names_at.ensures ∙ ap (option_map (λ names. names.now)) c.in-Some-names_at.is)

pub returns-clause-is : goal.returns-clause-is
returns-clause-is c =
    let p = c.args.p.now in
    let f = c.in-Some-function_at.f.now in
    let names = c.in-Some-names_at.names.now in
    let x = c.in_ok-new.field-0 in
    let made = c.in_ok-new.ensures in
    let named = named_at p c.args.name.now c.function.result (c.function.ensures (shown p) c.requires.numbers) in
    let there = sym c.function_at.ensures ∙ ap (option_map (λ f. f.now)) c.in-Some-function_at.is in
    let known = sym c.names_at.ensures ∙ ap (option_map (λ names. names.now)) c.in-Some-names_at.is in
    ap Some (frame_is p c.args.tables.now x f names (ap (slice_get p.functions) made.function ∙ there) (ap (slice_get c.args.tables.now.names.items) made.function ∙ known) ∙ made.begins)
    ∙ sym (ap (option_map (λ (f : bare.Function). frame (passed f.params c.args.args.now) f.body)) (named ∙ ap (by_place p) c.in-Some.is ∙ ap (option_map shown_function) there))

pub returns-clause-valid : goal.returns-clause-valid
returns-clause-valid c =
    let p = c.args.p.now in
    let made = c.in_ok-new.ensures in
    record {
      function = c.in-Some-function_at.f.now;
      names = c.in-Some-names_at.names.now;
      is_function = ap (slice_get p.functions) made.function ∙ sym c.function_at.ensures ∙ ap (option_map (λ f. f.now)) c.in-Some-function_at.is;
      are_names = ap (slice_get c.args.tables.now.names.items) made.function ∙ sym c.names_at.ensures ∙ ap (option_map (λ names. names.now)) c.in-Some-names_at.is;
      valid = made.valid;
    }
