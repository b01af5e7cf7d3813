use Rattle.std.proofs.Common.{◌≡◌, false, arith, ap, ◌∙◌}
use Rattle.std.specs.Vec.{with_items}
use Rattle.c_meaning.specs.Calls.{passed}
use Rattle.c_meaning.specs.Shown.{shown_body}
use Rattle.c_meaning.specs.State.{frame}
use Rattle.c_frames.specs.LocalValues.{locals_of}
use Rattle.c_frames.specs.Names.{names_in}
use Rattle.c_frames.specs.Positions.{todo}
use Rattle.c_frames.proofs.Leaving.{before_nil}
use Rattle.c_frames.proofs.LocalPlaces.{locals_none, written}
use Rattle.c_frames.proofs.frames.Frame.new.Goals as goal

pub pass_args-requires-clause-none : goal.pass_args-requires-clause-none
pass_args-requires-clause-none c =
    let names = names_in c.args.names.now in
    ap (locals_of names) (c.as_mut_slice.ensures.value ∙ c.in_ok-values.ensures) ∙ locals_none names c.len.result

pub returns-clause-begins : goal.returns-clause-begins
returns-clause-begins c =
    let names = names_in c.args.names.now in
    let body = shown_body c.args.f.now.body in
    let written : (with_items c.in_ok-values.values c.pass_args.new.values).items ≡ c.pass_args.new.values =
    written c.in_ok-values.values.len c.in_ok-values.values.items c.pass_args.new.values (omega arith) in
    let locals : locals_of names (with_items c.in_ok-values.values c.pass_args.new.values).items ≡ passed c.args.f.now.params c.args.args.now =
    ap (locals_of names) written ∙ c.pass_args.ensures ∙ ap (λ params. passed params c.args.args.now) c.as_slice.ensures in
    let all : todo body c.in_ok-with_capacity.field-0.items 0 false ≡ body = ap (λ at. todo body at 0 false) c.in_ok-with_capacity.ensures.items ∙ before_nil body in
    ap (λ ls. frame ls (todo body c.in_ok-with_capacity.field-0.items 0 false)) locals ∙ ap (frame (passed c.args.f.now.params c.args.args.now)) all
