use Rattle.std.proofs.Common.{◌≡◌, ℕ, ◌++◌, List, ap, ◌∙◌}
use Rattle.std.specs.Prelude.{◌&&◌, not}
use Rattle.c_tree.specs.Lined.{Function, Program, function_of, bare_program, stmts_of}
use Rattle.contexts.specs.Constants.{among}
use Rattle.contexts.specs.Resolved.{writes_of}
use Rattle.contexts.proofs.Names.{in_second}
use Rattle.context_items.specs.Flat.{items_bear}
use Rattle.context_locals.specs.Known.{AreConstantNames}
use Rattle.context_locals.specs.Writes.{writes_in}
use Rattle.context_walk.specs.Shown.{shown_items, list_items}
use Rattle.context_walk.specs.Places.{above_at, items_of}
use Rattle.context_walk.specs.Steps.{declared_in, shown_steps, steps_bear}
use Rattle.context_walk.specs.Prepared.{count_in, program_in}
use Rattle.context_walk.proofs.Preparing.{bears_same, names_fit}
use Rattle.context_walk.proofs.functions.Functions.prepare.Goals as goal

pub returns : goal.returns
returns c =
    let p : Program = program_in c.args.self.now in
    let k : ℕ = count_in c.args.self.now in
    let f : Function = function_of c.args.f.now in
    let writes : List (List ℕ) = writes_of (bare_program p) f in
    let locals : List (List ℕ) = c.args.f.now.params ++ declared_in (items_of f) in
    let pushed : shown_items c.push_items.new.out.items ≡ items_of f =
    c.in_ok-push_items.ensures ∙ ap (λ is. shown_items is ++ list_items (stmts_of c.as_slice.result.now)) c.new-items.ensures.items ∙ ap (λ ss. list_items (stmts_of ss)) c.as_slice.ensures in
    let second : shown_items c.as_slice-2.result.now ≡ items_of f = ap shown_items c.as_slice-2.ensures.value ∙ pushed in
    let third : shown_items c.as_slice-3.result.now ≡ items_of f = ap shown_items c.as_slice-3.ensures.value ∙ pushed in
    let same : shown_steps c.in_ok-steps.steps.items ≡ items_of f = c.in_ok-steps.ensures.items ∙ third in
    let names : AreConstantNames writes locals c.in_ok-names.names =
    λ q. c.in_ok-names.ensures q ∙ ap (λ is. among (c.args.f.now.params ++ declared_in is) q && not (writes_in c.in_ok-writes.writes q)) second
    ∙ ap (λ b. among locals q && not b) (c.in_ok-writes.ensures (bare_program p) c.requires.ints q) in
    record {
      function = c.requires.next;
      names = names;
      declares = names_fit writes locals c.in_ok-names.names names (items_of f) (λ q e. in_second q c.args.f.now.params (declared_in (items_of f)) e);
      items = same;
      steps = c.in_ok-steps.ensures.steps;
      bears = c.bear-bears.ensures ∙ ap steps_bear c.as_slice-4.ensures.value ∙ bears_same p k c.in_ok-names.names c.in_ok-steps.steps.items c.in_ok-steps.ensures.steps ∙ ap (items_bear (above_at p k).bears) same;
    }
