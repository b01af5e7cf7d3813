use Rattle.std.proofs.Common.{◌≡◌, ◌+◌, ◌<◌, length, map, refl, sym, ap, subst, ◌∙◌, Some, arith}
use Rattle.std.specs.Prelude.{slice_get, All}
use Rattle.std.proofs.lemmas.List.{length-map}
use Rattle.std.proofs.lemmas.Option.{slice_get_read}
use Rattle.c_tree.specs.declared.program.Program.{Program}
use Rattle.c_tree.specs.Lined.{bare_cell, function_of}
use Rattle.c_tree.specs.Bare as bare
use Rattle.c_tree.specs.Numbering.{resource_count}
use Rattle.c_meaning.specs.Shown.{shown}
use Rattle.contexts.specs.Constants.{among}
use Rattle.context_locals.specs.Writes.{int_texts}
use Rattle.context_walk.specs.Places.{items_of}
use Rattle.context_walk.specs.Steps.{FitsItem}
use Rattle.context_walk.specs.Prepared.{count_in}
use Rattle.context_walk.specs.declared.functions.Functions.{Functions}
use Rattle.context_walk.proofs.Preparing.{none_prepared}
use denote.Ref.{Bor}
use Rattle.context_walk.proofs.Fitting.{all_fit, function_at, int_names_same, mutexes_few, resources_few}
use Rattle.context_walk.proofs.functions.Functions.new.Goals as goal

pub mutex_count-requires : goal.mutex_count-requires
mutex_count-requires c = mutexes_few c.args.p.now c.requires.formed

pub loop-f-init : goal.loop-f-init
loop-f-init c =
    let q : Functions = record { program = c.args.p; functions = c.in_ok-with_capacity.field-0; places = c.new.result; mutexes = c.mutex_count.result } in
    record { so_far = none_prepared q c.in_ok-with_capacity.ensures.items c.new.ensures.empty c.mutex_count.ensures; program = refl; count = ap length c.in_ok-with_capacity.ensures.items }

pub add-requires : goal.add-requires
add-requires c =
    let same : c.args.p.now ≡ c.loop-f.functions.program.now = sym c.loop-f.invariant.program in
    let count : c.loop-f.f-index ≡ count_in c.loop-f.functions = sym c.loop-f.invariant.count in
    let at : slice_get c.args.p.now.functions c.loop-f.f-index ≡ Some c.f-item.result =
    ap (λ fs. slice_get fs c.loop-f.f-index) (sym c.as_slice-f-items.ensures)
    ∙ slice_get_read c.as_slice-f-items.result.now (length c.as_slice-f-items.result.now) c.loop-f.f-index c.f-item.result refl c.loop-f-test.true c.f-item.is in
    record {
      so_far = c.loop-f.invariant.so_far;
      few = subst (λ (p : Program). resource_count (shown p) < 256) same (resources_few c.args.p.now c.requires.formed);
      ints = λ q. c.in_ok-ints.ensures q ∙ ap (λ xs. among xs q) (ap int_texts c.as_slice.ensures ∙ sym (int_names_same c.args.p.now.ints)) ∙ ap (λ (p : Program). among (map (λ (cell : bare.Cell). cell.name) (map bare_cell p.ints)) q) same;
      next = subst (λ (p : Program). slice_get (map function_of p.functions) (count_in c.loop-f.functions) ≡ Some (function_of c.f-item.result)) same
          (subst (λ k. slice_get (map function_of c.args.p.now.functions) k ≡ Some (function_of c.f-item.result)) count (function_at c.args.p.now.functions c.loop-f.f-index c.f-item.result at));
      fits = subst (λ (p : Program). All (FitsItem (length p.monitors)) (items_of (function_of c.f-item.result))) same
          (all_fit c.args.p.now c.requires.formed c.requires.small c.loop-f.f-index c.f-item.result at);
    }

pub loop-f-preserved : goal.loop-f-preserved
loop-f-preserved c = record {
  so_far = c.in_ok-add.ensures.so_far;
  program = ap (λ (p : Bor Program). p.now) c.in_ok-add.ensures.program ∙ c.loop-f.invariant.program;
  count = c.in_ok-add.ensures.count ∙ ap (λ k. k + 1) c.loop-f.invariant.count;
}

pub returns : goal.returns
returns c = record {
  prepared = record {
    so_far = c.loop-f.invariant.so_far;
    all =
        let done : c.loop-f.f-index ≡ length c.as_slice-f-items.result.now = omega (arith, c.loop-f.auto, c.loop-f-test.false) in
        c.loop-f.invariant.count ∙ done ∙ ap length c.as_slice-f-items.ensures ∙ sym (length-map c.args.p.now.functions function_of)
        ∙ ap (λ (p : Program). length (map function_of p.functions)) (sym c.loop-f.invariant.program);
  };
  program = c.loop-f.invariant.program;
}
