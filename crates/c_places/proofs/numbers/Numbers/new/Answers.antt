use Rattle.std.proofs.Common.{◌∙◌, length, map, refl, sym, ap, subst, arith}
use Rattle.std.proofs.lemmas.List.{length-map}
use Rattle.c_tree.specs.Lined.{function_of, bare_cell, bare_array, bare_object, bare_function}
use Rattle.c_places.specs.Tables.{of_cell, of_array, of_object, of_function, IsTableOf}
use Rattle.c_places.proofs.Numbering.{seen, map_twice, cells_are, functions_are, objects_take}
use Rattle.c_places.proofs.numbers.Numbers.new.Goals as goal

pub returns : goal.returns
returns c =
    let p = c.args.p.now in
    let mutexes = seen of_object bare_object 0 0 _ p.mutexes _ refl c.as_slice.ensures c.in_ok-mutexes.ensures.numbered in
    let functions = seen of_function (λ f. bare_function (function_of f)) 0 0 _ p.functions _ refl c.as_slice-6.ensures c.in_ok-table_of-4.ensures.numbered in
    record {
      ints = seen of_cell bare_cell 0 0 _ p.ints _ refl c.as_slice-2.ensures c.in_ok-table_of.ensures.numbered;
      arrays = seen of_array bare_array _ _ _ p.arrays _ (ap length c.as_slice-3.ensures ∙ sym (length-map p.ints bare_cell)) c.as_slice-4.ensures c.in_ok-table_of-2.ensures.numbered;
      cells_fit = cells_are p.ints p.arrays c.requires.cells;
      mutexes = mutexes;
      mutexes_fit = c.requires.mutexes;
      count = (let e = objects_take (map bare_object p.mutexes) in omega (arith, mutexes.next, e));
      conditions = seen of_object bare_object 0 0 _ p.conds _ refl c.as_slice-5.ensures c.in_ok-table_of-3.ensures.numbered;
      functions = subst (λ fs. IsTableOf 0 (map of_function fs) c.in_ok-table_of-4.field-0) (map_twice bare_function function_of p.functions) functions;
      functions_fit = functions_are p.functions (let e = ap length c.as_slice-6.ensures in omega (arith, e, c.in_ok-table_of-4.ensures.few));
      slots = c.in_ok-slots_of.ensures;
    }
