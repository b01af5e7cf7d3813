use Rattle.std.proofs.Common.{◌∙◌, sym, rules, tests}
use Rattle.std.proofs.lemmas.Iterator.{YieldsList-from_slice}
use Rattle.std.proofs.lemmas.Iterator.Search.{any_from_yields_List}
use Rattle.c_tree.specs.declared.program.Function.{Function}
use Rattle.c_tree.specs.Lined.{function_of}
use Rattle.c_rules.specs.Sites.{is_main}
use Rattle.c_check.proofs.Outers.{list_any-map}
use Rattle.c_check.proofs.outer.has_main.Goals as goal

pub returns : goal.returns
returns c =
    let fs = c.args.functions.now in
    any_from_yields_List (λ (f : Function). is_main (function_of f)) _ _ _ c.any.ensures.ran (YieldsList-from_slice fs cc) (λ x b q k. search (rules, tests))
    ∙ sym (list_any-map is_main function_of fs)
