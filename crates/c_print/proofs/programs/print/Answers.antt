use Rattle.std.proofs.Common.{ℕ, List, [], ◌++◌, codes, sym, ap, subst, arith, rules}
use Rattle.std.specs.List.{flat_map}
use Rattle.std.proofs.lemmas.Grind.{common_steps}
use Rattle.c_layout.specs.Layout.{text}
use Rattle.c_layout.proofs.Readings.{text_append}
use Rattle.c_tree.specs.Lined.{bare_program, program_of}
use Rattle.c_canonical.specs.Programs.{declarations, function, layout_of}
use Rattle.c_canonical.specs.Canonical.{SpellsBare}
use Rattle.c_canonical.proofs.Canonical.{shaped_is_spelled}
use Rattle.c_print.proofs.Chains.{chain3}
use Rattle.c_print.proofs.programs.print.Goals as goal

pub returns-clause-text : goal.returns-clause-text
returns-clause-text c =
    let p = bare_program (program_of c.args.p.now) in
    chain3 [] c.put.new.out.items c.declarations.new.out.items c.all_functions.new.out.items (codes "#include <pthread.h>\n#include <stdio.h>\n") (text (declarations p))
    (text (flat_map function p.functions)) (text (layout_of p))
    (first_of (search rules, grind (arith, common_steps))) c.in_ok-declarations.ensures c.in_ok-all_functions.ensures
    (ap (λ x. codes "#include <pthread.h>\n#include <stdio.h>\n" ++ x) (text_append (declarations p) (flat_map function p.functions)))

pub returns-clause-spelled : goal.returns-clause-spelled
returns-clause-spelled c =
    let p = bare_program (program_of c.args.p.now) in
    λ s w. subst (λ (source : List ℕ). SpellsBare source p) (sym (returns-clause-text c)) (shaped_is_spelled p s w)
