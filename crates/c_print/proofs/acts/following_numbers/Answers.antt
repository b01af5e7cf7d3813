use Rattle.std.proofs.Common.{◌++◌, get_or, map, refl, arith, rules}
use Rattle.std.proofs.lemmas.Grind.{common_steps}
use Rattle.c_canonical.specs.Expressions.{followed, numeral}
use Rattle.c_layout.specs.Layout.{text}
use Rattle.c_print.proofs.Loops.{ended}
use Rattle.c_print.proofs.ProgramTexts.{next_item}
use Rattle.c_print.proofs.acts.following_numbers.Goals as goal

pub loop-n-preserved : goal.loop-n-preserved
loop-n-preserved c =
    next_item numeral c.args.ns.now c.loop-n.n-index (get_or c.args.ns.now c.loop-n.n-index 0) 0 (c.args.out.now.items ++ text (followed (map numeral c.args.ns.now))) c.loop-n.out.items c.next_number.new.out.items
    c.loop-n-test.true refl (first_of (search rules, grind (arith, common_steps))) c.loop-n.invariant

pub returns : goal.returns
returns c =
    ended (λ xs. text (followed (map numeral xs))) c.args.ns.now c.loop-n.n-index (c.args.out.now.items ++ text (followed (map numeral c.args.ns.now))) c.loop-n.out.items
    c.loop-n-test.false refl c.loop-n.invariant
