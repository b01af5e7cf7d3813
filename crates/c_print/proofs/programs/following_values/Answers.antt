use Rattle.std.proofs.Common.{◌++◌, get_or, pos, map, refl, arith, rules}
use Rattle.std.proofs.lemmas.Grind.{common_steps}
use Rattle.c_canonical.specs.Expressions.{followed}
use Rattle.c_canonical.specs.Programs.{value}
use Rattle.c_layout.specs.Layout.{text}
use Rattle.c_print.proofs.Loops.{ended}
use Rattle.c_print.proofs.ProgramTexts.{next_item}
use Rattle.c_print.proofs.programs.following_values.Goals as goal

pub loop-v-preserved : goal.loop-v-preserved
loop-v-preserved c =
    next_item value c.args.vs.now c.loop-v.v-index (get_or c.args.vs.now c.loop-v.v-index (pos 0)) (pos 0) (c.args.out.now.items ++ text (followed (map value c.args.vs.now))) c.loop-v.out.items c.following_value.new.out.items
    c.loop-v-test.true refl (first_of (search rules, grind (arith, common_steps))) c.loop-v.invariant

pub returns : goal.returns
returns c =
    ended (λ xs. text (followed (map value xs))) c.args.vs.now c.loop-v.v-index (c.args.out.now.items ++ text (followed (map value c.args.vs.now))) c.loop-v.out.items
    c.loop-v-test.false refl c.loop-v.invariant
