use Rattle.std.proofs.Common.{◌++◌, ◌-◌, ◌+◌, [], ◌∷◌, replicate, arith}
use Rattle.c_layout.specs.Layout.{text, word}
use Rattle.c_canonical.specs.Expressions.{followed}
use Rattle.c_print.proofs.ProgramTexts.{next_initialiser, last_initialiser}
use Rattle.c_print.proofs.programs.following_initialisers.Goals as goal

pub loop-i-preserved : goal.loop-i-preserved
loop-i-preserved c =
    next_initialiser c.args.initialiser.now (c.args.count - c.loop-i._i) (c.args.count - (c.loop-i._i + 1))
    (c.args.out.now.items ++ text (followed (replicate c.args.count (word c.args.initialiser.now ∷ [])))) c.loop-i.out.items c.following_initialiser.new.out.items
    (let h = c.loop-i-test.true in omega arith) c.in_ok-following_initialiser.ensures c.loop-i.invariant

pub returns : goal.returns
returns c =
    last_initialiser c.args.initialiser.now (c.args.count - c.loop-i._i) (c.args.out.now.items ++ text (followed (replicate c.args.count (word c.args.initialiser.now ∷ []))))
    c.loop-i.out.items (let h = c.loop-i-test.false in omega arith) c.loop-i.invariant
