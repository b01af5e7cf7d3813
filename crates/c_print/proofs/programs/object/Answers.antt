use Rattle.c_tree.specs.Lined.{bare_object}
use Rattle.c_print.proofs.ProgramTexts.{object_text}
use Rattle.c_print.proofs.programs.object.Goals as goal

pub returns : goal.returns
returns c =
    object_text c.args.out.now.items c.put.new.out.items c.put-2.new.out.items c.put_name.new.out.items c.length_of.new.out.items c.initialisers.new.out.items c.put-3.new.out.items c.args.kind.now c.args.initialiser.now (bare_object c.args.o.now)
    c.in_ok-put.ensures c.in_ok-put-2.ensures c.in_ok-put_name.ensures c.in_ok-length_of.ensures c.in_ok-initialisers.ensures c.in_ok-put-3.ensures
