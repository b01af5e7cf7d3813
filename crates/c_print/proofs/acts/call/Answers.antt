use Rattle.c_tree.specs.Expressions.{exprs_of, target_of}
use Rattle.c_print.proofs.ActTexts.{call_text}
use Rattle.c_print.proofs.acts.call.Goals as goal

pub returns : goal.returns
returns c =
    call_text c.args.out.now.items c.assigned.new.out.items c.put_name.new.out.items c.put.new.out.items c.all_arguments.new.out.items c.put-2.new.out.items c.args.kind (target_of c.args.target.now) c.args.function.now (exprs_of c.args.args.now)
    c.in_ok-assigned.ensures c.in_ok-put_name.ensures c.in_ok-put.ensures c.in_ok-all_arguments.ensures c.in_ok-put-2.ensures
