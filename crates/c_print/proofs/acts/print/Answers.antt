use Rattle.c_tree.specs.Expressions.{exprs_of}
use Rattle.c_print.proofs.ActTexts.{print_text}
use Rattle.c_print.proofs.acts.print.Goals as goal

pub returns : goal.returns
returns c =
    print_text c.args.out.now.items c.put.new.out.items c.put_name.new.out.items c.put-2.new.out.items c.all_following.new.out.items c.put-3.new.out.items c.args.kind c.args.format.now (exprs_of c.args.args.now)
    c.in_ok-put.ensures c.in_ok-put_name.ensures c.in_ok-put-2.ensures c.in_ok-all_following.ensures c.in_ok-put-3.ensures
