use Rattle.c_tree.specs.Lined.{bare_function, function_of}
use Rattle.c_print.proofs.ProgramTexts.{function_text}
use Rattle.c_print.proofs.programs.function.Goals as goal

pub returns : goal.returns
returns c =
    function_text c.args.out.now.items c.function_head.new.out.items c.body.new.out.items c.put.new.out.items (bare_function (function_of c.args.f.now))
    c.in_ok-function_head.ensures c.in_ok-body.ensures c.in_ok-put.ensures
