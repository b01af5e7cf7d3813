use Rattle.c_tree.specs.Lined.{bare_function, function_of}
use Rattle.c_print.proofs.ProgramTexts.{function_head_text}
use Rattle.c_print.proofs.programs.function_head.Goals as goal

pub returns : goal.returns
returns c =
    function_head_text c.args.out.now.items c.put.new.out.items c.result_type.new.out.items c.put_name.new.out.items c.put-2.new.out.items c.all_parameters.new.out.items c.put-3.new.out.items (bare_function (function_of c.args.f.now))
    c.in_ok-put.ensures c.in_ok-result_type.ensures c.in_ok-put_name.ensures c.in_ok-put-2.ensures c.in_ok-all_parameters.ensures c.in_ok-put-3.ensures
