use Rattle.c_tree.specs.Lined.{bare_program, program_of}
use Rattle.c_print.proofs.ProgramTexts.{declarations_text}
use Rattle.c_print.proofs.programs.declarations.Goals as goal

pub returns : goal.returns
returns c =
    declarations_text c.args.out.now.items c.all_monitors.new.out.items c.all_ints.new.out.items c.all_arrays.new.out.items c.all_mutexes.new.out.items c.all_conditions.new.out.items c.all_threads.new.out.items (bare_program (program_of c.args.p.now))
    c.in_ok-all_monitors.ensures c.in_ok-all_ints.ensures c.in_ok-all_arrays.ensures c.in_ok-all_mutexes.ensures c.in_ok-all_conditions.ensures c.in_ok-all_threads.ensures
