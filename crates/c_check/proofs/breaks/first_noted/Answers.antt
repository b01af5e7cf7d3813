use Rattle.std.proofs.Common.{ap, ◌∙◌, map}
use Rattle.c_tree.specs.Lined.{function_of, program_of}
use Rattle.c_names.specs.Shown.{all_shown}
use Rattle.c_names.specs.Tables.{meant}
use Rattle.std.specs.List.{enumerate_from}
use Rattle.c_acts.specs.First.{noted_all}
use Rattle.c_check.specs.Functions.{functions_breaks}
use Rattle.c_check.proofs.Programs.{empty_table, program_breaks}
use Rattle.c_check.proofs.breaks.first_noted.Goals as goal

pub returns : goal.returns
returns c =
    program_breaks (program_of c.args.p.now) c.args.mode (meant c.new-names.result) (meant c.check_declarations.new.names) (all_shown c.as_slice.result.now) (map function_of c.as_slice-functions.result.now)
    c.check_declarations.new.first c.check_parts.new.first c.check_functions.new.first
    (empty_table c.new-names.result c.new-names.ensures.len) (ap all_shown c.as_slice.ensures.value ∙ c.in_ok-ds.ensures) (ap (map function_of) c.as_slice-functions.ensures)
    c.in_ok-check_declarations.ensures.known c.in_ok-check_declarations.ensures.breaks c.check_parts.ensures
    (c.in_ok-check_functions.ensures ∙ ap (λ n. noted_all c.check_parts.new.first (functions_breaks (meant c.check_declarations.new.names) c.args.mode n (enumerate_from 0 (map function_of c.as_slice-functions.result.now)))) c.len.ensures)
