use Rattle.std.proofs.Common.{sym, ap, ◌∙◌}
use Rattle.std.specs.Prelude.{find}
use Rattle.std.specs.Option.{option_copied}
use Rattle.c_tree.specs.Lined.{stmts_of, function_of}
use Rattle.c_rules.specs.Sites.{is_main}
use Rattle.c_check.specs.Tables.{count_creates}
use Rattle.c_check.proofs.Counted.{some_threads, no_threads}
use Rattle.c_check.proofs.counts.thread_count.Goals as goal

pub returns-in-Some : goal.returns-in-Some
returns-in-Some c =
    some_threads c.args.p.now c.in-Some.main.now c.count_creates.result
    (sym (ap option_copied c.in-Some.is) ∙ c.find_main.ensures ∙ ap (find (λ f. is_main (function_of f))) c.as_slice.ensures)
    (c.count_creates.ensures.count ∙ ap (λ ss. count_creates (stmts_of ss)) c.as_slice-in-Some.ensures)

pub returns-in-None : goal.returns-in-None
returns-in-None c =
    no_threads c.args.p.now (sym (ap option_copied c.in-None.is) ∙ c.find_main.ensures ∙ ap (find (λ f. is_main (function_of f))) c.as_slice.ensures)
