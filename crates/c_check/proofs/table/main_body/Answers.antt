use Rattle.std.proofs.Common.{sym, ap, ◌∙◌}
use Rattle.std.specs.Prelude.{find}
use Rattle.std.specs.Option.{option_copied}
use Rattle.c_tree.specs.Lined.{function_of, bare_stmts, stmts_of}
use Rattle.c_rules.specs.Sites.{is_main}
use Rattle.c_check.proofs.Counted.{some_body, no_body}
use Rattle.c_check.proofs.table.main_body.Goals as goal

pub returns-in-Some : goal.returns-in-Some
returns-in-Some c =
    ap (λ ss. bare_stmts (stmts_of ss)) c.as_slice-in-Some.ensures
    ∙ some_body c.args.p.now c.in-Some.main.now (sym (ap option_copied c.in-Some.is) ∙ c.find_main.ensures ∙ ap (find (λ f. is_main (function_of f))) c.as_slice.ensures)

pub returns-in-None : goal.returns-in-None
returns-in-None c = no_body c.args.p.now (sym (ap option_copied c.in-None.is) ∙ c.find_main.ensures ∙ ap (find (λ f. is_main (function_of f))) c.as_slice.ensures)
