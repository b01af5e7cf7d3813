use Rattle.std.proofs.Common.{ap, sym, ◌∙◌, ◌++◌, Some, None}
use Rattle.std.specs.Prelude.{codes}
use Rattle.std.specs.Option.{option_copied}
use Rattle.c_check.specs.Tables.{numbered_of}
use Rattle.c_check.specs.Written.{mutex_name, bracketed}
use Rattle.c_check.proofs.Writing.{name_found}
use Rattle.c_check.proofs.written.put_resource.Goals as goal

pub returns-in_ok-put_mutex-in-Some : goal.returns-in_ok-put_mutex-in-Some
returns-in_ok-put_mutex-in-Some c =
    c.in_ok-put_mutex-in-Some.ensures
    ∙ ap (λ k. c.args.out.now.items ++ mutex_name (numbered_of c.in-Some.m.now) k) c.saturating_sub.ensures
    ∙ ap (λ x. c.args.out.now.items ++ x) (name_found c.args.r c.args.count c.args.mutexes.now (Some c.in-Some.m.now) (sym (ap option_copied c.in-Some.is) ∙ c.find_mutex.ensures))

pub returns-in_ok-put_monitor-in-None : goal.returns-in_ok-put_monitor-in-None
returns-in_ok-put_monitor-in-None c =
    c.in_ok-put_monitor-in-None.ensures
    ∙ ap (λ k. c.args.out.now.items ++ (codes "gd" ++ bracketed k)) c.saturating_sub-in-None.ensures
    ∙ ap (λ x. c.args.out.now.items ++ x) (name_found c.args.r c.args.count c.args.mutexes.now None (sym (ap option_copied c.in-None.is) ∙ c.find_mutex.ensures))
