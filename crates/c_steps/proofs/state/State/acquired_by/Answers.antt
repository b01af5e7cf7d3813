use Rattle.std.proofs.Common.{option_map, sym, ap, ◌∙◌}
use Rattle.c_tree.specs.Expressions.{place_of}
use Rattle.c_meaning.specs.Shown.{shown, shown_stmt}
use Rattle.c_steps.specs.Model.{state_of}
use Rattle.state_parts.specs.Statements.{take_of}
use Rattle.c_steps.specs.Acquiring.{acquires}
use Rattle.c_steps.proofs.state.State.acquired_by.Goals as goal

pub returns-in-Some : goal.returns-in-Some
returns-in-Some c act at =
    c.locked.ensures act at
    ∙ sym (ap (λ place. acquires (shown c.args.p.now) (state_of c.args.p.now c.args.self.now) at.locals place (take_of (shown_stmt c.args.s.now))) (sym c.lock_of.ensures ∙ ap (option_map (λ place. place_of place.now)) c.in-Some.is))
