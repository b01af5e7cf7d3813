-- An undefined step of a well-formed program has a cause.
use Rattle.c_tree.specs.Lined.{bare_program}
use Rattle.undefined_steps.specs.Laws.{FormedUndefinedHasCause}
use Rattle.undefined_steps.proofs.Steps.{undefined_has_cause}
use Rattle.undefined_steps.proofs.Whole.{formed_is_proper}

pub formed_has_cause : FormedUndefinedHasCause
formed_has_cause p mode input s e formed shaped reached undefined = undefined_has_cause (bare_program p) input s e (formed_is_proper p mode formed shaped) reached undefined
