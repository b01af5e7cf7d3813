-- An undefined step has a cause.
use Rattle.std.specs.Prelude.{◌≡◌, ℕ, ℤ, false, List}
use Rattle.c_tree.specs.declared.program.Mode.{Mode}
use Rattle.c_tree.specs.Lined as lined
use Rattle.c_tree.specs.Lined.{bare_program}
use Rattle.c_tree.specs.Bare.{Program}
use Rattle.c_canonical.specs.ShapedPrograms.{ShapedProgram}
use Rattle.c_rules.specs.Formed.{Formed}
use Rattle.c_meaning.specs.declared.Event.{Event}
use Rattle.c_meaning.specs.declared.EventKind.TheVariants.{Go}
use Rattle.c_meaning.specs.State.{State}
use Rattle.c_meaning.specs.Outcome.{Undefined}
use Rattle.c_meaning.specs.Run.{Reached}
use Rattle.c_meaning.specs.Step.{step}
use Rattle.undefined_steps.specs.Causes.{Cause}
use Rattle.undefined_steps.specs.Proper.{IsProperProgram}

-- in each state that a proper program reaches
abbrev pub UndefinedHasCause : Type 0
UndefinedHasCause = (p : Program) (input : List ℤ) (s : State) (e : Event) → IsProperProgram p → Reached p input s → step p s e ≡ Undefined → Cause p s e.thread

-- and where there is a cause, what the thread does next is undefined, in any state of any program
abbrev pub CauseIsUndefined : Type 0
CauseIsUndefined = (p : Program) (s : State) (t : ℕ) → s.main_ended ≡ false → Cause p s t → step p s (record { thread = t; kind = Go }) ≡ Undefined

-- a program that keeps the rules, and has a tree as the grammar gives it, is proper
abbrev pub FormedIsProper : Type 0
FormedIsProper = (p : lined.Program) (mode : Mode) → Formed p mode → ShapedProgram (bare_program p) → IsProperProgram (bare_program p)

-- so in each state that it reaches
abbrev pub FormedUndefinedHasCause : Type 0
FormedUndefinedHasCause =
    (p : lined.Program) (mode : Mode) (input : List ℤ) (s : State) (e : Event) → Formed p mode → ShapedProgram (bare_program p) → Reached (bare_program p) input s
    → step (bare_program p) s e ≡ Undefined → Cause (bare_program p) s e.thread
