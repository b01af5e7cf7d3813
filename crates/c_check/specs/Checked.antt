-- What a program is answered.
use Rattle.std.specs.Prelude.{◌≡◌, ⊤}
use Rattle.c_tree.specs.declared.program.Mode.{Mode}
use Rattle.c_tree.specs.Lined.{Program, bare_program}
use Rattle.c_rules.specs.Formed.{Formed, FirstBreak, KeepsRules}
use Rattle.c_rules.specs.Counts.{limit, FirstPassed}
use Rattle.c_check.specs.declared.answer.CheckError.{CheckError}
use Rattle.c_check.specs.declared.answer.CheckError.TheVariants as error
use Rattle.c_check.specs.declared.numbers.Table.{Table}
use Rattle.c_check.specs.Tables.{numbers, numbers_of}

-- the table of a well-formed program has its numbers
pub record IsTable (p : Program) (mode : Mode) (table : Table) : Type 0 where
  pub formed : Formed p mode
  pub told : numbers table ≡ numbers_of (bare_program p)

-- each refusal but want of memory has its one cause
abbrev pub IsRefusal : Program → Mode → CheckError → Type 0
IsRefusal p mode (error.Rule rule line) = FirstBreak p mode rule line
IsRefusal p mode (error.TooMany what most) = KeepsRules p mode × FirstPassed p what × (most ≡ limit what)
IsRefusal p mode error.Memory = ⊤
