-- What is said of the text of a program.
use Rattle.std.specs.Prelude.{◌≡◌, ℕ, List, codes}
use Rattle.c_lexer.specs.declared.token.LexError.{LexError}
use Rattle.c_tree.specs.declared.program.Mode.{Mode}
use Rattle.c_tree.specs.Lined as lined
use Rattle.c_rules.specs.declared.rule.Rule.{Rule}
use Rattle.c_rules.specs.declared.rule.Count.{Count}
use Rattle.c_rules.specs.Formed.{Formed, KeepsRules, FirstBreak}
use Rattle.c_rules.specs.Counts.{limit, FirstPassed}
use Rattle.c_parser.specs.Parsed.{SpelledBy, RefusedBy, FailsOnLine, TooDeepOnLine, GoesOnTooLong}
use Rattle.answers.specs.Causes.{Causes}
use Rattle.answers.specs.Lines.{refused_line, limit_line}
use Rattle.answers.specs.Reasons.{line_of, reason_of, reason_of_rule, name_of_count}

-- a text spells a program that is well formed, with monitors or without
pub record SpellsFormed (mode : Mode) (bytes : List ℕ) (program : lined.Program) : Type 0 where
  pub spelled : SpelledBy bytes program
  pub formed : Formed program mode

-- a text spells a program, and this rule is the first that it breaks, at this line
pub record BreaksRule (mode : Mode) (bytes : List ℕ) (rule : Rule) (line : ℕ) : Type 0 where
  pub program : lined.Program
  pub spelled : SpelledBy bytes program
  pub broken : FirstBreak program mode rule line

-- a text spells a program that breaks no rule, and this is the first of the counts that passes its number in it
pub record PassesCount (mode : Mode) (bytes : List ℕ) (what : Count) : Type 0 where
  pub program : lined.Program
  pub spelled : SpelledBy bytes program
  pub keeps_rules : KeepsRules program mode
  pub passed : FirstPassed program what

-- at which line, and for which reason, a text is refused
pub data IsRefused (mode : Mode) (bytes : List ℕ) : ℕ → List ℕ → Type 0 where
  lexed : {error : LexError} → RefusedBy bytes error → IsRefused mode bytes (line_of error) (reason_of error)
  syntax : {line : ℕ} → FailsOnLine bytes line → IsRefused mode bytes line (codes "syntax")
  broken : {rule : Rule} {line : ℕ} → BreaksRule mode bytes rule line → IsRefused mode bytes line (reason_of_rule rule)

-- which limit a text passes
pub data Passes (mode : Mode) (bytes : List ℕ) : List ℕ → ℕ → Type 0 where
  depth : {line : ℕ} → TooDeepOnLine bytes line → Passes mode bytes (codes "depth") 64
  tokens : GoesOnTooLong bytes → Passes mode bytes (codes "tokens") 65536
  count : {what : Count} → PassesCount mode bytes what → Passes mode bytes (name_of_count what) (limit what)

-- the lines that say so
pub record Refuses (mode : Mode) (name bytes told : List ℕ) : Type 0 where
  pub line : ℕ
  pub reason : List ℕ
  pub refused : IsRefused mode bytes line reason
  pub says : told ≡ refused_line name line reason

pub record Limits (mode : Mode) (name bytes told : List ℕ) : Type 0 where
  pub what : List ℕ
  pub number : ℕ
  pub passes : Passes mode bytes what number
  pub says : told ≡ limit_line name what number

-- the causes of a text that is no well-formed program within the limits
abbrev pub flaws : Mode → List ℕ → List ℕ → Causes
flaws mode name bytes = record {
  accepted = ⊥;
  done = λ told. ⊥;
  no = λ told. ⊥;
  refused = Refuses mode name bytes;
  limit = Limits mode name bytes;
  no_monitor = λ told. ⊥;
}
