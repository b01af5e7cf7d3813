-- Why a text is refused, in words.
use Rattle.std.specs.Prelude.{ℕ, List, codes}
use Rattle.c_lexer.specs.declared.token.LexError.{LexError}
use Rattle.c_lexer.specs.declared.token.LexError.TheVariants as e
use Rattle.c_rules.specs.declared.rule.Rule.{Rule}
use Rattle.c_rules.specs.declared.rule.Rule.TheVariants as r
use Rattle.c_rules.specs.declared.rule.Count.{Count}
use Rattle.c_rules.specs.declared.rule.Count.TheVariants as c
use Rattle.held_counts.specs.declared.HeldKind.{HeldKind}
use Rattle.held_counts.specs.declared.HeldKind.TheVariants as h

-- ---- by the lexer

abbrev pub line_of : LexError → ℕ
line_of (e.BadByte line) = line
line_of (e.OpenComment line) = line
line_of (e.BadNumber line) = line
line_of (e.NumberTooLarge line) = line
line_of (e.LongName line) = line
line_of (e.BadText line) = line
line_of (e.BadLine line) = line

abbrev pub reason_of : LexError → List ℕ
reason_of (e.BadByte line) = codes "byte outside the profile"
reason_of (e.OpenComment line) = codes "comment is not closed"
reason_of (e.BadNumber line) = codes "number is not a plain decimal"
reason_of (e.NumberTooLarge line) = codes "number is larger than 2147483647"
reason_of (e.LongName line) = codes "name is longer than 63 characters"
reason_of (e.BadText line) = codes "text outside the profile"
reason_of (e.BadLine line) = codes "preprocessor line outside the profile"

-- ---- by a rule of well-formed programs

abbrev pub reason_of_rule : Rule → List ℕ
reason_of_rule r.Reserved = codes "reserved name"
reason_of_rule r.LongName = codes "function name is longer than 56 characters"
reason_of_rule r.Twice = codes "name declared twice"
reason_of_rule r.Unknown = codes "unknown name"
reason_of_rule r.WrongKind = codes "name of another kind"
reason_of_rule r.WrongCount = codes "wrong count"
reason_of_rule r.Recursion = codes "recursion"
reason_of_rule r.NoMain = codes "no main"
reason_of_rule r.CreateNotFixed = codes "thread not created at a fixed place"
reason_of_rule r.JoinNotFixed = codes "thread not joined at a fixed place"
reason_of_rule r.ArgNotConstant = codes "thread argument is not constant"
reason_of_rule r.InitLate = codes "object initialised too late"
reason_of_rule r.IndexRange = codes "index out of range"

-- ---- by what is held

abbrev pub reason_of_held : HeldKind → List ℕ
reason_of_held h.Relock = codes "mutex is locked again by its holder"
reason_of_held h.NotHeld = codes "released but not held"
reason_of_held h.HeldDiffers = codes "held locks differ where paths meet"
reason_of_held h.HeldAtEnd = codes "held at the end of a thread"
reason_of_held h.HeldAtJoin = codes "held at a join"
reason_of_held h.WaitNotHeld = codes "wait without its mutex"

-- ---- what is counted, as a limit names it

abbrev pub name_of_count : Count → List ℕ
name_of_count c.Threads = codes "threads"
name_of_count c.Mutexes = codes "mutexes"
name_of_count c.Monitors = codes "monitors"
name_of_count c.Cells = codes "cells"
