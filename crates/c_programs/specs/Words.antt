-- What tokens stand for outside functions.
use Rattle.std.specs.Prelude.{Bool, true, false}
use Rattle.c_grammar.specs.declared.words.FixedWord.TheVariants as w
use Rattle.c_grammar.specs.Items.{What}
use Rattle.c_programs.specs.declared.token.Opening.{Opening}
use Rattle.c_programs.specs.declared.token.Opening.TheVariants as o

-- what a token begins outside functions
abbrev pub outer_opening : What → Opening
outer_opening (What.Fixed w.Int) = o.Int
outer_opening (What.Fixed w.Void) = o.Void
outer_opening (What.Fixed w.Mutex) = o.Mutex
outer_opening (What.Fixed w.Condition) = o.Condition
outer_opening (What.Fixed w.Thread) = o.Thread
outer_opening (What.Fixed w.Static) = o.Static
outer_opening What.Definition = o.Definition
outer_opening _ = o.Other

-- something may begin so; `static` only where a word that follows it has no definition
abbrev pub goes : Bool → Opening → Bool
goes declarations o.Static = declarations
goes declarations o.Other = false
goes declarations _ = true
