-- What `instrument` answers of a file.
use Rattle.std.specs.Prelude.{◌≡◌, ℕ, true, false, List, codes, Some, None}
use Rattle.c_tree.specs.declared.program.Mode.TheVariants.{Source}
use Rattle.c_tree.specs.Lined as lined
use Rattle.c_tree.specs.Lined.{bare_program}
use Rattle.c_parser.specs.Parsed.{SpelledBy}
use Rattle.c_meaning.specs.Stuck.{NeverStuck}
use Rattle.contexts.specs.Walk.{Unresolved, TooMany}
use Rattle.contexts.specs.Outlines.{outlines, context_limit}
use Rattle.first_form.specs.FirstForm.{first_nested}
use Rattle.first_form.specs.Size.{has_first_text}
use Rattle.flow_graph.specs.Flow.{HasFlow, IsFlowError}
use Rattle.held_counts.specs.declared.HeldKind.{HeldKind}
use Rattle.outline_pieces.specs.declared.error.FlowError.TheVariants.{TooManyPoints, Held}
use Rattle.answers.specs.Causes.{Causes}
use Rattle.answers.specs.Lines.{refused_line, limit_line, not_built_line}
use Rattle.answers.specs.Programs as programs
use Rattle.answers.specs.Programs.{SpellsFormed}
use Rattle.answers.specs.Reasons.{reason_of_held}

-- a text spells a well-formed program without monitors, and this is the line of the first lock that the walk meets which
-- isn't constant in its context
pub record HasUnresolved (bytes : List ℕ) (line : ℕ) : Type 0 where
  pub program : lined.Program
  pub spells : SpellsFormed Source bytes program
  pub unresolved : outlines program ≡ Unresolved line

-- a text spells such a program, and the walk meets one context more than there may be before any such lock
pub record HasManyContexts (bytes : List ℕ) : Type 0 where
  pub program : lined.Program
  pub spells : SpellsFormed Source bytes program
  pub many : outlines program ≡ TooMany

-- a text spells such a program whose locks are all constant in their contexts, of which there are no more than 256, and its
-- threads have more than 4,096 points
pub record HasManyPoints (bytes : List ℕ) : Type 0 where
  pub program : lined.Program
  pub spells : SpellsFormed Source bytes program
  pub error : IsFlowError program TooManyPoints

-- they have no more points, and this is the first refusal of what they hold, of this kind and at this line
pub record HasHeldRefusal (bytes : List ℕ) (kind : HeldKind) (line : ℕ) : Type 0 where
  pub program : lined.Program
  pub spells : SpellsFormed Source bytes program
  pub error : IsFlowError program (Held kind line)

-- a text spells a well-formed program without monitors whose threads have points, at which what they hold isn't refused;
-- some text of the first form spells it too, and in it no lock stands below another that isn't unlocked since
pub record IsAccepted (bytes : List ℕ) : Type 0 where
  pub program : lined.Program
  pub spells : SpellsFormed Source bytes program
  pub flow : HasFlow program
  pub first_form : has_first_text (bare_program program) ≡ true
  pub not_nested : first_nested program ≡ None

-- a text spells such a program but for its locks: the first one below another stands at this line
pub record HasNestedLock (bytes : List ℕ) (line : ℕ) : Type 0 where
  pub program : lined.Program
  pub spells : SpellsFormed Source bytes program
  pub flow : HasFlow program
  pub first_form : has_first_text (bare_program program) ≡ true
  pub nested : first_nested program ≡ Some line

-- a text spells a well-formed program whose threads have such points, and no text of the first form spells it
pub record IsOfOtherForm (bytes : List ℕ) : Type 0 where
  pub program : lined.Program
  pub spells : SpellsFormed Source bytes program
  pub flow : HasFlow program
  pub other : has_first_text (bare_program program) ≡ false

-- the lines that say why a text isn't taken
pub data Refuses (name bytes told : List ℕ) : Type 0 where
  flawed : programs.Refuses Source name bytes told → Refuses name bytes told
  unresolved : (line : ℕ) → HasUnresolved bytes line → told ≡ refused_line name line (codes "lock is not constant in its context") → Refuses name bytes told
  held : (kind : HeldKind) (line : ℕ) → HasHeldRefusal bytes kind line → told ≡ refused_line name line (reason_of_held kind) → Refuses name bytes told
  nested : (line : ℕ) → HasNestedLock bytes line → told ≡ refused_line name line (codes "lock while a mutex is held") → Refuses name bytes told
  not_built : IsOfOtherForm bytes → told ≡ not_built_line name → Refuses name bytes told

-- the lines that say which limit a text passes
pub data Limits (name bytes told : List ℕ) : Type 0 where
  flawed : programs.Limits Source name bytes told → Limits name bytes told
  contexts : HasManyContexts bytes → told ≡ limit_line name (codes "contexts") context_limit → Limits name bytes told
  points : HasManyPoints bytes → told ≡ limit_line name (codes "points") 4096 → Limits name bytes told

-- the bytes of an accepted file are handed back
abbrev pub causes : List ℕ → List ℕ → Causes
causes name bytes = record {
  accepted = IsAccepted bytes;
  done = λ told. IsAccepted bytes × (told ≡ bytes);
  no = λ told. ⊥;
  refused = Refuses name bytes;
  limit = Limits name bytes;
  no_monitor = λ told. ⊥;
}

-- what is promised of a text that is written: it spells a program, and no state that this program reaches, on any input
-- and by any schedule, has a stuck set
pub record IsSafe (written : List ℕ) : Type 0 where
  pub program : lined.Program
  pub spelled : SpelledBy written program
  pub never_stuck : NeverStuck (bare_program program)
