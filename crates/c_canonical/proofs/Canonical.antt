-- The canonical text of a program spells it.
use Rattle.std.proofs.Common.{◌↔◌, ℕ, List, [], subst}
use Rattle.c_lexer.specs.Tokens.{Word, Tokens, line}
use Rattle.c_layout.specs.Layout.{text, words}
use Rattle.c_tree.specs.Bare as bare
use Rattle.c_tree.specs.Lined.{Program, bare_program}
use Rattle.c_grammar.specs.Levels.{Tall}
use Rattle.c_grammar.specs.Programs.{Spells}
use Rattle.c_canonical.specs.Programs.{layout_of}
use Rattle.c_canonical.specs.Writable.{IsWritableProgram}
use Rattle.c_canonical.specs.ShapedPrograms.{ShapedProgram}
use Rattle.c_canonical.specs.Canonical.{SpellsBare, HasText, HasWords}
use Rattle.c_canonical.proofs.Shown.{shows_words}
use Rattle.c_canonical.proofs.ProgramParts.{reads_back}
use Rattle.c_canonical.proofs.PlainPrograms.{layout_plain}
use Rattle.c_canonical.proofs.SeenTokens.{seen, any_seen}
use Rattle.c_canonical.proofs.KnownPrograms.{program_known, shaped, writable}
use Rattle.c_canonical.proofs.SpelledPrograms.{program_spelled}

pub spelled_is_shaped : (source : List ℕ) (words : List Word) (end : ℕ) (p : Tall Program) → Tokens source words → Spells end words p
    → ShapedProgram (bare_program p.tree) × IsWritableProgram (bare_program p.tree)
spelled_is_shaped source words end p t h = let f = program_known h (seen source words t) in (shaped f, writable f tt)

pub shaped_is_spelled : (p : bare.Program) → ShapedProgram p → IsWritableProgram p → SpellsBare (text (layout_of p)) p
shaped_is_spelled p s w =
    let q = program_spelled (line (text (layout_of p))) p s (shows_words (layout_of p) [] (layout_plain p)) in
    record { program = q.program; spells = (words [] (layout_of p), reads_back p w, q.spells); same = q.is }

pub canonical_spells : (p : bare.Program) → HasText p → SpellsBare (text (layout_of p)) p
canonical_spells p h =
    let q = h.1 in
    let f = spelled_is_shaped h.0 q.spells.0 (line h.0) q.program q.spells.1 q.spells.2 in
    shaped_is_spelled p (subst ShapedProgram q.same f.0) (subst IsWritableProgram q.same f.1)

pub shape_is_what_words_spell : (p : bare.Program) → ShapedProgram p ↔ HasWords p
shape_is_what_words_spell p = (
  λ s. let q = program_spelled 0 p s (shows_words (layout_of p) [] (layout_plain p)) in record { end = 0; words = words [] (layout_of p); program = q.program; spells = q.spells; same = q.is },
  λ h. subst ShapedProgram h.same (shaped (program_known h.spells (any_seen h.words))),
)

pub texts_are_writable : (p : bare.Program) → HasText p ↔ (ShapedProgram p × IsWritableProgram p)
texts_are_writable p = (
  λ h.
      let q = h.1 in
      let f = spelled_is_shaped h.0 q.spells.0 (line h.0) q.program q.spells.1 q.spells.2 in
      (subst ShapedProgram q.same f.0, subst IsWritableProgram q.same f.1),
  λ f. (text (layout_of p), shaped_is_spelled p f.0 f.1),
)
