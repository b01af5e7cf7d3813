use Rattle.std.proofs.Common.{refl, ◌∙◌}
use Rattle.gd_host.proofs.Files.{first_of-drop}
use Rattle.gd_host.proofs.memory.find.Goals as goal

pub returns-then-eq : goal.returns-then-eq
returns-then-eq c = rw (c.loop-file.invariant, first_of-drop _ _ _ _ c.loop-file-test.true c.file-item.is, ← c.as_str.ensures.value, ← c.eq.ensures, c.if-eq.true) refl

pub loop-file-preserved : goal.loop-file-preserved
loop-file-preserved c = c.loop-file.invariant ∙ rw (first_of-drop _ _ _ _ c.loop-file-test.true c.file-item.is, ← c.as_str.ensures.value, ← c.eq.ensures, c.if-eq.false) refl
